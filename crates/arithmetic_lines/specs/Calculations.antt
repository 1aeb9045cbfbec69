-- What answers a line of the arithmetic: the value of the definition that the line's first word names, at the line's
-- arguments, each of which must lie in its range.
use Rattle.std.specs.Prelude.{Bool, true, false, List, ℕ, eqb, ltb, ℤ, pos, nat_abs, length, Option, Some, None, if◌then◌else◌}
use Rattle.std.specs.Int.Signed.{le_z, lt_z}
use Rattle.integers.specs.Limit.{limited}
use Rattle.scaling.specs.Ratio.{ratio_quotient, inverse_quotient}
use Rattle.scaling.specs.Root.{root_of}
use Rattle.scaling.specs.Scale.{scaled}
use Rattle.terms.specs.Terms.{stored_term, proportional_term, integral_term, derivative_term}
use Rattle.terms.specs.declared.Tuning.{Tuning}
use Rattle.text.specs.Arguments.{argument, natural_in, given}
use Rattle.text.specs.Words.{same_bytes}
use Rattle.formatting.specs.Ascii.{ascii}

-- the value, if its magnitude is at most `most`
unfoldable pub signed_in : ℤ → ℕ → Option ℤ
signed_in value most = if ltb most (nat_abs value) then None else Some value

-- scale L H SAMPLE: L is below H
unfoldable pub scale_calculation : List ℤ → Option ℤ
scale_calculation numbers =
    if eqb (length numbers) 3 then
    given (signed_in (argument numbers 0) 9999) (λ low.
    given (signed_in (argument numbers 1) 9999) (λ high.
    given (natural_in (argument numbers 2) 0 10000) (λ sample.
    if lt_z low high then Some (scaled low high sample) else None)))
    else None

-- root SAMPLE
unfoldable pub root_calculation : List ℤ → Option ℤ
root_calculation numbers =
    if eqb (length numbers) 1 then
    given (natural_in (argument numbers 0) 0 10000) (λ sample. Some (pos (root_of sample)))
    else None

-- limit LOW HIGH VALUE: LOW isn't above HIGH
unfoldable pub limit_calculation : List ℤ → Option ℤ
limit_calculation numbers =
    if eqb (length numbers) 3 then
    given (signed_in (argument numbers 0) 999999999) (λ low.
    given (signed_in (argument numbers 1) 999999999) (λ high.
    given (signed_in (argument numbers 2) 999999999) (λ value.
    if le_z low high then Some (limited low high value) else None)))
    else None

-- ratio Q S, or inverse Q S
unfoldable pub ratio_calculation : List ℤ → Bool → Option ℤ
ratio_calculation numbers inverse =
    if eqb (length numbers) 2 then
    given (signed_in (argument numbers 0) 9999) (λ q.
    given (natural_in (argument numbers 1) 1 9999) (λ s.
    Some (if inverse then inverse_quotient q s else ratio_quotient q s)))
    else None

-- the tuning of XP and W, with which every term's arguments begin, and of the rest
unfoldable pub tuning_in : (xp span : ℤ) → (ti td : ℕ) → (minutes inverted : Bool) → Option Tuning
tuning_in xp span ti td minutes inverted =
    given (natural_in xp 1 9999) (λ x.
    given (natural_in span 1 19998) (λ w.
    Some (record { xp = x; span = w; ti = ti; td = td; minutes = minutes; inverted = inverted })))

-- proportional XP W CHANGE
unfoldable pub proportional_calculation : List ℤ → Option ℤ
proportional_calculation numbers =
    if eqb (length numbers) 3 then
    given (tuning_in (argument numbers 0) (argument numbers 1) 0 0 false false) (λ tuning.
    given (signed_in (argument numbers 2) 39996) (λ change.
    Some (stored_term (proportional_term tuning change))))
    else None

-- integral XP W TI MINUTES C
unfoldable pub integral_calculation : List ℤ → Option ℤ
integral_calculation numbers =
    if eqb (length numbers) 5 then
    given (natural_in (argument numbers 2) 0 9999) (λ ti.
    given (natural_in (argument numbers 3) 0 1) (λ minutes.
    given (tuning_in (argument numbers 0) (argument numbers 1) ti 0 (eqb minutes 1) false) (λ tuning.
    given (signed_in (argument numbers 4) 19998) (λ c.
    Some (stored_term (integral_term tuning c))))))
    else None

-- derivative XP W TD MINUTES INVERTED D
unfoldable pub derivative_calculation : List ℤ → Option ℤ
derivative_calculation numbers =
    if eqb (length numbers) 6 then
    given (natural_in (argument numbers 2) 0 9999) (λ td.
    given (natural_in (argument numbers 3) 0 1) (λ minutes.
    given (natural_in (argument numbers 4) 0 1) (λ inverted.
    given (tuning_in (argument numbers 0) (argument numbers 1) 0 td (eqb minutes 1) (eqb inverted 1)) (λ tuning.
    given (signed_in (argument numbers 5) 39996) (λ d.
    Some (stored_term (derivative_term tuning d)))))))
    else None

-- by a line's first word and its arguments
unfoldable pub calculation_of : List ℕ → List ℤ → Option ℤ
calculation_of word numbers =
    if same_bytes word (ascii "scale") then scale_calculation numbers else
    if same_bytes word (ascii "root") then root_calculation numbers else
    if same_bytes word (ascii "limit") then limit_calculation numbers else
    if same_bytes word (ascii "ratio") then ratio_calculation numbers false else
    if same_bytes word (ascii "inverse") then ratio_calculation numbers true else
    if same_bytes word (ascii "proportional") then proportional_calculation numbers else
    if same_bytes word (ascii "integral") then integral_calculation numbers else
    if same_bytes word (ascii "derivative") then derivative_calculation numbers else None

-- What the writer's right adds to document 01's tests of a write: every accepted write passed these, one by a writer
-- with the right is refused by no others, as the engineer's is, and their numbers are 4 to 11.
use Rattle.std.specs.Prelude.{◌≡◌, refl, Bool, true, false, not, ◌&&◌, List, [], ◌∷◌, ◌++◌, ℕ, ◌≤◌, eqb, ℤ}
use Rattle.std.proofs.Common.{sym, ◌∙◌, arith, eqb-true}
use Rattle.std.proofs.Math.Option.{Option, some, none}
use Rattle.integers.specs.Choice.{by_cases}
use Rattle.signals.specs.RefusalLaws.{refused_append, AllFrom}
use Rattle.signals.specs.Refusals.{number_of, first_of, refused_by}
use Rattle.signals.specs.Signals.{computer_pin}
use Rattle.words.specs.Written.{md_tests}
use Rattle.parameters.specs.Legal.{unknown_refusal, read_only_refusal}
use Rattle.parameters.specs.RuleLaws.{names_own, names_own_lem}
use Rattle.parameters.specs.Table.{rule_of}
use Rattle.parameters.specs.declared.Rule.{Rule}
use Rattle.parameters.specs.declared.Rule.TheVariants.{Unknown, ReadOnly, Word, Free, Pair, Between}
use Rattle.rights.specs.Rights.{named, may_write, needs_pin, pin_tests, right_tests, access_tests}
use Rattle.rights.specs.declared.Writer.{Writer}
use Rattle.rights.specs.declared.Writer.TheVariants.{Engineer}
use Rattle.controller.specs.Write.{word_of, setpoint_tests, state_tests, value_tests, access_now, write_tests, common_tests}
use Rattle.controller.specs.declared.Core.{Core}

-- ---- every write passed document 01's tests

first_none : (a b : Option ℕ) → first_of a b ≡ none → (a ≡ none) × (b ≡ none)
first_none none b e = (refl, e)
first_none (some n) b e = let z : ◌≡◌ {A = ℕ} 0 1 = cc in absurd (omega arith)

append_none : (ts us : List (Bool × ℕ)) → refused_by (ts ++ us) ≡ none → (refused_by ts ≡ none) × (refused_by us ≡ none)
append_none ts us e = first_none (refused_by ts) (refused_by us) (sym (refused_append ts us) ∙ e)

-- without two lists of tests in the midst
between_none : (unknown pin right readonly value : List (Bool × ℕ)) →
    refused_by ((unknown ++ (pin ++ (right ++ readonly))) ++ value) ≡ none → refused_by (unknown ++ (readonly ++ value)) ≡ none
between_none unknown pin right readonly value e =
    let a = append_none (unknown ++ (pin ++ (right ++ readonly))) value e in
    let b = append_none unknown (pin ++ (right ++ readonly)) a.0 in
    let d = append_none pin (right ++ readonly) b.1 in
    let f = append_none right readonly d.1 in
    refused_append unknown (readonly ++ value) ∙ rw b.0 (refused_append readonly value ∙ rw f.1 a.1)

-- a write that is accepted passed document 01's tests, whoever made it
pub common_passed : (c : Core) (w : Writer) (n : ℕ) (v : ℤ) → refused_by (write_tests c w n v) ≡ none →
    refused_by (common_tests c n v) ≡ none
unfolding write_tests access_now access_tests common_tests
common_passed c w n v e =
    between_none (named (unknown_refusal (rule_of n))) (pin_tests w c.conditions.pins) (right_tests w n)
    (named (read_only_refusal (rule_of n))) (value_tests c n v) e

-- ---- one by a writer with the right is refused by no others

right_refused : (unknown readonly : Option ℕ) (value : List (Bool × ℕ)) (pinless has : Bool) → pinless ≡ false → has ≡ true →
    refused_by ((named unknown ++ ((pinless, 19) ∷ (not has, 20) ∷ named readonly)) ++ value)
    ≡ refused_by (named unknown ++ (named readonly ++ value))
unfolding refused_by
right_refused none none value pinless has e f = rw (e, f) refl
right_refused none (some k) value pinless has e f = rw (e, f) refl
right_refused (some k) readonly value pinless has e f = refl

pub right_common : (c : Core) (w : Writer) (n : ℕ) (v : ℤ) → (needs_pin w && not (computer_pin c.conditions.pins)) ≡ false →
    may_write w n ≡ true → refused_by (write_tests c w n v) ≡ refused_by (common_tests c n v)
unfolding write_tests access_now access_tests pin_tests right_tests common_tests
right_common c w n v pin right =
    right_refused (unknown_refusal (rule_of n)) (read_only_refusal (rule_of n)) (value_tests c n v)
    (needs_pin w && not (computer_pin c.conditions.pins)) (may_write w n) pin right

-- as the engineer's is
pub engineer_common : (c : Core) (n : ℕ) (v : ℤ) → refused_by (write_tests c Engineer n v) ≡ refused_by (common_tests c n v)
unfolding may_write
engineer_common c n v = right_common c Engineer n v refl refl

-- ---- document 01's numbers, 4 to 11, of which those of the value are 6 to 11

pub value_numbers : (least : ℕ) (c : Core) (n : ℕ) (v : ℤ) → least ≤ 6 → AllFrom least 11 (value_tests c n v)
unfolding value_tests state_tests setpoint_tests md_tests
value_numbers least c n v h = (
  h,
  omega arith,
  (
    omega arith,
    omega arith,
    by_cases (AllFrom least 11) (eqb n 20) (setpoint_tests c) _ (λ e. (omega arith, omega arith, tt))
        (λ e. by_cases (AllFrom least 11) (eqb n 24) (md_tests c.conditions (word_of v)) []
        (λ d. (omega arith, omega arith, (omega arith, omega arith, (omega arith, omega arith, tt)))) (λ d. tt)),
  ),
)

row_numbers : (r : Rule) (ts : List (Bool × ℕ)) → names_own r ≡ true → AllFrom 4 11 ts →
    AllFrom 4 11 (named (unknown_refusal r) ++ (named (read_only_refusal r) ++ ts))
row_numbers (Unknown refusal) ts e h = let is = eqb-true (number_of refusal) 4 e in (omega (arith, is), omega (arith, is), h)
row_numbers (ReadOnly refusal) ts e h = let is = eqb-true (number_of refusal) 5 e in (omega (arith, is), omega (arith, is), h)
row_numbers (Word least most) ts e h = h
row_numbers (Free least most) ts e h = h
row_numbers (Pair least most high low strict) ts e h = h
row_numbers (Between low high) ts e h = h

pub common_numbers : (c : Core) (n : ℕ) (v : ℤ) → AllFrom 4 11 (common_tests c n v)
unfolding common_tests
common_numbers c n v = row_numbers (rule_of n) (value_tests c n v) (names_own_lem n) (value_numbers 4 c n v (omega arith))

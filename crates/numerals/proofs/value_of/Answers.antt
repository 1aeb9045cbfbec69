-- `numerals::value_of` meets its contract. What is left, read on from the value of the digits passed, is what the whole
-- reads.
use mathlib.Core.Path.{◌≡◌, sym, ap, ◌∙◌}
use Prim.Native.Nat.{ℕ, ◌+◌, ◌*◌, ◌<◌}
use native.Mathlib.Omega.{arith}
use lib.ListN.{drop}
use borrow.Author.Rules.{rules}
use Rattle.std.specs.Prelude.{Option, None, Some, MatchOption}
use Rattle.std.specs.Option.{unwrap_or}
use Rattle.numerals.specs.Numerals.{digit_value, read_on}
use Rattle.numerals.specs.Parsed.{within64}
use Rattle.numerals.specs.Reading.{read_more, read_fails, read_ends}
use Rattle.numerals.specs.ParsedLaws.{fits, too_large}
use Rattle.numerals.proofs.value_of.Goals.{Else-base-d}
use Rattle.numerals.proofs.value_of.Goals as goal

-- of another byte, 16 stands for the value
value_or_16 : (r : Option ℕ) (b : ℕ) → MatchOption r (digit_value b ≡ 16) (λ d. (d ≡ digit_value b) × (d < 16))
    → unwrap_or r 16 ≡ digit_value b
value_or_16 None b h = sym h
value_or_16 (Some d) b h = h.0

pub returns-then-base-d : goal.returns-then-base-d
unfolding within64
returns-then-base-d c =
    let l = c.loop-b in
    let d = c.unwrap_or-d.ensures ∙ value_or_16 c.digit_value.result _ c.digit_value.ensures in
    rw (l.invariant.1, read_fails c.args.base l.value c.args.s.now l.b-index (search rules) (omega (arith, c.if-base-d.true, d)))
    (search rules)

-- with that digit
more : (c : Else-base-d) → read_on c.args.base 0 c.args.s.now ≡
    read_on c.args.base (c.loop-b.value * c.args.base + c.unwrap_or-d.result) (drop (c.loop-b.b-index + 1) c.args.s.now)
more c =
    let l = c.loop-b in
    let d = c.unwrap_or-d.ensures ∙ value_or_16 c.digit_value.result _ c.digit_value.ensures in
    l.invariant.1 ∙ rw d (read_more c.args.base l.value c.args.s.now l.b-index (search rules) (omega (arith, c.if-base-d.false, d)))

pub returns-in_err-checked_mul : goal.returns-in_err-checked_mul
returns-in_err-checked_mul c =
    c.from_residual.ensures ∙
    sym (ap within64 (more (goal.at.returns-in_err-checked_mul c).Else-base-d) ∙
    too_large c.args.base _ _ c.requires.0 (omega (arith, c.in_err-checked_mul.ensures)))

pub returns-in_err-value : goal.returns-in_err-value
returns-in_err-value c =
    c.from_residual-in_err-value.ensures ∙
    sym (ap within64 (more (goal.at.returns-in_err-value c).Else-base-d) ∙
    too_large c.args.base _ _ c.requires.0 (omega (arith, c.in_ok-checked_mul.ensures, c.in_err-value.ensures)))

pub loop-b-preserved : goal.loop-b-preserved
loop-b-preserved c =
    let step = more (goal.at.loop-b-preserved c).Else-base-d in
    let product = c.in_ok-checked_mul.ensures in
    let sum = c.in_ok-value.ensures in
    (omega arith, rw (sum.1, product.1) step)

pub returns : goal.returns
returns c =
    let l = c.loop-b in
    sym (ap within64 (l.invariant.1 ∙ read_ends c.args.base l.value c.args.s.now l.b-index (search rules)) ∙ fits l.value l.invariant.0)

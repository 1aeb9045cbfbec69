-- `numerals::signed` meets its contract.
use mathlib.Core.Path.{◌≡◌, sym, ap, ◌∙◌}
use mathlib.Core.Option.{some}
use native.Mathlib.Omega.{arith}
use Prim.Native.Nat.{ℕ, ◌^◌, ◌<◌}
use mir.Syntax.{w64}
use Rattle.std.specs.Prelude.{Some}
use Rattle.integers.specs.Machine.{back}
use Rattle.numerals.specs.Numerals.{digits_of, with_sign}
use Rattle.numerals.specs.Parsed.{parsed_number}
use Rattle.numerals.specs.ParsedLaws.{told, untold, few_digits}
use Rattle.numerals.proofs.signed.Goals.{In_ok-value}
use Rattle.numerals.proofs.signed.Goals as goal

read : (c : In_ok-value) → digits_of 10 c.args.most c.args.s.now ≡ some c.in_ok-value.value
read c = told _ _ (sym c.in_ok-value.ensures)

pub returns-in_err-value : goal.returns-in_err-value
unfolding with_sign parsed_number
returns-in_err-value c =
    let few : (n : ℕ) → digits_of 10 c.args.most c.args.s.now ≡ some n → n < 2 ^ 64 =
    λ n e. omega (arith, few_digits c.args.most n c.args.s.now c.requires e) in
    c.from_residual.ensures ∙ rw (untold (digits_of 10 c.args.most c.args.s.now) few (sym c.in_err-value.ensures))

pub signed-requires : goal.signed-requires
signed-requires c =
    omega (arith, few_digits c.args.most _ c.args.s.now c.requires (read (goal.at.signed-requires c).In_ok-value))

pub returns : goal.returns
unfolding with_sign parsed_number
returns c = rw (read (goal.at.returns c).In_ok-value) (ap Some (back w64 _ c.signed.type_inv ∙ c.signed.ensures))

-- `numerals::word` meets its contract. Four digits are below 65536, so none is lost in 16 bits.
use mathlib.Core.Path.{◌≡◌, sym, ◌∙◌}
use mathlib.Core.Option.{some}
use native.Mathlib.Omega.{arith}
use Prim.Native.Nat.{ℕ, ◌^◌, ◌<◌}
use lib.ListN.{length}
use borrow.Author.Tests.{eq-eqb, ne_eqb}
use Rattle.numerals.specs.Numerals.{read_on, word_of}
use Rattle.numerals.specs.Parsed.{word_in, parsed_word}
use Rattle.numerals.specs.Reading.{read_most}
use Rattle.numerals.specs.ParsedLaws.{told, untold}
use Rattle.numerals.proofs.word.Goals.{In_ok-value}
use Rattle.numerals.proofs.word.Goals as goal

pub returns-then-s-ne4 : goal.returns-then-s-ne4
unfolding parsed_word word_in word_of
returns-then-s-ne4 c = simp (ne_eqb (length c.args.s.now) 4 c.if-s-ne4.true)

read : (c : In_ok-value) → read_on 16 0 c.args.s.now ≡ some c.in_ok-value.value
read c = told _ _ (sym c.in_ok-value.ensures)

pub returns-in_err-value : goal.returns-in_err-value
unfolding parsed_word word_in word_of
returns-in_err-value c =
    let s = c.args.s.now in
    let few : (n : ℕ) → read_on 16 0 s ≡ some n → n < 2 ^ 64 =
    λ n e. omega (arith, read_most 16 4 n s (omega arith) (omega arith) (omega arith) e) in
    c.from_residual.ensures ∙ simp (eq-eqb (length s) 4 c.if-s-ne4.false, untold (read_on 16 0 s) few (sym c.in_err-value.ensures))

pub overflow_cast-result : goal.overflow_cast-result
overflow_cast-result c =
    let value = read (goal.at.overflow_cast-result c).In_ok-value in
    omega (arith, read_most 16 4 _ c.args.s.now (omega arith) (omega arith) (omega arith) value)

pub returns : goal.returns
unfolding parsed_word word_in word_of
returns c = simp (eq-eqb (length c.args.s.now) 4 c.if-s-ne4.false, read (goal.at.returns c).In_ok-value)

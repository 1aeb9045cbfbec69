-- `text::hexadecimal::write_pairs` meets its contract. The bytes in front of `n` are the first pairs, and the others as
-- they were.
use mathlib.Core.Path.{refl, ap, ◌∙◌}
use mathlib.Core.List.{List, ◌++◌}
use Prim.Native.Nat.{ℕ}
use native.Mathlib.Omega.{arith}
use lib.ListN.{drop, set, length-set}
use Rattle.text.specs.Hexadecimal.{pairs}
use Rattle.text.specs.HexadecimalLaws.{each_digit, pairs_more}
use Rattle.text.proofs.hexadecimal.write_pairs.Goals as goal

pub loop-n-init : goal.loop-n-init
unfolding pairs
loop-n-init c = (omega arith, refl, refl)

pub pair_value-requires : goal.pair_value-requires
pair_value-requires c =
    let word = c.args.word.now in
    (each_digit word c.requires.0 _ (omega arith), each_digit word c.requires.0 _ (omega arith))

pub loop-n-preserved : goal.loop-n-preserved
loop-n-preserved c = (
  omega arith,
  simp length-set c.loop-n.invariant.1,
  ap (λ (b : List ℕ). set b c.loop-n.n c.pair_value.result) c.loop-n.invariant.2 ∙
      ap (set (pairs c.args.word.now c.loop-n.n ++ drop c.loop-n.n c.args.bytes.now) c.loop-n.n)
      c.pair_value.ensures ∙
      pairs_more c.args.word.now c.args.bytes.now c.loop-n.n (omega arith),
)

-- `rights::Writer::may_write` meets its contract.
use mathlib.Core.Bool.{Bool, true, false, ◌||◌}
use mathlib.Core.Path.{◌≡◌}
use Prim.Native.Nat.{ℕ, ◌≤◌, ◌<◌}
use native.Mathlib.Omega.{arith}
use borrow.Author.Tests.{le-leb, lt-leb}
use Rattle.parameters.specs.Table.{is_from}
use Rattle.rights.specs.Rights.{may_write}
use Rattle.rights.proofs.Writer.may_write.Goals as goal

-- ---- two ranges of numbers: from SL to the last one that the writer has there, RS or RB, and MD and DS

abbrev in_ranges : ℕ → ℕ → Bool
in_ranges last n = is_from n 20 last || is_from n 24 25

module _ (last n : ℕ) where
  below_first : n < 20 → in_ranges last n ≡ false
  below_first h = simp (lt-leb 20 n h, lt-leb 24 n (omega arith))

  in_first : 20 ≤ n → n ≤ last → in_ranges last n ≡ true
  in_first h k = simp (le-leb 20 n h, le-leb n last k)

  between_both : 20 ≤ n → last < n → n < 24 → in_ranges last n ≡ false
  between_both h k l = simp (le-leb 20 n h, lt-leb n last k, lt-leb 24 n l)

  in_second : last < n → 24 ≤ n → n ≤ 25 → in_ranges last n ≡ true
  in_second h k l = simp (le-leb 20 n (omega arith), lt-leb n last h, le-leb 24 n k, le-leb n 25 l)

  above_second : last < n → 25 < n → in_ranges last n ≡ false
  above_second h k = simp (le-leb 20 n (omega arith), lt-leb n last h, le-leb 24 n (omega arith), lt-leb n 25 k)

pub returns-in-20-to-21 : goal.returns-in-20-to-21
unfolding may_write
returns-in-20-to-21 c = let n = c.args.number in
    simp (c.in-Operator.is, in_first 21 n (omega arith) (omega arith))

pub returns-in-20-to-21-2 : goal.returns-in-20-to-21-2
unfolding may_write
returns-in-20-to-21-2 c = let n = c.args.number in
    simp (c.in-Operator.is, in_second 21 n (omega arith) (omega arith) (omega arith))

pub returns-in_default : goal.returns-in_default
unfolding may_write
returns-in_default c = let n = c.args.number in
    simp (c.in-Operator.is, below_first 21 n (omega arith))

pub returns-in_default-2 : goal.returns-in_default-2
unfolding may_write
returns-in_default-2 c = let n = c.args.number in
    simp (c.in-Operator.is, between_both 21 n (omega arith) (omega arith) (omega arith))

pub returns-in_default-3 : goal.returns-in_default-3
unfolding may_write
returns-in_default-3 c = let n = c.args.number in
    simp (c.in-Operator.is, above_second 21 n (omega arith) (omega arith))

pub returns-in-Engineer : goal.returns-in-Engineer
unfolding may_write
returns-in-Engineer c = simp c.in-Engineer.is

pub returns-in-20-to-22 : goal.returns-in-20-to-22
unfolding may_write
returns-in-20-to-22 c = let n = c.args.number in
    simp (c.in-Computer.is, in_first 22 n (omega arith) (omega arith))

pub returns-in-20-to-22-2 : goal.returns-in-20-to-22-2
unfolding may_write
returns-in-20-to-22-2 c = let n = c.args.number in
    simp (c.in-Computer.is, in_second 22 n (omega arith) (omega arith) (omega arith))

pub returns-in_default-number : goal.returns-in_default-number
unfolding may_write
returns-in_default-number c = let n = c.args.number in
    simp (c.in-Computer.is, below_first 22 n (omega arith))

pub returns-in_default-number-2 : goal.returns-in_default-number-2
unfolding may_write
returns-in_default-number-2 c = let n = c.args.number in
    simp (c.in-Computer.is, between_both 22 n (omega arith) (omega arith) (omega arith))

pub returns-in_default-number-3 : goal.returns-in_default-number-3
unfolding may_write
returns-in_default-number-3 c = let n = c.args.number in
    simp (c.in-Computer.is, above_second 22 n (omega arith) (omega arith))

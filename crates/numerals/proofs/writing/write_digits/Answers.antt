-- `numerals::writing::write_digits` meets its contract.
use Prim.Native.Nat.{◌-◌}
use native.Mathlib.Omega.{arith}
use borrow.Author.Rules.{rules}
use Rattle.numerals.specs.Writing.{writing_turn, writing_ends}
use Rattle.numerals.proofs.writing.write_digits.Goals as goal

pub loop-i-preserved : goal.loop-i-preserved
loop-i-preserved c =
    let l = c.loop-i in
    let s = c.args in
    rw c.digit_byte.ensures
    (writing_turn s.base s.count s.n s.out.now l.out l.i (l.i - 1) l.rest (search rules) (omega arith) l.invariant)

pub returns : goal.returns
returns c =
    let l = c.loop-i in
    let s = c.args in
    writing_ends s.base s.count s.n s.out.now l.out l.i l.rest (omega arith) l.invariant

-- `numerals::writing::write_digits` meets its contract.
use Rattle.numerals.specs.Writing.{Writing}
use Rattle.numerals.proofs.writing.write_digits.Given as goal

abbrev pub invariant-loop-i : goal.invariant-loop-i
invariant-loop-i l = Writing l.base l.count l.n l.initial.out l.out l.i l.rest

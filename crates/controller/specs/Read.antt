-- Document 01, "Parameters" and "Words": "a read answers the value", and changes nothing.
use Rattle.std.proofs.Math.Option.{Option, some, none}
use Rattle.std.specs.Prelude.{ℕ, eqb, ℤ, pos, if◌then◌else◌}
use Rattle.parameters.specs.Legal.{unknown_refusal}
use Rattle.parameters.specs.Table.{value, rule_of, is_from}
use Rattle.controller.specs.Answers.{Reply, reading, number, op_of}
use Rattle.controller.specs.Scan.{md_now, ds_now}
use Rattle.controller.specs.declared.Controller.{Controller}
use Rattle.controller.specs.declared.Core.{Core}

-- the table's column "Numbers", with the OP of an output; MD and DS by the present state; MP is the last
unfoldable pub value_in : Core → ℕ → ℕ → ℤ
value_in c op n =
    if is_from n 1 23 then value c.parameters n else
    if eqb n 24 then pos (md_now c) else
    if eqb n 25 then pos (ds_now c) else
    if eqb n 26 then pos c.sw else
    if eqb n 27 then pos 0x3608 else
    if eqb n 28 then pos op else
    if eqb n 29 then c.readings.sp else
    if eqb n 30 then c.readings.pv else
    if eqb n 31 then c.readings.er else
    c.readings.mp

-- a read that is refused with a number, or answers a value
abbrev pub read_by : Option ℕ → ℤ → Reply
read_by none v = reading v
read_by (some n) v = number n

-- "4 number outside 1..32 (reads too)": the refusal that the row of the number names, or the value
unfoldable pub read_in : Core → ℕ → ℕ → Reply
read_in c op n = read_by (unknown_refusal (rule_of n)) (value_in c op n)

-- what `Controller::read` answers
unfoldable pub read : Controller → ℕ → Reply
read c n = read_in c.core (op_of c.output) n

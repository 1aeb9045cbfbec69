-- Document 01, "Parameters", "Words" and "By whose hand a call is declined", and document 02, request 6: a write,
-- whole. As for a scan: the next state but for the output, the answer, and an instruction for the output, once for our
-- controller and for the exact one.
use Rattle.std.specs.Prelude.{Bool, not, List, [], ◌∷◌, ◌++◌, ℕ, ◌%◌, eqb, ℤ, nat_abs, if◌then◌else◌}
use Rattle.signals.specs.Refusals.{refused_by}
use Rattle.signals.specs.Signals.{switches_of}
use Rattle.modes.specs.Modes.{sets_setpoint}
use Rattle.modes.specs.declared.Conditions.{Conditions}
use Rattle.words.specs.Written.{conditions_written, power_written, user_bits_written, md_tests}
use Rattle.words.specs.declared.UserBits.{UserBits}
use Rattle.parameters.specs.Legal.{unknown_refusal, read_only_refusal, in_range, pair_in_order}
use Rattle.parameters.specs.Table.{value, rule_of}
use Rattle.parameters.specs.Written.{written}
use Rattle.parameters.specs.declared.Parameters.{Parameters}
use Rattle.rights.specs.Rights.{named, access_tests}
use Rattle.rights.specs.declared.Writer.{Writer}
use Rattle.outputs.specs.Instruction.{keep}
use Rattle.outputs.specs.Outputs.{limits_written}
use Rattle.controller.specs.Answers.{Response}
use Rattle.controller.specs.Scan.{mode_now, accepts, Outcome, refused_or, controller_after, response_from}
use Rattle.controller.specs.declared.Controller.{Controller}
use Rattle.controller.specs.declared.Core.{Core}

-- ---- "Writer: 4 number outside 1..32 (reads too); 5 read only; 6 out of range; 7 pair out of order; 8
-- SL in Remote, Ratio, or with S2.6 ON in a non-automatic mode; 9 not exactly one of MD bits 13, 12,
-- 11; 10 bit 11 with the Remote pin 0; 11 bit 12 or 11 when a cause would remain."

-- 8
unfoldable pub setpoint_tests : Core → List (Bool × ℕ)
setpoint_tests c = (sets_setpoint (mode_now c) (switches_of c.sw).setpointtracks, 8) ∷ []

-- a value as a word: a value in 0..65535 itself. A value out of that range was refused with 6 before
-- any bit of it is asked for
abbrev pub word_of : ℤ → ℕ
word_of v = nat_abs v % 65536

-- 8 for SL, number 20, and 9 to 11 for MD, number 24
unfoldable pub state_tests : Core → ℕ → ℤ → List (Bool × ℕ)
state_tests c n v =
    if eqb n 20 then setpoint_tests c else
    if eqb n 24 then md_tests c.conditions (word_of v) else []

-- what is asked of the value: by the row of the table its range and its pair rule, then the rest, in the order of their
-- numbers, since "the lowest number wins"
unfoldable pub value_tests : Core → ℕ → ℤ → List (Bool × ℕ)
value_tests c n v =
    let row = rule_of n in
    let values = value c.parameters in
    (not (in_range row values v), 6)
    ∷ (not (pair_in_order row values n v), 7)
    ∷ state_tests c n v

-- what is asked before, whatever the value: 4, 19, 20 and 5, by "the stored pin byte"
unfoldable pub access_now : Core → Writer → ℕ → List (Bool × ℕ)
access_now c w n = access_tests (rule_of n) w c.conditions.pins n

-- "Each write names its writer"
unfoldable pub write_tests : Core → Writer → ℕ → ℤ → List (Bool × ℕ)
write_tests c w n v = access_now c w n ++ value_tests c n v

-- document 01's tests by themselves, 4 to 11, which are asked of every writer alike: no write is accepted that one of
-- these refuses, and one by a writer with the right is refused by no other (WriteLaws.antt)
unfoldable pub common_tests : Core → ℕ → ℤ → List (Bool × ℕ)
common_tests c n v = named (unknown_refusal (rule_of n)) ++ (named (read_only_refusal (rule_of n)) ++ value_tests c n v)

-- ---- what an accepted write leaves, but for the output

-- a write changes no more than these three. Of PV, SP, ER, MP, buttons, battery and alarms "only scans
-- and restarts change any", and no sentence lets a write touch SW, the earlier PVs and SP or the last reading
unfoldable pub core_with : Core → Parameters → Conditions → UserBits → Core
core_with c parameters conditions userbits =
    record {
      sw = c.sw;
      parameters = parameters;
      conditions = conditions;
      userbits = userbits;
      readings = c.readings;
      indications = c.indications;
      history = c.history;
      clock = c.clock;
    }

-- "Writing MD takes bits 13, 12, 11 as the request and bit 4"
unfoldable pub md_written : Core → ℕ → Core
md_written c word = core_with c c.parameters (conditions_written c.conditions word) (power_written c.userbits word)

-- "DS takes bits 7 and 6."
unfoldable pub ds_written : Core → ℕ → Core
ds_written c word = core_with c c.parameters c.conditions (user_bits_written c.userbits word)

-- parameters 1 to 23
unfoldable pub parameter_written : Core → ℕ → ℤ → Core
parameter_written c n v = core_with c (written c.parameters n v) c.conditions c.userbits

unfoldable pub core_written : Core → ℕ → ℤ → Core
core_written c n v =
    if eqb n 24 then md_written c (word_of v) else
    if eqb n 25 then ds_written c (word_of v) else parameter_written c n v

-- ---- the whole

-- an accepted write, by whomever: it "says only that it was accepted"
unfoldable pub write_accepted : Core → ℕ → ℤ → Outcome
write_accepted c n v =
    let next = core_written c n v in
    record {
      next = next;
      answer = accepts;
      instruction = record { change = keep; limits = limits_written n (mode_now c) next.parameters };
    }

-- a write, refused or accepted
unfoldable pub write_core : Core → Writer → ℕ → ℤ → Outcome
write_core c w n v = refused_or (refused_by (write_tests c w n v)) c (write_accepted c n v)

-- our controller after an accepted write
unfoldable pub controller_written : Controller → ℕ → ℤ → Controller
controller_written c n v = controller_after c (write_accepted c.core n v)

-- what `Controller::write` returns
unfoldable pub write : Controller → Writer → ℕ → ℤ → Response
write c w n v = response_from c (write_core c.core w n v)

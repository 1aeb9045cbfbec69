-- Demand 3, the long guarantee, as docs/GUARANTEE.md has it: after these calls, with these controllers and
-- answers returned, of the controller c.
use Rattle.signals.specs.Refusals.{Verdict}
use Rattle.signals.specs.Clock.{ClockReading}
use Rattle.std.specs.Prelude.{◌≡◌, true, false, List, ℕ, ◌+◌, ◌*◌, ◌≤◌, ℤ, Ok}
use Rattle.std.proofs.Math.Option.{some, none}
use Rattle.signals.specs.declared.Input.{Input}
use Rattle.modes.specs.declared.Mode.{Mode}
use Rattle.answers.specs.declared.ScanValues.{ScanValues}
use Rattle.rights.specs.declared.Writer.{Writer}
use Rattle.controller.specs.Answers.{Response, number, reply_of_verdict, reply_by, reply_of_read, ReadAnswer}
use Rattle.controller.specs.Scan.{mode_now}
use Rattle.controller.specs.declared.CallResult.{CallResult}
use Rattle.controller.specs.declared.Controller.{Controller}
use Rattle.controller.specs.declared.ScanResult.{ScanResult}
use Rattle.guarantee.specs.Claim.{WithinLimits, WithinHalves, capped, SameAnswers, SameReading, SameSave}
use Rattle.guarantee.specs.Count.{open_scans, last_reading, LastScan, last_pins, earlier, automatic_scans}
use Rattle.guarantee.specs.Exact.{Calls, exact}
use Rattle.guarantee.specs.Fault.{fault_stands}
use Rattle.guarantee.specs.Linked.{ScanEnsures, WriteEnsures, AccessEnsures, ReadEnsures, LastReadingEnsures, SaveEnsures}
use Rattle.guarantee.specs.Linked.{MutSlice, Lifetime}
use Rattle.guarantee.specs.Modes.{mode_in, is_hold_or_track}
use Rattle.guarantee.specs.Rights.{has_right, access_or}

pub record Demand3 (word : ℕ) (calls : Calls) (rs : List Response) (c : Controller) : Type 0 where
  -- the mode is the first in the priority order whose condition is present; conditions are read from
  -- the exact controller
  pub mode_first : mode_in (exact word calls).core ≡ some (mode_now c.core)
  -- and the count of open scans behind Forced Manual is the one that the accepted calls of the list give
  pub open_scans_counted : (exact word calls).core.conditions.opencount ≡ open_scans word calls
  -- the remembered reading is the last accepted scan's since the start or the last accepted restart, told by the list,
  -- and so is the one that a host is given
  pub reading_remembered : (exact word calls).core.clock ≡ last_reading word calls
  pub last_reading : (r : ClockReading) → LastReadingEnsures c r → r ≡ last_reading word calls
  -- the stored pin byte is the last accepted scan's since the start or the last accepted restart; 80h before there is
  -- one
  pub pins_stored : (exact word calls).core.conditions.pins ≡ last_pins word calls
  -- a write by someone without the right, told by the writer, the number and the pins that the list tells, changes
  -- nothing in the whole controller, and gets 4, 19 or 20: the one that is made now, and so, list by list, every one
  pub without_right : (w : Writer) (n : ℕ) (v : ℤ) (r : CallResult) → WriteEnsures c w n v r →
      has_right (last_pins word calls) w n ≡ false →
      (r.controller ≡ c) × (reply_of_verdict r.verdict ≡ reply_by (access_or (last_pins word calls) w n none))
  -- and one by someone with the right is refused with document 01's numbers alone, if at all
  pub with_right : (w : Writer) (n : ℕ) (v : ℤ) (r : CallResult) → WriteEnsures c w n v r →
      has_right (last_pins word calls) w n ≡ true → (k : ℕ) → reply_of_verdict r.verdict ≡ number k → (4 ≤ k) × (k ≤ 11)
  -- and a host is told, before there is a value, the same of the writer and the number: 4, 19, 20, 5, or none of them
  pub access_told : (w : Writer) (n : ℕ) (r : Verdict) → AccessEnsures c w n r →
      reply_of_verdict r ≡ reply_by (access_or (last_pins word calls) w n none)
  -- an accepted scan never comes less than 30 ms after the accepted scan before it where no accepted restart came
  -- between: the one that is made now, and so, list by list, every one
  pub scans_apart : (i j : Input) (r : ScanResult) (v : ScanValues) → LastScan word i calls → ScanEnsures c j r →
      r.answer ≡ Ok v → i.milliseconds + 30 ≤ j.milliseconds
  -- the earlier PVs and SP are those of the accepted scans of the list, but for those that an open scan, a gap or an
  -- accepted restart forgot
  pub earlier_scans_remembered : (exact word calls).core.history ≡ earlier word calls
  -- the memory fault stands exactly when document 01 says so
  pub fault_stands : c.core.conditions.fault ≡ fault_stands word calls
  -- outside Hold and Track, by the conditions again, the stored output is within its limits
  pub within_limits : (mode : Mode) → mode_in (exact word calls).core ≡ some mode → is_hold_or_track mode ≡ false → WithinLimits c
  -- apart from the output, the whole state and every answer equal those of the exact controller, OP and
  -- electrical output being our own
  pub same_state : capped c.core ≡ capped (exact word calls).core
  pub same_answers : SameAnswers word calls rs
  -- and so does every read that is made now, which changes nothing
  pub same_reads : (n : ℕ) (r : ReadAnswer) → ReadEnsures c n r → SameReading c (exact word calls).core n (reply_of_read r)
  -- and every save, which changes nothing either, of any buffer: the answer and every byte
  pub same_saves : (life : Lifetime) (buffer : MutSlice) (r : Verdict) (after : List ℕ) → SaveEnsures life c buffer r after →
      SameSave c (exact word calls).core buffer.now (reply_of_verdict r) after
  -- the stored output is within 3/2 × n × 1/65,536 unit of the exact controller's: 3 × n halves of 1/65,536 unit
  pub bound : WithinHalves c.output (exact word calls).output (3 * automatic_scans word calls)

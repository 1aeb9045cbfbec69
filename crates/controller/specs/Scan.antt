-- Document 01, One scan, whole, with document 02's clock: the next state but for the output, the answer but for OP and
-- electrical output, and an instruction for the output. These stand once, for our controller and for the exact one.
use Rattle.std.proofs.Math.Option.{Option, some, none}
use Rattle.std.specs.Prelude.{ℕ, ℤ, Some}
use Rattle.signals.specs.Clock.{is_after_gap}
use Rattle.signals.specs.Refusals.{refused_by, scan_tests}
use Rattle.signals.specs.Signals.{switches_of, is_open, battery_low}
use Rattle.signals.specs.declared.Input.{Input}
use Rattle.modes.specs.Modes.{counted, conditions_after, mode_of, goes_to_minimum}
use Rattle.modes.specs.declared.Conditions.{Conditions}
use Rattle.modes.specs.declared.Mode.{Mode}
use Rattle.words.specs.Words.{MD, DS}
use Rattle.words.specs.declared.Indications.{Indications}
use Rattle.setpoints.specs.Computation.{computed, low_alarm, high_alarm}
use Rattle.setpoints.specs.declared.Readings.{Readings}
use Rattle.setpoints.specs.declared.Computed.{Computed}
use Rattle.outputs.specs.History.{history_before, history_after}
use Rattle.outputs.specs.Instruction.{keep, unlimited, Instruction, stored_arithmetic, executed}
use Rattle.outputs.specs.Outputs.{instruction_of}
use Rattle.outputs.specs.declared.Context.{Context}
use Rattle.outputs.specs.declared.History.{History}
use Rattle.controller.specs.Answers.{Reply, words, acceptance, number, Response, op_of, electrical_of}
use Rattle.controller.specs.declared.Controller.{Controller}
use Rattle.controller.specs.declared.Core.{Core}

-- "Mode and cause always follow the present state."
unfoldable pub mode_now : Core → Mode
mode_now c = mode_of c.conditions (switches_of c.sw).ratio

-- ---- document 02, request 2: "After more than 42 ms the scan is taken, but earlier PV and SP are forgotten first.":
-- what is remembered when this scan's steps begin
unfoldable pub earlier_scans : Core → Input → History
earlier_scans c i = history_before c.history (is_after_gap c.clock i.milliseconds)

-- ---- step 3: the mode of this scan, by what it leaves of the conditions; and of step 6 whether it
-- goes to minimum, by those before it
unfoldable pub context_of : Core → Conditions → Input → Context
context_of c after i =
    let s = switches_of c.sw in
    record {
      switches = s;
      mode = mode_of after s.ratio;
      tominimum = goes_to_minimum c.conditions i s.ratio s.powerfail;
      input = i;
    }

-- ---- steps 1, 4 and 5
unfoldable pub computed_in : Core → Context → Computed
computed_in c x = computed c.parameters x.switches c.userbits.measuredpower x.mode x.input

-- ---- what is indicated until the next scan: "Alarms are the last scan's."
unfoldable pub indications_after : Core → Context → Readings → Indications
indications_after c x r =
    record {
      buttons = x.input.buttons;
      batterylow = battery_low x.input;
      lowalarm = low_alarm c.parameters r;
      highalarm = high_alarm c.parameters r;
    }

-- ---- step 7, and all that the scan leaves but the output. Document 02, request 2: "the controller remembers the last
-- accepted one", the reading of this scan
unfoldable pub core_after : Core → History → Conditions → Context → Computed → Core
core_after c earlier after x r =
    record {
      sw = c.sw;
      parameters = r.parameters;
      conditions = after;
      userbits = c.userbits;
      readings = r.readings;
      indications = indications_after c x r.readings;
      history = history_after earlier (is_open x.input) r.readings;
      clock = Some x.input.milliseconds;
    }

-- ---- the whole

-- the answer but for OP and electrical output
pub data Status : Type 0 where
  status : (md ds : ℕ) (mode : Mode) (pv : ℤ) → Status
  accepts : Status
  refused_with : ℕ → Status

-- MD and DS of a state
abbrev pub md_now : Core → ℕ
md_now c = MD (mode_now c) c.conditions c.userbits c.indications

abbrev pub ds_now : Core → ℕ
ds_now c = DS (mode_now c) c.conditions c.userbits c.indications

unfoldable pub status_of : Core → Status
status_of c = status (md_now c) (ds_now c) (mode_now c) c.readings.pv

pub record Outcome : Type 0 where
  pub next : Core
  pub answer : Status
  pub instruction : Instruction

-- an accepted scan. `more` counts one more open scan
unfoldable pub accepted : (ℕ → ℕ) → Core → Input → Outcome
accepted more c i =
    let earlier = earlier_scans c i in
    let after = conditions_after more c.conditions i in
    let x = context_of c after i in
    let r = computed_in c x in
    let next = core_after c earlier after x r in
    record { next = next; answer = status_of next; instruction = instruction_of c.parameters x r.readings earlier }

-- "Answer: the number alone. Controller and buffers stay."
unfoldable pub refused : Core → ℕ → Outcome
refused c n = record { next = c; answer = refused_with n; instruction = record { change = keep; limits = unlimited } }

-- refused with a number, or else the outcome
abbrev pub refused_or : Option ℕ → Core → Outcome → Outcome
refused_or none c o = o
refused_or (some n) c o = refused c n

-- a scan, refused or accepted
unfoldable pub scan_core : (ℕ → ℕ) → Core → Input → Outcome
scan_core more c i = refused_or (refused_by (scan_tests c.clock i)) c (accepted more c i)

-- ---- our controller's: the instruction executed in whole 1/65,536 units, OP and electrical output of
-- the stored output

-- an answer with the OP and electrical output of a stored output
abbrev pub with_output : Status → ℕ → ℤ → Reply
with_output (status md ds mode pv) sw output = words md ds (op_of output) (electrical_of sw output) mode pv
with_output accepts sw output = acceptance
with_output (refused_with n) sw output = number n

-- the controller after a call whose outcome this is
unfoldable pub controller_after : Controller → Outcome → Controller
controller_after c o = record { core = o.next; output = executed stored_arithmetic o.instruction c.output }

-- and all that the call returns
unfoldable pub response_from : Controller → Outcome → Response
response_from c o = let next = controller_after c o in record { next = next; answer = with_output o.answer c.core.sw next.output }

-- the controller after an accepted scan
unfoldable pub stepped : Controller → Input → Controller
stepped c i = controller_after c (accepted counted c.core i)

-- what `Controller::scan` returns
unfoldable pub scan : Controller → Input → Response
scan c i = response_from c (scan_core counted c.core i)

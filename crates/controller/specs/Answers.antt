-- Document 01: what a call answers, in the paper's numbers and values.
use Rattle.std.specs.Prelude.{◌≡◌, refl, ℕ, ◌/◌, ◌-◌, ℤ, nat_abs, Result, Ok, Err, if◌then◌else◌}
use Rattle.std.proofs.Math.Option.{Option, some, none}
use Rattle.signals.specs.Refusals.{Verdict, number_of, number_in}
use Rattle.signals.specs.Signals.{switches_of}
use Rattle.signals.specs.declared.Refusal.{Refusal}
use Rattle.modes.specs.declared.Mode.{Mode}
use Rattle.answers.specs.declared.ScanValues.{ScanValues}
use Rattle.controller.specs.declared.Controller.{Controller}
use Rattle.controller.specs.declared.CallResult.{CallResult}
use Rattle.controller.specs.declared.ScanResult.{ScanResult}

pub data Reply : Type 0 where
  -- "A scan answers MD, DS, OP and electrical output"; document 02, request 1: "A scan's answer carries the mode and PV
  -- as well from now on"
  words : (md ds op electrical : ℕ) (mode : Mode) (pv : ℤ) → Reply
  -- "a read answers the value"
  reading : ℤ → Reply
  -- "an accepted write, restart or save says only that it was accepted"
  acceptance : Reply
  -- a call that is refused answers "the number alone"
  number : ℕ → Reply

-- what a scan answers: its values, or why it is refused
abbrev pub Answer : Type 0
Answer = Result ScanValues Refusal

-- the paper's number and values for each case of our answer
abbrev pub reply_of : Answer → Reply
reply_of (Ok v) = words v.md v.ds v.op v.electrical v.mode v.pv
reply_of (Err refusal) = number (number_of refusal)

-- "Each call takes the controller and hands back the next one": it, and the answer
pub record Response : Type 0 where
  pub next : Controller
  pub answer : Reply

abbrev pub response_of : ScanResult → Response
response_of r = record { next = r.controller; answer = reply_of r.answer }

-- of a write, a restart or a save
abbrev pub reply_of_verdict : Verdict → Reply
reply_of_verdict (Ok accepted) = acceptance
reply_of_verdict (Err refusal) = number (number_of refusal)

-- of a call that is refused with a number, or accepted
abbrev pub reply_by : Option ℕ → Reply
reply_by none = acceptance
reply_by (some n) = number n

pub reply_by_lem : (v : Verdict) → reply_of_verdict v ≡ reply_by (number_in v)
reply_by_lem (Ok accepted) = refl
reply_by_lem (Err refusal) = refl

abbrev pub response_of_verdict : CallResult → Response
response_of_verdict r = record { next = r.controller; answer = reply_of_verdict r.verdict }

-- what a read answers: the value, or why it is refused
abbrev pub ReadAnswer : Type 0
ReadAnswer = Result ℤ Refusal

-- of a read, which returns no controller: it changes nothing
abbrev pub reply_of_read : ReadAnswer → Reply
reply_of_read (Ok v) = reading v
reply_of_read (Err refusal) = number (number_of refusal)

-- "OP is its floor in units": of a stored output, which is never below zero
unfoldable pub op_of : ℤ → ℕ
op_of output = nat_abs output / 65536

-- "Electrical output is OP, or 9999 - OP with S2.2 ON."
unfoldable pub electrical_of : ℕ → ℤ → ℕ
electrical_of sw output = if (switches_of sw).displayinversion then 9999 - op_of output else op_of output

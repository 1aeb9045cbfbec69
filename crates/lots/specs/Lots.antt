-- Document 02, request 1: "a sheet .., fed by one accepted scan's answer after another". Which answers these are over
-- every list of calls, told by the exact controller; what a sheet makes of them is `Always` (sheet_guarantee).
use Rattle.std.specs.Prelude.{◌≡◌, not, List, ℕ, ℤ, Err, Ok}
use Rattle.std.proofs.Math.Option.{some}
use Rattle.std.proofs.Math.Option as option
use Rattle.signals.specs.Bits.{bit}
use Rattle.signals.specs.declared.Input.{Input}
use Rattle.answers.specs.declared.ScanValues.{ScanValues}
use Rattle.sheet.specs.declared.Sheet.{Sheet}
use Rattle.controller.specs.Answers.{Answer}
use Rattle.sheet_guarantee.specs.Claim.{SheetClaim}
use Rattle.sheet_guarantee.specs.Linked as sheets
use Rattle.sheet_guarantee.specs.Linked.{Entry}
use Rattle.sheet_guarantee.specs.Meaning as answers
use Rattle.sheet_guarantee.specs.Meaning.{Answers}
use Rattle.rights.specs.declared.Writer.{Writer}
use Rattle.controller.specs.declared.CallResult.{CallResult}
use Rattle.controller.specs.declared.Controller.{Controller}
use Rattle.controller.specs.declared.Core.{Core}
use Rattle.controller.specs.declared.ScanResult.{ScanResult}
use Rattle.guarantee.specs.Count.{last_reading}
use Rattle.guarantee.specs.Exact.{Calls, none, ◌then◌, scan, write, restart, exact}
use Rattle.guarantee.specs.Linked.{FreshEnsures, ScanEnsures, WriteEnsures, RestartEnsures, Slice, Lifetime}
use Rattle.guarantee.specs.Modes.{mode_in}
use Rattle.promises.specs.RefusalCauses.{scan_refusal}

-- ---- what a lot program enters: the values of each accepted scan, as the contracts of the calls give them

abbrev pub with_answer : Answers → Answer → Answers
with_answer ys (Ok v) = answers.◌then◌ ys v
with_answer ys (Err refusal) = ys

-- after these calls the controller is this one, and these answers were given by accepted scans
pub data Answered (word : ℕ) : Calls → Controller → Answers → Type 0 where
  started : (r : Controller) → FreshEnsures word r → Answered word none r answers.none
  scanned : {xs : Calls} {c : Controller} {ys : Answers} (i : Input) (r : ScanResult) →
      Answered word xs c ys → ScanEnsures c i r → Answered word (xs then scan i) r.controller (with_answer ys r.answer)
  wrote : {xs : Calls} {c : Controller} {ys : Answers} (w : Writer) (n : ℕ) (v : ℤ) (r : CallResult) →
      Answered word xs c ys → WriteEnsures c w n v r → Answered word (xs then write w n v) r.controller ys
  restarted : {xs : Calls} {c : Controller} {ys : Answers} (life : Lifetime) (image : Slice) (r : CallResult) →
      Answered word xs c ys → RestartEnsures life c image r → Answered word (xs then restart image.now) r.controller ys

-- ---- that they are right

-- an answer, and the exact controller's state after its scan. OP is our own: demand 3 bounds it
pub record Right (now : Core) (v : ScanValues) : Type 0 where
  pub mode : mode_in now ≡ some v.mode
  pub pv : v.pv ≡ now.readings.pv
  pub low_alarm : bit v.ds 1 ≡ not now.indications.lowalarm
  pub high_alarm : bit v.ds 0 ≡ not now.indications.highalarm

-- one answer for each accepted scan, in their order, and for no other call
pub data AllRight (word : ℕ) : Calls → Answers → Type 0 where
  no_call : AllRight word none answers.none
  accepted_scan : {xs : Calls} {ys : Answers} {i : Input} {v : ScanValues} → AllRight word xs ys →
      scan_refusal (last_reading word xs) i ≡ option.none →
      Right (exact word (xs then scan i)).core v → AllRight word (xs then scan i) (answers.◌then◌ ys v)
  refused_scan_lem : {xs : Calls} {ys : Answers} {i : Input} {n : ℕ} → AllRight word xs ys →
      scan_refusal (last_reading word xs) i ≡ some n →
      AllRight word (xs then scan i) ys
  a_write : {xs : Calls} {ys : Answers} {w : Writer} {n : ℕ} {v : ℤ} → AllRight word xs ys → AllRight word (xs then write w n v) ys
  a_restart : {xs : Calls} {ys : Answers} {image : List ℕ} → AllRight word xs ys → AllRight word (xs then restart image) ys

-- of every switch word and every list of calls, and of a sheet in which these answers were entered
abbrev pub LotsRight : Type 0
LotsRight =
    (word : ℕ) (calls : Calls) (c : Controller) (ys : Answers) (es : List Entry) (s : Sheet) → Answered word calls c ys →
    sheets.Linked ys es s → AllRight word calls ys × SheetClaim ys es s

-- there are such answers for every list: what is said of lists is said of something
pub record Lot (word : ℕ) (calls : Calls) : Type 0 where
  pub last : Controller
  pub values : Answers
  pub answered : Answered word calls last values

abbrev pub AlwaysAnswered : Type 0
AlwaysAnswered = (word : ℕ) (calls : Calls) → Lot word calls

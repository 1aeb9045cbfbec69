-- What the calls of a sheet return, by the contracts of the code itself: an empty sheet, each later answer entered in
-- the sheet that was returned.
use Rattle.std.specs.Prelude.{◌≡◌, List, [], ◌∷◌, ℕ, ℤ, Option, Result, Ok, Err, ⊤}
use Rattle.modes.specs.declared.Mode.{Mode}
use Rattle.answers.specs.declared.ScanValues.{ScanValues}
use Rattle.sheet.specs.Valid.{Valid}
use Rattle.sheet.specs.declared.EnterResult.{EnterResult}
use Rattle.sheet.specs.declared.Full.{Full}
use Rattle.sheet.specs.declared.KeptResult.{KeptResult}
use Rattle.sheet.specs.declared.Occurrence.{Occurrence}
use Rattle.sheet.specs.declared.Sheet.{Sheet}
use Rattle.sheet.specs.declared.SheetValues.{SheetValues}
use Rattle.sheet.specs.declared.Mean.{Mean}
use Rattle.sheet.proofs.Sheet.empty.Reads as empty-reads
use Rattle.sheet.proofs.Sheet.enter.Reads as enter-reads
use Rattle.sheet.proofs.Sheet.kept.Reads as kept-reads
use Rattle.sheet.proofs.Sheet.values.Reads as values-reads
use Rattle.sheet.proofs.Sheet.scans.Reads as scans-reads
use Rattle.sheet.proofs.Sheet.scans_in.Reads as scans-in-reads
use Rattle.sheet.proofs.Sheet.greatest.Reads as greatest-reads
use Rattle.sheet.proofs.Sheet.least.Reads as least-reads
use Rattle.sheet.proofs.Sheet.scans_with_alarm.Reads as alarm-reads
use Rattle.sheet.proofs.Sheet.sum_pv.Reads as sum-pv-reads
use Rattle.sheet.proofs.Sheet.sum_op.Reads as sum-op-reads
use Rattle.sheet.proofs.Sheet.mean_pv.Reads as mean-pv-reads
use Rattle.sheet.proofs.Sheet.mean_op.Reads as mean-op-reads
use Rattle.sheet_guarantee.specs.Meaning.{Answers, none, ◌then◌}

-- what the `ensures` of the calls say of their results
abbrev pub EmptyEnsures : Sheet → Type 0
EmptyEnsures r = empty-reads.Post tt tt r tt

abbrev pub EnterEnsures : Sheet → ScanValues → EnterResult → Type 0
EnterEnsures s a r = enter-reads.Post tt (s, (a, tt)) r (s, (a, tt))

abbrev pub KeptEnsures : SheetValues → KeptResult → Type 0
KeptEnsures v r = kept-reads.Post tt (v, tt) r (v, tt)

abbrev pub ValuesEnsures : Sheet → SheetValues → Type 0
ValuesEnsures s r = values-reads.Post tt (s, tt) r (s, tt)

abbrev pub ScansEnsures : Sheet → ℕ → Type 0
ScansEnsures s r = scans-reads.Post tt (s, tt) r (s, tt)

abbrev pub ScansInEnsures : Sheet → Mode → ℕ → Type 0
ScansInEnsures s m r = scans-in-reads.Post tt (s, (m, tt)) r (s, (m, tt))

abbrev pub GreatestEnsures : Sheet → Option Occurrence → Type 0
GreatestEnsures s r = greatest-reads.Post tt (s, tt) r (s, tt)

abbrev pub LeastEnsures : Sheet → Option Occurrence → Type 0
LeastEnsures s r = least-reads.Post tt (s, tt) r (s, tt)

abbrev pub AlarmEnsures : Sheet → ℕ → Type 0
AlarmEnsures s r = alarm-reads.Post tt (s, tt) r (s, tt)

abbrev pub SumPVEnsures : Sheet → ℤ → Type 0
SumPVEnsures s r = sum-pv-reads.Post tt (s, tt) r (s, tt)

abbrev pub SumOPEnsures : Sheet → ℤ → Type 0
SumOPEnsures s r = sum-op-reads.Post tt (s, tt) r (s, tt)

abbrev pub MeanPVEnsures : Sheet → Mean → Type 0
MeanPVEnsures s r = mean-pv-reads.Post tt (s, tt) r (s, tt)

abbrev pub MeanOPEnsures : Sheet → Mean → Type 0
MeanOPEnsures s r = mean-op-reads.Post tt (s, tt) r (s, tt)

-- what entering an answer says: that it was taken, or full
abbrev pub Entry : Type 0
Entry = Result ⊤ Full

-- after these answers were entered, and these said, the latest first, the sheet is this one
pub data Linked : Answers → List Entry → Sheet → Type 0 where
  started : (r : Sheet) → EmptyEnsures r → Linked none [] r
  entered : {xs : Answers} {es : List Entry} {s : Sheet} (a : ScanValues) (r : EnterResult) →
      Linked xs es s → EnterEnsures s a r → Linked (xs then a) (r.entry ∷ es) r.sheet
  -- kept by the host over a power cut, say, and taken back
  kept : {xs : Answers} {es : List Entry} {s : Sheet} (v : SheetValues) (r : KeptResult) →
      Linked xs es s → ValuesEnsures s v → KeptEnsures v r → Linked xs es r.sheet
  -- values that were refused give a sheet that no answer was entered in
  refused : (v : SheetValues) (r : KeptResult) → KeptEnsures v r → r.verdict ≡ Err (record {}) → Linked none [] r.sheet

-- the answers that were taken
abbrev pub taken_of : Answers → List Entry → Answers
taken_of none [] = none
taken_of none (e ∷ es) = none
taken_of (xs then a) [] = none
taken_of (xs then a) (Ok taken ∷ es) = taken_of xs es then a
taken_of (xs then a) (Err full ∷ es) = taken_of xs es

-- what the type of a sheet asks holds of this one, and so does the `requires` of every call, whatever the arguments: no
-- call is shut out
pub record Ready (s : Sheet) : Type 0 where
  pub valid : Valid s
  pub empty_ready : empty-reads.Pre tt tt
  pub enter_ready : (a : ScanValues) → enter-reads.Pre tt (s, (a, tt))
  pub kept_ready : (v : SheetValues) → kept-reads.Pre tt (v, tt)
  pub values_ready : values-reads.Pre tt (s, tt)
  pub scans_ready : scans-reads.Pre tt (s, tt)
  pub scans_in_ready : (m : Mode) → scans-in-reads.Pre tt (s, (m, tt))
  pub greatest_ready : greatest-reads.Pre tt (s, tt)
  pub least_ready : least-reads.Pre tt (s, tt)
  pub alarm_ready : alarm-reads.Pre tt (s, tt)
  pub sum_pv_ready : sum-pv-reads.Pre tt (s, tt)
  pub sum_op_ready : sum-op-reads.Pre tt (s, tt)
  pub mean_pv_ready : mean-pv-reads.Pre tt (s, tt)
  pub mean_op_ready : mean-op-reads.Pre tt (s, tt)

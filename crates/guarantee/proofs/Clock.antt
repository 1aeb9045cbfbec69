-- The two texts of what a reading is beside the last accepted one; the reading that is remembered is the one that the
-- accepted calls of the list tell; accepted scans come 30 ms apart or more.
use Rattle.std.specs.Prelude.{if◌then◌else◌, None, Ok, Some}
use mathlib.Core.Path.{◌≡◌, refl, sym, ap, ◌∙◌}
use mathlib.Core.Bool.{Bool, true, false, ◌||◌, false≢true}
use mathlib.Core.List.{List}
use mathlib.Core.Option.{Option, some}
use mathlib.Core.Option as option
use Prim.Native.Nat.{ℕ, suc, ◌+◌, ◌-◌, ◌≤◌, ◌<◌}
use native.Mathlib.Omega.{arith}
use lib.Dec.{ltb}
use borrow.Author.Tests.{ltb-true, ltb-false, lt-ltb, le-ltb}
use Rattle.signals.specs.Clock.{is_too_early, is_after_gap, ClockReading}
use Rattle.signals.specs.Refusals.{refused_by, scan_tests}
use Rattle.signals.specs.declared.Input.{Input}
use Rattle.answers.specs.declared.ScanValues.{ScanValues}
use Rattle.outputs.specs.History.{history_before}
use Rattle.outputs.specs.declared.History.TheVariants.{Nothing}
use Rattle.controller.specs.Answers.{Reply, words, reading, acceptance, number, reply_of, Response, Answer}
use Rattle.controller.specs.Restart.{values_in, restart_tests, restart_accepted, restart_core}
use Rattle.controller.specs.Scan as rules
use Rattle.controller.specs.Scan.{earlier_scans, context_of, core_after, status_of, accepted, refused}
use Rattle.controller.specs.Scan.{scan_core, response_from}
use Rattle.controller.specs.State.{fresh_core}
use Rattle.controller.specs.ValidLaws.{by_verdict_lem, passed}
use Rattle.controller.specs.Write.{write_tests, write_accepted, write_core}
use Rattle.controller.specs.WriteLaws.{clock_stays}
use Rattle.controller.specs.declared.Controller.{Controller}
use Rattle.controller.specs.declared.Core.{Core}
use Rattle.controller.specs.declared.ScanResult.{ScanResult}
use Rattle.guarantee.specs.Clock.{too_soon, after_gap, recalled_at, recalled_in}
use Rattle.guarantee.specs.Count.{reading_after, last_reading, LastScan, made, refused_after, written_after, LastScanAt, LastScanFound}
use Rattle.guarantee.specs.Exact.{Call, scan, write, restart, Calls, none, ◌then◌, is_accepted, one_more, outcome_of, exact_after}
use Rattle.guarantee.specs.Exact.{exact, exact_answer}
use Rattle.guarantee.specs.Linked.{ScanEnsures}

-- ---- the two texts

-- two tests that hold together are alike
same_test : (a b c d : ℕ) → (a < b → c < d) → (b ≤ a → d ≤ c) → ltb a b ≡ ltb c d
same_test a b c d f g = go (ltb a b) refl
  where
    go : (t : Bool) → ltb a b ≡ t → ltb a b ≡ ltb c d
    go true e = e ∙ sym (lt-ltb c d (f (ltb-true a b e)))
    go false e = e ∙ sym (le-ltb c d (g (ltb-false a b e)))

pub gap_is : (last : ClockReading) (ms : ℕ) → is_after_gap last ms ≡ after_gap last ms
gap_is None ms = refl
gap_is (Some last) ms = same_test 42 (ms - last) (last + 42) ms (λ h. omega (arith, h)) (λ h. omega (arith, h))

pub soon_is : (last : ClockReading) (ms : ℕ) → is_too_early last ms ≡ too_soon last ms
soon_is None ms = refl
soon_is (Some last) ms = go (ltb ms last) refl
  where
    go : (t : Bool) → ltb ms last ≡ t → (t || ltb (ms - last) 30) ≡ ltb ms (last + 30)
    go true e = sym (lt-ltb ms (last + 30) (omega (arith, ltb-true ms last e)))
    go false e =
        let h = ltb-false ms last e in
        same_test (ms - last) 30 ms (last + 30) (λ k. omega (arith, h, k)) (λ k. omega (arith, h, k))

pub history_is : (c : Core) (i : Input) → earlier_scans c i ≡ recalled_in c i
unfolding earlier_scans history_before recalled_at
history_is c i = ap (λ (t : Bool). if t then Nothing else c.history) (gap_is c.clock i.milliseconds)

-- ---- the reading by the list

step : (c : Core) (x : Call) → let o = outcome_of one_more c x in o.next.clock ≡ reading_after x o.answer c.clock
unfolding outcome_of scan_core write_core write_accepted restart_core restart_accepted refused accepted context_of core_after status_of
    reading_after
step c (scan i) =
    by_verdict_lem (λ o. o.next.clock ≡ reading_after (scan i) o.answer c.clock) (refused_by (scan_tests c.clock i)) c
    (accepted one_more c i) (λ e. refl) (λ n. refl)
step c (write w n v) =
    by_verdict_lem (λ o. o.next.clock ≡ reading_after (write w n v) o.answer c.clock) (refused_by (write_tests c w n v)) c
    (write_accepted c n v) (λ e. clock_stays c n v) (λ m. refl)
step c (restart image) =
    by_verdict_lem (λ o. o.next.clock ≡ reading_after (restart image) o.answer c.clock) (refused_by (restart_tests image)) c
    (restart_accepted c (values_in image)) (λ e. refl) (λ m. refl)

pub reading_after_lem : (word : ℕ) (xs : Calls) → (exact word xs).core.clock ≡ last_reading word xs
unfolding exact exact_after exact_answer last_reading fresh_core
reading_after_lem word none = refl
reading_after_lem word (xs then x) =
    step (exact word xs).core x ∙ ap (λ (last : ClockReading). reading_after x (exact_answer word xs x) last) (reading_after_lem word xs)

-- ---- accepted scans come apart

refused_leaves : (x : Call) (word : ℕ) (xs : Calls) (last : ClockReading) → is_accepted (exact_answer word xs x) ≡ false →
    reading_after x (exact_answer word xs x) last ≡ last
unfolding reading_after
refused_leaves (scan i) word xs last e = rw e refl
refused_leaves (write w n v) word xs last e = refl
refused_leaves (restart image) word xs last e = rw e refl

pub last_scan : {word : ℕ} {i : Input} {xs : Calls} → LastScan word i xs → last_reading word xs ≡ Some i.milliseconds
unfolding last_reading reading_after
last_scan (made e) = rw e refl
last_scan {word} (refused_after {xs} {x} l e) = refused_leaves x word xs (last_reading word xs) e ∙ last_scan l
last_scan (written_after l) = last_scan l

-- a reading is another thing than none
abbrev or_reading : ℕ → ClockReading → ℕ
or_reading other None = other
or_reading other (Some milliseconds) = milliseconds

no_reading : (ms : ℕ) → None ≡ Some ms → ⊥
no_reading ms e = let next : suc ms ≡ ms = ap (or_reading (suc ms)) e in omega (arith, next)

-- a refused call leaves the last scan
still : {word ms : ℕ} {xs : Calls} (x : Call) → LastScanAt word ms xs → is_accepted (exact_answer word xs x) ≡ false →
    LastScanAt word ms (xs then x)
still x earlier a = record { input = earlier.input; last = refused_after earlier.last a; reading = earlier.reading }

module _ (word ms : ℕ) (xs : Calls) (earlier : last_reading word xs ≡ Some ms → LastScanAt word ms xs) where
  found_scan : (i : Input) (t : Bool) → is_accepted (exact_answer word xs (scan i)) ≡ t →
      (if t then Some i.milliseconds else last_reading word xs) ≡ Some ms → LastScanAt word ms (xs then scan i)
  found_scan i true a h = record { input = i; last = made a; reading = ap (or_reading 0) h }
  found_scan i false a h = still (scan i) (earlier h) a

  found_restart : (image : List ℕ) (t : Bool) → is_accepted (exact_answer word xs (restart image)) ≡ t →
      (if t then None else last_reading word xs) ≡ Some ms → LastScanAt word ms (xs then restart image)
  found_restart image true a h = absurd (no_reading ms h)
  found_restart image false a h = still (restart image) (earlier h) a

pub last_scan_found : LastScanFound
unfolding last_reading reading_after
last_scan_found word ms none e = absurd (no_reading ms e)
last_scan_found word ms (xs then scan i) e = found_scan word ms xs (λ h. last_scan_found word ms xs h) i _ refl e
last_scan_found word ms (xs then write w n v) e =
    let earlier = last_scan_found word ms xs e in
    record { input = earlier.input; last = written_after earlier.last; reading = earlier.reading }
last_scan_found word ms (xs then restart image) e = found_restart word ms xs (λ h. last_scan_found word ms xs h) image _ refl e

-- an accepted scan was refused by none of its tests
abbrev refuses : Reply → Bool
refuses (words md ds op electrical mode pv) = false
refuses (reading v) = false
refuses acceptance = false
refuses (number n) = true

pub none_refused : (c : Controller) (j : Input) (r : ScanResult) (v : ScanValues) → ScanEnsures c j r → r.answer ≡ Ok v →
    refused_by (scan_tests c.core.clock j) ≡ option.none
unfolding rules.scan scan_core response_from refused
none_refused c j r v e q = go (refused_by (scan_tests c.core.clock j)) refl
  where
    go : (d : Option ℕ) → refused_by (scan_tests c.core.clock j) ≡ d → refused_by (scan_tests c.core.clock j) ≡ option.none
    go option.none h = h
    go (some n) h =
        let refused_so : refuses (reply_of r.answer) ≡ true = ap (λ (h : Response). refuses h.answer) e.0 ∙ rw h refl in
        absurd (false≢true (sym (ap (λ (a : Answer). refuses (reply_of a)) q) ∙ refused_so))

-- of two readings, the one that isn't too soon after the other
pub apart : (c : Controller) (j : Input) (r : ScanResult) (v : ScanValues) (last : ℕ) → ScanEnsures c j r → r.answer ≡ Ok v →
    c.core.clock ≡ Some last → last + 30 ≤ j.milliseconds
unfolding scan_tests
apart c j r v last e q at =
    let untimely = (passed (scan_tests c.core.clock j) (none_refused c j r v e q)).1.1.1.0 in
    let taken : is_too_early (Some last) j.milliseconds ≡ false = rw at at untimely in
    ltb-false j.milliseconds (last + 30) (sym (soon_is (Some last) j.milliseconds) ∙ taken)

-- "Within a group the lowest number wins.", of the number that a call is refused with, over the contracts of the
-- calls; of a write the order in which document 02 puts 19 and 20 among the others. The tests of each call are the
-- rules' own lists: what is stated here is which of the tests that hold gives the number. A read has one test, that of
-- number 4, so nothing has to be said of it.
use Rattle.std.specs.Prelude.{Bool, List, [], ◌∷◌, ℕ, suc, ◌≤◌, eqb, ℤ, if◌then◌else◌}
use Rattle.std.proofs.Math.Option.{Option, some, none}
use Rattle.signals.specs.RefusalLaws.{Holds, by_number}
use Rattle.signals.specs.Refusals.{scan_tests, Verdict}
use Rattle.signals.specs.declared.Input.{Input}
use Rattle.fields.specs.Fields.{save_tests}
use Rattle.rights.specs.declared.Writer.{Writer}
use Rattle.controller.specs.Answers.{Reply, words, reading, acceptance, number, reply_of, reply_of_verdict}
use Rattle.controller.specs.Restart.{restart_tests}
use Rattle.controller.specs.Write.{write_tests}
use Rattle.controller.specs.declared.CallResult.{CallResult}
use Rattle.controller.specs.declared.Controller.{Controller}
use Rattle.controller.specs.declared.ScanResult.{ScanResult}
use Rattle.guarantee.specs.Linked.{ScanEnsures, WriteEnsures, SaveEnsures, RestartEnsures, Slice, MutSlice, Lifetime}

-- the number that a call is refused with; none where it is accepted
abbrev pub refusal_in : Reply → Option ℕ
refusal_in (words md ds op electrical mode pv) = none
refusal_in (reading v) = none
refusal_in acceptance = none
refusal_in (number n) = some n

-- a call is accepted where none of its tests holds; otherwise it is refused with the number of those that hold which
-- ranks lowest
pub data Lowest (rank : ℕ → ℕ) (tests : List (Bool × ℕ)) : Option ℕ → Type 0 where
  accepted : ((m : ℕ) → Holds m tests → ⊥) → Lowest rank tests none
  refused : {n : ℕ} → Holds n tests → ((m : ℕ) → Holds m tests → rank n ≤ rank m) → Lowest rank tests (some n)

-- the place of a number in an order, counted from 0
unfoldable pub place_in : List ℕ → ℕ → ℕ
place_in [] n = 0
place_in (m ∷ ms) n = if eqb n m then 0 else suc (place_in ms n)

-- the order of a writer's refusals: "19 .. right after 4. 20 .. right after 19, and both before 5.", then by their
-- numbers
abbrev pub write_order : List ℕ
write_order = 4 ∷ 19 ∷ 20 ∷ 5 ∷ 6 ∷ 7 ∷ 8 ∷ 9 ∷ 10 ∷ 11 ∷ []

-- of every scan, write, restart and save that the contract gives a result of, whatever the arguments
pub record RefusalOrder : Type 0 where
  pub scans : (c : Controller) (i : Input) (r : ScanResult) → ScanEnsures c i r →
      Lowest by_number (scan_tests c.core.clock i) (refusal_in (reply_of r.answer))
  pub writes : (c : Controller) (w : Writer) (n : ℕ) (v : ℤ) (r : CallResult) → WriteEnsures c w n v r →
      Lowest (place_in write_order) (write_tests c.core w n v) (refusal_in (reply_of_verdict r.verdict))
  pub restarts : (life : Lifetime) (c : Controller) (image : Slice) (r : CallResult) → RestartEnsures life c image r →
      Lowest by_number (restart_tests image.now) (refusal_in (reply_of_verdict r.verdict))
  pub saves : (life : Lifetime) (c : Controller) (buffer : MutSlice) (r : Verdict) (after : List ℕ) → SaveEnsures life c buffer r after →
      Lowest by_number (save_tests buffer.now) (refusal_in (reply_of_verdict r))

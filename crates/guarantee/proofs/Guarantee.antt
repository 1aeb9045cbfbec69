-- The long guarantee, for every switch word and every list of calls, over the contracts of the calls themselves.
use mathlib.Core.Path.{◌≡◌, sym, ap, subst, ◌∙◌}
use mathlib.Core.List.{List, ◌∷◌}
use mathlib.Core.Option.{Option, some}
use Prim.Native.Nat.{ℕ}
use lib.IntN.{ℤ}
use Rattle.signals.specs.declared.Input.{Input}
use Rattle.modes.specs.Modes.{counted}
use Rattle.modes.specs.declared.Mode.{Mode}
use Rattle.rights.specs.declared.Writer.{Writer}
use Rattle.controller.specs.Answers.{Reply, Response, response_of, reply_of_verdict, response_of_verdict}
use Rattle.controller.specs.Restart as restarts
use Rattle.controller.specs.Scan as rules
use Rattle.controller.specs.Scan.{controller_after, mode_now, Status, Outcome, with_output, response_from}
use Rattle.controller.specs.Write as writes
use Rattle.controller.specs.declared.Controller.{Controller}
use Rattle.controller.specs.declared.Core.{Core}
use Rattle.controller.specs.declared.CallResult.{CallResult}
use Rattle.controller.specs.declared.ScanResult.{ScanResult}
use Rattle.guarantee.specs.Claim.{capped, SameReading, SameAnswer, SameAnswers, no_answer, and_answer}
use Rattle.guarantee.specs.Count.{last_reading}
use Rattle.guarantee.specs.Demand.{Demand3}
use Rattle.guarantee.specs.Exact.{Call, scan, write, restart, Calls, ◌then◌, outcome_of, exact_after, exact, exact_answer}
use Rattle.guarantee.specs.Linked.{ScanEnsures, WriteEnsures, RestartEnsures, Slice, Lifetime, Linked, started, scanned, wrote}
use Rattle.guarantee.specs.Linked.{restarted, AlwaysReady}
use Rattle.guarantee.specs.Modes.{mode_in, is_hold_or_track}
use Rattle.guarantee.proofs.Answers.{outcome_shows, same_answer, same_reading, same_save}
use Rattle.guarantee.proofs.Capped.{capped_outcome, capped_twice, clock_capped, now_capped}
use Rattle.guarantee.proofs.Clock.{reading_after_lem, last_scan, apart}
use Rattle.guarantee.proofs.Earlier.{earlier_after_lem}
use Rattle.guarantee.proofs.Faults.{fault_after_lem}
use Rattle.guarantee.proofs.Limits.{within_after}
use Rattle.guarantee.proofs.Linked.{linked, valid_linked}
use Rattle.guarantee.proofs.Modes.{mode_is_first}
use Rattle.guarantee.proofs.Bound.{near_within}
use Rattle.guarantee.proofs.Ours.{ours, cores, outcomes, switch_word, open_count_after_lem, valid_after, bound_after}
use Rattle.guarantee.proofs.Rights.{pins_after_lem, access_told, unchanged, by_value}

-- ---- the answers

-- what a call returns, in the exact controller's answer and our own output
response_answer : (word : ℕ) (xs : Calls) (x : Call) → let h = response_from (ours word xs) (outcome_of counted (ours word xs).core x) in
    SameAnswer h.next (exact word (xs then x)).core h.answer (exact_answer word xs x)
unfolding response_from controller_after exact_answer exact exact_after ours capped_outcome
response_answer word xs x =
    let o = outcome_of counted (ours word xs).core x in
    let next = (response_from (ours word xs) o).next in
    let now = (exact word (xs then x)).core in
    let answers_are : exact_answer word xs x ≡ o.answer = sym (ap (λ (o : Outcome). o.answer) (outcomes word xs x)) in
    let answer = same_answer next now (exact_answer word xs x) (outcome_shows (exact word xs).core x)
    (valid_after word (xs then x)).stored in
    subst (λ (s : Status). SameAnswer next now (with_output s (ours word xs).core.sw next.output) (exact_answer word xs x)) answers_are
    (subst (λ (sw : ℕ). SameAnswer next now (with_output (exact_answer word xs x) sw next.output) (exact_answer word xs x))
    (switch_word (ours word xs).core x) answer)

-- the contract of a scan, made after these calls, that of a write, and that of a restart
scan_is : {word : ℕ} {xs : Calls} {rs : List Response} {c : Controller} (i : Input) (r : ScanResult) → Linked word xs rs c →
    ScanEnsures c i r →
    response_of r ≡ response_from (ours word xs) (outcome_of counted (ours word xs).core (scan i))
unfolding rules.scan outcome_of
scan_is i r l e = e.0 ∙ ap (λ (k : Controller). rules.scan k i) (linked l)

write_is : {word : ℕ} {xs : Calls} {rs : List Response} {c : Controller} (w : Writer) (n : ℕ) (v : ℤ) (r : CallResult) →
    Linked word xs rs c → WriteEnsures c w n v r →
    response_of_verdict r ≡ response_from (ours word xs) (outcome_of counted (ours word xs).core (write w n v))
unfolding writes.write outcome_of
write_is w n v r l e = e.0 ∙ ap (λ (k : Controller). writes.write k w n v) (linked l)

restart_is : {word : ℕ} {xs : Calls} {rs : List Response} {c : Controller} (life : Lifetime) (image : Slice) (r : CallResult) →
    Linked word xs rs c → RestartEnsures life c image r →
    response_of_verdict r ≡ response_from (ours word xs) (outcome_of counted (ours word xs).core (restart image.now))
unfolding restarts.restart outcome_of
restart_is life image r l e = e.0 ∙ ap (λ (k : Controller). restarts.restart k image.now) (linked l)

-- one answer more
answered : {word : ℕ} {xs : Calls} {rs : List Response} (x : Call) (h : Response) →
    h ≡ response_from (ours word xs) (outcome_of counted (ours word xs).core x) →
    SameAnswers word xs rs → SameAnswers word (xs then x) (h ∷ rs)
answered {word} {xs} x h e earlier =
    and_answer earlier
    (subst (λ (k : Response). SameAnswer k.next (exact word (xs then x)).core k.answer (exact_answer word xs x)) (sym e)
    (response_answer word xs x))

answers : {word : ℕ} {xs : Calls} {rs : List Response} {c : Controller} → Linked word xs rs c → SameAnswers word xs rs
answers (started r e) = no_answer
answers (scanned i r l e) = answered (scan i) (response_of r) (scan_is i r l e) (answers l)
answers (wrote w n v r l e) = answered (write w n v) (response_of_verdict r) (write_is w n v r l e) (answers l)
answers (restarted life image r l e) = answered (restart image.now) (response_of_verdict r) (restart_is life image r l e) (answers l)

-- ---- demand 3

-- the mode in an option, or another one
abbrev the_mode : Option Mode → Mode → Mode
the_mode Option.none other = other
the_mode (some mode) other = mode

pub guarantee : (word : ℕ) (calls : Calls) (rs : List Response) (c : Controller) → Linked word calls rs c → Demand3 word calls rs c
guarantee word calls rs c l =
    let e = linked l in
    let core_is : c.core ≡ capped (exact word calls).core = ap (λ (k : Controller). k.core) e ∙ cores word calls in
    let first : mode_in (exact word calls).core ≡ some (mode_now c.core) =
    mode_is_first (exact word calls).core ∙ ap some (sym (ap mode_now core_is ∙ now_capped (exact word calls).core)) in
    let clock_is : c.core.clock ≡ last_reading word calls =
    ap (λ (k : Core). k.clock) core_is ∙ clock_capped (exact word calls).core ∙ reading_after_lem word calls in
    let here : Option Mode → Mode = λ o. the_mode o (mode_now c.core) in
    record {
      mode_first = first;
      open_scans_counted = open_count_after_lem word calls;
      reading_remembered = reading_after_lem word calls;
      last_reading = λ r h. h ∙ clock_is;
      pins_stored = pins_after_lem word calls;
      without_right = unchanged l;
      with_right = by_value l;
      access_told = access_told l;
      scans_apart = λ i j r v l h q. apart c j r v i.milliseconds h q (clock_is ∙ last_scan l);
      earlier_scans_remembered = earlier_after_lem word calls;
      fault_stands = rw e (fault_after_lem word calls);
      within_limits = λ mode q outside.
          rw e (within_after word calls
          (ap (λ (k : Controller). is_hold_or_track (mode_now k.core)) (sym e) ∙ ap is_hold_or_track (ap here (sym first ∙ q)) ∙ outside));
      same_state = ap capped core_is ∙ capped_twice (exact word calls).core;
      same_answers = answers l;
      same_reads = λ n r h.
          subst (λ (reply : Reply). SameReading c (exact word calls).core n reply) (sym h)
          (same_reading c (exact word calls).core n core_is (rw e (valid_after word calls).stored));
      same_saves =
          λ life buffer r after h. same_save c (exact word calls).core buffer.now (reply_of_verdict r) after core_is
          (rw e (valid_after word calls).stored) h.0 h.1;
      bound = near_within _ _ _ (rw e (bound_after word calls));
    }

-- every call's `requires` holds at every controller that the calls return: it shuts no call out
pub ready : AlwaysReady
ready word calls rs c l =
    record {
      fresh_ready = λ word. tt;
      scan_ready = λ i. tt;
      write_ready = λ w n v. tt;
      access_ready = λ w n. tt;
      restart_ready = λ life image. tt;
      read_ready = λ n. tt;
      last_reading_ready = tt;
      save_ready = λ life buffer. tt;
      valid = valid_linked l;
    }

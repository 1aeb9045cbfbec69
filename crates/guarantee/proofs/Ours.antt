-- Our controller after a list of calls, by the rules, beside the exact one.
use mathlib.Core.Path.{◌≡◌, refl, ap, subst, ◌∙◌}
use Prim.Native.Nat.{ℕ, ◌*◌}
use lib.IntN.{pos}
use Rattle.signals.specs.Refusals.{refused_by, scan_tests}
use Rattle.modes.specs.Modes.{counted, open_count_after, conditions_after}
use Rattle.parameters.specs.Legal.{Legal}
use Rattle.terms.specs.Fraction.{stored_units}
use Rattle.terms.specs.Near.{Near}
use Rattle.terms.specs.NearLaws.{whole_near}
use Rattle.outputs.specs.Outputs.{restart_instruction}
use Rattle.controller.specs.Restart as restarts
use Rattle.controller.specs.Restart.{values_in, restart_tests, restart_accepted, restart_core}
use Rattle.controller.specs.RestartLaws.{valid_restart}
use Rattle.controller.specs.Scan as rules
use Rattle.controller.specs.Scan.{controller_after, earlier_scans, core_after, status_of, Outcome, accepted, refused, scan_core}
use Rattle.controller.specs.Scan.{response_from}
use Rattle.controller.specs.State.{fresh_controller, fresh_core}
use Rattle.controller.specs.Valid.{Valid}
use Rattle.controller.specs.ValidLaws.{by_verdict_lem, valid_fresh, valid_scan}
use Rattle.controller.specs.Write as writes
use Rattle.controller.specs.Write.{write_tests, write_accepted, write_core}
use Rattle.controller.specs.WriteLaws.{sw_stays, open_count_stay, valid_write}
use Rattle.controller.specs.declared.Controller.{Controller}
use Rattle.controller.specs.declared.Core.{Core}
use Rattle.guarantee.specs.Claim.{capped}
use Rattle.guarantee.specs.Count.{open_after, open_scans, automatic_scans}
use Rattle.guarantee.specs.Exact.{Call, scan, write, restart, Calls, none, ◌then◌, one_more, outcome_of, exact_outcome, exact_after}
use Rattle.guarantee.specs.Exact.{exact, exact_answer}
use Rattle.guarantee.proofs.Bound.{Divides, keeps, sets, instruction_sound, executed_near}
use Rattle.guarantee.proofs.Capped.{capped_outcome, outcome_capped}
use Rattle.guarantee.proofs.Counting.{counts}
use Rattle.guarantee.proofs.ExactOutput.{outcome_is}

unfoldable pub ours : ℕ → Calls → Controller
ours word none = fresh_controller word
ours word (xs then x) = (response_from (ours word xs) (outcome_of counted (ours word xs).core x)).next

-- ---- the state

fresh_capped : (word : ℕ) → fresh_core word ≡ capped (fresh_core word)
unfolding fresh_core capped
fresh_capped word = refl

pub cores : (word : ℕ) (xs : Calls) → (ours word xs).core ≡ capped (exact word xs).core
unfolding ours exact exact_after fresh_controller response_from controller_after capped_outcome
cores word none = fresh_capped word
cores word (xs then x) =
    ap (λ (k : Core). (outcome_of counted k x).next) (cores word xs) ∙ ap (λ (o : Outcome). o.next) (outcome_capped (exact word xs).core x)

pub outcomes : (word : ℕ) (xs : Calls) (x : Call) →
    outcome_of counted (ours word xs).core x ≡ capped_outcome (exact_outcome (exact word xs) x)
outcomes word xs x = ap (λ (k : Core). outcome_of counted k x) (cores word xs) ∙ outcome_capped (exact word xs).core x

pub valid_after : (word : ℕ) (xs : Calls) → Valid (ours word xs)
unfolding ours outcome_of rules.scan writes.write restarts.restart
valid_after word none = valid_fresh word
valid_after word (xs then scan i) = valid_scan (ours word xs) i (valid_after word xs)
valid_after word (xs then write w n v) = valid_write (ours word xs) w n v (valid_after word xs)
valid_after word (xs then restart image) = valid_restart (ours word xs) image (valid_after word xs)

-- the switch word stays
pub switch_word : (c : Core) (x : Call) → (outcome_of counted c x).next.sw ≡ c.sw
unfolding outcome_of scan_core write_core write_accepted restart_core restart_accepted refused accepted core_after
switch_word c (scan i) =
    by_verdict_lem (λ o. o.next.sw ≡ c.sw) (refused_by (scan_tests c.clock i)) c (accepted counted c i) (λ e. refl) (λ n. refl)
switch_word c (write w n v) =
    by_verdict_lem (λ o. o.next.sw ≡ c.sw) (refused_by (write_tests c w n v)) c (write_accepted c n v) (λ e. sw_stays c n v) (λ m. refl)
switch_word c (restart image) =
    by_verdict_lem (λ o. o.next.sw ≡ c.sw) (refused_by (restart_tests image)) c (restart_accepted c (values_in image)) (λ e. refl)
    (λ m. refl)

-- ---- the bound

exact_legal : (word : ℕ) (xs : Calls) → Legal (exact word xs).core.parameters
unfolding capped
exact_legal word xs = subst (λ (k : Core). Legal k.parameters) (cores word xs) (valid_after word xs).legal

outcome_sound : (c : Core) (x : Call) → Legal c.parameters → Divides (outcome_of one_more c x).instruction.change
unfolding outcome_of scan_core write_core write_accepted restart_core restart_accepted restart_instruction refused accepted
outcome_sound c (scan i) legal =
    by_verdict_lem (λ o. Divides o.instruction.change) (refused_by (scan_tests c.clock i)) c (accepted one_more c i)
    (λ e. instruction_sound c.parameters _ _ (earlier_scans c i) legal) (λ n. keeps)
outcome_sound c (write w n v) legal =
    by_verdict_lem (λ o. Divides o.instruction.change) (refused_by (write_tests c w n v)) c (write_accepted c n v) (λ e. keeps) (λ m. keeps)
outcome_sound c (restart image) legal =
    by_verdict_lem (λ o. Divides o.instruction.change) (refused_by (restart_tests image)) c (restart_accepted c (values_in image))
    (λ e. sets)
    (λ m. keeps)

pub bound_after : (word : ℕ) (xs : Calls) → Near (ours word xs).output (exact word xs).output (3 * automatic_scans word xs)
unfolding ours exact exact_after exact_answer automatic_scans fresh_controller response_from controller_after stored_units capped_outcome
bound_after word none = whole_near (pos 0) 0
bound_after word (xs then x) =
    rw (outcomes word xs x, counts, outcome_is (exact word xs).core x (exact word xs).output)
    (executed_near (exact_outcome (exact word xs) x).instruction (ours word xs).output (exact word xs).output (automatic_scans word xs)
    (outcome_sound (exact word xs).core x (exact_legal word xs)) (bound_after word xs))

-- ---- the open count

open_counts : (c : Core) (x : Call) → let o = outcome_of one_more c x in
    o.next.conditions.opencount ≡ open_after x o.answer c.conditions.opencount
unfolding outcome_of scan_core write_core write_accepted restart_core restart_accepted refused accepted core_after conditions_after
    open_count_after
    status_of open_after
open_counts c (scan i) =
    by_verdict_lem (λ o. o.next.conditions.opencount ≡ open_after (scan i) o.answer c.conditions.opencount)
    (refused_by (scan_tests c.clock i)) c (accepted one_more c i)
    (λ e. refl) (λ n. refl)
open_counts c (write w n v) =
    by_verdict_lem (λ o. o.next.conditions.opencount ≡ open_after (write w n v) o.answer c.conditions.opencount)
    (refused_by (write_tests c w n v)) c (write_accepted c n v)
    (λ e. open_count_stay c n v) (λ m. refl)
open_counts c (restart image) =
    by_verdict_lem (λ o. o.next.conditions.opencount ≡ open_after (restart image) o.answer c.conditions.opencount)
    (refused_by (restart_tests image)) c (restart_accepted c (values_in image))
    (λ e. refl) (λ m. refl)

pub open_count_after_lem : (word : ℕ) (xs : Calls) → (exact word xs).core.conditions.opencount ≡ open_scans word xs
unfolding exact exact_after exact_answer open_scans fresh_core
open_count_after_lem word none = refl
open_count_after_lem word (xs then x) =
    open_counts (exact word xs).core x ∙ ap (λ (n : ℕ). open_after x (exact_answer word xs x) n) (open_count_after_lem word xs)

-- What the exact controller remembers of earlier scans is what the accepted calls of the list tell.
use Rattle.std.specs.Prelude.{if◌then◌else◌}
use mathlib.Core.Path.{◌≡◌, refl, ap, ◌∙◌}
use Prim.Native.Nat.{ℕ}
use Rattle.signals.specs.Clock.{ClockReading}
use Rattle.signals.specs.Refusals.{refused_by, scan_tests}
use Rattle.signals.specs.Signals.{is_open}
use Rattle.setpoints.specs.declared.Readings.{Readings}
use Rattle.outputs.specs.History.{remembered, history_after}
use Rattle.outputs.specs.declared.History.{History}
use Rattle.outputs.specs.declared.History.TheVariants.{Nothing, One, Two}
use Rattle.controller.specs.Restart.{values_in, restart_tests, restart_accepted, restart_core}
use Rattle.controller.specs.Scan.{earlier_scans, context_of, core_after, status_of, accepted, refused, scan_core}
use Rattle.controller.specs.State.{fresh_core}
use Rattle.controller.specs.ValidLaws.{by_verdict_lem}
use Rattle.controller.specs.Write.{write_tests, write_accepted, write_core}
use Rattle.controller.specs.WriteLaws.{history_stays}
use Rattle.controller.specs.declared.Core.{Core}
use Rattle.guarantee.specs.Clock.{recalled_at}
use Rattle.guarantee.specs.Count.{last_reading, remember, earlier_after, earlier}
use Rattle.guarantee.specs.Exact.{Call, scan, write, restart, Calls, none, ◌then◌, one_more, outcome_of, exact_after, exact, exact_answer}
use Rattle.guarantee.proofs.Clock.{history_is, reading_after_lem}

remembered_is : (h : History) (r : Readings) → remembered h r ≡ remember r.pv r.sp h
remembered_is Nothing r = refl
remembered_is (One pv sp) r = refl
remembered_is (Two pv sp before) r = refl

step : (c : Core) (x : Call) → let o = outcome_of one_more c x in
    o.next.history ≡ earlier_after o.next c.clock x o.answer c.history
unfolding outcome_of scan_core write_core write_accepted restart_core restart_accepted refused accepted context_of core_after history_after
    status_of earlier_after recalled_at
step c (scan i) =
    let r = (accepted one_more c i).next.readings in
    by_verdict_lem (λ o. o.next.history ≡ earlier_after o.next c.clock (scan i) o.answer c.history)
    (refused_by (scan_tests c.clock i)) c (accepted one_more c i)
    (λ e. ap (λ (h : History). if is_open i then Nothing else h)
    (remembered_is (earlier_scans c i) r ∙ ap (λ (h : History). remember r.pv r.sp h) (history_is c i))) (λ n. refl)
step c (write w n v) =
    by_verdict_lem (λ o. o.next.history ≡ earlier_after o.next c.clock (write w n v) o.answer c.history)
    (refused_by (write_tests c w n v)) c (write_accepted c n v)
    (λ e. history_stays c n v) (λ m. refl)
step c (restart image) =
    by_verdict_lem (λ o. o.next.history ≡ earlier_after o.next c.clock (restart image) o.answer c.history)
    (refused_by (restart_tests image)) c (restart_accepted c (values_in image))
    (λ e. refl) (λ m. refl)

pub earlier_after_lem : (word : ℕ) (xs : Calls) → (exact word xs).core.history ≡ earlier word xs
unfolding exact exact_after exact_answer earlier fresh_core
earlier_after_lem word none = refl
earlier_after_lem word (xs then x) =
    step (exact word xs).core x ∙
    ap (λ (last : ClockReading). earlier_after (exact word (xs then x)).core last x (exact_answer word xs x) (exact word xs).core.history)
    (reading_after_lem word xs) ∙
    ap (λ (h : History). earlier_after (exact word (xs then x)).core (last_reading word xs) x (exact_answer word xs x) h)
    (earlier_after_lem word xs)

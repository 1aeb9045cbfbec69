-- n counts what the rules do to the output: it goes to 0 where the instruction sets outright, up by 1
-- where terms are added, and stays elsewhere.
use Rattle.std.specs.Prelude.{if◌then◌else◌}
use mathlib.Core.Path.{◌≡◌, refl, sym, ◌∙◌}
use mathlib.Core.Bool.{Bool, true, false, not, ◌&&◌, ◌||◌}
use mathlib.Core.Option.{some}
use Prim.Native.Nat.{ℕ, ◌+◌}
use native.Mathlib.Omega.{arith}
use lib.Dec.{eqb}
use lib.IntN.{ℤ}
use borrow.Author.Tests.{eqb-true, eqb-false, eq-eqb, ne_eqb}
use Rattle.signals.specs.Refusals.{refused_by, scan_tests}
use Rattle.signals.specs.Signals.{switches_of, is_open, buttons_of, adjustment_of}
use Rattle.signals.specs.declared.Input.{Input}
use Rattle.signals.specs.declared.Adjustment.{Adjustment}
use Rattle.signals.specs.declared.Adjustment.TheVariants.{Raise, Lower, Neither}
use Rattle.modes.specs.Modes.{open_count_after, conditions_after, is_automatic, goes_to_minimum}
use Rattle.modes.specs.declared.Mode.{Mode}
use Rattle.modes.specs.declared.Mode.TheVariants.{Hold, Track, Forced, Manual, Auto, Remote, Ratio, Fallback}
use Rattle.parameters.specs.declared.Parameters.{Parameters}
use Rattle.setpoints.specs.declared.Readings.{Readings}
use Rattle.outputs.specs.Instruction.{Change, keep, set_to, move_by, add_terms}
use Rattle.outputs.specs.Outputs.{adjusted, by_hand, terms_of, by_terms, change_in, minimum_of, instruction_of, restart_instruction}
use Rattle.outputs.specs.declared.History.{History}
use Rattle.outputs.specs.declared.Context.{Context}
use Rattle.controller.specs.Restart.{values_in, restart_tests, restart_accepted, restart_core}
use Rattle.controller.specs.Scan.{mode_now, earlier_scans, context_of, core_after, status_of, accepted, refused, scan_core}
use Rattle.controller.specs.ValidLaws.{by_verdict_lem}
use Rattle.controller.specs.Write.{write_tests, write_accepted, write_core}
use Rattle.controller.specs.declared.Core.{Core}
use Rattle.guarantee.specs.Count.{sets_outright, is_automatic_scan, count_after}
use Rattle.guarantee.specs.Exact.{Call, scan, write, restart, one_more, outcome_of}
use Rattle.guarantee.specs.ExactOutput.{to_minimum}
use Rattle.guarantee.specs.Modes.{mode_in, automatic_mode, track_mode, manual_or_forced}
use Rattle.guarantee.proofs.Modes.{mode_is_first}

abbrev pub change_count : Change → ℕ → ℕ
change_count keep n = n
change_count (set_to u) n = 0
change_count (move_by u) n = n
change_count (add_terms p i d) n = n + 1

-- ---- in each mode

adjustment_counts : (q : Adjustment) (n : ℕ) → n ≡ change_count (adjusted q) n
adjustment_counts Raise n = refl
adjustment_counts Lower n = refl
adjustment_counts Neither n = refl

hand_choice : (t b : Bool) (u : ℤ) (q : Adjustment) (n : ℕ) →
    (if t then 0 else n) ≡ change_count (if t then set_to u else if b then keep else adjusted q) n
hand_choice true b u q n = refl
hand_choice false true u q n = refl
hand_choice false false u q n = adjustment_counts q n

hand_counts : (p : Parameters) (x : Context) (n : ℕ) → (if x.tominimum then 0 else n) ≡ change_count (by_hand p x) n
unfolding by_hand
hand_counts p x n =
    hand_choice x.tominimum (buttons_of x.input.buttons).sp (minimum_of p x.switches)
    (adjustment_of (buttons_of x.input.buttons)) n

term_choice : (t : Bool) (p : Parameters) (x : Context) (r : Readings) (h : History) (n : ℕ) →
    (if not t then n + 1 else n) ≡ change_count (if t then keep else terms_of p x r h) n
unfolding terms_of
term_choice true p x r h n = refl
term_choice false p x r h n = refl

term_counts : (p : Parameters) (x : Context) (r : Readings) (h : History) (n : ℕ) →
    (if not (is_open x.input) then n + 1 else n) ≡ change_count (by_terms p x r h) n
unfolding by_terms
term_counts p x r h n = term_choice (is_open x.input) p x r h n

counts_in_lem : (m : Mode) (p : Parameters) (x : Context) (r : Readings) (h : History) (n : ℕ) →
    (if track_mode (some m) || manual_or_forced (some m) && x.tominimum then 0 else
    if automatic_mode (some m) && not (is_open x.input) then n + 1 else n)
    ≡ change_count (change_in m p x r h) n
counts_in_lem Hold p x r h n = refl
counts_in_lem Track p x r h n = refl
counts_in_lem Forced p x r h n = hand_counts p x n
counts_in_lem Manual p x r h n = hand_counts p x n
counts_in_lem Auto p x r h n = term_counts p x r h n
counts_in_lem Remote p x r h n = term_counts p x r h n
counts_in_lem Ratio p x r h n = term_counts p x r h n
counts_in_lem Fallback p x r h n = term_counts p x r h n

-- ---- the minimum, as the rules and as the claim tell it

pub automatic_is : (m : Mode) → automatic_mode (some m) ≡ is_automatic m
automatic_is Hold = refl
automatic_is Track = refl
automatic_is Forced = refl
automatic_is Manual = refl
automatic_is Auto = refl
automatic_is Remote = refl
automatic_is Ratio = refl
automatic_is Fallback = refl

last_is : (isopen : Bool) (n : ℕ) → eqb (open_count_after one_more isopen n) 85 ≡ isopen && eqb n 84
unfolding open_count_after
last_is true n = go (eqb n 84) refl
  where
    go : (b : Bool) → eqb n 84 ≡ b → eqb (n + 1) 85 ≡ eqb n 84
    go true e = let h = eqb-true n 84 e in eq-eqb (n + 1) 85 (omega arith) ∙ sym e
    go false e = let h = eqb-false n 84 e in ne_eqb (n + 1) 85 (λ q. h (omega arith)) ∙ sym e
last_is false n = refl

module _ (c : Core) (i : Input) where
  unfoldable pub next : Core
  next = (accepted one_more c i).next

  pub mode_next : mode_in next ≡ some (context_of c (conditions_after one_more c.conditions i) i).mode
  unfolding next accepted core_after context_of mode_now
  mode_next = mode_is_first next

  pub minimum_is : to_minimum c next ≡ (context_of c (conditions_after one_more c.conditions i) i).tominimum
  unfolding to_minimum next accepted core_after context_of conditions_after goes_to_minimum switches_of mode_now
  minimum_is = rw (mode_is_first c, automatic_is, last_is) refl

  accepted_counts : (n : ℕ) → count_after c next (scan i) (status_of next) n ≡ change_count (accepted one_more c i).instruction.change n
  unfolding count_after sets_outright is_automatic_scan status_of accepted instruction_of conditions_after context_of
  accepted_counts n =
      let x = context_of c (conditions_after one_more c.conditions i) i in
      rw (mode_next, minimum_is) (counts_in_lem x.mode c.parameters x _ (earlier_scans c i) n)

pub counts : (c : Core) (x : Call) (n : ℕ) → let o = outcome_of one_more c x in
    count_after c o.next x o.answer n ≡ change_count o.instruction.change n
unfolding outcome_of scan_core write_core write_accepted restart_core restart_accepted restart_instruction refused count_after sets_outright
    is_automatic_scan next accepted
counts c (scan i) n =
    by_verdict_lem (λ o. count_after c o.next (scan i) o.answer n ≡ change_count o.instruction.change n)
    (refused_by (scan_tests c.clock i)) c (accepted one_more c i)
    (λ e. accepted_counts c i n) (λ k. refl)
counts c (write w number v) n =
    by_verdict_lem (λ o. count_after c o.next (write w number v) o.answer n ≡ change_count o.instruction.change n)
    (refused_by (write_tests c w number v)) c (write_accepted c number v)
    (λ e. refl) (λ k. refl)
counts c (restart image) n =
    by_verdict_lem (λ o. count_after c o.next (restart image) o.answer n ≡ change_count o.instruction.change n)
    (refused_by (restart_tests image)) c
    (restart_accepted c (values_in image)) (λ e. refl) (λ k. refl)

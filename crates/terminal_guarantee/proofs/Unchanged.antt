-- A parameter that is written with the value that it has leaves everything as it was.
use Rattle.std.specs.Prelude.{if◌then◌else◌}
use mathlib.Core.Path.{◌≡◌, refl, sym, ap, subst, ◌∙◌}
use mathlib.Core.Bool.{Bool, true, false, ◌&&◌, ◌||◌}
use mathlib.Core.List.{List, [], ◌∷◌}
use mathlib.Core.Option.{Option, some, none}
use Prim.Native.Nat.{ℕ, ◌≤◌}
use native.Mathlib.Omega.{arith}
use lib.Dec.{eqb}
use lib.IntN.{ℤ, pos}
use lib.ListN.{set}
use lib.Seq.{set-get_or}
use lib.Signed.{◌≤ℤ◌}
use borrow.Author.Tests.{ne_eqb}
use Rattle.integers.specs.Choice.{by_cases, both}
use Rattle.integers.specs.Limit.{limited_same}
use Rattle.signals.specs.Refusals.{refused_by}
use Rattle.modes.specs.declared.Mode.{Mode}
use Rattle.modes.specs.declared.Mode.TheVariants.{Hold, Track, Forced, Manual, Auto, Remote, Ratio, Fallback}
use Rattle.parameters.specs.Legal.{Legal, in_range}
use Rattle.parameters.specs.LegalLaws.{ranges}
use Rattle.parameters.specs.Table.{value, with_value, rule_of, is_from}
use Rattle.parameters.specs.Written.{limited_anew, written}
use Rattle.parameters.specs.declared.Parameters.{Parameters}
use Rattle.rights.specs.declared.Writer.{Writer}
use Rattle.controller.specs.Answers.{Response}
use Rattle.controller.specs.Scan.{mode_now, controller_after, response_from}
use Rattle.controller.specs.Valid.{Valid}
use Rattle.controller.specs.Write.{setpoint_tests, state_tests, value_tests, write_tests, core_with, parameter_written, core_written}
use Rattle.controller.specs.Write.{write_accepted, write_core, write}
use Rattle.controller.specs.declared.Controller.{Controller}
use Rattle.controller.specs.declared.Core.{Core}
use Rattle.guarantee.specs.Claim.{WithinLimits}
use Rattle.guarantee.specs.Modes.{mode_in, is_hold_or_track, automatic_mode, manual_or_forced}
use Rattle.guarantee.specs.Rights.{has_right}
use Rattle.guarantee.proofs.Existence.{write_exists}
use Rattle.guarantee.proofs.Modes.{mode_is_first}
use Rattle.promises.specs.RefusalCauses.{setpoint_refused}
use Rattle.promises.specs.Writes.{expected_output}
use Rattle.guarantee.proofs.Rights.{access_tests_lem}
use Rattle.promises.proofs.RefusalCauses.{setpoint_refused_is, right_passes, write_tests_lem}
use Rattle.promises.proofs.Writes.{write_effects}
use Rattle.terminal_guarantee.proofs.Forms.{apart}

-- ---- the parameters

with_same : (p : Parameters) (n : ℕ) (v : ℤ) → v ≡ value p n → with_value p n v ≡ p
unfolding with_value value
with_same p n v e = ap (λ (l : List ℤ). record { values = l }) (ap (set p.values n) e ∙ set-get_or p.values n (pos 0))

anew_same : (p : Parameters) (n low high : ℕ) → value p low ≤ℤ value p n → value p n ≤ℤ value p high → limited_anew p n low high ≡ p
unfolding limited_anew
anew_same p n low high h k = with_same p n _ (limited_same (value p low) (value p high) (value p n) h k)

written_same : (p : Parameters) (n : ℕ) → Legal p → written p n (value p n) ≡ p
unfolding written
written_same p n legal =
    let r = ranges p legal in
    let same : with_value p n (value p n) ≡ p = with_same p n (value p n) refl in
    by_cases (λ (q : Parameters). q ≡ p) (is_from n 9 10) _ _
    (λ e. ap (λ (q : Parameters). limited_anew q 20 10 9) same ∙ anew_same p 20 10 9 r.setpoint.not_below r.setpoint.not_above)
    (λ e. by_cases (λ (q : Parameters). q ≡ p) (is_from n 7 8) _ _
    (λ d. ap (λ (q : Parameters). limited_anew q 21 8 7) same ∙ anew_same p 21 8 7 r.ratio.not_below r.ratio.not_above)
    (λ d. same))

-- ---- the whole state

module _ (c : Controller) (n : ℕ) (least : 1 ≤ n) (most : n ≤ 23) (valid : Valid c) where
  abbrev pub present : ℤ
  present = value c.core.parameters n

  core_same : core_written c.core n present ≡ c.core
  unfolding core_written parameter_written core_with
  core_same =
      rw (ne_eqb n 24 (λ q. omega arith), ne_eqb n 25 (λ q. omega arith))
      (ap (λ (p : Parameters). core_with c.core p c.core.conditions c.core.userbits)
      (written_same c.core.parameters n valid.legal))

  -- ---- its refusals, by one who may write it

  -- the row of a legal value refuses it for nothing; SL's own test is left
  value_tests_are : refused_by (value_tests c.core n present) ≡
      (if eqb n 20 then (if setpoint_refused c.core then some 8 else none) else none)
  unfolding value_tests state_tests setpoint_tests refused_by
  value_tests_are =
      let kept = both (in_range (rule_of n) (value c.core.parameters) _) _ (valid.legal.rules n least most) in
      rw (kept.0, kept.1, ne_eqb n 24 (λ q. omega arith), setpoint_refused_is c.core)
      (go (eqb n 20) (setpoint_refused c.core))
    where
      go : (s t : Bool) → refused_by (if s then (t, 8) ∷ [] else []) ≡ (if s then (if t then some 8 else none) else none)
      go true true = refl
      go true false = refl
      go false t = refl

  pub tests_are : (w : Writer) → has_right c.core.conditions.pins w n ≡ true →
      refused_by (write_tests c.core w n present) ≡
      (if eqb n 20 then (if setpoint_refused c.core then some 8 else none) else none)
  unfolding write_tests
  tests_are w right =
      access_tests_lem c.core w n (value_tests c.core n present) ∙
      right_passes c.core.conditions.pins w n _ right least (omega arith) ∙ value_tests_are

  -- ---- accepted

  module _ (who : Writer) (accepted : refused_by (write_tests c.core who n present) ≡ none)
      (within : (mode : Mode) → mode_in c.core ≡ some mode → is_hold_or_track mode ≡ false → WithinLimits c) where
    next_core : (write c who n present).next.core ≡ c.core
    unfolding write write_core response_from controller_after write_accepted
    next_core = rw accepted core_same

    -- HO and LO limit an output that lies within them
    output_same : expected_output c c.core n ≡ c.output
    unfolding expected_output
    output_same =
        by_cases (λ (o : ℤ). o ≡ c.output)
        ((eqb n 15 || eqb n 16) && (manual_or_forced (mode_in c.core) || automatic_mode (mode_in c.core))) _ _
        (λ e.
        let mode = mode_now c.core in
        let is = mode_is_first c.core in
        let grouped = (both (eqb n 15 || eqb n 16) _ e).1 in
        let w = within mode is (not_held mode (subst (λ (m : Option Mode). (manual_or_forced m || automatic_mode m) ≡ true) is grouped)) in
        limited_same _ _ c.output w.least w.most)
        (λ e. refl)
      where
        not_held : (m : Mode) → (manual_or_forced (some m) || automatic_mode (some m)) ≡ true → is_hold_or_track m ≡ false
        not_held Hold e = let z : ◌≡◌ {A = ℕ} 0 1 = cc in apart z
        not_held Track e = let z : ◌≡◌ {A = ℕ} 0 1 = cc in apart z
        not_held Forced e = refl
        not_held Manual e = refl
        not_held Auto e = refl
        not_held Remote e = refl
        not_held Ratio e = refl
        not_held Fallback e = refl

    next_output : (write c who n present).next.output ≡ c.output
    next_output =
        let w = write_exists c who n present valid in
        let next = ap (λ (h : Response). h.next) w.described.0 in
        let passes = sym (write_tests_lem c.core who n present) ∙ accepted in
        let output = (write_effects c who n present w.result valid w.described passes).1 in
        let core_is = ap (λ (k : Controller). k.core) next ∙ next_core in
        sym (ap (λ (k : Controller). k.output) next) ∙ output ∙ ap (λ (k : Core). expected_output c k n) core_is ∙ output_same

    pub unchanged : (write c who n present).next ≡ c
    unchanged =
        ap (λ (k : Core). record { core = k; output = (write c who n present).next.output }) next_core ∙
        ap (λ (o : ℤ). record { core = c.core; output = o }) next_output

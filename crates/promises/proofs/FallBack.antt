-- A scan in Fall-back straight after one in Remote has its SP.
use Rattle.std.specs.Prelude.{if◌then◌else◌, Err, Ok}
use mathlib.Core.Path.{◌≡◌, refl, sym, ap, subst, ◌∙◌}
use mathlib.Core.Bool.{Bool, true, false, not, ◌&&◌}
use mathlib.Core.List.{List, [], ◌∷◌}
use mathlib.Core.Option.{Option, some, none}
use Prim.Native.Nat.{ℕ}
use native.Mathlib.Omega.{arith}
use lib.IntN.{ℤ, pos, ◌+ℤ◌, ◌-ℤ◌}
use lib.Signed.{◌≤ℤ◌}
use Rattle.integers.specs.Choice.{never}
use Rattle.integers.specs.Limit.{limited}
use Rattle.integers.specs.Operations.{sum, difference}
use Rattle.integers.specs.Parts.{integers}
use Rattle.signals.specs.Bits.{bit}
use Rattle.signals.specs.declared.Input.{Input}
use Rattle.modes.specs.declared.Mode.{Mode}
use Rattle.modes.specs.declared.Mode.TheVariants.{Remote, Fallback}
use Rattle.modes.specs.declared.Request.TheVariants as request
use Rattle.answers.specs.declared.ScanValues.{ScanValues}
use Rattle.words.specs.declared.UserBits.{UserBits}
use Rattle.parameters.specs.LegalLaws.{Inside, ranges}
use Rattle.parameters.specs.Table.{value}
use Rattle.local_setpoint.specs.LocalSetpointLaws.{setpoint_limited}
use Rattle.controller.specs.Answers.{Reply, words, reading, acceptance, number, reply_of, reply_of_read, Answer, ReadAnswer}
use Rattle.controller.specs.Valid.{Valid}
use Rattle.controller.specs.declared.Controller.{Controller}
use Rattle.controller.specs.declared.Core.{Core}
use Rattle.controller.specs.declared.ScanResult.{ScanResult}
use Rattle.guarantee.specs.Claim.{capped}
use Rattle.guarantee.specs.Linked.{scanned}
use Rattle.guarantee.specs.Modes.{same_request, condition, first, priority, mode_in, track_mode}
use Rattle.guarantee.proofs.Guarantee.{guarantee, ready}
use Rattle.guarantee.proofs.Shared.{limited_values}
use Rattle.promises.specs.FallBack.{ScannedIn, FallsBack, SetpointStays}
use Rattle.promises.specs.RefusalCauses.{scan_refusal}
use Rattle.promises.specs.Refusals.{refusal_in}
use Rattle.promises.specs.Scans.{Scaled, moved, expected_setpoint, Trim, ScanEffect}
use Rattle.promises.proofs.ReadValues.{read_replies}
use Rattle.promises.proofs.RefusalCauses.{scan_refusals}
use Rattle.promises.proofs.Scans.{same_values, scan_effects}
use Rattle.promises.proofs.Setpoints.{one_scaling, same_mode}

-- ---- in Remote S2.1 is OFF

by_first : (present : Mode → Bool) (x m : Mode) (o : Option Mode) → (o ≡ some m → present m ≡ true) → (b : Bool) → present x ≡ b →
    (if b then some x else o) ≡ some m → present m ≡ true
by_first present x m o rest true p e = subst (λ (k : Mode). present k ≡ true) (same_mode x m e) p
by_first present x m o rest false p e = rest e

is_some : Option Mode → Bool
is_some none = false
is_some (some m) = true

-- the condition of the first mode is present
first_present : (present : Mode → Bool) (ms : List Mode) (m : Mode) → first present ms ≡ some m → present m ≡ true
unfolding first is_some
first_present present [] m e = never (ap is_some e)
first_present present (x ∷ ms) m e = by_first present x m (first present ms) (first_present present ms m) (present x) refl e

last_off : (a b s : Bool) → (a && b && not s) ≡ true → s ≡ false
last_off a b false e = refl
last_off true true true e = never e
last_off true false true e = never e
last_off false b true e = never e

ratio_off : (c : Core) → mode_in c ≡ some Remote → bit c.sw 15 ≡ false
unfolding condition
ratio_off c e =
    last_off (same_request request.Remote c.conditions.request) (bit c.conditions.pins 5) (bit c.sw 15)
    (first_present (condition c) priority Remote e)

-- ---- what an accepted scan leaves, in the mode that its answer carries

record Effective (mode : Mode) (d : Controller) (i : Input) (r : ScanResult) : Type 0 where
  effect : ScanEffect d.core r.controller.core i
  mode_now_lem : mode_in r.controller.core ≡ some mode

effective : (mode : Mode) (d : Controller) (i : Input) (r : ScanResult) → Valid d → ScannedIn mode d i r → Effective mode d i r
effective mode d i r valid h =
    let passes : scan_refusal d.core.clock i ≡ none =
    sym (scan_refusals d i r h.made) ∙ ap (λ (a : Answer). refusal_in (reply_of a)) h.accepted in
    let all = scan_effects d i r valid h.made passes in
    let same = same_values all.1.values h.values (sym all.1.accepted ∙ h.accepted) in
    record {
      effect = all.0;
      mode_now_lem = all.1.mode_first ∙ ap (λ (v : ScanValues). some v.mode) same ∙ ap some h.in_mode_lem;
    }

-- ---- neither Raise nor Lower: SL isn't moved

not_moved : (buttons : ℕ) (step low high v : ℤ) → bit buttons 6 ≡ false → bit buttons 7 ≡ false → moved buttons step low high v ≡ v
not_moved buttons step low high v no_raise no_lower = rw (no_raise, no_lower) (go (bit buttons 3))
  where
    go : (sp : Bool) →
        (if sp && false then limited low high (v +ℤ step) else if sp && false then limited low high (v -ℤ step) else v) ≡ v
    go true = refl
    go false = refl

-- ---- the trim is taken off and added again

back_again : (sp trim : ℤ) → (sp -ℤ trim) +ℤ trim ≡ sp
back_again sp trim = omega (arith, integers, difference sp trim, sum (sp -ℤ trim) trim)

-- ---- the two scans

-- outside Track
trim_in : (before now : Core) (i : Input) (channel3 trim : ℤ) (mode : Mode) → Trim before now i channel3 trim → mode_in now ≡ some mode →
    track_mode (some mode) ≡ false → trim ≡ (if before.userbits.measuredpower then pos 0 else channel3)
trim_in before now i channel3 trim mode h e outside = h.trim_is ∙ rw (e, outside) refl

scaled_at : {low low' high high' : ℤ} {sample : ℕ} {x : ℤ} → low ≡ low' → high ≡ high' → Scaled low high sample x →
    Scaled low' high' sample x
scaled_at {low} {low'} {high} {high'} {sample} {x} a b h =
    subst (λ (k : ℤ). Scaled k high' sample x) a (subst (λ (k : ℤ). Scaled low k sample x) b h)

module _ (d : Controller) (i j : Input) (r q : ScanResult) (trim : ℤ) (valid : Valid d) (next : Valid r.controller)
    (h : FallsBack d i j r q trim) where
  one : Effective Remote d i r
  one = effective Remote d i r valid h.remote

  two : Effective Fallback r.controller j q
  two = effective Fallback r.controller j q next h.fall_back

  low : ℤ
  low = value d.core.parameters 10

  high : ℤ
  high = value d.core.parameters 9

  sp : ℤ
  sp = r.controller.core.readings.sp

  order : low ≤ℤ high
  unfolding low high
  order = (ranges d.core.parameters valid.legal).setpoints.order

  -- the trim of both scans is the same
  expected : ℤ → ℤ
  expected channel3 = if d.core.userbits.measuredpower then pos 0 else channel3

  trim_is : trim ≡ expected h.channel3
  unfolding expected
  trim_is = trim_in _ _ i _ trim Remote h.trim_of one.mode_now_lem refl

  trim_first : one.effect.trim ≡ trim
  unfolding expected
  trim_first =
      trim_in _ _ i _ _ Remote one.effect.trim_of one.mode_now_lem refl ∙
      ap expected (one_scaling _ _ _ _ _ one.effect.trim_of.channel3_scaled h.trim_of.channel3_scaled) ∙ sym trim_is

  -- the first scan has left the ends of channel 3
  scaled_again : Scaled (value d.core.parameters 6) (value d.core.parameters 5) j.sample3 two.effect.channel3
  scaled_again =
      scaled_at (one.effect.others 6 (λ e. omega arith) (λ e. omega arith)) (one.effect.others 5 (λ e. omega arith) (λ e. omega arith))
      two.effect.trim_of.channel3_scaled

  trim_second : two.effect.trim ≡ trim
  unfolding expected
  trim_second =
      trim_in _ _ j _ _ Fallback two.effect.trim_of two.mode_now_lem refl ∙
      ap (λ (u : UserBits). if u.measuredpower then pos 0 else two.effect.channel3) one.effect.userbits ∙
      ap expected (one_scaling _ _ _ _ _ scaled_again h.same_channel3) ∙ sym trim_is

  -- SL is SP less the trim after the first scan, and after the second
  less_trim : value r.controller.core.parameters 20 ≡ sp -ℤ trim
  unfolding low high sp
  less_trim =
      one.effect.setpoint_remote one.mode_now_lem ∙
      rw trim_first ((limited_values low high (sp -ℤ trim) order).within h.not_below h.not_above)

  not_moved_now : value q.controller.core.parameters 20 ≡ value r.controller.core.parameters 20
  unfolding expected_setpoint
  not_moved_now =
      two.effect.setpoint_moved_lem (rw two.mode_now_lem refl) ∙
      rw two.mode_now_lem (not_moved j.buttons _ _ _ _ h.no_raise h.no_lower)

  switch_off : bit q.controller.core.sw 15 ≡ false
  switch_off = ap (λ (w : ℕ). bit w 15) two.effect.sw ∙ ratio_off r.controller.core one.mode_now_lem

  inside : Inside low sp high
  unfolding low high sp
  inside = rw (one.effect.sp_remote one.mode_now_lem) (setpoint_limited d.core.parameters valid.legal _)

  stays : q.controller.core.readings.sp ≡ r.controller.core.readings.sp
  unfolding low high sp
  stays =
      two.effect.sp_local (rw two.mode_now_lem refl) ∙
      rw (
        one.effect.others 10 (λ e. omega arith) (λ e. omega arith),
        one.effect.others 9 (λ e. omega arith) (λ e. omega arith),
        not_moved_now,
        less_trim,
        switch_off,
        trim_second,
        back_again sp trim,
      )
      ((limited_values low high sp order).within inside.not_below inside.not_above)

-- ---- what a read answers, and the exact controller

reading_in : ℤ → Reply → ℤ
reading_in other (reading v) = v
reading_in other (words md ds op electrical mode pv) = other
reading_in other acceptance = other
reading_in other (number n) = other

is_reading : Reply → Bool
is_reading (reading v) = true
is_reading (words md ds op electrical mode pv) = false
is_reading acceptance = false
is_reading (number n) = false

answer_read : (a : ReadAnswer) (v : ℤ) → reply_of_read a ≡ reading v → a ≡ Ok v
unfolding reading_in is_reading
answer_read (Ok w) v e = ap (λ (s : Reply). Ok (reading_in w s)) e
answer_read (Err refusal) v e = never (ap is_reading e)

sp_same : (c exactly : Core) → capped c ≡ capped exactly → c.readings.sp ≡ exactly.readings.sp
unfolding capped
sp_same c exactly e = ap (λ (k : Core). k.readings.sp) e

pub setpoint_stays : SetpointStays
setpoint_stays word calls rs d i j r q trim k h =
    let first = scanned i r k h.remote.made in
    let next = (ready word _ _ r.controller first).valid in
    let second = scanned j q first h.fall_back.made in
    let last = (ready word _ _ q.controller second).valid in
    let same = stays d i j r q trim (ready word calls rs d k).valid next h in
    record {
      same = same;
      read_first = λ a e. answer_read a _ ((read_replies r.controller 29 a next e).sp_read refl);
      read_second = λ a e. answer_read a _ ((read_replies q.controller 29 a last e).sp_read refl ∙ ap reading same);
      exact_first = sym (sp_same r.controller.core _ (guarantee word _ _ r.controller first).same_state);
      exact_second =
          sym (sp_same q.controller.core _ (guarantee word _ _ q.controller second).same_state) ∙ same;
    }

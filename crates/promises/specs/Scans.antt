-- Document 01, One scan: what an accepted scan answers and leaves, sentence by sentence, told by the bits of the
-- input, the numbers of parameters and the mode that the conditions give. Quotients are told by how near they are.
-- The stored output is told by StoredOutputs.antt, and what is remembered by the list (guarantee). Shared with the
-- rules are the types of the state, the bits of a word, the value of a parameter, and `limited`.
use Rattle.std.specs.Prelude.{◌≡◌, true, false, not, ◌&&◌, ◌||◌, ℕ, ◌+◌, ◌*◌, ◌%◌, ◌≤◌, ◌<◌, min, leb, ℤ, pos, neg_ℤ, nat_abs, ◌+ℤ◌, ◌-ℤ◌}
use Rattle.std.specs.Prelude.{◌*ℤ◌, if◌then◌else◌, Ok, Some}
use Rattle.std.proofs.Math.Option.{some, none}
use Rattle.std.specs.Int.Signed.{lt_z}
use Rattle.integers.specs.Limit.{limited}
use Rattle.signals.specs.Bits.{bit}
use Rattle.signals.specs.declared.Input.{Input}
use Rattle.modes.specs.declared.Mode.TheVariants.{Remote, Ratio}
use Rattle.modes.specs.declared.Request.TheVariants as request
use Rattle.parameters.specs.Table.{value}
use Rattle.answers.specs.declared.ScanValues.{ScanValues}
use Rattle.controller.specs.Answers.{Answer}
use Rattle.controller.specs.Valid.{Valid}
use Rattle.controller.specs.declared.Controller.{Controller}
use Rattle.controller.specs.declared.Core.{Core}
use Rattle.controller.specs.declared.ScanResult.{ScanResult}
use Rattle.guarantee.specs.Claim.{OwnOutput}
use Rattle.guarantee.specs.Linked.{ScanEnsures}
use Rattle.guarantee.specs.Modes.{mode_in, automatic_mode, track_mode}
use Rattle.promises.specs.RefusalCauses.{scan_refusal}
use Rattle.promises.specs.Words.{ShowsMD, ShowsDS, remote_or_ratio, ratio_mode}

-- ---- quotients

-- "the quotient nearest, halves up": off by at most one half, and at a half the greater neighbour
pub record NearestUp (numerator divisor quotient : ℕ) : Type 0 where
  pub not_above : 2 * (quotient * divisor) ≤ 2 * numerator + divisor
  pub below_next : 2 * numerator < 2 * (quotient * divisor) + divisor

-- step 1: "Scaling is L + sample × (H - L) / 10000, the quotient nearest, halves up."; H lies above L
pub record Scaled (low high : ℤ) (sample : ℕ) (x : ℤ) : Type 0 where
  pub quotient : ℕ
  pub nearest : NearestUp (sample * nat_abs (high -ℤ low)) 10000 quotient
  pub above : x ≡ low +ℤ pos quotient

-- that is one number and no other
abbrev pub OneScaling : Type 0
OneScaling = (low high : ℤ) (sample : ℕ) (x y : ℤ) → Scaled low high sample x → Scaled low high sample y → x ≡ y

-- step 1: "the greatest whole r with r × r ≤ 10000 × s"
pub record RootOf (s r : ℕ) : Type 0 where
  pub fits : r * r ≤ 10000 * s
  pub greatest : 10000 * s < (r + 1) * (r + 1)

-- step 5: "the quotient is nearest"; document 02, request 5: "at an exact half, to the even neighbour": off by at most
-- one half, and where it is off by a half, even
pub record NearestEven (numerator : ℤ) (divisor : ℕ) (quotient : ℤ) : Type 0 where
  pub near : 2 * nat_abs (quotient *ℤ pos divisor -ℤ numerator) ≤ divisor
  pub even : 2 * nat_abs (quotient *ℤ pos divisor -ℤ numerator) ≡ divisor → nat_abs quotient % 2 ≡ 0

-- that is one number and no other
abbrev pub OneQuotient : Type 0
OneQuotient =
    (numerator : ℤ) (divisor : ℕ) (a b : ℤ) → 0 < divisor → NearestEven numerator divisor a → NearestEven numerator divisor b → a ≡ b

-- ---- step 4, the setpoint moved by hand

-- "Raise and Lower together do nothing. With SP held, one of them moves .. by .., the result then limited to": button
-- bits 6, 7 and 3
abbrev pub moved : ℕ → ℤ → ℤ → ℤ → ℤ → ℤ
moved buttons step low high v =
    if bit buttons 3 && (bit buttons 6 && not (bit buttons 7)) then limited low high (v +ℤ step) else
    if bit buttons 3 && (bit buttons 7 && not (bit buttons 6)) then limited low high (v -ℤ step) else v

-- "moves RS by 12 in Ratio": RS is parameter 21, LR 8 and HR 7
unfoldable pub expected_ratio : Core → Core → Input → ℤ
expected_ratio before now i =
    let v = value before.parameters in
    if ratio_mode (mode_in now) then moved i.buttons (pos 12) (v 8) (v 7) (v 21) else v 21

-- "else SL by 1, .. limited to .. LS..HS; not in Remote. With S2.6 ON in a non-automatic mode SL isn't moved; if
-- channel 1 isn't open it becomes PV, limited to LS..HS.": SL is parameter 20, LS 10 and HS 9; S2.6 is SW bit 10;
-- sensor bit 0 says that channel 1 is open. In Remote and Ratio it is step 5's
unfoldable pub expected_setpoint : Core → Core → Input → ℤ
expected_setpoint before now i =
    let v = value before.parameters in
    let mode = mode_in now in
    if not (automatic_mode mode) && bit now.sw 10
    then (if bit i.sensors 0 then v 20 else limited (v 10) (v 9) now.readings.pv)
    else moved i.buttons (pos 1) (v 10) (v 9) (v 20)

-- ---- the scan: made in the state `before`, it left the state `now`

-- step 5: "Trim is scaled channel 3, or 0 in Track or with MD bit 4 set.": 3H is parameter 5, 3L 6
pub record Trim (before now : Core) (i : Input) (channel3 trim : ℤ) : Type 0 where
  pub channel3_scaled : Scaled (value before.parameters 6) (value before.parameters 5) i.sample3 channel3
  pub trim_is : trim ≡ (if track_mode (mode_in now) || before.userbits.measuredpower then pos 0 else channel3)

pub record ScanEffect (before now : Core) (i : Input) : Type 0 where
  -- step 1: 1H is parameter 1, 1L 2, IC 23
  pub pv_open : bit i.sensors 0 ≡ true → now.readings.pv ≡ value before.parameters 2
  pub pv_linear : bit i.sensors 0 ≡ false → value before.parameters 23 ≡ pos 0 →
      Scaled (value before.parameters 2) (value before.parameters 1) i.sample1 now.readings.pv
  pub root : ℕ
  pub root_is : RootOf i.sample1 root
  pub pv_root : bit i.sensors 0 ≡ false → value before.parameters 23 ≡ pos 1 →
      Scaled (value before.parameters 2) (value before.parameters 1) root now.readings.pv
  -- step 2: "With a cause the request becomes Manual in any mode. Otherwise the first pressed of M, A, R sets the
  -- request."
  pub request : now.conditions.request ≡
      (if now.conditions.fault || leb 85 now.conditions.opencount then request.Manual else
      if bit i.buttons 0 then request.Manual else
      if bit i.buttons 1 then request.Auto else
      if bit i.buttons 2 then request.Remote else before.conditions.request)
  pub opencount : now.conditions.opencount ≡ (if bit i.sensors 0 then min 85 (before.conditions.opencount + 1) else 0)
  -- step 4
  pub ratio_moved : value now.parameters 21 ≡ expected_ratio before now i
  pub setpoint_moved_lem : remote_or_ratio (mode_in now) ≡ false → value now.parameters 20 ≡ expected_setpoint before now i
  -- step 5; "MP is scaled channel 3 if MD bit 4 is set, else 0."
  pub channel3 : ℤ
  pub trim : ℤ
  pub trim_of : Trim before now i channel3 trim
  pub mp_is : now.readings.mp ≡ (if before.userbits.measuredpower then channel3 else pos 0)
  -- "SP is SL + trim, without trim if S2.1 is ON", SW bit 15; "SP is then limited to LS..HS."
  pub sp_local : remote_or_ratio (mode_in now) ≡ false →
      now.readings.sp ≡ limited (value before.parameters 10) (value before.parameters 9)
      (value now.parameters 20 +ℤ (if bit now.sw 15 then pos 0 else trim))
  -- "in Remote channel 2 scaled by 1L, 1H, plus trim"
  pub channel2 : ℤ
  pub channel2_scaled : Scaled (value before.parameters 2) (value before.parameters 1) i.sample2 channel2
  pub sp_remote : mode_in now ≡ some Remote →
      now.readings.sp ≡ limited (value before.parameters 10) (value before.parameters 9) (channel2 +ℤ trim)
  -- "In Ratio s is the sum RS + trim, that sum limited to LR..HR, q is channel 2 scaled by 2L, 2H, and SP is 100 × q
  -- / s + RB, or with S2.3 ON q × s / 100 + RB", SW bit 13: 2H is parameter 3, 2L 4, RB 22. s lies above zero, so the
  -- quotient is one number (`OneQuotient`); RB is added once it is rounded
  pub q : ℤ
  pub q_scaled : Scaled (value before.parameters 4) (value before.parameters 3) i.sample2 q
  pub s : ℕ
  pub s_is : s ≡ nat_abs (limited (value before.parameters 8) (value before.parameters 7) (value now.parameters 21 +ℤ trim))
  pub s_positive : 0 < s
  pub quotient : ℤ
  pub quotient_is : mode_in now ≡ some Ratio → bit now.sw 13 ≡ false → NearestEven (pos 100 *ℤ q) s quotient
  pub inverse_is : mode_in now ≡ some Ratio → bit now.sw 13 ≡ true → NearestEven (q *ℤ pos s) 100 quotient
  pub sp_ratio : mode_in now ≡ some Ratio →
      now.readings.sp ≡ limited (value before.parameters 10) (value before.parameters 9) (quotient +ℤ value before.parameters 22)
  -- "In Remote and Ratio SL becomes SP.", of which document 02, request 7: "From now on, in Remote, SL takes SP less
  -- the trim, limited to LS..HS. Ratio keeps SL equal to SP."
  pub setpoint_remote : mode_in now ≡ some Remote →
      value now.parameters 20 ≡ limited (value before.parameters 10) (value before.parameters 9) (now.readings.sp -ℤ trim)
  pub setpoint_ratio : mode_in now ≡ some Ratio → value now.parameters 20 ≡ now.readings.sp
  -- "ER = PV - SP."
  pub er_is : now.readings.er ≡ now.readings.pv -ℤ now.readings.sp
  -- Words: "low alarm (PV < LA or ER < -LD), .. high (PV > HA or ER > HD)": HA is parameter 11, LA 12, HD 13, LD 14
  pub low_alarm : now.indications.lowalarm ≡
      (lt_z now.readings.pv (value before.parameters 12) || lt_z now.readings.er (neg_ℤ (value before.parameters 14)))
  pub high_alarm : now.indications.highalarm ≡
      (lt_z (value before.parameters 11) now.readings.pv || lt_z (value before.parameters 13) now.readings.er)
  -- Input: "a sensor byte (.. 1 battery low)"; the pins and buttons of this scan
  pub battery : now.indications.batterylow ≡ bit i.sensors 1
  pub buttons : now.indications.buttons ≡ i.buttons
  pub pins : now.conditions.pins ≡ i.pins
  -- document 02, request 2: "the controller remembers the last accepted one", the reading of this scan
  pub clock : now.clock ≡ Some i.milliseconds
  -- no sentence lets a scan touch the rest
  pub others : (n : ℕ) → (n ≡ 20 → ⊥) → (n ≡ 21 → ⊥) → value now.parameters n ≡ value before.parameters n
  pub fault : now.conditions.fault ≡ before.conditions.fault
  pub userbits : now.userbits ≡ before.userbits
  pub sw : now.sw ≡ before.sw

-- ---- its answer: "A scan answers MD, DS, OP and electrical output"; document 02, request 1: "A scan's answer carries
-- the mode and PV as well": the mode that the conditions give, and the PV of step 1. Told of the values that a host
-- gets, and feeds a sheet with
pub record ScanAnswer (c : Controller) (answer : Answer) : Type 0 where
  pub values : ScanValues
  pub accepted : answer ≡ Ok values
  pub shows_md : ShowsMD values.md c.core
  pub shows_ds : ShowsDS values.ds c.core
  pub own : OwnOutput c values.op values.electrical
  pub mode_first : mode_in c.core ≡ some values.mode
  pub pv_is : values.pv ≡ c.core.readings.pv

-- of every scan that no cause refuses, at every valid controller: each that calls lead to is (`ready`)
abbrev pub ScanEffects : Type 0
ScanEffects =
    (d : Controller) (i : Input) (r : ScanResult) → Valid d → ScanEnsures d i r → scan_refusal d.core.clock i ≡ none →
    ScanEffect d.core r.controller.core i × ScanAnswer r.controller r.answer

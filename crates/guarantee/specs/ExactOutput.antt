-- Document 01: the exact controller's output, "a fraction of two whole numbers", after an accepted call, written out
-- again from step 6, Terms, and the sentences on writes of HO and LO and on restarts, with the clock of document 02:
-- "The exact controller gets the same clock". Shared with the rules are the types of the state, the bits of a word, the
-- value of a parameter, and the arithmetic of fractions: a sum, so many whole units, a limiting.
use Rattle.std.specs.Prelude.{Bool, false, not, ◌&&◌, ◌||◌, List, ℕ, ◌*◌, min, eqb, ℤ, pos, neg_ℤ, nat_abs, ◌+ℤ◌, ◌-ℤ◌, ◌*ℤ◌, if◌then◌else◌}
use Rattle.std.proofs.Math.Option.{Option, some}
use Rattle.signals.specs.Bits.{bit}
use Rattle.signals.specs.declared.Input.{Input}
use Rattle.terms.specs.Fraction.{Fraction, whole, plus, limited}
use Rattle.modes.specs.declared.Mode.{Mode}
use Rattle.modes.specs.declared.Mode.TheVariants.{Hold, Track, Forced, Manual, Auto, Remote, Ratio, Fallback}
use Rattle.parameters.specs.Table.{value}
use Rattle.parameters.specs.declared.Parameters.{Parameters}
use Rattle.outputs.specs.declared.History.{History}
use Rattle.outputs.specs.declared.History.TheVariants.{Nothing, One, Two}
use Rattle.controller.specs.declared.Core.{Core}
use Rattle.guarantee.specs.Bytes.{word_at, sum_right}
use Rattle.guarantee.specs.Clock.{recalled_in}
use Rattle.guarantee.specs.Modes.{mode_in, automatic_mode, manual_or_forced}

-- ---- Terms, of a scan that was made in the state `before` and left the state `now`; h is what it recalls

-- the previous PV and SP, and the PV before it; "A forgotten value counts as the nearest later one."
abbrev pub previous_pv : History → ℤ → ℤ
previous_pv Nothing pv = pv
previous_pv (One pv1 sp1) pv = pv1
previous_pv (Two pv1 sp1 pv2) pv = pv1

abbrev pub previous_sp : History → ℤ → ℤ
previous_sp Nothing sp = sp
previous_sp (One pv1 sp1) sp = sp1
previous_sp (Two pv1 sp1 pv2) sp = sp1

abbrev pub earlier_pv : History → ℤ → ℤ
earlier_pv Nothing pv = pv
earlier_pv (One pv1 sp1) pv = pv1
earlier_pv (Two pv1 sp1 pv2) pv = pv2

-- "c is SP - PV, or PV - SP with S2.4 ON", SW bit 12
unfoldable pub c : ℕ → ℤ → ℤ → ℤ
c sw sp pv = if bit sw 12 then pv -ℤ sp else sp -ℤ pv

-- XP × W: XP is parameter 17, 1H 1 and 1L 2, "W = 1H - 1L"; neither XP nor W is below zero, nor is TI or TD
unfoldable pub band : Parameters → ℕ
band p = nat_abs (value p 17) * nat_abs (value p 1 -ℤ value p 2)

-- "Proportional: 10,000,000 × (c - c1) / (XP × W)."; "c1 is c with the previous PV and SP, but with the present SP
-- in Auto and Fall-back if S1.1 is OFF": `present` says that it is the present SP
unfoldable pub proportional : Bool → History → Core → Core → Fraction
proportional present h before now =
    let pv = now.readings.pv in
    let sp = now.readings.sp in
    let sp1 = if present then sp else previous_sp h sp in
    let c1 = c now.sw sp1 (previous_pv h pv) in
    record { numerator = pos 10000000 *ℤ (c now.sw sp pv -ℤ c1); denominator = band before.parameters }

-- "Integral: 10,000,000 × c × 9 / (XP × W × 25 × TI), with S2.8 ON 3 and 500 for 9 and 25; 0 if TI is 0.": SW bit 8;
-- TI is parameter 18
unfoldable pub integral : Core → Core → Fraction
integral before now =
    let ti = nat_abs (value before.parameters 18) in
    let minutes = bit now.sw 8 in
    if eqb ti 0 then whole (pos 0) else
    record {
      numerator = pos 10000000 *ℤ c now.sw now.readings.sp now.readings.pv *ℤ pos (if minutes then 3 else 9);
      denominator = band before.parameters * (if minutes then 500 else 25) * ti;
    }

-- "Derivative: -10,000,000 × D × 25 × TD / (9 × XP × W), with S2.8 ON 500 and 3 for 25 and 9; plus sign with S2.4
-- ON."; "D is PV - 2 × previous PV + the one before"; TD is parameter 19
unfoldable pub derivative : History → Core → Core → Fraction
derivative h before now =
    let pv = now.readings.pv in
    let d = (pv -ℤ pos 2 *ℤ previous_pv h pv) +ℤ earlier_pv h pv in
    let minutes = bit now.sw 8 in
    let product = pos 10000000 *ℤ d *ℤ pos (if minutes then 500 else 25) *ℤ pos (nat_abs (value before.parameters 19)) in
    record {
      numerator = if bit now.sw 12 then product else neg_ℤ product;
      denominator = (if minutes then 3 else 9) * band before.parameters;
    }

-- "Each exact term is limited to ±10,000"
abbrev pub within10000 : Fraction → Fraction
within10000 term = limited (neg_ℤ (pos 10000)) (pos 10000) term

-- ---- step 6

-- ""Minimum" sets OP to LO, or to HO with S2.2 ON.": SW bit 14; HO is parameter 15, LO 16
unfoldable pub minimum : ℕ → Parameters → ℤ
minimum sw p = if bit sw 14 then value p 15 else value p 16

-- "on the 85th open scan, if the mode just before this scan was automatic and S2.5 is ON", SW bit 11. The exact
-- controller counts on, so its count is 85 only then
unfoldable pub to_minimum : Core → Core → Bool
to_minimum before now = eqb now.conditions.opencount 85 && automatic_mode (mode_in before) && bit now.sw 11

-- "one of Raise, Lower without SP moves it 12 units; but .. it goes to minimum instead": button bits 6, 7 and 3
unfoldable pub by_hand : Core → Core → Input → Fraction → Fraction
by_hand before now i output =
    let raise = bit i.buttons 6 in
    let lower = bit i.buttons 7 in
    if to_minimum before now then whole (minimum now.sw before.parameters) else
    if bit i.buttons 3 then output else
    if raise && not lower then plus output (whole (pos 12)) else
    if lower && not raise then plus output (whole (neg_ℤ (pos 12))) else output

-- "Automatic and open: kept. Automatic otherwise, an automatic scan: the three terms are added.": sensor bit 0.
-- "its limited terms are added unrounded"
unfoldable pub by_terms : Bool → Core → Core → Input → Fraction → Fraction
by_terms present before now i output =
    let h = recalled_in before i in
    if bit i.sensors 0 then output else
    plus (plus (plus output (within10000 (proportional present h before now))) (within10000 (integral before now)))
    (within10000 (derivative h before now))

-- "limited to LO..HO"
abbrev pub between_limits : Parameters → Fraction → Fraction
between_limits p output = limited (value p 16) (value p 15) output

-- "Hold: kept. Track: the lesser of sample 3 and 9999. Manual and Forced: .."; "Outside Hold and Track the output is
-- then limited to LO..HO."; S1.1 is SW bit 7
abbrev pub in_mode : Option Mode → Core → Core → Input → Fraction → Fraction
in_mode Option.none before now i output = output
in_mode (some Hold) before now i output = output
in_mode (some Track) before now i output = whole (pos (min i.sample3 9999))
in_mode (some Forced) before now i output = between_limits before.parameters (by_hand before now i output)
in_mode (some Manual) before now i output = between_limits before.parameters (by_hand before now i output)
in_mode (some Auto) before now i output = between_limits before.parameters (by_terms (not (bit now.sw 7)) before now i output)
in_mode (some Remote) before now i output = between_limits before.parameters (by_terms false before now i output)
in_mode (some Ratio) before now i output = between_limits before.parameters (by_terms false before now i output)
in_mode (some Fallback) before now i output = between_limits before.parameters (by_terms (not (bit now.sw 7)) before now i output)

unfoldable pub scan_output : Core → Core → Input → Fraction → Fraction
scan_output before now i output = in_mode (mode_in now) before now i output

-- ---- a write: "HO or LO limits the output unless the mode is Hold or Track": numbers 15 and 16, to the limits as the
-- write leaves them
unfoldable pub write_output : Core → Core → ℕ → Fraction → Fraction
write_output before now n output =
    if (eqb n 15 || eqb n 16) && (manual_or_forced (mode_in before) || automatic_mode (mode_in before))
    then between_limits now.parameters output
    else output

-- ---- a restart: "OP limited to LO..HO; S2.5 ON makes .. OP minimum", SW bit 11; "A wrong sumcheck also sets .. OP
-- minimum". The image's OP begins at byte 118
unfoldable pub restart_output : Core → List ℕ → Fraction
restart_output now image =
    between_limits now.parameters
    (whole (if bit now.sw 11 || not (sum_right image) then minimum now.sw now.parameters else pos (word_at image 118)))

-- Document 01, One scan, step 6, and Terms: our own stored output after one accepted scan, told from the stored
-- output before it. The three exact terms and what goes to minimum are the claim's own text (ExactOutput.antt).
-- Shared with the rules are the types of the state, the value of a parameter, and the words of Shared.antt (guarantee).
use Rattle.std.specs.Prelude.{◌≡◌, Bool, true, false, not, ◌&&◌, min, eqb, ℤ, pos, neg_ℤ, ◌+ℤ◌, ◌*ℤ◌, if◌then◌else◌}
use Rattle.std.proofs.Math.Option.{Option, some, none}
use Rattle.integers.specs.Limit.{limited}
use Rattle.signals.specs.Bits.{bit}
use Rattle.signals.specs.declared.Input.{Input}
use Rattle.modes.specs.declared.Mode.{Mode}
use Rattle.modes.specs.declared.Mode.TheVariants.{Hold, Track, Forced, Manual, Auto, Remote, Ratio, Fallback}
use Rattle.parameters.specs.Table.{value}
use Rattle.parameters.specs.declared.Parameters.{Parameters}
use Rattle.controller.specs.Valid.{Valid}
use Rattle.controller.specs.declared.Controller.{Controller}
use Rattle.controller.specs.declared.Core.{Core}
use Rattle.controller.specs.declared.ScanResult.{ScanResult}
use Rattle.guarantee.specs.Claim.{WithinHalves}
use Rattle.guarantee.specs.Clock.{recalled_in}
use Rattle.guarantee.specs.ExactOutput.{proportional, integral, derivative, within10000, minimum}
use Rattle.guarantee.specs.Linked.{ScanEnsures}
use Rattle.guarantee.specs.Modes.{mode_in, automatic_mode}
use Rattle.promises.specs.RefusalCauses.{scan_refusal}

-- "limited to LO..HO": LO is parameter 16, HO 15; a unit is 65,536 of the stored output
abbrev pub stored_between_limits : Parameters → ℤ → ℤ
stored_between_limits p output = limited (value p 16 *ℤ pos 65536) (value p 15 *ℤ pos 65536) output

-- "on the 85th open scan, if the mode just before this scan was automatic and S2.5 is ON": 84 open scans before it;
-- SW bit 11
unfoldable pub goes_to_minimum : Core → Core → Input → Bool
goes_to_minimum before now i =
    bit i.sensors 0 && eqb before.conditions.opencount 84 && automatic_mode (mode_in before) && bit now.sw 11

-- "one of Raise, Lower without SP moves it 12 units; but .. it goes to minimum instead": button bits 6, 7 and 3
unfoldable pub stored_by_hand : Core → Core → Input → ℤ → ℤ
stored_by_hand before now i output =
    if goes_to_minimum before now i then minimum now.sw before.parameters *ℤ pos 65536 else
    if bit i.buttons 3 then output else
    if bit i.buttons 6 && not (bit i.buttons 7) then output +ℤ pos 12 *ℤ pos 65536 else
    if bit i.buttons 7 && not (bit i.buttons 6) then output +ℤ neg_ℤ (pos 12) *ℤ pos 65536 else output

-- "Automatic and open: kept. Automatic otherwise, an automatic scan: the three terms are added."; "Each exact term is
-- limited to ±10,000 and then taken to a whole number of 1/65,536 units that is off by at most one half. At an exact
-- half either neighbour may stand": each by itself
pub record StoredTerms (present : Bool) (before now : Core) (i : Input) (output after : ℤ) : Type 0 where
  pub kept : bit i.sensors 0 ≡ true → after ≡ stored_between_limits before.parameters output
  pub p : ℤ
  pub p_near : WithinHalves p (within10000 (proportional present (recalled_in before i) before now)) 1
  pub t : ℤ
  pub t_near : WithinHalves t (within10000 (integral before now)) 1
  pub d : ℤ
  pub d_near : WithinHalves d (within10000 (derivative (recalled_in before i) before now)) 1
  pub added : bit i.sensors 0 ≡ false → after ≡ stored_between_limits before.parameters (output +ℤ p +ℤ t +ℤ d)

-- "Hold: kept. Track: the lesser of sample 3 and 9999. Manual and Forced: .."; "Outside Hold and Track the output is
-- then limited to LO..HO."; S1.1 is SW bit 7
abbrev pub StoredOutput : Option Mode → Core → Core → Input → ℤ → ℤ → Type 0
StoredOutput none before now i output after = ⊥
StoredOutput (some Hold) before now i output after = after ≡ output
StoredOutput (some Track) before now i output after = after ≡ pos (min i.sample3 9999) *ℤ pos 65536
StoredOutput (some Forced) before now i output after = after ≡ stored_between_limits before.parameters (stored_by_hand before now i output)
StoredOutput (some Manual) before now i output after = after ≡ stored_between_limits before.parameters (stored_by_hand before now i output)
StoredOutput (some Auto) before now i output after = StoredTerms (not (bit now.sw 7)) before now i output after
StoredOutput (some Remote) before now i output after = StoredTerms false before now i output after
StoredOutput (some Ratio) before now i output after = StoredTerms false before now i output after
StoredOutput (some Fallback) before now i output after = StoredTerms (not (bit now.sw 7)) before now i output after

-- of every scan that no cause refuses, at every valid controller: each that calls lead to is (`ready`)
abbrev pub StoredOutputs : Type 0
StoredOutputs =
    (d : Controller) (i : Input) (r : ScanResult) → Valid d → ScanEnsures d i r → scan_refusal d.core.clock i ≡ none →
    StoredOutput (mode_in r.controller.core) d.core r.controller.core i d.output r.controller.output

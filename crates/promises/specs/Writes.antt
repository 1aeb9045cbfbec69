-- Document 01, "Parameters" and "Words": what an accepted write leaves, told item by item. Shared with the rules are
-- the types of the state, the bits of a word, the value of a parameter, and `limited`.
use Rattle.std.specs.Prelude.{◌≡◌, not, ◌&&◌, ◌||◌, ℕ, eqb, leb, ℤ, pos, nat_abs, ◌*ℤ◌, if◌then◌else◌}
use Rattle.std.proofs.Math.Option.{none}
use Rattle.integers.specs.Limit.{limited}
use Rattle.signals.specs.Bits.{bit}
use Rattle.modes.specs.declared.Request.TheVariants.{Manual, Auto, Remote}
use Rattle.parameters.specs.Table.{value}
use Rattle.rights.specs.declared.Writer.{Writer}
use Rattle.controller.specs.Valid.{Valid}
use Rattle.controller.specs.declared.CallResult.{CallResult}
use Rattle.controller.specs.declared.Controller.{Controller}
use Rattle.controller.specs.declared.Core.{Core}
use Rattle.guarantee.specs.Linked.{WriteEnsures}
use Rattle.guarantee.specs.Modes.{mode_in, automatic_mode, manual_or_forced}
use Rattle.promises.specs.RefusalCauses.{write_refusal}

-- "of these only scans and restarts change any"; no sentence lets a write touch SW, the earlier PVs and SP or the last
-- reading
pub record Untouched (before now : Core) : Type 0 where
  pub sw : now.sw ≡ before.sw
  pub opencount : now.conditions.opencount ≡ before.conditions.opencount
  pub pins : now.conditions.pins ≡ before.conditions.pins
  pub readings : now.readings ≡ before.readings
  pub indications : now.indications ≡ before.indications
  pub history : now.history ≡ before.history
  pub clock : now.clock ≡ before.clock

-- of a write of v to the number n, made in the state `before`, which left the state `now`
pub record WriteEffect (before now : Core) (n : ℕ) (v : ℤ) : Type 0 where
  -- the parameter named and no other, but "An accepted write of HS or LS limits SL anew, HR or LR limits RS": SL is
  -- number 20, HS 9, LS 10, RS 21, HR 7, LR 8
  pub parameters : (m : ℕ) → let after = value now.parameters in let earlier = value before.parameters in
      after m ≡
      (if leb n 23 && eqb m n then v else
      if (eqb n 9 || eqb n 10) && eqb m 20 then limited (after 10) (after 9) (earlier 20) else
      if (eqb n 7 || eqb n 8) && eqb m 21 then limited (after 8) (after 7) (earlier 21) else earlier m)
  -- "Writing MD takes bits 13, 12, 11 as the request and bit 4 .. Bit 8 zero clears a standing memory fault, and the
  -- request is then Manual whichever bit was set; with no fault standing it does nothing. Bit 8 one changes
  -- nothing.": MD is number 24
  pub request : now.conditions.request ≡
      (if not (eqb n 24) then before.conditions.request else
      if before.conditions.fault && not (bit (nat_abs v) 8) then Manual else
      if bit (nat_abs v) 13 then Manual else
      if bit (nat_abs v) 12 then Auto else Remote)
  pub fault : now.conditions.fault ≡ (if eqb n 24 then before.conditions.fault && bit (nat_abs v) 8 else before.conditions.fault)
  pub measured_power : now.userbits.measuredpower ≡ (if eqb n 24 then bit (nat_abs v) 4 else before.userbits.measuredpower)
  -- "DS takes bits 7 and 6.": "7, 6 user bits 2, 1"; DS is number 25
  pub user1 : now.userbits.user1 ≡ (if eqb n 25 then bit (nat_abs v) 6 else before.userbits.user1)
  pub user2 : now.userbits.user2 ≡ (if eqb n 25 then bit (nat_abs v) 7 else before.userbits.user2)
  pub untouched : Untouched before now

-- "and HO or LO limits the output unless the mode is Hold or Track": numbers 15 and 16; a unit is 65,536 of the
-- stored output
unfoldable pub expected_output : Controller → Core → ℕ → ℤ
expected_output d now n =
    if (eqb n 15 || eqb n 16) && (manual_or_forced (mode_in d.core) || automatic_mode (mode_in d.core))
    then limited (value now.parameters 16 *ℤ pos 65536) (value now.parameters 15 *ℤ pos 65536) d.output
    else d.output

-- of every write that no cause refuses, by whomever, at every valid controller: each that calls lead to is (`ready`)
abbrev pub WriteEffects : Type 0
WriteEffects =
    (d : Controller) (w : Writer) (n : ℕ) (v : ℤ) (r : CallResult) → Valid d → WriteEnsures d w n v r →
    write_refusal d.core w n v ≡ none →
    WriteEffect d.core r.controller.core n v × (r.controller.output ≡ expected_output d r.controller.core n)

-- Document 01, "Words": what each bit of MD and DS shows, told bit by bit of the state that a word stands for, apart
-- from the rules that put the words together. Shared are the types of the state and the bits of a word.
use Rattle.std.specs.Prelude.{◌≡◌, Bool, true, false, not, ◌||◌, ℕ, ◌/◌, leb}
use Rattle.std.proofs.Math.Option.{Option, some}
use Rattle.signals.specs.Bits.{bit}
use Rattle.modes.specs.declared.Mode.{Mode}
use Rattle.modes.specs.declared.Mode.TheVariants.{Hold, Track, Forced, Manual, Auto, Remote, Ratio, Fallback}
use Rattle.controller.specs.declared.Core.{Core}
use Rattle.guarantee.specs.Claim.{ShowsMode}
use Rattle.guarantee.specs.Modes.{mode_in}

-- "MD: 15 Hold, 14 Track, 13 Manual or Forced, 12 Auto or Fall-back, 11 Remote or Ratio": `ShowsMode`; "10 Remote
-- pin, 9 open cause, 8 memory fault, 7 Lower, 6 Raise, 5 zero, 4 measured power, 3 SP, 2 R, 1 A, 0 M." The button
-- byte is "laid out as MD bits 7..0"
pub record ShowsMD (md : ℕ) (now : Core) : Type 0 where
  pub mode : ShowsMode md now
  pub remote_pin : bit md 10 ≡ bit now.conditions.pins 5
  pub open_cause : bit md 9 ≡ leb 85 now.conditions.opencount
  pub memory_fault : bit md 8 ≡ now.conditions.fault
  pub lower : bit md 7 ≡ bit now.indications.buttons 7
  pub raise : bit md 6 ≡ bit now.indications.buttons 6
  pub always_zero : bit md 5 ≡ false
  pub measured_power : bit md 4 ≡ now.userbits.measuredpower
  pub sp : bit md 3 ≡ bit now.indications.buttons 3
  pub r : bit md 2 ≡ bit now.indications.buttons 2
  pub a : bit md 1 ≡ bit now.indications.buttons 1
  pub m : bit md 0 ≡ bit now.indications.buttons 0

-- "5 is 0 in Hold, Manual, Forced"
abbrev pub hold_manual_or_forced : Option Mode → Bool
hold_manual_or_forced (some Hold) = true
hold_manual_or_forced (some Manual) = true
hold_manual_or_forced (some Forced) = true
hold_manual_or_forced (some Track) = false
hold_manual_or_forced (some Auto) = false
hold_manual_or_forced (some Remote) = false
hold_manual_or_forced (some Ratio) = false
hold_manual_or_forced (some Fallback) = false
hold_manual_or_forced Option.none = false

-- "4 is 0 in Remote, Ratio"
abbrev pub remote_or_ratio : Option Mode → Bool
remote_or_ratio (some Remote) = true
remote_or_ratio (some Ratio) = true
remote_or_ratio (some Hold) = false
remote_or_ratio (some Track) = false
remote_or_ratio (some Forced) = false
remote_or_ratio (some Manual) = false
remote_or_ratio (some Auto) = false
remote_or_ratio (some Fallback) = false
remote_or_ratio Option.none = false

-- the mode Ratio
abbrev pub ratio_mode : Option Mode → Bool
ratio_mode (some Ratio) = true
ratio_mode (some Hold) = false
ratio_mode (some Track) = false
ratio_mode (some Forced) = false
ratio_mode (some Manual) = false
ratio_mode (some Auto) = false
ratio_mode (some Remote) = false
ratio_mode (some Fallback) = false
ratio_mode Option.none = false

-- "DS: high byte the pin byte; 7, 6 user bits 2, 1; 5 is 0 in Hold, Manual, Forced; 4 is 0 in Remote, Ratio; 3 is 0
-- for battery low, 2 for a cause, 1 for low alarm .., 0 for high"
pub record ShowsDS (ds : ℕ) (now : Core) : Type 0 where
  pub pins : ds / 256 ≡ now.conditions.pins
  pub user2 : bit ds 7 ≡ now.userbits.user2
  pub user1 : bit ds 6 ≡ now.userbits.user1
  pub hold_or_manual : bit ds 5 ≡ not (hold_manual_or_forced (mode_in now))
  pub remote_or_ratio : bit ds 4 ≡ not (remote_or_ratio (mode_in now))
  pub battery : bit ds 3 ≡ not now.indications.batterylow
  pub cause : bit ds 2 ≡ not (now.conditions.fault || leb 85 now.conditions.opencount)
  pub low_alarm : bit ds 1 ≡ not now.indications.lowalarm
  pub high_alarm : bit ds 0 ≡ not now.indications.highalarm

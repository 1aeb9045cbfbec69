-- The parts of demand 3, written out again from document 01's words. Shared with the rules are the types of the state
-- and of the answers, the value of a parameter, what a read answers, the bytes of an image, the exact controller's
-- steps but for the output, and the words of Shared.antt. The limits, what a word shows of the mode and how near the
-- stored output is stand here a second time, so that a rule isn't judged by itself.
use Rattle.std.specs.Prelude.{◌≡◌, List, [], ◌∷◌, ◌++◌, ℕ, ◌+◌, ◌-◌, ◌*◌, ◌/◌, ◌<◌, min, ltb, ℤ, pos, ◌+ℤ◌, ◌*ℤ◌, length, drop, ◌≤ℤ◌, ◌<ℤ◌}
use Rattle.std.specs.Prelude.{if◌then◌else◌}
use Rattle.std.proofs.Math.Option.{some}
use Rattle.signals.specs.Bits.{bit}
use Rattle.terms.specs.Fraction.{Fraction}
use Rattle.modes.specs.declared.Mode.{Mode}
use Rattle.modes.specs.declared.Mode.TheVariants.{Hold, Track, Forced, Manual, Auto, Remote, Ratio, Fallback}
use Rattle.parameters.specs.Table.{value}
use Rattle.settings.specs.Settings.{image_of}
use Rattle.controller.specs.Answers.{Reply, words, reading, acceptance, number, Response}
use Rattle.controller.specs.Read.{read_in}
use Rattle.controller.specs.Save.{settings_of}
use Rattle.controller.specs.Scan.{Status, status, accepts, refused_with}
use Rattle.controller.specs.declared.Controller.{Controller}
use Rattle.controller.specs.declared.Core.{Core}
use Rattle.guarantee.specs.Exact.{Call, Calls, none, ◌then◌, exact, exact_answer}
use Rattle.guarantee.specs.Modes.{mode_in}

-- ---- outside Hold and Track the stored output is within its limits

-- LO is parameter 16 and HO parameter 15, in units; a unit is 65,536 of the stored output
pub record WithinLimits (c : Controller) : Type 0 where
  pub least : (value c.core.parameters 16 *ℤ pos 65536) ≤ℤ c.output
  pub most : c.output ≤ℤ (value c.core.parameters 15 *ℤ pos 65536)

-- ---- the stored output is near the exact controller's

-- x, in 1/65,536 unit, is within so many halves of 1/65,536 unit of f, in units: twice their distance, in 1/65,536
-- unit, is at most so many. 2 × |x - 65,536 × n / d| ≤ halves, of f = n / d, is told by whole numbers, both sides
-- times d
pub record WithinHalves (x : ℤ) (f : Fraction) (halves : ℕ) : Type 0 where
  pub positive : 0 < f.denominator
  pub not_above : (x *ℤ pos (2 * f.denominator)) ≤ℤ (f.numerator *ℤ pos 131072 +ℤ pos (halves * f.denominator))
  pub not_below : (f.numerator *ℤ pos 131072) ≤ℤ (x *ℤ pos (2 * f.denominator) +ℤ pos (halves * f.denominator))

-- ---- apart from the output, the whole state and every answer equal those of the exact controller

-- "open counts above 85 taken as 85"
unfoldable pub capped : Core → Core
capped c =
    record {
      sw = c.sw;
      parameters = c.parameters;
      conditions = record {
        request = c.conditions.request;
        fault = c.conditions.fault;
        opencount = min 85 c.conditions.opencount;
        pins = c.conditions.pins;
      };
      userbits = c.userbits;
      readings = c.readings;
      indications = c.indications;
      history = c.history;
      clock = c.clock;
    }

-- "OP and electrical output, which are those of our own stored output": OP is its floor in units;
-- electrical output is OP, or 9999 - OP with S2.2 ON
pub record OwnOutput (c : Controller) (op electrical : ℕ) : Type 0 where
  pub not_above : pos (op * 65536) ≤ℤ c.output
  pub below_next : c.output <ℤ pos ((op + 1) * 65536)
  pub electrically : electrical ≡ (if bit c.core.sw 14 then 9999 - op else op)

-- MD bits 15 to 11, read as a number of five bits: "15 Hold, 14 Track, 13 Manual or Forced, 12 Auto or
-- Fall-back, 11 Remote or Ratio"
abbrev pub mode_field : Mode → ℕ
mode_field Hold = 16
mode_field Track = 8
mode_field Manual = 4
mode_field Forced = 4
mode_field Auto = 2
mode_field Fallback = 2
mode_field Remote = 1
mode_field Ratio = 1

-- MD shows the mode that the conditions of this state give
pub record ShowsMode (md : ℕ) (now : Core) : Type 0 where
  pub mode : Mode
  pub present : mode_in now ≡ some mode
  pub field : md / 2048 ≡ mode_field mode

-- an answer that was returned with the controller c, beside that of the exact controller, which this
-- call left in the state `now`: the mode that it gives is the first whose condition is present, which MD shows too; its
-- PV is the exact controller's
pub data SameAnswer (c : Controller) (now : Core) : Reply → Status → Type 0 where
  same_words : {md ds op electrical : ℕ} {mode : Mode} {pv : ℤ} →
      ShowsMode md now → OwnOutput c op electrical → mode_in now ≡ some mode → pv ≡ now.readings.pv →
      SameAnswer c now (words md ds op electrical mode pv) (status md ds mode pv)
  same_acceptance : SameAnswer c now acceptance accepts
  same_number : {n : ℕ} → SameAnswer c now (number n) (refused_with n)

-- every answer of the list, the latest first
pub data SameAnswers (word : ℕ) : Calls → List Response → Type 0 where
  no_answer : SameAnswers word none []
  and_answer : {xs : Calls} {rs : List Response} {x : Call} {h : Response} →
      SameAnswers word xs rs → SameAnswer h.next (exact word (xs then x)).core h.answer (exact_answer word xs x) →
      SameAnswers word (xs then x) (h ∷ rs)

-- ---- reads: of a controller c, beside the exact controller's state `now`; OP is that of our own stored output
pub record SameReading (c : Controller) (now : Core) (n : ℕ) (reply : Reply) : Type 0 where
  pub op : ℕ
  pub electrical : ℕ
  pub own : OwnOutput c op electrical
  pub same : reply ≡ read_in now op n
  -- by itself: MD, parameter 24, shows the mode that the conditions give, after a write too, and OP,
  -- parameter 28, is our own
  pub md : ℕ
  pub shows : ShowsMode md now
  pub md_is : n ≡ 24 → reply ≡ reading (pos md)
  pub op_is : n ≡ 28 → reply ≡ reading (pos op)

-- ---- saves: of a controller c, beside the exact controller's state `now`; the OP that is saved is
-- that of our own stored output. Fewer than 137 bytes are refused and stay
pub record SameSave (c : Controller) (now : Core) (buffer : List ℕ) (reply : Reply) (after : List ℕ) : Type 0 where
  pub op : ℕ
  pub electrical : ℕ
  pub own : OwnOutput c op electrical
  pub same : reply ≡ (if ltb (length buffer) 137 then number 15 else acceptance)
  pub bytes : after ≡ (if ltb (length buffer) 137 then buffer else image_of (settings_of now op) ++ drop 137 buffer)

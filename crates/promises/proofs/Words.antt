-- The bits of MD and DS: each is the one that was put there.
use mathlib.Core.Path.{◌≡◌, refl, sym, ap, ◌∙◌}
use mathlib.Core.Bool.{Bool, true, false, not}
use mathlib.Core.List.{List, [], ◌∷◌}
use mathlib.Core.Option.{Option, some}
use Prim.Native.Nat.{ℕ, zero, suc, ◌+◌, ◌*◌, ◌/◌, ◌%◌, ◌^◌, ◌≤◌, ◌<◌}
use native.Mathlib.Nat.{zero-add, pow-succ', div-div-eq-div-mul, le_of_suc-le-suc, not-suc-le-zero}
use native.Mathlib.Omega.{arith}
use lib.Dec.{eqb}
use lib.ListN.{length, get_or}
use Rattle.signals.specs.Bits.{bit}
use Rattle.signals.specs.Signals.{pins_of, buttons_of}
use Rattle.modes.specs.Modes.{is_cause, is_open_cause}
use Rattle.modes.specs.declared.Mode.{Mode}
use Rattle.modes.specs.declared.Mode.TheVariants.{Hold, Track, Forced, Manual, Auto, Remote, Ratio, Fallback}
use Rattle.words.specs.WordLaws.{weight_most}
use Rattle.words.specs.Words.{weight, byte_of, mode_bit, md_high, md_low, MD, ds_bit4, ds_bit5, ds_low, DS}
use Rattle.controller.specs.Scan.{mode_now, md_now, ds_now}
use Rattle.controller.specs.declared.Core.{Core}
use Rattle.guarantee.proofs.Answers.{md_mode}
use Rattle.guarantee.proofs.Modes.{mode_is_first}
use Rattle.promises.specs.Words.{ShowsMD, ShowsDS, hold_manual_or_forced, remote_or_ratio}

-- a bit of weight w is w times a bit of weight 1
weighs : (b : Bool) (w : ℕ) → weight b w ≡ w * weight b 1
weighs true w = omega arith
weighs false w = omega arith

-- the number of these bits, the lowest first, with another number above them
binary : List Bool → ℕ → ℕ
binary [] above = above
binary (b ∷ bs) above = weight b 1 + 2 * binary bs above

halved : (b : Bool) (n : ℕ) → (weight b 1 + 2 * n) / 2 ≡ n
halved true n = omega arith
halved false n = omega arith

lowest : (b : Bool) (n : ℕ) → (weight b 1 + 2 * n) % 2 ≡ weight b 1
lowest true n = omega arith
lowest false n = omega arith

div_one : (n : ℕ) → n / 1 ≡ n
div_one n = omega arith

is_set : (b : Bool) → eqb (weight b 1) 1 ≡ b
is_set true = refl
is_set false = refl

bit_at : (bs : List Bool) (above k : ℕ) → k < length bs → bit (binary bs above) k ≡ get_or bs k false
unfolding binary
bit_at [] above k h = absurd (not-suc-le-zero h)
bit_at (b ∷ bs) above zero h = rw (div_one (weight b 1 + 2 * binary bs above), lowest b (binary bs above)) (is_set b)
bit_at (b ∷ bs) above (suc k) h =
    let n = binary bs above in
    ap (λ (m : ℕ). eqb (m % 2) 1)
    (ap (λ (p : ℕ). (weight b 1 + 2 * n) / p) (pow-succ' 2 k) ∙ sym (div-div-eq-div-mul (weight b 1 + 2 * n) 2 (2 ^ k)) ∙
    ap (λ (m : ℕ). m / 2 ^ k) (halved b n)) ∙
    bit_at bs above k (le_of_suc-le-suc h)

-- ---- a byte, below another number

abbrev bits : Bool → Bool → Bool → Bool → Bool → Bool → Bool → Bool → List Bool → List Bool
bits b7 b6 b5 b4 b3 b2 b1 b0 more = b0 ∷ b1 ∷ b2 ∷ b3 ∷ b4 ∷ b5 ∷ b6 ∷ b7 ∷ more

byte_binary : (b7 b6 b5 b4 b3 b2 b1 b0 : Bool) (more : List Bool) (above : ℕ) →
    256 * binary more above + byte_of b7 b6 b5 b4 b3 b2 b1 b0 ≡ binary (bits b7 b6 b5 b4 b3 b2 b1 b0 more) above
unfolding binary byte_of
byte_binary b7 b6 b5 b4 b3 b2 b1 b0 more above =
    omega (arith, weighs b7 128, weighs b6 64, weighs b5 32, weighs b4 16, weighs b3 8, weighs b2 4, weighs b1 2)

pub byte_most : (b7 b6 b5 b4 b3 b2 b1 b0 : Bool) → byte_of b7 b6 b5 b4 b3 b2 b1 b0 ≤ 255
unfolding byte_of
byte_most b7 b6 b5 b4 b3 b2 b1 b0 =
    omega (
      arith,
      weight_most b7 128,
      weight_most b6 64,
      weight_most b5 32,
      weight_most b4 16,
      weight_most b3 8,
      weight_most b2 4,
      weight_most b1 2,
      weight_most b0 1,
    )

page_is : (page : ℕ) (b7 b6 b5 b4 b3 b2 b1 b0 : Bool) → (256 * page + byte_of b7 b6 b5 b4 b3 b2 b1 b0) / 256 ≡ page
page_is page b7 b6 b5 b4 b3 b2 b1 b0 = omega (arith, byte_most b7 b6 b5 b4 b3 b2 b1 b0)

-- ---- MD

module _ (now : Core) where
  high_bits : List Bool
  high_bits =
      let k = now.conditions in
      let n = mode_bit (mode_now now) in
      bits (eqb n 15) (eqb n 14) (eqb n 13) (eqb n 12) (eqb n 11) (pins_of k.pins).remote (is_open_cause k.opencount) k.fault []

  md_bits : List Bool
  md_bits =
      let b = buttons_of now.indications.buttons in
      bits b.lower b.raise false now.userbits.measuredpower b.sp b.r b.a b.m high_bits

  high_is : md_high (mode_now now) now.conditions ≡ binary high_bits 0
  unfolding md_high high_bits binary
  high_is = sym (zero-add _) ∙ byte_binary _ _ _ _ _ _ _ _ [] 0

  md_is : md_now now ≡ binary md_bits 0
  unfolding MD md_high md_low md_bits binary
  md_is = ap (λ (high : ℕ). 256 * high + md_low now.userbits now.indications) high_is ∙ byte_binary _ _ _ _ _ _ _ _ high_bits 0

  md_bit : (k : ℕ) → k < 16 → bit (md_now now) k ≡ get_or md_bits k false
  unfolding md_bits high_bits
  md_bit k h = ap (λ (n : ℕ). bit n k) md_is ∙ bit_at md_bits 0 k h

  pub shows_md : ShowsMD (md_now now) now
  unfolding md_bits high_bits buttons_of pins_of
  shows_md =
      record {
        mode = md_mode now;
        remote_pin = md_bit 10 (omega arith);
        open_cause = md_bit 9 (omega arith);
        memory_fault = md_bit 8 (omega arith);
        lower = md_bit 7 (omega arith);
        raise = md_bit 6 (omega arith);
        always_zero = md_bit 5 (omega arith);
        measured_power = md_bit 4 (omega arith);
        sp = md_bit 3 (omega arith);
        r = md_bit 2 (omega arith);
        a = md_bit 1 (omega arith);
        m = md_bit 0 (omega arith);
      }

-- ---- DS

fifth : (m : Mode) → ds_bit5 m ≡ not (hold_manual_or_forced (some m))
fifth Hold = refl
fifth Track = refl
fifth Forced = refl
fifth Manual = refl
fifth Auto = refl
fifth Remote = refl
fifth Ratio = refl
fifth Fallback = refl

fourth : (m : Mode) → ds_bit4 m ≡ not (remote_or_ratio (some m))
fourth Hold = refl
fourth Track = refl
fourth Forced = refl
fourth Manual = refl
fourth Auto = refl
fourth Remote = refl
fourth Ratio = refl
fourth Fallback = refl

module _ (now : Core) where
  ds_bits : List Bool
  ds_bits =
      let m = mode_now now in
      let k = now.conditions in
      let i = now.indications in
      bits now.userbits.user2 now.userbits.user1 (ds_bit5 m) (ds_bit4 m) (not i.batterylow)
      (not (is_cause k.fault k.opencount)) (not i.lowalarm) (not i.highalarm) []

  ds_is : ds_now now ≡ binary ds_bits now.conditions.pins
  unfolding DS ds_low ds_bits binary
  ds_is = byte_binary _ _ _ _ _ _ _ _ [] now.conditions.pins

  ds_bit : (k : ℕ) → k < 8 → bit (ds_now now) k ≡ get_or ds_bits k false
  unfolding ds_bits
  ds_bit k h = ap (λ (n : ℕ). bit n k) ds_is ∙ bit_at ds_bits now.conditions.pins k h

  high_byte : ds_now now / 256 ≡ now.conditions.pins
  unfolding DS ds_low
  high_byte = page_is now.conditions.pins _ _ _ _ _ _ _ _

  pub shows_ds : ShowsDS (ds_now now) now
  unfolding ds_bits
  shows_ds =
      record {
        pins = high_byte;
        user2 = ds_bit 7 (omega arith);
        user1 = ds_bit 6 (omega arith);
        hold_or_manual =
            ds_bit 5 (omega arith) ∙ fifth (mode_now now) ∙
            ap (λ (o : Option Mode). not (hold_manual_or_forced o)) (sym (mode_is_first now));
        remote_or_ratio =
            ds_bit 4 (omega arith) ∙ fourth (mode_now now) ∙ ap (λ (o : Option Mode). not (remote_or_ratio o)) (sym (mode_is_first now));
        battery = ds_bit 3 (omega arith);
        cause = ds_bit 2 (omega arith);
        low_alarm = ds_bit 1 (omega arith);
        high_alarm = ds_bit 0 (omega arith);
      }

-- Quotients by how near they are, and the setpoints that steps 4 and 5 choose, mode by mode.
use Rattle.std.specs.Prelude.{if◌then◌else◌}
use mathlib.Core.Path.{◌≡◌, refl, sym, ap, ◌∙◌}
use mathlib.Core.Bool.{Bool, true, false, not, ◌&&◌}
use mathlib.Core.Option.{Option, some}
use Prim.Native.Nat.{ℕ, suc, ◌+◌, ◌*◌, ◌<◌, ◌≤◌}
use native.Mathlib.Nat.{le_antisymm, mul-le-mul_right}
use native.Mathlib.Omega.{arith, by_contra}
use lib.IntN.{ℤ, pos, nat_abs, ◌+ℤ◌, ◌-ℤ◌, ◌*ℤ◌}
use Rattle.integers.specs.Choice.{never}
use Rattle.integers.specs.Limit.{limited}
use Rattle.integers.specs.Operations.{number}
use Rattle.integers.specs.Parts.{above, below, to_≡}
use Rattle.integers.specs.Rounding.{half_up, half_up-nearest, half_up-up, nearest_even}
use Rattle.integers.specs.RoundingLaws.{nearest_even-off, nearest_even-even}
use Rattle.integers.specs.Split.{split_self, split_difference, split_times, size_out}
use Rattle.signals.specs.Bits.{bit}
use Rattle.signals.specs.Signals.{buttons_of, adjustment_of}
use Rattle.signals.specs.declared.Adjustment.TheVariants.{Raise, Lower, Neither}
use Rattle.signals.specs.declared.Input.{Input}
use Rattle.modes.specs.Modes.{is_automatic, is_remote, is_ratio, is_track}
use Rattle.modes.specs.declared.Mode.{Mode}
use Rattle.modes.specs.declared.Mode.TheVariants.{Hold, Track, Forced, Manual, Auto, Remote, Ratio, Fallback}
use Rattle.scaling.specs.Root as roots
use Rattle.scaling.specs.Root.{root_of}
use Rattle.scaling.specs.Scale.{scaled}
use Rattle.local_setpoint.specs.LocalSetpoint as rules
use Rattle.local_setpoint.specs.LocalSetpoint.{moved_by_hand}
use Rattle.guarantee.specs.Modes.{automatic_mode, track_mode}
use Rattle.promises.specs.Scans.{NearestUp, Scaled, OneScaling, RootOf, NearestEven, OneQuotient, moved}
use Rattle.promises.specs.Words.{remote_or_ratio, ratio_mode}

-- ---- quotients

pub nearest_up : (n d : ℕ) → 0 < d → NearestUp n d (half_up n d)
nearest_up n d h = record { not_above = (half_up-nearest n d h).not_above; below_next = half_up-up n d h }

pub scaled_is : (low high : ℤ) (sample : ℕ) → Scaled low high sample (scaled low high sample)
unfolding scaled
scaled_is low high sample =
    record { quotient = half_up (sample * nat_abs (high -ℤ low)) 10000; nearest = nearest_up _ 10000 (omega arith); above = refl }

-- two that are nearest, halves up, lie less than one apart
pub one_scaling : OneScaling
one_scaling low high sample x y a b =
    let same : a.quotient ≡ b.quotient =
    omega (arith, a.nearest.not_above, a.nearest.below_next, b.nearest.not_above, b.nearest.below_next) in
    a.above ∙ ap (λ (k : ℕ). low +ℤ pos k) same ∙ sym b.above

pub root_found : (s : ℕ) → s ≤ 10000 → RootOf s (root_of s)
root_found s h =
    let g = roots.root_is s h in
    let r = root_of s in
    record {
      fits = g.fits;
      greatest = by_contra (suc (10000 * s)) ((r + 1) * (r + 1)) (λ k. absurd (omega (arith, g.greatest (r + 1) (omega arith))));
    }

pub nearest_even_lem : (z : ℤ) (d : ℕ) → 0 < d → NearestEven z d (nearest_even z d)
nearest_even_lem z d h = record { near = nearest_even-off z d h; even = nearest_even-even z d h }

-- two that are nearest lie at most one apart, and then both are off by one half, so that both would be even
module _ (z : ℤ) (d : ℕ) (a b : ℤ) (positive : 0 < d) (h : NearestEven z d a) (k : NearestEven z d b) where
  off : (x : ℤ) → (above x * d + below z ≤ below x * d + above z + nat_abs (x *ℤ pos d -ℤ z)) ×
      (below x * d + above z ≤ above x * d + below z + nat_abs (x *ℤ pos d -ℤ z))
  off x = size_out (x *ℤ pos d -ℤ z) (split_difference (x *ℤ pos d) z (split_times x d (split_self x)) (split_self z))

  next : above a + below b < above b + below a → above b + below a ≤ suc (above a + below b)
  next l =
      by_contra (above b + below a) (suc (above a + below b))
      (λ far. absurd (omega (arith, h.near, k.near, off a, off b, mul-le-mul_right d far)))

  not_less : above a + below b < above b + below a → ⊥
  not_less l =
      let both_half : (2 * nat_abs (a *ℤ pos d -ℤ z) ≡ d) × (2 * nat_abs (b *ℤ pos d -ℤ z) ≡ d) =
      omega (arith, h.near, k.near, off a, off b, mul-le-mul_right d l) in
      absurd (omega (arith, next l, h.even both_half.0, k.even both_half.1, number a, number b))

pub one_quotient : OneQuotient
one_quotient z d a b positive h k =
    to_≡ (le_antisymm (by_contra _ _ (not_less z d b a positive k h)) (by_contra _ _ (not_less z d a b positive h k)))

-- ---- steps 4 and 5, of the mode m

pub ratio_is : (m : Mode) → is_ratio m ≡ ratio_mode (some m)
ratio_is Hold = refl
ratio_is Track = refl
ratio_is Forced = refl
ratio_is Manual = refl
ratio_is Auto = refl
ratio_is Remote = refl
ratio_is Ratio = refl
ratio_is Fallback = refl

by_choice : (sp raise lower : Bool) (step low high v : ℤ) →
    (if sp && (raise && not lower) then limited low high (v +ℤ step) else
    if sp && (lower && not raise) then limited low high (v -ℤ step) else v)
    ≡ (if sp && true
    then rules.moved (if raise then (if lower then Neither else Raise) else if lower then Lower else Neither) step low high v
    else v)
by_choice false raise lower step low high v = refl
by_choice true true true step low high v = refl
by_choice true true false step low high v = refl
by_choice true false true step low high v = refl
by_choice true false false step low high v = refl

never_moved : (sp : Bool) (x v : ℤ) → (if sp && false then x else v) ≡ v
never_moved true x v = refl
never_moved false x v = refl

-- what hands do to a value, in the modes where it is that value that they move
pub by_hand_lem : (i : Input) (here : Bool) (step low high v : ℤ) →
    moved_by_hand i here step low high v ≡ (if here then moved i.buttons step low high v else v)
unfolding moved_by_hand buttons_of adjustment_of
by_hand_lem i true step low high v = sym (by_choice (bit i.buttons 3) (bit i.buttons 6) (bit i.buttons 7) step low high v)
by_hand_lem i false step low high v = never_moved (bit i.buttons 3) _ v

-- outside Remote and Ratio
neither : (m : Mode) → remote_or_ratio (some m) ≡ false → (is_remote m ≡ false) × (is_ratio m ≡ false)
neither Hold e = (refl, refl)
neither Track e = (refl, refl)
neither Forced e = (refl, refl)
neither Manual e = (refl, refl)
neither Auto e = (refl, refl)
neither Remote e = never (sym e)
neither Ratio e = never (sym e)
neither Fallback e = (refl, refl)

module _ (m : Mode) (outside : remote_or_ratio (some m) ≡ false) where
  pub local_one : (remote ratio local : ℤ) → (if is_remote m then remote else if is_ratio m then ratio else local) ≡ local
  local_one remote ratio local = go (is_remote m) (is_ratio m) (neither m outside).0 (neither m outside).1
    where
      go : (a b : Bool) → a ≡ false → b ≡ false → (if a then remote else if b then ratio else local) ≡ local
      go true b e d = never (sym e)
      go false true e d = never (sym d)
      go false false e d = refl

-- SL after step 4, outside Remote and Ratio; `pushed` is SL moved by hand where hands move it
pub setpoint_in_lem : (m : Mode) → remote_or_ratio (some m) ≡ false → (follows isopen : Bool) (sl near pushed : ℤ) (hand : Bool → ℤ) →
    hand true ≡ pushed →
    (if follows && not (is_automatic m) then (if isopen then sl else near) else hand (not (is_ratio m) && not (is_remote m)))
    ≡ (if not (automatic_mode (some m)) && follows then (if isopen then sl else near) else pushed)
setpoint_in_lem Hold o true isopen sl near pushed hand e = refl
setpoint_in_lem Hold o false isopen sl near pushed hand e = e
setpoint_in_lem Track o true isopen sl near pushed hand e = refl
setpoint_in_lem Track o false isopen sl near pushed hand e = e
setpoint_in_lem Forced o true isopen sl near pushed hand e = refl
setpoint_in_lem Forced o false isopen sl near pushed hand e = e
setpoint_in_lem Manual o true isopen sl near pushed hand e = refl
setpoint_in_lem Manual o false isopen sl near pushed hand e = e
setpoint_in_lem Auto o true isopen sl near pushed hand e = e
setpoint_in_lem Auto o false isopen sl near pushed hand e = e
setpoint_in_lem Remote o follows isopen sl near pushed hand e = never (sym o)
setpoint_in_lem Ratio o follows isopen sl near pushed hand e = never (sym o)
setpoint_in_lem Fallback o true isopen sl near pushed hand e = e
setpoint_in_lem Fallback o false isopen sl near pushed hand e = e

pub track_is : (m : Mode) → is_track m ≡ track_mode (some m)
track_is Hold = refl
track_is Track = refl
track_is Forced = refl
track_is Manual = refl
track_is Auto = refl
track_is Remote = refl
track_is Ratio = refl
track_is Fallback = refl

-- the mode in an option
pub same_mode : (m n : Mode) → some m ≡ some n → m ≡ n
same_mode m n e = ap (λ (o : Option Mode). inside o m) e
  where
    inside : Option Mode → Mode → Mode
    inside Option.none other = other
    inside (some mode) other = mode

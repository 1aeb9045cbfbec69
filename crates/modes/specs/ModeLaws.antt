-- Laws of the eight modes: what a computed test finds of each of them holds of any.
use Rattle.std.specs.Prelude.{◌≡◌, refl, Bool, true, false, not, ◌&&◌, ◌||◌, List, [], ◌∷◌, ℕ, get_or}
use Rattle.std.proofs.Common.{sym, ap, ◌∙◌}
use Rattle.std.specs.Bool.{beq}
use Rattle.std.proofs.Math.Bool.{and-false}
use mir.Val.{has_key}
use types.Run.{OneOf, miss}
use Rattle.modes.specs.Modes.{mode_index}
use Rattle.modes.specs.declared.Mode.{Mode}
use Rattle.modes.specs.declared.Mode.TheVariants.{Hold, Track, Forced, Manual, Auto, Remote, Ratio, Fallback}

-- the mode with an index
mode_at : ℕ → Mode
mode_at n = get_or (Hold ∷ Track ∷ Forced ∷ Manual ∷ Auto ∷ Remote ∷ Ratio ∷ Fallback ∷ []) n Hold

at_index : (mode : Mode) → mode_at (mode_index mode) ≡ mode
unfolding mode_at
at_index Hold = refl
at_index Track = refl
at_index Forced = refl
at_index Manual = refl
at_index Auto = refl
at_index Remote = refl
at_index Ratio = refl
at_index Fallback = refl

-- two modes with the same index are the same mode
pub index_apart : (a b : Mode) → mode_index a ≡ mode_index b → a ≡ b
index_apart a b e = sym (at_index a) ∙ ap mode_at e ∙ at_index b

-- whether the test holds of every mode
abbrev pub every_mode : (Mode → Bool) → Bool
every_mode test =
    test Hold && test Track && test Forced && test Manual && test Auto && test Remote && test Ratio && test Fallback

-- a test that would make a true one false, were it false, is true
not-false : (b : Bool) → (b ≡ false → false ≡ true) → b ≡ true
not-false true f = refl
not-false false f = f refl

-- a test that holds of every mode holds of this one
pub every_mode_lem : (test : Mode → Bool) → every_mode test ≡ true → (mode : Mode) → test mode ≡ true
every_mode_lem test e Hold = not-false (test Hold) (λ q. simp q at e)
every_mode_lem test e Track = not-false (test Track) (λ q. simp (q, and-false) at e)
every_mode_lem test e Forced = not-false (test Forced) (λ q. simp (q, and-false) at e)
every_mode_lem test e Manual = not-false (test Manual) (λ q. simp (q, and-false) at e)
every_mode_lem test e Auto = not-false (test Auto) (λ q. simp (q, and-false) at e)
every_mode_lem test e Remote = not-false (test Remote) (λ q. simp (q, and-false) at e)
every_mode_lem test e Ratio = not-false (test Ratio) (λ q. simp (q, and-false) at e)
every_mode_lem test e Fallback = not-false (test Fallback) (λ q. simp (q, and-false) at e)

-- two Booleans that compare equal are equal
same : (a b : Bool) → beq a b ≡ true → a ≡ b
same true true e = refl
same false false e = refl
same true false e = cc
same false true e = cc

-- of an arm of a match that names the modes with these tags and returns `answer`: if it names this mode, `answer` is
-- the mode's `property`
abbrev pub is_answer_at : (Mode → Bool) → Bool → (Mode → ℕ) → List ℕ → Mode → Bool
is_answer_at property answer tag tags mode = not (has_key tags (tag mode)) || beq answer (property mode)

-- so, where a test of all modes finds that, the arm returns the property of any mode that it names
module _ (property : Mode → Bool) (answer : Bool) (tag : Mode → ℕ) (tags : List ℕ) where
  pub arm_is : every_mode (is_answer_at property answer tag tags) ≡ true →
      (mode : Mode) → OneOf tags (tag mode) → answer ≡ property mode
  arm_is e mode named = go (has_key tags (tag mode)) refl
    where
      go : (found : Bool) → has_key tags (tag mode) ≡ found → answer ≡ property mode
      go true f = same _ _ (rw f at (every_mode_lem (is_answer_at property answer tag tags) e mode))
      go false f = absurd (miss tags (tag mode) (rw f tt) named)

-- Laws of the modes' words.
use Rattle.std.specs.Prelude.{Bool, true, false, cond, List, ◌≡◌, refl, ℕ, ◌≤◌, Option, Some, length}
use Rattle.std.proofs.Common.{ap, ◌∙◌, arith}
use Rattle.integers.specs.Choice.{never}
use Rattle.modes.specs.declared.Mode.{Mode}
use Rattle.modes.specs.declared.Mode.TheVariants.{Hold, Track, Forced, Manual, Auto, Remote, Ratio, Fallback}
use Rattle.text.specs.Words.{same_bytes, same_equal}
use Rattle.sheet_lines.specs.ModeWords.{mode_word, mode_or, mode_of}

-- every mode's word is read as that mode: no two have one word
pub word_read : (m : Mode) → mode_of (mode_word m) ≡ Some m
unfolding mode_of mode_word same_bytes
word_read Hold = refl
word_read Track = refl
word_read Forced = refl
word_read Manual = refl
word_read Auto = refl
word_read Remote = refl
word_read Ratio = refl
word_read Fallback = refl

-- a word that is read as a mode is that mode's
or_only : (word : List ℕ) (k m : Mode) (other : Option Mode) → mode_or word k other ≡ Some m
    → (other ≡ Some m → word ≡ mode_word m) → word ≡ mode_word m
or_only word k m other e h = go (same_bytes word (mode_word k)) refl e
  where
    go : (t : Bool) → same_bytes word (mode_word k) ≡ t → cond t (Some k) other ≡ Some m → word ≡ mode_word m
    go true f r = let same : k ≡ m = cc in same_equal word (mode_word k) f ∙ ap mode_word same
    go false f r = h r

pub word_only : (word : List ℕ) (m : Mode) → mode_of word ≡ Some m → word ≡ mode_word m
unfolding mode_of
word_only word m e0 =
    or_only word Hold m _ e0 (λ e1.
    or_only word Track m _ e1 (λ e2.
    or_only word Forced m _ e2 (λ e3.
    or_only word Manual m _ e3 (λ e4.
    or_only word Auto m _ e4 (λ e5.
    or_only word Remote m _ e5 (λ e6.
    or_only word Ratio m _ e6 (λ e7.
    or_only word Fallback m _ e7 (λ e8. never (cc)))))))))

pub word_length : (m : Mode) → length (mode_word m) ≤ 8
unfolding mode_word
word_length Hold = omega arith
word_length Track = omega arith
word_length Forced = omega arith
word_length Manual = omega arith
word_length Auto = omega arith
word_length Remote = omega arith
word_length Ratio = omega arith
word_length Fallback = omega arith

-- The words of a line: what stands between blanks.
use Rattle.std.specs.Prelude.{◌≡◌, refl, Bool, true, false, ◌&&◌, not, cond, nat_eq, List, [], ◌∷◌, ℕ, zero, suc, ◌+◌, ◌-◌, ◌≤◌, ◌<◌}
use Rattle.std.specs.Prelude.{eqb, ltb, length, drop, get_or, Option, None, Some}
use Rattle.std.specs.Cmp.Lexicographic.{pointwise}
use Rattle.std.specs.Option.{unwrap_or}
use Rattle.std.specs.Slice.{IsGetRangeResult}
use Rattle.std.proofs.Common.{◌∙◌, sym, ap, arith, Bor, length-drop, eqb-true, drop_of_length-le}
use Rattle.std.proofs.lemmas.List.{take_rest}
use Rattle.std.proofs.Math.Seq.{drop-cons}
use Rattle.integers.specs.Choice.{by_cases, never}
use Rattle.text.specs.declared.Span.{Span}

-- whether a byte is a blank, or where those are looked for that aren't blanks, isn't one
unfoldable pub fits_blank : Bool → ℕ → Bool
fits_blank blank b = cond (eqb b 32) blank (not blank)

-- how many bytes at the front are blanks, or aren't blanks
unfoldable pub leading : Bool → List ℕ → ℕ
leading blank [] = 0
leading blank (b ∷ bs) = cond (fits_blank blank b) (suc (leading blank bs)) 0

-- the first word at or behind a place, from its first byte up to the blank behind it or the line's end
unfoldable pub word_at : List ℕ → ℕ → Span
word_at line at =
    let from = at + leading true (drop at line) in
    record { from = from; to = from + leading false (drop from line) }

-- that word if no other follows it, else an empty one
unfoldable pub only_word : List ℕ → ℕ → Span
only_word line at =
    let word = word_at line at in
    let behind = word_at line word.to in
    cond (ltb behind.from behind.to) (record { from = at; to = at }) word

-- the place behind so many words, or behind all where there are fewer
unfoldable pub after_words : ℕ → List ℕ → ℕ → ℕ
after_words zero line at = at
after_words (suc count) line at = after_words count line (word_at line at).to

-- whether two words are the same
unfoldable pub same_bytes : List ℕ → List ℕ → Bool
same_bytes [] [] = true
same_bytes [] (y ∷ ys) = false
same_bytes (x ∷ xs) [] = false
same_bytes (x ∷ xs) (y ∷ ys) = cond (eqb x y) (same_bytes xs ys) false

-- ---- laws

pub leading_most : (blank : Bool) (bs : List ℕ) → leading blank bs ≤ length bs
unfolding leading
leading_most blank [] = omega arith
leading_most blank (b ∷ bs) =
    by_cases (λ n. n ≤ suc (length bs)) (fits_blank blank b) (suc (leading blank bs)) 0 (λ e. omega (arith, leading_most blank bs))
    (λ e. omega arith)

module _ (blank : Bool) (s : List ℕ) (i : ℕ) (inside : i < length s) where
  pub leading_more : fits_blank blank (get_or s i 0) ≡ true → i + leading blank (drop i s) ≡ suc i + leading blank (drop (suc i) s)
  unfolding leading
  leading_more e = rw (drop-cons s i 0) (simp e (omega arith))

  pub leading_ends : fits_blank blank (get_or s i 0) ≡ false → i + leading blank (drop i s) ≡ i
  unfolding leading
  leading_ends e = rw (drop-cons s i 0) (simp e (omega arith))

pub leading_none : (blank : Bool) (s : List ℕ) (i : ℕ) → length s ≤ i → i + leading blank (drop i s) ≡ i
leading_none blank s i h = omega (arith, leading_most blank (drop i s), length-drop i s)

-- one word more
pub words_more : (line : List ℕ) (count at : ℕ) → 0 < count → after_words count line at ≡ after_words (count - 1) line (word_at line at).to
unfolding after_words
words_more line zero at h = absurd (omega arith)
words_more line (suc count) at h = let rest : suc count - 1 ≡ count = omega arith in rw rest

-- words of different length are different
pub same_unequal : (a b : List ℕ) → (length a ≡ length b → ⊥) → same_bytes a b ≡ false
unfolding same_bytes
same_unequal [] [] h = absurd (h refl)
same_unequal [] (y ∷ ys) h = refl
same_unequal (x ∷ xs) [] h = refl
same_unequal (x ∷ xs) (y ∷ ys) h = by_cases (λ t. t ≡ false) (eqb x y) (same_bytes xs ys) false
    (λ e. same_unequal xs ys (λ l. h (ap suc l))) (λ e. refl)

-- the same bytes are the same word
pub same_equal : (a b : List ℕ) → same_bytes a b ≡ true → a ≡ b
unfolding same_bytes
same_equal [] [] e = refl
same_equal [] (y ∷ ys) e = never e
same_equal (x ∷ xs) [] e = never e
same_equal (x ∷ xs) (y ∷ ys) e = go (eqb x y) refl e (same_equal xs ys)
  where
    go : (t : Bool) → eqb x y ≡ t → cond t (same_bytes xs ys) false ≡ true → (same_bytes xs ys ≡ true → xs ≡ ys) → x ∷ xs ≡ y ∷ ys
    go true f r more = rw (eqb-true x y f, more r) refl
    go false f r more = never r

-- two words are the same where their bytes are, place by place
pub same_pointwise : (a b : List ℕ) → same_bytes a b ≡ pointwise nat_eq a b
unfolding same_bytes
same_pointwise [] [] = refl
same_pointwise [] (y ∷ ys) = refl
same_pointwise (x ∷ xs) [] = refl
same_pointwise (x ∷ xs) (y ∷ ys) =
    by_cases (λ t. t ≡ (eqb x y && pointwise nat_eq xs ys)) (eqb x y) (same_bytes xs ys) false
    (λ e. simp e (same_pointwise xs ys)) (λ e. simp e refl)

-- what `get` lends from a place on; behind the end it lends nothing, and the empty list stands there
pub rest_is : (s : List ℕ) (at : ℕ) (r : Option (Bor (List ℕ))) (empty : Bor (List ℕ)) →
    empty.now ≡ [] → IsGetRangeResult s at (length s) r → (unwrap_or r empty).now ≡ drop at s
rest_is s at None empty e h = e ∙ sym (drop_of_length-le s (omega (arith, h.0)))
rest_is s at (Some rest) empty e h = h.0.2 ∙ take_rest s at

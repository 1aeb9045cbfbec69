-- Laws of hexadecimal digits read.
use Rattle.std.specs.Prelude.{◌≡◌, refl, Bool, ◌&&◌, cond, List, [], ◌∷◌, ◌++◌, ℕ, zero, suc, ◌+◌, ◌*◌, ◌/◌, ◌%◌, ◌≤◌, ◌<◌, ltb, leb}
use Rattle.std.specs.List.{list_all}
use Rattle.std.specs.Prelude.{length, drop, get_or, set}
use Rattle.std.proofs.Common.{sym, ap, ◌∙◌, add-one, arith, length-append, drop-cons}
use Rattle.std.proofs.Math.Bool.{true, false}
use Rattle.std.specs.Prelude.{Some, None}
use Rattle.std.proofs.Math.Option.{Option, some, none}
use Rattle.std.proofs.Math.Dec.{eqb}
use Rattle.std.proofs.Math.Seq.{append_snoc}
use Rattle.std.proofs.lemmas.List.{set_at}
use borrow.Author.Tests.{lt-ltb, le-ltb, le-leb, lt-leb, eq-eqb, ne_eqb, ltb-true, leb-true}
use Rattle.integers.specs.Choice.{both}
use Rattle.text.specs.Hexadecimal.{hexadecimal_value, all_digits, pair, pairs, is_dash, bytes_of, count_in, bytes_in}

-- ---- digits one by one

pub all_digits_are : (s : List ℕ) → all_digits s ≡ list_all (λ b. ltb (hexadecimal_value b) 16) s
unfolding all_digits
all_digits_are [] = refl
all_digits_are (b ∷ bs) = ap (λ (t : Bool). ltb (hexadecimal_value b) 16 && t) (all_digits_are bs)

pub each_digit : (s : List ℕ) → all_digits s ≡ true → (i : ℕ) → i < length s → hexadecimal_value (get_or s i 0) < 16
unfolding all_digits
each_digit [] e i h = absurd (omega arith)
each_digit (b ∷ bs) e zero h = ltb-true (hexadecimal_value b) 16 (both (ltb (hexadecimal_value b) 16) (all_digits bs) e).0
each_digit (b ∷ bs) e (suc i) h = each_digit bs (both (ltb (hexadecimal_value b) 16) (all_digits bs) e).1 i (omega arith)

-- ---- pairs one by one

pub length_pairs : (word : List ℕ) (n : ℕ) → length (pairs word n) ≡ n
unfolding pairs
length_pairs word zero = refl
length_pairs word (suc n) = length-append (pairs word n) _ ∙ ap (λ (k : ℕ). k + 1) (length_pairs word n) ∙ add-one n

pub pairs_more :
    (word buffer : List ℕ) (n : ℕ) → n < length buffer →
    set (pairs word n ++ drop n buffer) n (pair (get_or word (2 * n) 0) (get_or word (2 * n + 1) 0)) ≡ pairs word (n + 1) ++ drop
    (n + 1) buffer
unfolding pairs
pairs_more word buffer n h =
    rw (add-one n, drop-cons buffer n 0 h)
    (set_at (pairs word n) _ (drop (suc n) buffer) _ n (length_pairs word n) ∙ sym (append_snoc (pairs word n) _ (drop (suc n) buffer)))

-- ---- a word, case by case

module _ (word : List ℕ) where
  pub dash_read : is_dash word ≡ true → bytes_of word ≡ some []
  unfolding bytes_of
  dash_read e = simp e

  module _ (other : is_dash word ≡ false) where
    pub empty_read : length word ≡ 0 → bytes_of word ≡ none
    unfolding bytes_of
    empty_read h = simp (other, le-ltb 0 (length word) (omega arith))

    pub odd_read : length word % 2 ≡ 1 → bytes_of word ≡ none
    unfolding bytes_of
    odd_read h =
        let odd : eqb (length word % 2) 0 ≡ false = ne_eqb (length word % 2) 0 (λ e. omega arith) in
        simp (other, lt-ltb 0 (length word) (omega arith), odd)

    module _ (some_byte : length word ≡ 0 → ⊥) (even : length word % 2 ≡ 1 → ⊥) where
      tests : (t : Bool) → all_digits word ≡ t → (ltb 0 (length word) && (eqb (length word % 2) 0 && all_digits word)) ≡ t
      tests t e = simp (lt-ltb 0 (length word) (omega arith), eq-eqb (length word % 2) 0 (omega arith), e)

      pub digits_read : all_digits word ≡ true → bytes_of word ≡ some (pairs word (length word / 2))
      unfolding bytes_of
      digits_read e = simp (other, tests true e)

      pub others_read : all_digits word ≡ false → bytes_of word ≡ none
      unfolding bytes_of
      others_read e = simp (other, tests false e)

-- what is no bytes
pub none_in : {r : Option (List ℕ)} (buffer : List ℕ) → r ≡ none → (None ≡ count_in r (length buffer)) × (buffer ≡ bytes_in r buffer)
unfolding count_in bytes_in
none_in buffer e = rw e (refl, refl)

module _ {r : Option (List ℕ)} (buffer bytes : List ℕ) (n : ℕ) (e : r ≡ some bytes) (l : length bytes ≡ n) where
  pub too_many : length buffer < n → (None ≡ count_in r (length buffer)) × (buffer ≡ bytes_in r buffer)
  unfolding count_in bytes_in
  too_many h = rw e (simp (lt-leb (length bytes) (length buffer) (omega arith)) (refl, refl))

  pub all_in : n ≤ length buffer → (Some n ≡ count_in r (length buffer)) × (bytes ++ drop n buffer ≡ bytes_in r buffer)
  unfolding count_in bytes_in
  all_in h = rw (e, ← l) (simp (le-leb (length bytes) (length buffer) (omega arith)) (refl, refl))

-- bytes that are counted fit
pub count_fits : (r : Option (List ℕ)) (size n : ℕ) → Some n ≡ count_in r size → n ≤ size
unfolding count_in
count_fits none size n e = let z : ◌≡◌ {A = ℕ} 0 1 = cc in absurd (omega arith)
count_fits (some bytes) size n e = go (leb (length bytes) size) refl e
  where
    go : (t : Bool) → leb (length bytes) size ≡ t → Some n ≡ cond t (Some (length bytes)) None → n ≤ size
    go true h e = let same : n ≡ length bytes = cc in omega (arith, leb-true (length bytes) size h)
    go false h e = let z : ◌≡◌ {A = ℕ} 0 1 = cc in absurd (omega arith)

-- A list by its places, and a loop that fills an array so: one law for every type of element.
use Rattle.std.specs.Prelude.{◌≡◌, length, take, get_or}
use Rattle.std.proofs.Math.Path.{refl, sym, ap}
use Rattle.std.proofs.Common.{subst, ◌∙◌, add-zero, zero-add, add-suc, suc-add, le_of_suc-le-suc, not-suc-le-zero, arith, ⊎_elim}
use Rattle.std.proofs.Common.{eq-or-lt_of_le}
use Rattle.std.specs.Array.{IsFromFnResult, IsFromFnResultFrom}
use Rattle.std.specs.Fn.{Called}
use denote.Param.Members.{Mut}
use mathlib.Core.List.{List, [], ◌∷◌}
use Prim.Native.Nat.{ℕ, zero, suc, ◌+◌, ◌-◌, ◌≤◌, ◌<◌}

-- f of so many places, from the first on
unfoldable pub listed : {A : Type 0} → (ℕ → A) → ℕ → ℕ → List A
listed f first zero = []
listed f first (suc many) = f first ∷ listed f (suc first) many

module _ {A : Type 0} (f : ℕ → A) where
  pub listed_length : (first many : ℕ) → length (listed f first many) ≡ many
  unfolding listed
  listed_length first zero = refl
  listed_length first (suc many) = ap suc (listed_length (suc first) many)

  pub listed_at : (d : A) (first many place : ℕ) → place < many → get_or (listed f first many) place d ≡ f (first + place)
  unfolding listed
  listed_at d first zero place h = absurd (not-suc-le-zero h)
  listed_at d first (suc many) zero h = ap f (sym (add-zero first))
  listed_at d first (suc many) (suc place) h =
      listed_at d (suc first) many place (le_of_suc-le-suc h) ∙ ap f (suc-add first place ∙ sym (add-suc first place))

-- without the last
pub listed_front : {A : Type 0} (f : ℕ → A) (first many : ℕ) → take many (listed f first (suc many)) ≡ listed f first many
unfolding listed
listed_front f first zero = refl
listed_front {A} f first (suc many) = ap (λ (l : List A). f first ∷ l) (listed_front f (suc first) many)

-- a list that has f of each place at it
pub listed_by : {A : Type 0} (f : ℕ → A) (first : ℕ) (xs : List A) →
    ((place : ℕ) (d : A) → place < length xs → get_or xs place d ≡ f (first + place)) → xs ≡ listed f first (length xs)
unfolding listed
listed_by f first [] h = refl
listed_by {A} f first (x ∷ xs) h =
    let here : x ≡ f first = h 0 x (omega arith) ∙ ap f (add-zero first) in
    let others = listed_by f (suc first) xs (λ place d l.
    h (suc place) d (omega arith) ∙ ap f (add-suc first place ∙ sym (suc-add first place))) in
    cc (here, others)

-- `array::from_fn` of a closure that gives f of each place and stays as it is
module _ {F A : Type 0} (g : Mut F (ℕ × Unit {0}) A) (s : F) (f : ℕ → A)
    (gives : (place : ℕ) (y : A) (q : F) → Called g s (place, tt) y q → (y ≡ f place) × (q ≡ s)) where
  made_at : (xs : List A) (q : F) (first many place : ℕ) (d : A) → q ≡ s → IsFromFnResultFrom g q xs first many →
      first ≤ place → place < first + many → get_or xs place d ≡ f place
  made_at xs q first zero place d e made a b = absurd (omega arith)
  made_at xs q first (suc many) place d e made a b =
      let here = gives first made.1 made.0 (subst (λ (p : F). Called g p (first, tt) made.1 made.0) e made.3) in
      ⊎_elim (λ (h : first ≡ place). subst (λ (n : ℕ). get_or xs n d ≡ f n) h (made.2.1 d ∙ here.0))
      (λ (h : first < place). made_at xs made.0 (first + 1) many place d here.1 made.4 (omega arith) (omega arith))
      (eq-or-lt_of_le a)

  pub made_listed : (xs : List A) (many : ℕ) → IsFromFnResult g s xs many → xs ≡ listed f 0 many
  made_listed xs many made =
      listed_by f 0 xs (λ place d l.
      made_at xs s 0 many place d refl made.each (omega arith) (omega (arith, made.long)) ∙ sym (ap f (zero-add place)))
      ∙ ap (λ (n : ℕ). listed f 0 n) made.long

-- two functions agree at each number of a short range: both lists are computed, and one `refl` compares them
pub listed_same : {A : Type 0} (f g : ℕ → A) (first many n : ℕ) → listed f first many ≡ listed g first many →
    first ≤ n → n < first + many → f n ≡ g n
listed_same {A} f g first many n e h l =
    let place = n - first in
    let at : first + place ≡ n = omega arith in
    subst (λ (m : ℕ). f m ≡ g m) at
    (sym (listed_at f (f 0) first many place (omega arith))
    ∙ ap (λ (xs : List A). get_or xs place (f 0)) e
    ∙ listed_at g (f 0) first many place (omega arith))

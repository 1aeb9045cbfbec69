-- Laws of the mnemonics: the table as the code has it, the search in it, and that each names its own number.
use Rattle.std.specs.Prelude.{◌≡◌, Bool, true, false, List, [], ◌∷◌, ℕ, zero, suc, ◌+◌, ◌-◌, ◌*◌, ◌≤◌, ◌<◌, ltb, length, take, drop, get_or}
use Rattle.std.specs.Prelude.{if◌then◌else◌}
use Rattle.std.proofs.Math.Path.{refl}
use Rattle.std.proofs.Common.{sym, ap, ◌∙◌, arith, drop-cons, eqb-true, le-ltb, ltb-false}
use Rattle.std.specs.Prelude.{Some, None}
use Rattle.std.proofs.Math.Option.{Option, some, none}
use Rattle.integers.specs.Choice.{both}
use Rattle.integers.specs.Listed.{listed, listed_same}
use Rattle.terminal.specs.Mnemonics.{mnemonics, mnemonic, is_of, numbered, named, number_in}

-- ---- the letters of all mnemonics, one after another

abbrev pub joined : List (List ℕ) → List ℕ
joined [] = []
joined (m ∷ ms) = get_or m 0 0 ∷ get_or m 1 0 ∷ joined ms

joined_at : (ms : List (List ℕ)) (i place : ℕ) → i < length ms → place ≤ 1 →
    get_or (joined ms) (2 * i + place) 0 ≡ get_or (get_or ms i []) place 0
joined_at [] i place h p = absurd (omega arith)
joined_at (m ∷ ms) zero zero h p = refl
joined_at (m ∷ ms) zero (suc zero) h p = refl
joined_at (m ∷ ms) zero (suc (suc place)) h p = absurd (omega arith)
joined_at (m ∷ ms) (suc i) place h p =
    let next : 2 * suc i + place ≡ suc (suc (2 * i + place)) = omega arith in
    rw next (joined_at ms i place (omega arith) p)

-- the letter of a number at a place
pub letter_at : (n place : ℕ) → 1 ≤ n → n ≤ 32 → place ≤ 1 →
    get_or (joined mnemonics) (2 * (n - 1) + place) 0 ≡ get_or (mnemonic n) place 0
unfolding mnemonic
letter_at zero place l h p = absurd (omega arith)
letter_at (suc i) place l h p =
    let is : suc i - 1 ≡ i = omega arith in
    rw is (joined_at mnemonics i place (omega arith) p)

-- ---- the search

-- the mnemonics from a number on
pub from_number : (n : ℕ) → 1 ≤ n → n ≤ 32 → drop (n - 1) mnemonics ≡ mnemonic n ∷ drop n mnemonics
unfolding mnemonic
from_number zero l h = absurd (omega arith)
from_number (suc i) l h =
    let is : suc i - 1 ≡ i = omega arith in
    rw is (drop-cons mnemonics i [] (omega arith))

module _ (first second : ℕ) where
  -- the number's own two bytes
  pub search_found : (n : ℕ) → 1 ≤ n → n ≤ 32 → is_of (mnemonic n) first second ≡ true →
      numbered n (drop (n - 1) mnemonics) first second ≡ some n
  unfolding numbered
  search_found n l h e = rw (from_number n l h) (simp e)

  -- those of another
  pub search_on : (n : ℕ) → 1 ≤ n → n ≤ 32 → is_of (mnemonic n) first second ≡ false →
      numbered n (drop (n - 1) mnemonics) first second ≡ numbered (suc n) (drop n mnemonics) first second
  unfolding numbered
  search_on n l h e = rw (from_number n l h) (simp e)

  -- behind the last
  pub search_ends : (n : ℕ) → n ≡ 33 → numbered n (drop (n - 1) mnemonics) first second ≡ none
  unfolding numbered
  search_ends n e = rw e refl

pub search_begins : (line : List ℕ) → 2 ≤ length line → named line ≡ numbered 1 mnemonics (get_or line 0 0) (get_or line 1 0)
unfolding named
search_begins line h = simp (le-ltb (length line) 2 h)

-- a number that is found is one of those that were numbered
numbered_range : (n m : ℕ) (ms : List (List ℕ)) (first second : ℕ) → numbered n ms first second ≡ some m → (n ≤ m) × (m < n + length ms)
unfolding numbered
numbered_range n m [] first second e = let z : ◌≡◌ {A = ℕ} 0 1 = cc in absurd (omega arith)
numbered_range n m (k ∷ ks) first second e = go (is_of k first second) e (numbered_range (suc n) m ks first second)
  where
    go : (t : Bool) → (if t then some n else numbered (suc n) ks first second) ≡ some m →
        (numbered (suc n) ks first second ≡ some m → (suc n ≤ m) × (m < suc n + length ks)) → (n ≤ m) × (m < n + suc (length ks))
    go true f more = let is : n ≡ m = cc in (omega arith, omega arith)
    go false f more = let r = more f in (omega (arith, r.0), omega (arith, r.1))

-- a line that names a number
pub record Names (line : List ℕ) (n : ℕ) : Type 0 where
  pub two : 2 ≤ length line
  pub least : 1 ≤ n
  pub most : n ≤ 32

pub named_range : (line : List ℕ) (n : ℕ) → named line ≡ some n → Names line n
unfolding named
named_range line n e = go (ltb (length line) 2) refl e
  where
    go : (t : Bool) → ltb (length line) 2 ≡ t →
        (if t then none else numbered 1 mnemonics (get_or line 0 0) (get_or line 1 0)) ≡ some n → Names line n
    go true f g = let z : ◌≡◌ {A = ℕ} 0 1 = cc in absurd (omega arith)
    go false f g =
        let r = numbered_range 1 n mnemonics (get_or line 0 0) (get_or line 1 0) g in
        record { two = ltb-false (length line) 2 f; least = r.0; most = omega (arith, r.1) }

-- ---- the search's answer for the code

pub no_name : (line : List ℕ) → None ≡ number_in (named line) → named line ≡ none
no_name line e = go (named line) e
  where
    go : (o : Option ℕ) → None ≡ number_in o → o ≡ none
    go none f = refl
    go (some n) f = cc

pub name_found : (line : List ℕ) (n : ℕ) → Some n ≡ number_in (named line) → named line ≡ some n
name_found line n e = go (named line) e
  where
    go : (o : Option ℕ) → Some n ≡ number_in o → o ≡ some n
    go none f = cc
    go (some m) f = cc

-- ---- each mnemonic names its own number, and no other two bytes do

-- the two bytes that a found number has
numbered_has : (n m : ℕ) (ms : List (List ℕ)) (first second : ℕ) → numbered n ms first second ≡ some m →
    is_of (get_or ms (m - n) []) first second ≡ true
unfolding numbered
numbered_has n m [] first second e = let z : ◌≡◌ {A = ℕ} 0 1 = cc in absurd (omega arith)
numbered_has n m (k ∷ ks) first second e =
    go (is_of k first second) refl e (numbered_has (suc n) m ks first second) (numbered_range (suc n) m ks first second)
  where
    go : (t : Bool) → is_of k first second ≡ t → (if t then some n else numbered (suc n) ks first second) ≡ some m →
        (numbered (suc n) ks first second ≡ some m → is_of (get_or ks (m - suc n) []) first second ≡ true) →
        (numbered (suc n) ks first second ≡ some m → (suc n ≤ m) × (m < suc n + length ks)) →
        is_of (get_or (k ∷ ks) (m - n) []) first second ≡ true
    go true f g more range =
        let is : n ≡ m = cc in
        let here : m - n ≡ 0 = omega arith in
        rw here f
    go false f g more range =
        let r = range g in
        let next : m - n ≡ suc (m - suc n) = omega (arith, r.0) in
        rw next (more g)

-- a list of two bytes or more begins with its first two
pub begins : (l : List ℕ) → 2 ≤ length l → take 2 l ≡ get_or l 0 0 ∷ get_or l 1 0 ∷ []
begins [] h = absurd (omega arith)
begins (a ∷ []) h = absurd (omega arith)
begins (a ∷ b ∷ l) h = refl

pub two_letters : (n : ℕ) → 1 ≤ n → n ≤ 32 → mnemonic n ≡ get_or (mnemonic n) 0 0 ∷ get_or (mnemonic n) 1 0 ∷ []
unfolding mnemonic listed
two_letters n least most =
    listed_same mnemonic (λ (m : ℕ). get_or (mnemonic m) 0 0 ∷ get_or (mnemonic m) 1 0 ∷ []) 1 32 n refl least (omega arith)

-- a line that names a number begins with its mnemonic
pub begins_with : (line : List ℕ) (n : ℕ) → named line ≡ some n → take 2 line ≡ mnemonic n
unfolding is_of mnemonic
begins_with line n e =
    let r = named_range line n e in
    let found = sym (search_begins line r.two) ∙ e in
    let has = numbered_has 1 n mnemonics (get_or line 0 0) (get_or line 1 0) found in
    let place : get_or mnemonics (n - 1) [] ≡ mnemonic n = entry_at n r.least in
    let t = both _ _ (rw place at has) in
    begins line r.two ∙
    sym (two_letters n r.least r.most ∙
    ap (λ (b : ℕ). b ∷ get_or (mnemonic n) 1 0 ∷ []) (eqb-true (get_or (mnemonic n) 0 0) (get_or line 0 0) t.0) ∙
    ap (λ (b : ℕ). get_or line 0 0 ∷ b ∷ []) (eqb-true (get_or (mnemonic n) 1 0) (get_or line 1 0) t.1))
  where
    entry_at : (m : ℕ) → 1 ≤ m → get_or mnemonics (m - 1) [] ≡ mnemonic m
    entry_at zero h = absurd (omega arith)
    entry_at (suc i) h = let is : suc i - 1 ≡ i = omega arith in rw is refl

own_number : (n : ℕ) → 1 ≤ n → n ≤ 32 → numbered 1 mnemonics (get_or (mnemonic n) 0 0) (get_or (mnemonic n) 1 0) ≡ some n
unfolding mnemonic numbered is_of listed
own_number n least most =
    listed_same (λ (m : ℕ). numbered 1 mnemonics (get_or (mnemonic m) 0 0) (get_or (mnemonic m) 1 0)) (λ (m : ℕ). some m) 1 32 n refl least
    (omega arith)

-- what a list has that begins with two bytes
record Begins (l m : List ℕ) : Type 0 where
  two : 2 ≤ length l
  first : get_or l 0 0 ≡ get_or m 0 0
  second : get_or l 1 0 ≡ get_or m 1 0

begun : (l m : List ℕ) → take 2 l ≡ m → length m ≡ 2 → Begins l m
begun [] m e h = let none_left : 0 ≡ length m = ap length e in absurd (omega arith)
begun (a ∷ []) m e h = let one_left : 1 ≡ length m = ap length e in absurd (omega arith)
begun (a ∷ b ∷ l) m e h =
    record { two = omega arith; first = ap (λ (k : List ℕ). get_or k 0 0) e; second = ap (λ (k : List ℕ). get_or k 1 0) e }

-- and a line that begins with a mnemonic names its number
pub names : (line : List ℕ) (n : ℕ) → 1 ≤ n → n ≤ 32 → take 2 line ≡ mnemonic n → named line ≡ some n
names line n least most e =
    let b = begun line (mnemonic n) e (ap length (two_letters n least most)) in
    search_begins line b.two ∙
    ap (λ (f : ℕ). numbered 1 mnemonics f (get_or line 1 0)) b.first ∙
    ap (λ (f : ℕ). numbered 1 mnemonics (get_or (mnemonic n) 0 0) f) b.second ∙
    own_number n least most

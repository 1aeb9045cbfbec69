-- Laws of lines.
use Rattle.std.specs.Prelude.{◌≡◌, refl, Bool, not, cond, List, [], ◌∷◌, ◌++◌, eqb, ltb, length, take, drop, ℕ, ◌+◌, ◌≤◌}
use Rattle.std.specs.List.{position_or_len}
use Rattle.std.proofs.Common.{arith, ltb-false, sym}
use Rattle.std.proofs.Math.Path.{ap}
use Rattle.std.proofs.Math.Bool.{true, false}
use Rattle.std.proofs.lemmas.Grind.{common_steps}
use Rattle.integers.specs.Choice.{by_cases, never}
use Rattle.formatting.specs.Buffer.{Buffer, buffer, filled, capacity}
use Rattle.lines.specs.Lines.{has_end, line_of, rest_of, start_of, with_room}

pub start_most : (used : ℕ) → start_of used ≤ 64000
start_most used =
    by_cases (λ (n : ℕ). n ≤ 64000) (ltb 64000 used) 0 used (λ e. omega arith) (λ e. let l = ltb-false 64000 used e in omega arith)

-- the output has room for an answer
pub room_made : (o : Buffer) → filled (with_room o) ≤ 64000
room_made (buffer out used) = start_most used

pub room_kept : (o : Buffer) → capacity (with_room o) ≡ capacity o
room_kept (buffer out used) = refl

-- ---- a line by the place of its line feed

-- how many bytes stand in front of it; all of them where there is none
abbrev pub before_feed : List ℕ → ℕ
before_feed bytes = position_or_len (λ b. eqb b 10) bytes

module _ (b : ℕ) (bs : List ℕ) where
  before : (feed : Bool) → line_of bs ≡ take (before_feed bs) bs
      → cond feed [] (b ∷ line_of bs) ≡ take (cond (not feed) (1 + before_feed bs) 0) (b ∷ bs)
  before true e = refl
  before false e = grind (arith, common_steps)

  ended : (feed : Bool) → has_end bs ≡ ltb (before_feed bs) (length bs)
      → cond feed true (has_end bs) ≡ ltb (cond (not feed) (1 + before_feed bs) 0) (length (b ∷ bs))
  ended true e = grind (arith, common_steps)
  ended false e = grind (arith, common_steps)

  behind : (feed : Bool) → rest_of bs ≡ drop (before_feed bs + 1) bs
      → cond feed bs (rest_of bs) ≡ drop (cond (not feed) (1 + before_feed bs) 0 + 1) (b ∷ bs)
  behind true e = grind (arith, common_steps)
  behind false e = grind (arith, common_steps)

-- the line, whether it ends, and what is behind it
pub line_before : (bytes : List ℕ) → line_of bytes ≡ take (before_feed bytes) bytes
unfolding line_of
line_before [] = refl
line_before (b ∷ bs) = before b bs (eqb b 10) (line_before bs)

pub end_before : (bytes : List ℕ) → has_end bytes ≡ ltb (before_feed bytes) (length bytes)
unfolding has_end
end_before [] = refl
end_before (b ∷ bs) = ended b bs (eqb b 10) (end_before bs)

pub rest_before : (bytes : List ℕ) → rest_of bytes ≡ drop (before_feed bytes + 1) bytes
unfolding rest_of
rest_before [] = refl
rest_before (b ∷ bs) = behind b bs (eqb b 10) (rest_before bs)

-- ---- bytes with no line feed, and others behind them

module _ (b : ℕ) (bs : List ℕ) where
  no_feed : (feed : Bool) → eqb b 10 ≡ feed → has_end (b ∷ bs) ≡ false → (eqb b 10 ≡ false) × (has_end bs ≡ false)
  unfolding has_end
  no_feed true f e = never (sym (simp f at e))
  no_feed false f e = (f, simp f at e)

pub line_behind : (xs ys : List ℕ) → has_end xs ≡ false → line_of (xs ++ ys) ≡ xs ++ line_of ys
unfolding line_of
line_behind [] ys e = refl
line_behind (x ∷ xs) ys e =
    let n = no_feed x xs (eqb x 10) refl e in
    simp n.0 (ap (λ (l : List ℕ). x ∷ l) (line_behind xs ys n.1))

pub end_behind : (xs ys : List ℕ) → has_end xs ≡ false → has_end (xs ++ ys) ≡ has_end ys
unfolding has_end
end_behind [] ys e = refl
end_behind (x ∷ xs) ys e =
    let n = no_feed x xs (eqb x 10) refl e in
    simp n.0 (end_behind xs ys n.1)

pub rest_behind : (xs ys : List ℕ) → has_end xs ≡ false → rest_of (xs ++ ys) ≡ rest_of ys
unfolding rest_of
rest_behind [] ys e = refl
rest_behind (x ∷ xs) ys e =
    let n = no_feed x xs (eqb x 10) refl e in
    simp n.0 (rest_behind xs ys n.1)

-- bytes with no line feed are a line by themselves, and nothing is behind it
pub line_whole : (xs : List ℕ) → has_end xs ≡ false → line_of xs ≡ xs
unfolding line_of
line_whole [] e = refl
line_whole (x ∷ xs) e =
    let n = no_feed x xs (eqb x 10) refl e in
    simp n.0 (ap (λ (l : List ℕ). x ∷ l) (line_whole xs n.1))

pub rest_whole : (xs : List ℕ) → has_end xs ≡ false → rest_of xs ≡ []
unfolding rest_of
rest_whole [] e = refl
rest_whole (x ∷ xs) e =
    let n = no_feed x xs (eqb x 10) refl e in
    simp n.0 (rest_whole xs n.1)

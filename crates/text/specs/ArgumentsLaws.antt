-- Laws of a line's arguments: what is known of them while words are read one by one.
use Rattle.std.specs.Prelude.{◌≡◌, refl, cond, ℤ, pos, take, replicate, set, Option, Some, None}
use Rattle.std.proofs.Math.Path.{sym, ap}
use Rattle.std.proofs.Common.{◌∙◌, zero-add, length-set, take-suc-set, length-take-le}
use mathlib.Core.List.{List, [], ◌∷◌, ◌++◌, append-nil}
use Prim.Native.Nat.{ℕ, zero, suc, ◌+◌, ◌-◌, ◌≤◌, ◌<◌}
use Rattle.std.proofs.Math.Nat.{add-zero}
use Rattle.std.proofs.Math.Numerals.{add-one}
use native.Mathlib.Omega.{arith}
use Rattle.std.proofs.Math.Dec.{eqb}
use Rattle.std.proofs.Math.ListN.{length, length-append}
use Rattle.std.proofs.lemmas.List.{set_at}
use Rattle.std.proofs.Math.Seq.{take-nil, append_snoc}
use borrow.Author.Tests.{eq-eqb, ne_eqb}
use Rattle.numerals.specs.Parsed.{number_of}
use Rattle.text.specs.Words.{word_at}
use Rattle.text.specs.Arguments.{part, first_words, in_front, numbers_of, numbers_from, padded, read_of, arguments_from}
use Rattle.text.specs.declared.Span.{Span}

-- numbers that were read, and the words that follow them
unfoldable pub gathered : List ℤ → List (List ℕ) → Option (List ℤ)
gathered before words = read_of (before ++ numbers_of (take (6 - length before) words)) (length before + length words)

-- those numbers, and the numbers that follow them up to the first word that is none
unfoldable pub front : List ℤ → List (List ℕ) → List ℤ
front before words = before ++ numbers_of (take (6 - length before) words)

stopped : (k : ℕ) (w : List ℕ) (ws : List (List ℕ)) → number_of 18 w ≡ None → numbers_of (take k (w ∷ ws)) ≡ []
unfolding numbers_of in_front
stopped zero w ws e = refl
stopped (suc k) w ws e = rw e

module _ (before : List ℤ) where
  gather_none : gathered before [] ≡ Some before
  unfolding gathered read_of numbers_of
  gather_none =
      rw (take-nil {A = List ℕ} (6 - length before), append-nil before, add-zero (length before))
      (simp (eq-eqb (length before) (length before) refl))

  front_none : front before [] ≡ before
  unfolding front numbers_of
  front_none = rw (take-nil {A = List ℕ} (6 - length before)) (append-nil before)

  front_full : (ws : List (List ℕ)) → length before ≡ 6 → front before ws ≡ before
  unfolding front numbers_of
  front_full ws h = rw h (append-nil before)

  -- where six were read, any further word is one too many
  gather_full : (ws : List (List ℕ)) → length before ≡ 6 → gathered before ws ≡ read_of before (6 + length ws)
  unfolding gathered numbers_of
  gather_full ws h = rw (h, append-nil before)

  module _ (w : List ℕ) (ws : List (List ℕ)) where
    gather_number : (v : ℤ) → length before < 6 → number_of 18 w ≡ Some v → gathered before (w ∷ ws) ≡ gathered (before ++ (v ∷ [])) ws
    unfolding gathered numbers_of in_front
    gather_number v h e =
        let n : length (before ++ (v ∷ [])) ≡ suc (length before) = length-append before (v ∷ []) ∙ add-one (length before) in
        let k : 6 - length before ≡ suc (5 - length before) = omega arith in
        let m : 6 - suc (length before) ≡ 5 - length before = omega arith in
        rw (k, n, m, e, append_snoc before v) (ap (read_of _) (omega arith))

    front_number : (v : ℤ) → length before < 6 → number_of 18 w ≡ Some v → front before (w ∷ ws) ≡ front (before ++ (v ∷ [])) ws
    unfolding front numbers_of in_front
    front_number v h e =
        let n : length (before ++ (v ∷ [])) ≡ suc (length before) = length-append before (v ∷ []) ∙ add-one (length before) in
        let k : 6 - length before ≡ suc (5 - length before) = omega arith in
        let m : 6 - suc (length before) ≡ 5 - length before = omega arith in
        rw (k, n, m, e, append_snoc before v) refl

    front_stops : number_of 18 w ≡ None → front before (w ∷ ws) ≡ before
    unfolding front
    front_stops e = rw (stopped (6 - length before) w ws e) (append-nil before)

    gather_stops : number_of 18 w ≡ None → gathered before (w ∷ ws) ≡ None
    unfolding gathered read_of
    gather_stops e =
        rw (stopped (6 - length before) w ws e, append-nil before)
        (simp (ne_eqb (length before) (length before + suc (length ws)) (λ h. omega arith)))

  padded_more : (n : ℕ) (v : ℤ) → length before ≡ n → n < 6 → set (padded before) n v ≡ padded (before ++ (v ∷ []))
  unfolding padded
  padded_more n v e h =
      let l : length (before ++ (v ∷ [])) ≡ suc (length before) = length-append before (v ∷ []) ∙ add-one (length before) in
      let k : 6 - length before ≡ suc (5 - length before) = omega arith in
      let m : 6 - suc (length before) ≡ 5 - length before = omega arith in
      rw (k, l, m, append_snoc before v) (set_at before (pos 0) _ v n e)

-- What holds after `count` words, of which the next is looked for at `at`.
pub record Gathering (line : List ℕ) (start : ℕ) (values : List ℤ) (count at : ℕ) : Type 0 where
  pub most : count ≤ 6
  pub six : length values ≡ 6
  pub same : arguments_from line start ≡ gathered (take count values) (first_words (7 - count) line at)

pub gathering_starts : (line : List ℕ) (start : ℕ) → Gathering line start (replicate 6 (pos 0)) 0 start
unfolding arguments_from gathered
gathering_starts line start =
    record {
      most = omega arith;
      six = refl;
      same = ap (read_of (numbers_of (take 6 (first_words 7 line start)))) (sym (zero-add _));
    }

module _ (line : List ℕ) (start at count : ℕ) (values : List ℤ) (g : Gathering line start values count at) (w : Span)
    (found : w ≡ word_at line at) where
  before_count : length (take count values) ≡ count
  before_count = length-take-le count values (omega (arith, g.most, g.six))

  module _ (full : count ≡ 6) where
    last : first_words (7 - count) line at ≡ cond (eqb w.from w.to) [] (part line w.from w.to ∷ [])
    unfolding first_words
    last = let k : 7 - count ≡ 1 = omega arith in rw (k, ← found)

    -- behind six numbers there is no word
    pub gathering_full : w.from ≡ w.to → Some (take count values) ≡ arguments_from line start
    gathering_full e = sym (g.same ∙ rw (last, eq-eqb w.from w.to e) (gather_none (take count values)))

    -- a seventh word
    pub gathering_over : (w.from ≡ w.to → ⊥) → None ≡ arguments_from line start
    unfolding read_of
    gathering_over e =
        let six = before_count ∙ full in
        sym (g.same ∙ rw (last, ne_eqb w.from w.to e) (gather_full (take count values) _ six ∙ rw six refl))

  module _ (inside : count < 6) where
    next : 7 - count ≡ suc (6 - count)
    next = omega arith

    -- an empty word: the line has no more
    pub gathering_ends : w.from ≡ w.to → Some (take count values) ≡ arguments_from line start
    unfolding first_words
    gathering_ends e = sym (g.same ∙ rw (next, ← found, eq-eqb w.from w.to e) (gather_none (take count values)))

    module _ (some : w.from ≡ w.to → ⊥) where
      first : first_words (7 - count) line at ≡ part line w.from w.to ∷ first_words (6 - count) line w.to
      unfolding first_words
      first = rw (next, ← found, ne_eqb w.from w.to some)

      -- a word that is no number
      pub gathering_stops : number_of 18 (part line w.from w.to) ≡ None → None ≡ arguments_from line start
      gathering_stops e = sym (g.same ∙ rw first (gather_stops (take count values) _ _ e))

      -- one number more
      pub gathering_more :
          (v : ℤ) → number_of 18 (part line w.from w.to) ≡ Some v → Gathering line start (set values count v) (count + 1) w.to
      gathering_more v e =
          let taken = take-suc-set values count v (omega (arith, g.six)) in
          let k : 7 - suc count ≡ 6 - count = omega arith in
          let small : length (take count values) < 6 = omega (arith, before_count) in
          record {
            most = omega arith;
            six = length-set values count v ∙ g.six;
            same = g.same ∙ rw (add-one, taken, k, first) (gather_number (take count values) _ _ v small e);
          }

-- ---- which numbers an answer holds, on a refusal too

-- that an array holds these numbers at its front, so many, and zeros behind them
abbrev pub Holds : ℕ → List ℤ → List ℤ → Type 0
Holds count values numbers = (count ≡ length numbers) × (values ≡ padded numbers)

-- `Gathering`, and two facts more: the array has zeros behind the numbers so far; and the line's numbers are these, and
-- then those of the words that follow, up to the first that is no number.
pub record GatheringNumbers (line : List ℕ) (start : ℕ) (values : List ℤ) (count at : ℕ) : Type 0 where
  pub gathering : Gathering line start values count at
  pub zeros : values ≡ padded (take count values)
  pub numbers : numbers_from line start ≡ front (take count values) (first_words (7 - count) line at)

pub numbers_start : (line : List ℕ) (start : ℕ) → GatheringNumbers line start (replicate 6 (pos 0)) 0 start
unfolding numbers_from front padded
numbers_start line start = record { gathering = gathering_starts line start; zeros = refl; numbers = refl }

module _ (line : List ℕ) (start at count : ℕ) (values : List ℤ) (n : GatheringNumbers line start values count at) (w : Span)
    (found : w ≡ word_at line at) where
  so_many : length (take count values) ≡ count
  so_many = before_count line start at count values n.gathering w found

  holds : numbers_from line start ≡ take count values → Holds count values (numbers_from line start)
  holds e = rw e (sym so_many, n.zeros)

  pub holds_full : count ≡ 6 → Holds 6 values (numbers_from line start)
  holds_full full =
      let all = holds (n.numbers ∙ front_full (take count values) _ (so_many ∙ full)) in
      (sym full ∙ all.0, all.1)

  module _ (inside : count < 6) where
    pub holds_ends : w.from ≡ w.to → Holds count values (numbers_from line start)
    unfolding first_words
    holds_ends e =
        let k = next line start at count values n.gathering w found inside in
        holds (n.numbers ∙ rw (k, ← found, eq-eqb w.from w.to e) (front_none (take count values)))

    module _ (some : w.from ≡ w.to → ⊥) where
      pub holds_stops : number_of 18 (part line w.from w.to) ≡ None → Holds count values (numbers_from line start)
      holds_stops e =
          let some_word = first line start at count values n.gathering w found inside some in
          holds (n.numbers ∙ rw some_word (front_stops (take count values) _ _ e))

      pub numbers_more :
          (v : ℤ) → number_of 18 (part line w.from w.to) ≡ Some v →
          GatheringNumbers line start (set values count v) (count + 1) w.to
      numbers_more v e =
          let taken = take-suc-set values count v (omega (arith, n.gathering.six)) in
          let some_word = first line start at count values n.gathering w found inside some in
          let k : 7 - suc count ≡ 6 - count = omega arith in
          let small : length (take count values) < 6 = omega (arith, so_many) in
          let stored = padded_more (take count values) count v so_many inside in
          record {
            gathering = gathering_more line start at count values n.gathering w found inside some v e;
            zeros = rw (add-one, taken) (ap (λ (l : List ℤ). set l count v) n.zeros ∙ stored);
            numbers = n.numbers ∙ rw (add-one, taken, k, some_word) (front_number (take count values) _ _ v small e);
          }

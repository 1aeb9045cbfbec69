-- Laws of digits that are written to the front of a buffer, from the last to the first.
use Rattle.std.specs.Prelude.{◌≡◌, List, ◌∷◌, ◌++◌, ℕ, suc, ◌/◌, ◌%◌, ◌≤◌, ◌<◌, length, take, set}
use Rattle.std.proofs.Common.{sym, ◌∙◌, arith, drop-cons, get_or-set_same, drop-set-lt}
use Rattle.std.proofs.Math.ListN.{drop, length-set}
use Rattle.std.proofs.Math.Seq.{append_snoc, take-append_seam}
use Rattle.numerals.specs.Numerals.{digit_byte, last_digits}
use Rattle.numerals.specs.DigitLaws.{digits_length}

drop_set : (l : List ℕ) (i v : ℕ) → i < length l → drop i (set l i v) ≡ v ∷ drop (suc i) l
drop_set l i v h =
    let k : i < length (set l i v) = omega (arith, length-set l i v) in
    drop-cons (set l i v) i 0 k ∙ rw (get_or-set_same l i v 0 h, drop-set-lt (suc i) l i v (omega arith))

-- the digits that are left, in front of what stands behind them, make the whole
pub record Writing (b count n : ℕ) (l₀ l : List ℕ) (i rest : ℕ) : Type 0 where
  pub few : i ≤ count
  pub same : length l ≡ length l₀
  pub whole : last_digits b i rest ++ drop i l ≡ last_digits b count n ++ drop count l₀

module _ (b count n : ℕ) (l₀ l : List ℕ) where
  pub writing_turn : (i j rest : ℕ) → count ≤ length l₀ → i ≡ suc j → Writing b count n l₀ l i rest
      → Writing b count n l₀ (set l j (digit_byte (rest % b))) j (rest / b)
  unfolding last_digits
  writing_turn i j rest h e w =
      let d = digit_byte (rest % b) in
      let whole = rw e at w.whole in
      let behind : drop j (set l j d) ≡ d ∷ drop (suc j) l = drop_set l j d (omega arith) in
      record {
        few = omega arith;
        same = length-set l j d ∙ w.same;
        whole = rw behind (sym (append_snoc (last_digits b j (rest / b)) d (drop (suc j) l)) ∙ whole);
      }

  pub writing_ends : (i rest : ℕ) → i ≡ 0 → Writing b count n l₀ l i rest → l ≡ last_digits b count n ++ drop count l₀
  unfolding last_digits
  writing_ends i rest e w = rw e at w.whole

-- what stands in front then
pub front : (b count n : ℕ) (l : List ℕ) → take count (last_digits b count n ++ l) ≡ last_digits b count n
front b count n l = rw (digits_length b count n) at (take-append_seam (last_digits b count n) l)

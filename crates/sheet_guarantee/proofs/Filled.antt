-- Answers that give the values of a valid sheet: one after another, each as far from the end as the sums allow.
use Rattle.std.specs.Prelude.{if◌then◌else◌, sum as total}
use Rattle.std.proofs.lemmas.List.Sums.{sum_by-cons, sum_by-set}
use mathlib.Core.Path.{◌≡◌, refl, sym, ap, subst, ◌∙◌}
use mathlib.Core.Bool.{Bool, true, false, not, ◌&&◌}
use mathlib.Core.List.{List, [], ◌∷◌}
use Prim.Native.Nat.{ℕ, zero, suc, ◌+◌, ◌-◌, ◌*◌, ◌≤◌, ◌<◌, min}
use native.Mathlib.Omega.{arith}
use lib.Dec.{eqb}
use lib.IntN.{ℤ, pos, ◌+ℤ◌, ◌-ℤ◌}
use lib.ListN.{length, get_or, set, length-set}
use lib.Seq.{get_or-set_same, get_or-set_other}
use lib.Signed.{lt_z, ◌≤ℤ◌}
use borrow.Author.Tests.{eqb-true, eqb-false}
use Rattle.integers.specs.Choice.{by_cases}
use Rattle.integers.specs.Operations.{sum, difference}
use Rattle.integers.specs.Parts.{integers}
use Rattle.signals.specs.Bits.{bit}
use Rattle.modes.specs.declared.Mode.{Mode}
use Rattle.answers.specs.declared.ScanValues.{ScanValues}
use Rattle.sheet.specs.ExtremeLaws.{Order, order_turned}
use Rattle.sheet.specs.SumLaws.{Held}
use Rattle.sheet.specs.TotalLaws.{count_most}
use Rattle.sheet.specs.declared.Bound.TheVariants.{Greatest, Least}
use Rattle.sheet.specs.declared.Occurrence.{Occurrence}
use Rattle.sheet_guarantee.specs.Claim.{AllInTypes}
use Rattle.sheet_guarantee.specs.Meaning.{Answers, none, ◌then◌, many, Numbered, latest, earlier, how_many, rank, is_in, is_alarmed}
use Rattle.sheet_guarantee.specs.Meaning.{sum_pv, sum_op}
use Rattle.sheet_guarantee.proofs.Ends.{end, ends}
use Rattle.sheet_guarantee.proofs.Room.{end_within, ends_ordered, sums_ordered}
use Rattle.sheet_guarantee.proofs.Step.{never_numbered}
use Rattle.sheet_guarantee.proofs.Unique.{at_place}

-- ---- a mode that is counted

record Some (ns : List ℕ) : Type 0 where
  place : ℕ
  inside : place < length ns
  counts : 1 ≤ get_or ns place 0

some_count : (ns : List ℕ) (k : ℕ) → total ns ≡ suc k → Some ns
some_count [] k e = absurd (omega arith)
some_count (zero ∷ ns) k e =
    let s = some_count ns k (omega (arith, sum_by-cons (λ n. n) zero ns)) in
    record { place = suc s.place; inside = omega (arith, s.inside); counts = s.counts }
some_count (suc n ∷ ns) k e = record { place = 0; inside = omega arith; counts = omega arith }

one_fewer : (ns : List ℕ) (k : ℕ) → k < length ns → 1 ≤ get_or ns k 0 → total (set ns k (get_or ns k 0 - 1)) + 1 ≡ total ns
one_fewer ns k h some = omega (arith, sum_by-set (λ n. n) ns k (get_or ns k 0 - 1) 0 h)

-- ---- a PV that leaves the others room

record Left (low high s least most : ℤ) : Type 0 where
  pv : ℤ
  not_below : low ≤ℤ pv
  not_above : pv ≤ℤ high
  rest_least : least ≤ℤ (s -ℤ pv)
  rest_most : (s -ℤ pv) ≤ℤ most

left : (low high s least most : ℤ) → low ≤ℤ high → least ≤ℤ most → (least +ℤ low) ≤ℤ s → s ≤ℤ (most +ℤ high) → Left low high s least most
left low high s least most a b c d = go (lt_z low (s -ℤ most)) refl
  where
    go : (t : Bool) → lt_z low (s -ℤ most) ≡ t → Left low high s least most
    go true e =
        let x = s -ℤ most in
        record {
          pv = x;
          not_below = omega (arith, integers, e);
          not_above = omega (arith, integers, difference s most, sum most high);
          rest_least = omega (arith, integers, difference s most, difference s x);
          rest_most = omega (arith, integers, difference s most, difference s x);
        }
    go false e =
        record {
          pv = low;
          not_below = omega (arith, integers);
          not_above = a;
          rest_least = omega (arith, integers, difference s low, sum least low);
          rest_most = omega (arith, integers, difference s most, difference s low, e);
        }

-- ---- a DS with both alarms as long as there are any, then with none

abbrev alarm_bits : ℕ → ℕ
alarm_bits zero = 3
alarm_bits (suc alarms) = 0

alarm_first : (alarms : ℕ) →
    alarms ≡ (if not (bit (alarm_bits alarms) 1 && bit (alarm_bits alarms) 0) then alarms - 1 + 1 else alarms - 1)
alarm_first zero = refl
alarm_first (suc alarms) = omega arith

-- ---- the answers, between the ends

module _ (g l : Occurrence) (o : Order Greatest g l) (greatest_held : Held g.pv) (least_held : Held l.pv) where
  abbrev pub Placed : ℕ → ℤ → Type 0
  Placed n pv = (end Least l g n ≤ℤ pv) × (pv ≤ℤ end Greatest g l n)

  pub record Filled (k : ℕ) (counts : List ℕ) (alarms op : ℕ) (s : ℤ) : Type 0 where
    pub answers : Answers
    pub in_types : AllInTypes answers
    pub many_are : many answers ≡ k
    pub modes : (m : Mode) → get_or counts (rank m) 0 ≡ how_many (is_in m) answers
    pub alarms_are : alarms ≡ how_many is_alarmed answers
    pub op_is : op ≡ sum_op answers
    pub pv_is : s ≡ sum_pv answers
    pub placed : (n : ℕ) (a : ScanValues) → Numbered answers n a → Placed n a.pv

  pv_held : (n : ℕ) (pv : ℤ) → Placed n pv → Held pv
  pv_held n pv p =
      let most = end_within Greatest g l o n in
      let least = end_within Least l g (order_turned Greatest g l o) n in
      record {
        least = omega (arith, integers, least_held.least, least, p.0);
        most = omega (arith, integers, greatest_held.most, most, p.1);
      }

  -- one more, whose mode is that of a place with a count
  module _ (k : ℕ) (counts : List ℕ) (some : Some counts) (few : some.place < 8) (pv : ℤ) (fits : Placed (suc k) pv) (op ds : ℕ) where
    place : ℕ
    place = some.place

    latest_answer : ScanValues
    latest_answer =
        record { md = 0; ds = ds; op = min op 65535; electrical = 0; mode = (at_place some.place few).mode; pv = pv }

    counted : (m : Mode) (n : ℕ) → get_or (set counts place (get_or counts place 0 - 1)) (rank m) 0 ≡ n →
        get_or counts (rank m) 0 ≡ (if is_in m latest_answer then n + 1 else n)
    unfolding place latest_answer
    counted m n e =
        let at = (at_place some.place few).is in
        by_cases (λ (q : ℕ). get_or counts (rank m) 0 ≡ q) (eqb (rank (at_place some.place few).mode) (rank m)) (n + 1) n
        (λ d.
        let same : some.place ≡ rank m = sym at ∙ eqb-true (rank (at_place some.place few).mode) (rank m) d in
        let here : get_or (set counts some.place (get_or counts some.place 0 - 1)) some.place 0 ≡ get_or counts some.place 0 - 1 =
        get_or-set_same counts some.place _ 0 some.inside in
        let now : get_or counts some.place 0 - 1 ≡ n =
        sym here ∙ ap (λ (q : ℕ). get_or (set counts some.place (get_or counts some.place 0 - 1)) q 0) same ∙ e in
        ap (λ (q : ℕ). get_or counts q 0) (sym same) ∙ omega (arith, now, some.counts))
        (λ d.
        let other : some.place ≡ rank m → ⊥ = λ q. eqb-false (rank (at_place some.place few).mode) (rank m) d (at ∙ q) in
        sym (get_or-set_other counts some.place (rank m) _ 0 (λ q. other (sym q))) ∙ e)

    extended : (alarms rest : ℕ) (s : ℤ) → alarms ≡ (if is_alarmed latest_answer then rest + 1 else rest) →
        Filled k (set counts place (get_or counts place 0 - 1)) rest (op - 65535) (s -ℤ pv) → Filled (suc k) counts alarms op s
    unfolding latest_answer
    extended alarms rest s e f =
        record {
          answers = f.answers then latest_answer;
          in_types =
              let held = pv_held (suc k) pv fits in
              (f.in_types, record { op = omega arith; pv_least = held.least; pv_most = held.most });
          many_are = omega (arith, f.many_are);
          modes = λ m. counted m (how_many (is_in m) f.answers) (f.modes m);
          alarms_are = e ∙ ap (λ (n : ℕ). if is_alarmed latest_answer then n + 1 else n) f.alarms_are;
          op_is = omega (arith, f.op_is);
          pv_is = omega (arith, integers, difference s pv, sum (sum_pv f.answers) pv, f.pv_is);
          placed = all;
        }
      where
        number_is : suc k ≡ many f.answers + 1
        number_is = omega (arith, f.many_are)

        all : (n : ℕ) (a : ScanValues) → Numbered (f.answers then latest_answer) n a → Placed n a.pv
        all n a latest = subst (λ (n : ℕ). Placed n pv) number_is fits
        all n a (earlier h) = f.placed n a h

  -- counts whose total is zero are all zero
  nothing_filled : (counts : List ℕ) (op : ℕ) (s : ℤ) → total counts ≡ 0 → op ≤ 0 → pos 0 ≤ℤ s → s ≤ℤ pos 0 → Filled 0 counts 0 op s
  nothing_filled counts op s t c d e =
      record {
        answers = none;
        in_types = tt;
        many_are = refl;
        modes = λ m. let most = count_most counts (rank m) in omega arith;
        alarms_are = refl;
        op_is = omega arith;
        pv_is = omega (arith, integers, d, e);
        placed = λ n a h. never_numbered h;
      }

  pub fill : (k : ℕ) (counts : List ℕ) (alarms op : ℕ) (s : ℤ) → length counts ≡ 8 → total counts ≡ k → alarms ≤ k → op ≤ 65535 * k →
      ends Least l g k ≤ℤ s → s ≤ℤ ends Greatest g l k → Filled k counts alarms op s
  unfolding ends place latest_answer
  fill zero counts alarms op s size t a c d e =
      let none_alarmed : 0 ≡ alarms = omega arith in
      subst (λ (n : ℕ). Filled 0 counts n op s) none_alarmed (nothing_filled counts op s t (omega arith) d e)
  fill (suc k) counts alarms op s size t a c d e =
      let some = some_count counts k t in
      let few : some.place < 8 = omega (arith, some.inside) in
      let room = left (end Least l g (suc k)) (end Greatest g l (suc k)) s (ends Least l g k) (ends Greatest g l k)
      (ends_ordered g l o (suc k) (omega arith)) (sums_ordered g l o k) d e in
      let fewer = one_fewer counts some.place some.inside some.counts in
      extended k counts some few room.pv (room.not_below, room.not_above) op (alarm_bits alarms) alarms (alarms - 1) s
      (alarm_first alarms)
      (fill k (set counts some.place (get_or counts some.place 0 - 1)) (alarms - 1) (op - 65535) (s -ℤ room.pv)
      (length-set counts some.place _ ∙ size) (omega (arith, fewer)) (omega arith) (omega arith) room.rest_least room.rest_most)

-- The fields looked at so far, and their values.
use Rattle.std.proofs.Common.{◌≡◌, ℕ, suc, ◌+◌, ◌-◌, ◌<◌, ◌≤◌, true, false, List, [], ◌++◌, length, take, drop}
use Rattle.std.proofs.Common.{set, refl, ◌∙◌, append-nil, arith, length-drop, length-set}
use Rattle.std.proofs.Common.{take_all, drop-drop, take-suc-set}
use lib.Seq.{append_snoc}
use Rattle.fields.specs.FieldLaws.{start_of, next_start, start_most}
use Rattle.fields.specs.Fields.{tag_of, length_of}
use Rattle.fields.specs.Decoding.{has_header, value_in, well_formed_from, values_from}
use Rattle.fields.specs.RoundTrip.{well_formed_more, values_more}

well_formed_not : (place many : ℕ) (b : List ℕ) → has_header (tag_of place) (length_of place) b ≡ false →
    well_formed_from place (suc many) b ≡ false
unfolding well_formed_from
well_formed_not place many b h = rw h

-- the part that is passed on is all that lies behind
part_is : (b : List ℕ) (start : ℕ) → take (length b - start) (drop start b) ≡ drop start b
part_is b start = take_all (length b - start) (drop start b) (omega (arith, length-drop start b))

-- where the field at `place` begins
pub record Begun (start place : ℕ) : Type 0 where
  pub few : place ≤ 28
  pub begins : start ≡ start_of place
  pub within : start ≤ 137

pub begun_next : (start place n : ℕ) → Begun start place → place < 28 → n ≡ length_of place → Begun (start + (3 + n)) (place + 1)
begun_next start place n g h en =
    record { few = omega arith; begins = omega (arith, next_start place h); within = omega (arith, next_start place h, start_most place h) }

-- ---- every tag and length right

pub record WellFormed (b : List ℕ) (start place : ℕ) : Type 0 where
  pub begun : Begun start place
  pub formed : well_formed_from 0 28 b ≡ well_formed_from place (28 - place) (drop start b)

pub well_formed_next : (b : List ℕ) (start place t n : ℕ) → WellFormed b start place → place < 28 → t ≡ tag_of place → n ≡ length_of place →
    has_header t n (take (length b - start) (drop start b)) ≡ true → WellFormed b (start + (3 + n)) (place + 1)
well_formed_next b start place t n g h et en hh =
    let p : take (length b - start) (drop start b) ≡ drop start b = part_is b start in
    let m : 28 - place ≡ suc (28 - (place + 1)) = omega arith in
    let s : suc place ≡ place + 1 = omega arith in
    let d : drop (3 + n) (drop start b) ≡ drop (start + (3 + n)) b = drop-drop (3 + n) start b in
    let hd : has_header (tag_of place) (length_of place) (drop start b) ≡ true = cc in
    record {
      begun = begun_next start place n g.begun h en;
      formed = cc (g.formed, well_formed_more place (28 - (place + 1)) (drop start b) hd);
    }

pub well_formed_wrong : (b : List ℕ) (start place t n : ℕ) → WellFormed b start place → place < 28 → t ≡ tag_of place →
    n ≡ length_of place →
    has_header t n (take (length b - start) (drop start b)) ≡ false → well_formed_from 0 28 b ≡ false
well_formed_wrong b start place t n g h et en hh =
    let p : take (length b - start) (drop start b) ≡ drop start b = part_is b start in
    let m : 28 - place ≡ suc (28 - (place + 1)) = omega arith in
    let hd : has_header (tag_of place) (length_of place) (drop start b) ≡ false = cc in
    cc (g.formed, well_formed_not place (28 - (place + 1)) (drop start b) hd)

pub well_formed_all : (b : List ℕ) (start place : ℕ) → WellFormed b start place → 28 ≤ place → true ≡ well_formed_from 0 28 b
unfolding well_formed_from
well_formed_all b start place g h =
    let z : 28 - place ≡ 0 = omega arith in
    let f : well_formed_from place 0 (drop start b) ≡ true = refl in
    cc g.formed

-- ---- the values

pub record Decoded (b values : List ℕ) (start place : ℕ) : Type 0 where
  pub begun : Begun start place
  pub size : length values ≡ 28
  pub decoded : values_from 0 28 b ≡ take place values ++ values_from place (28 - place) (drop start b)

pub decoded_next : (b values : List ℕ) (start place n v : ℕ) → Decoded b values start place → place < 28 → n ≡ length_of place →
    v ≡ value_in n (take (length b - start) (drop start b)) → Decoded b (set values place v) (start + (3 + n)) (place + 1)
decoded_next b values start place n v g h en ev =
    let p : take (length b - start) (drop start b) ≡ drop start b = part_is b start in
    let m : 28 - place ≡ suc (28 - (place + 1)) = omega arith in
    let s : suc place ≡ place + 1 = omega arith in
    let d : drop (3 + n) (drop start b) ≡ drop (start + (3 + n)) b = drop-drop (3 + n) start b in
    record {
      begun = begun_next start place n g.begun h en;
      size = length-set values place v ∙ g.size;
      decoded =
          cc (
            g.decoded,
            values_more place (28 - (place + 1)) (drop start b),
            take-suc-set values place v (omega arith),
            append_snoc (take place values) v (values_from (suc place) (28 - (place + 1)) (drop (start + (3 + n)) b)),
          );
    }

pub decoded_all : (b values : List ℕ) (start place : ℕ) → Decoded b values start place → 28 ≤ place → values ≡ values_from 0 28 b
unfolding values_from
decoded_all b values start place g h =
    let z : 28 - place ≡ 0 = omega arith in
    let e : take place values ≡ values = take_all place values (omega arith) in
    let w : values_from place 0 (drop start b) ≡ [] = refl in
    cc (g.decoded, append-nil values)

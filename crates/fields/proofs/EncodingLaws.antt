-- What the stores of a field leave, and the fields encoded so far, one behind the other.
use Rattle.std.proofs.Common.{◌≡◌, ℕ, ◌+◌, ◌-◌, ◌/◌, ◌%◌, ◌<◌, ◌≤◌, List, [], ◌∷◌, ◌++◌, length, get_or, take, drop, set, sym, ap, ◌∙◌}
use Rattle.std.proofs.Common.{subst, append_assoc, append-nil, zero-add, add-one, arith, length-append, length-drop, drop_of_length-le}
use Rattle.std.proofs.Common.{length-take, take_all, drop-drop, take_at, drop_at}
use lib.Seq.{sets-eq}
use borrow.Rule.Slice.PartMut.{put_mid}
use Rattle.fields.specs.FieldLaws.{by_length, length_field, start_of, next_start, start_most, start_end, fields_more}
use Rattle.fields.specs.Fields.{tag_of, length_of, value_bytes, field_bytes, fields_from}

pub encoded_two : (l : List ℕ) (t n v : ℕ) → n ≡ 2 → 3 + n ≤ length l →
    set (set (set (set (set l 0 t) 1 0) 2 n) 3 (v / 256)) 4 (v % 256) ≡ field_bytes t n v ++ drop (3 + n) l
unfolding field_bytes value_bytes
encoded_two l t n v e =
    subst (λ (n : ℕ). 3 + n ≤ length l →
    set (set (set (set (set l 0 t) 1 0) 2 n) 3 (v / 256)) 4 (v % 256) ≡ field_bytes t n v ++ drop (3 + n) l) (sym e)
    (λ h. sets-eq (t ∷ 0 ∷ 2 ∷ v / 256 ∷ v % 256 ∷ []) l 0 h)

pub encoded_one : (l : List ℕ) (t n v : ℕ) → n ≡ 1 → 3 + n ≤ length l →
    set (set (set (set l 0 t) 1 0) 2 n) 3 (v % 256) ≡ field_bytes t n v ++ drop (3 + n) l
unfolding field_bytes value_bytes
encoded_one l t n v e =
    subst (λ (n : ℕ). 3 + n ≤ length l → set (set (set (set l 0 t) 1 0) 2 n) 3 (v % 256) ≡ field_bytes t n v ++ drop (3 + n) l) (sym e)
    (λ h. sets-eq (t ∷ 0 ∷ 1 ∷ v % 256 ∷ []) l 0 h)

-- what fields encoded over a buffer become where a callee encodes one more at the front of the part behind them
encoded_more : (fields field b buffer last : List ℕ) (start n : ℕ) → b ≡ fields ++ drop start buffer → start ≡ length fields →
    last ≡ field ++ drop n (take (length b - start) (drop start b)) → start + n ≤ length b →
    put_mid start (length b - start) b last ≡ (fields ++ field) ++ drop (start + n) buffer
encoded_more fields field b buffer last start n eb ea el h =
    let e_t : take start b ≡ fields = ap (take start) eb ∙ take_at fields (drop start buffer) start (sym ea) in
    let e_d : drop start b ≡ drop start buffer = ap (drop start) eb ∙ drop_at fields (drop start buffer) start (sym ea) in
    let e_a : take (length b - start) (drop start b) ≡ drop start b =
    take_all (length b - start) (drop start b) (omega (arith, length-drop start b)) in
    let e_e : drop (length b - start) (drop start b) ≡ [] =
    drop_of_length-le (drop start b) {i = length b - start} (omega (arith, length-drop start b)) in
    let e_s : drop n (drop start buffer) ≡ drop (start + n) buffer = drop-drop n start buffer in
    cc (append-nil (field ++ drop (start + n) buffer), append_assoc fields field (drop (start + n) buffer))

-- the fields before `place` are encoded over the buffer, and the next begins at `start`
pub record Encoded (values buffer b : List ℕ) (start place : ℕ) : Type 0 where
  pub few : place ≤ 28
  pub begins : start ≡ start_of place
  pub within : start ≤ 137
  pub same : length b ≡ length buffer
  pub after : start ≡ length (fields_from 0 (take place values))
  pub bytes : b ≡ fields_from 0 (take place values) ++ drop start buffer

pub encoded_next : (values buffer b last : List ℕ) (start place t n : ℕ) → length values ≡ 28 → 137 ≤ length buffer →
    Encoded values buffer b start place → place < 28 →
    t ≡ tag_of place → n ≡ length_of place → length (put_mid start (length b - start) b last) ≡ length b →
    last ≡ field_bytes t n (get_or values place 0) ++ drop (3 + n) (take (length b - start) (drop start b)) →
    Encoded values buffer (put_mid start (length b - start) b last) (start + (3 + n)) (place + 1)
encoded_next values buffer b last start place t n size room r h et en es el =
    let v = get_or values place 0 in
    let more : fields_from 0 (take (place + 1) values) ≡ fields_from 0 (take place values) ++ field_bytes t n v =
    ap (λ (k : ℕ). fields_from 0 (take k values)) (add-one place) ∙ fields_more 0 values place (omega arith) ∙ (cc (zero-add place)) in
    let long : length (field_bytes t n v) ≡ 3 + n = subst (λ (m : ℕ). length (field_bytes t m v) ≡ 3 + m) (sym en)
    (length_field t place v) in
    let next : start + (3 + n) ≡ start_of (place + 1) = omega (arith, next_start place h) in
    record {
      few = omega arith;
      begins = next;
      within = omega (arith, start_most place h);
      same = es ∙ r.same;
      after = omega (arith, ap length more, length-append (fields_from 0 (take place values)) (field_bytes t n v));
      bytes =
          cc (encoded_more (fields_from 0 (take place values)) (field_bytes t n v) b buffer last start (3 + n) r.bytes r.after el
          (omega (arith, start_most place h)));
    }

-- what a field asks of the part that is passed to it
pub room_for : (b : List ℕ) (start place n : ℕ) → 137 ≤ length b → start ≡ start_of place → place < 28 → n ≡ length_of place →
    (3 + n ≤ length (take (length b - start) (drop start b))) × (1 ≤ n) × (n ≤ 2)
room_for b start place n long begins h en =
    let one : 1 ≤ length_of place = by_length (λ (n : ℕ). 1 ≤ n) (omega arith) (omega arith) place in
    let two : length_of place ≤ 2 = by_length (λ (n : ℕ). n ≤ 2) (omega arith) (omega arith) place in
    let fit : start + (3 + n) ≤ length b = omega (arith, next_start place h, start_most place h) in
    (simp (length-take, length-drop) (omega arith), omega arith, omega arith)

-- after the last field
pub encoded_whole : (values buffer b : List ℕ) (start place : ℕ) → length values ≡ 28 → Encoded values buffer b start place → 28 ≤ place →
    b ≡ fields_from 0 values ++ drop 137 buffer
encoded_whole values buffer b start place size r h =
    let ei : place ≡ 28 = omega arith in
    let ea : start ≡ 137 = r.begins ∙ ap start_of ei ∙ start_end in
    let et : take place values ≡ values = take_all place values (omega arith) in
    cc r.bytes

-- Laws of the output buffer.
use Rattle.std.specs.Prelude.{◌≡◌, refl, List, [], ◌∷◌, ◌++◌, ℕ, zero, suc, ◌+◌, ◌-◌, ◌≤◌, ◌<◌, length, set, take, drop, get_or}
use Rattle.std.proofs.Common.{sym, ap, ◌∙◌, add-one, add-zero, zero-add, add-suc, suc-add, arith, length-set, take-append-drop}
use Rattle.std.proofs.Common.{drop_of_length-le, drop-cons, take-suc-set, drop-set-lt, lt-ltb, le-ltb, length-take}
use Rattle.std.proofs.Math.Seq.{take-append_seam, append_snoc}
use Rattle.formatting.specs.Buffer.{Buffer, buffer, append, append_all, filled, capacity, written}

-- bytes behind bytes
pub append_append : (o : Buffer) (xs ys : List ℕ) → append_all o (xs ++ ys) ≡ append_all (append_all o xs) ys
unfolding append_all
append_append o [] ys = refl
append_append o (x ∷ xs) ys = append_append (append o x) xs ys

-- the same by a name so short that an attribute with it fits a line
pub seam : (o : Buffer) (xs ys : List ℕ) → append_all o (xs ++ ys) ≡ append_all (append_all o xs) ys
seam = append_append

-- a call behind others
pub then : (o : Buffer) {p q : Buffer} (xs ys : List ℕ) → p ≡ append_all o xs → q ≡ append_all p ys → q ≡ append_all o (xs ++ ys)
then o xs ys e f = f ∙ ap (λ (b : Buffer). append_all b ys) e ∙ sym (append_append o xs ys)

-- ---- where there is room

-- a list with bytes in the place of those from a position on
unfoldable pub replaced : ℕ → List ℕ → List ℕ → List ℕ
replaced at bytes out = take at out ++ (bytes ++ drop (at + length bytes) out)

replaced_more : (at b : ℕ) (bytes out : List ℕ) → at < length out → replaced (at + 1) bytes (set out at b) ≡ replaced at (b ∷ bytes) out
unfolding replaced
replaced_more at b bytes out h =
    rw (
      add-one,
      take-suc-set out at b h,
      drop-set-lt (suc at + length bytes) out at b (omega arith),
      append_snoc (take at out) b (bytes ++ drop (suc at + length bytes) out),
      suc-add,
      add-suc,
    )

-- every byte stands behind those used, and no other byte has changed
pub append_room : (bytes out : List ℕ) (used : ℕ) → used + length bytes ≤ length out
    → append_all (buffer out used) bytes ≡ buffer (replaced used bytes out) (used + length bytes)
unfolding append_all append replaced
append_room [] out used h = let e = take-append-drop used out in rw add-zero (rw e)
append_room (b ∷ bs) out used h =
    let l : used < length out = omega arith in
    simp (lt-ltb used (length out) l)
    (append_room bs (set out used b) (used + 1) (omega (arith, length-set out used b)) ∙
    rw (replaced_more used b bs out l) (ap (buffer (replaced used (b ∷ bs) out)) (omega arith)))

-- the buffer with bytes behind those used
abbrev pub with_bytes : Buffer → List ℕ → Buffer
with_bytes (buffer out used) bytes = buffer (replaced used bytes out) (used + length bytes)

pub append_fits : (bytes : List ℕ) (o : Buffer) → filled o + length bytes ≤ capacity o → append_all o bytes ≡ with_bytes o bytes
append_fits bytes (buffer out used) h = append_room bytes out used h

-- ---- where there may be none

append_full : (bytes out : List ℕ) (used : ℕ) → length out ≤ used → append_all (buffer out used) bytes ≡ buffer out used
unfolding append_all append
append_full [] out used h = refl
append_full (b ∷ bs) out used h = simp (le-ltb used (length out) h) (append_full bs out used h)

append_next : (b : ℕ) (bs out : List ℕ) (used : ℕ) → used < length out
    → append_all (buffer out used) (b ∷ bs) ≡ append_all (buffer (set out used b) (used + 1)) bs
unfolding append_all append
append_next b bs out used h = simp (lt-ltb used (length out) h) refl

-- the bytes for which there is room, and no other
append_cut : (bytes out : List ℕ) (used room : ℕ) → used + room ≡ length out
    → append_all (buffer out used) bytes ≡ append_all (buffer out used) (take room bytes)
append_cut [] out used zero h = refl
append_cut [] out used (suc room) h = refl
append_cut (b ∷ bs) out used zero h = append_full (b ∷ bs) out used (omega arith) ∙ sym (append_full [] out used (omega arith))
append_cut (b ∷ bs) out used (suc room) h =
    append_next b bs out used (omega arith) ∙
    append_cut bs (set out used b) (used + 1) room (omega (arith, length-set out used b)) ∙
    sym (append_next b (take room bs) out used (omega arith))

pub append_fitting : (bytes out : List ℕ) (used : ℕ) → used ≤ length out
    → append_all (buffer out used) bytes ≡ with_bytes (buffer out used) (take (length out - used) bytes)
append_fitting bytes out used h =
    let room = length out - used in
    append_cut bytes out used room (omega arith) ∙
    append_room (take room bytes) out used (omega (arith, length-take room bytes))

-- ---- from the front

-- in front of a buffer of which nothing was used, the bytes stand by themselves
pub append_front : (bytes out : List ℕ) (after : Buffer) → length bytes ≤ length out → after ≡ append_all (buffer out 0) bytes
    → (filled after ≡ length bytes) × (written after ≡ bytes)
unfolding replaced
append_front bytes out after h e =
    rw (e, append_room bytes out 0 (omega arith), zero-add (length bytes)) (refl, take-append_seam bytes _)

-- ---- a loop over the bytes of a slice, each of which appends what f gives of it

-- what the bytes not yet passed append to the buffer as it is now, p, is what all of them append to it as it was, o
module _ (f : List ℕ → List ℕ) (none : f [] ≡ []) (more : (b : ℕ) (bs : List ℕ) → f (b ∷ bs) ≡ f (b ∷ []) ++ f bs)
    (bytes : List ℕ) (i : ℕ) (o p : Buffer) (whole : append_all p (f (drop i bytes)) ≡ append_all o (f bytes)) where
  pub appending_turn : (q : Buffer) → i < length bytes → q ≡ append_all p (f (get_or bytes i 0 ∷ []))
      → append_all q (f (drop (i + 1) bytes)) ≡ append_all o (f bytes)
  appending_turn q h e =
      let s : append_all p (f (drop i bytes)) ≡ append_all q (f (drop (suc i) bytes)) =
      rw (drop-cons bytes i 0 h, more (get_or bytes i 0) (drop (suc i) bytes), e) (append_append p _ _) in
      rw add-one (sym s ∙ whole)

  pub appending_ends : length bytes ≤ i → p ≡ append_all o (f bytes)
  unfolding append_all
  appending_ends h = rw (drop_of_length-le bytes {i = i} h, none) at whole

-- Lines of a stream of bytes: a line feed ends each of them.
use Rattle.std.specs.Prelude.{◌≡◌, Bool, true, false, not, ◌&&◌, ◌||◌, cond, List, [], ◌∷◌, ◌++◌, ℕ, eqb, ltb, length}
use Rattle.std.specs.Io.KnownBytes.{Consumes}
use Rattle.std.specs.Prelude.{Option}
use Rattle.formatting.specs.Buffer.{Buffer, buffer, append_all, filled, emptied}
use Rattle.lines.specs.Reading.{Reading}

-- whether a line ends among bytes
unfoldable pub has_end : List ℕ → Bool
has_end [] = false
has_end (b ∷ bs) = cond (eqb b 10) true (has_end bs)

-- the bytes in front of the first line feed; all of them where there is none
unfoldable pub line_of : List ℕ → List ℕ
line_of [] = []
line_of (b ∷ bs) = cond (eqb b 10) [] (b ∷ line_of bs)

-- the bytes behind the first line feed; none where there is none
unfoldable pub rest_of : List ℕ → List ℕ
rest_of [] = []
rest_of (b ∷ bs) = cond (eqb b 10) bs (rest_of bs)

-- where the answer to a line begins in the output: at the front where more than 64,000 bytes were used, since those are
-- written out first
abbrev pub start_of : ℕ → ℕ
start_of used = cond (ltb 64000 used) 0 used

-- the output with room for one more answer
abbrev pub with_room : Buffer → Buffer
with_room (buffer out used) = buffer out (start_of used)

-- nothing read
abbrev pub started : Reading
started = record { unread = []; more = true }

-- no more to read
abbrev pub ended : Reading
ended = record { unread = []; more = false }

-- The unread bytes appended to the line up to the first line feed; the others stay unread.
pub record Advanced (place : Reading) (before : Buffer) (r : Reading) (after : Buffer) (found : Bool) : Type 0 where
  pub line : after ≡ append_all before (line_of place.unread)
  pub complete : found ≡ has_end place.unread
  pub pending : r.unread ≡ rest_of place.unread
  pub more : r.more ≡ place.more

-- A read hands over some bytes: the first of those that the reader had, where they are known. The input goes on if there
-- are any.
pub record Refilled (had left : Option (List ℕ)) (r : Reading) : Type 0 where
  pub taken : Consumes had left r.unread
  pub more : r.more ≡ ltb 0 (length r.unread)

-- The line goes on with bytes received, up to the first line feed, or to the end of the input.
pub record Continued (had left : Option (List ℕ)) (before : Buffer) (r : Reading) (after : Buffer) (found : Bool) : Type 0 where
  pub received : List ℕ
  pub taken : Consumes had left received
  pub line : after ≡ append_all before (line_of received)
  pub complete : found ≡ (has_end received || ltb 0 (filled after))
  pub pending : r.unread ≡ rest_of received
  pub more : r.more ≡ has_end received

-- whether the next line has to be read: it isn't pending, and the input goes on
unfoldable pub reads : Reading → Bool
reads place = not (has_end place.unread) && place.more

-- The next line is made of the bytes that were pending and of those received since: it stands at the front of the line
-- buffer, cut where the buffer ends, no other byte of which changes, and what follows its line feed is pending. A last
-- line may lack its line feed. Nothing is read while a line is pending, and before anything is read the output is
-- flushed, so none of it is used. Where the bytes that the reader had are known, what was received was the first of
-- them, and the others are left.
pub record NextLine (had left : Option (List ℕ)) (place r : Reading) (before after out₀ out : Buffer) (found : Bool) : Type 0 where
  pub received : List ℕ
  pub taken : Consumes had left received
  pub line : after ≡ append_all (emptied before) (line_of (place.unread ++ received))
  pub complete : found ≡ (has_end (place.unread ++ received) || ltb 0 (filled after))
  pub pending : r.unread ≡ rest_of (place.unread ++ received)
  pub more : r.more ≡ (place.more && has_end (place.unread ++ received))
  pub output : out ≡ cond (reads place) (emptied out₀) out₀
  pub quiet : reads place ≡ false → received ≡ []

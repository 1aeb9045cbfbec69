-- What the terminal's display shows for a line: the reply, or the refusal's number and name.
use Rattle.std.specs.Prelude.{◌≡◌, refl, List, [], ◌∷◌, ◌++◌, ℕ, ◌≤◌, take, get_or, replicate}
use Rattle.numerals.specs.Numerals.{digit_byte, last_digits, places_within, places, digits}
use Rattle.formatting.specs.Ascii.{ascii}
use Rattle.formatting.specs.Buffer.{Buffer, append_all, capacity}
use Rattle.formatting.specs.Laws.{with_bytes}
use Rattle.lines.specs.Lines.{with_room}
use Rattle.terminal.specs.Terminal.{LineReply, reply, number}
use Rattle.handheld.specs.Sessions.{SessionOutcome, typed_outcome}
use Rattle.handheld.specs.declared.session.Session.{Session}

-- the names of the refusals, in the order of their numbers, 1 to 20
abbrev pub refusal_names : List (List ℕ)
refusal_names =
    ascii "sample" ∷ ascii "button bits" ∷ ascii "sensor bits"
    ∷ ascii "number" ∷ ascii "read only" ∷ ascii "out of range" ∷ ascii "pair out of order" ∷ ascii "setpoint"
    ∷ ascii "request bits" ∷ ascii "Remote pin" ∷ ascii "cause"
    ∷ ascii "image length" ∷ ascii "image field" ∷ ascii "image value" ∷ ascii "short buffer" ∷ ascii "clock"
    ∷ ascii "no mnemonic" ∷ ascii "no value" ∷ ascii "Computer pin" ∷ ascii "no right" ∷ []

-- that of a number; none has entry 0
abbrev pub refusal_name : ℕ → List ℕ
refusal_name n = get_or ([] ∷ refusal_names) n []

-- a refusal by its number
unfoldable pub refusal_text : ℕ → List ℕ
refusal_text n = ascii "? " ++ digits n ++ ascii " " ++ refusal_name n

-- the text of an answer, with the buffer that holds the reply
unfoldable pub answer_text : LineReply → List ℕ → List ℕ
answer_text (reply count) bytes = take count bytes
answer_text (number n) bytes = refusal_text n

-- and its end
unfoldable pub answer_line : LineReply → List ℕ → List ℕ
answer_line answer bytes = answer_text answer bytes ++ ascii "\n"

-- ---- a line of the input

-- what comes of it, with a reply buffer of nine bytes that were 0
abbrev pub line_outcome : Session → List ℕ → SessionOutcome
line_outcome s line = typed_outcome s line (replicate 9 0)

-- what is written for it
abbrev pub output_line : Session → List ℕ → List ℕ
output_line s line = let outcome = line_outcome s line in answer_line outcome.answer outcome.buffer

-- A line is answered, and what is written for it is appended to the output.
pub record Answers (s next : Session) (line : List ℕ) (before after : Buffer) : Type 0 where
  pub session : next ≡ (line_outcome s line).session
  pub output : after ≡ append_all (with_room before) (output_line s line)
  -- it is not cut, and no other byte of the output changes
  pub whole : 65536 ≤ capacity before → after ≡ with_bytes (with_room before) (output_line s line)

refusal_example : refusal_text 7 ≡ ascii "? 7 pair out of order"
unfolding refusal_text digit_byte last_digits places_within places digits
refusal_example = refl

-- Lines answered one after another.
use Rattle.std.specs.Prelude.{◌≡◌, List, ℕ, ◌+◌, ◌-◌, ◌^◌, true, false, replicate, Option}
use Rattle.formatting.specs.Buffer.{Buffer, buffer, emptied}
use Rattle.lines.specs.Reading.{Reading}
use Rattle.lines.specs.Lines.{started, NextLine}

-- Where a run stands between two lines: the bytes that the reader has left, where they are known; what was read and
-- belongs to no line yet; the line before; the session; and the output.
pub record Place (S : Type 0) : Type 0 where
  pub left : Option (List ℕ)
  pub reading : Reading
  pub line : Buffer
  pub session : S
  pub output : Buffer

abbrev pub place : {S : Type 0} → Option (List ℕ) → Reading → Buffer → S → Buffer → Place S
place left reading line session output = record { left = left; reading = reading; line = line; session = session; output = output }

-- the output is flushed
abbrev pub flushed : {S : Type 0} → Place S → Place S
flushed p = place p.left p.reading p.line p.session (emptied p.output)

module _ {S : Type 0} (answers : S → S → Buffer → Buffer → Buffer → Type 0) where
  -- One line after another was answered, so many: each is the next one of those that the reader gives, and is answered
  -- once, by the session that the line before it left.
  pub data Answered (first : Place S) : ℕ → Place S → Type 0 where
    none_yet : Answered first 0 first
    one_more : {n : ℕ} {p : Place S} {left : Option (List ℕ)} {reading : Reading} {line output after : Buffer} {session : S} →
        Answered first n p → NextLine p.left left p.reading reading p.line line p.output output true →
        answers p.session session line output after →
        Answered first (n + 1) (place left reading line session after)

  -- `next_line` gave no further line, or the lines were counted to the end of 64 bits. Whether a reader had more no
  -- contract tells: a read that fails ends the input too.
  pub data Over (n : ℕ) (p : Place S) : Place S → Type 0 where
    no_line : {left : Option (List ℕ)} {reading : Reading} {line output : Buffer} →
        NextLine p.left left p.reading reading p.line line p.output output false →
        Over n p (place left reading line p.session output)
    counted : n ≡ 2 ^ 64 - 1 → Over n p p

  -- Every line that `next_line` gave was answered, and then the output was flushed.
  pub record AllAnswered (first last : Place S) : Type 0 where
    pub count : ℕ
    pub before : Place S
    pub lines : Answered first count before
    pub after : Place S
    pub over : Over count before after
    pub end : last ≡ flushed after

  -- The same with nothing read before, and with an output in which nothing stands. What is left unread, and the output
  -- that was flushed, are nobody's afterwards.
  pub record AnsweredInput (had left : Option (List ℕ)) (before line : Buffer) (first last : S) : Type 0 where
    pub reading : Reading
    pub output : Buffer
    pub all : AllAnswered (place had started before first (buffer (replicate 65536 0) 0)) (place left reading line last output)

-- Document 02, request 4: "A mechanic who may write a parameter and sends its decimal reply back must get the same
-- reply while nothing comes between, unless it is SL and refusal 8 applies." Who may is request 6's.
use Rattle.std.specs.Prelude.{◌≡◌, true, false, List, ℕ, ◌≤◌, length, take, drop, Ok}
use Rattle.rights.specs.declared.Writer.{Writer}
use Rattle.controller.specs.declared.Controller.{Controller}
use Rattle.terminal.specs.declared.LineResult.{LineResult}
use Rattle.guarantee.specs.Linked.{Slice, MutSlice}
use Rattle.guarantee.specs.Rights.{has_right, number_without}
use Rattle.promises.specs.RefusalCauses.{setpoint_refused}
use Rattle.terminal_guarantee.specs.Forms.{letters}
use Rattle.terminal_guarantee.specs.Lines.{Lifetimes, LineEnsures, RefusedWith}
use Rattle.terminal_guarantee.specs.Visits.{Events, Visited}

-- a line answered at the controller c with the reply `text` of k bytes, and the controller as it was in every item, the
-- output included
pub record SameAgain (c : Controller) (k : ℕ) (text buffer : List ℕ) (r : LineResult) (after : List ℕ) : Type 0 where
  pub controller : r.controller ≡ c
  pub answer : r.answer ≡ Ok k
  pub bytes : take k after ≡ text
  pub behind : drop k after ≡ drop k buffer

-- what comes of the reply `text` for the parameter n, sent back by w to the controller that the first line left, whose
-- pin byte is `pins`
pub record SendingBack (w : Writer) (pins n : ℕ) (first : LineResult) (text buffer : List ℕ) (r : LineResult) (after : List ℕ) (k : ℕ) :
    Type 0 where
  -- by one "who may write" it, "unless it is SL", number 20, "and refusal 8 applies"
  pub same : has_right pins w n ≡ true → (n ≡ 20 → setpoint_refused first.controller.core ≡ false) →
      SameAgain first.controller k text buffer r after
  pub setpoint : has_right pins w n ≡ true → n ≡ 20 → setpoint_refused first.controller.core ≡ true →
      RefusedWith 8 first.controller buffer r after
  -- by anyone else it is refused for want of the right
  pub without : has_right pins w n ≡ false → RefusedWith (number_without pins w) first.controller buffer r after

-- after every list of calls and lines: a line for a parameter from 1 to 23, read or written, whoever typed it, that was
-- answered with a reply; then the reply's bytes as a line, sent by the same or another, with any buffer of nine bytes
-- or more
abbrev pub ReplySentBack : Type 0
ReplySentBack =
    (word : ℕ) (es : Events) (c : Controller) → Visited word es c → (n : ℕ) → 1 ≤ n → n ≤ 23 →
    (lives : Lifetimes) (w : Writer) (bytes : Slice) (buffer : MutSlice) (r : LineResult) (after : List ℕ) →
    LineEnsures lives c w bytes buffer r after →
    take 2 bytes.now ≡ letters n → (k : ℕ) → r.answer ≡ Ok k →
    (lives2 : Lifetimes) (w2 : Writer) (again : Slice) (buffer2 : MutSlice) (r2 : LineResult) (after2 : List ℕ) →
    LineEnsures lives2 r.controller w2 again buffer2 r2 after2 → again.now ≡ take k after → 9 ≤ length buffer2.now →
    SendingBack w2 r.controller.core.conditions.pins n r (take k after) buffer2.now r2 after2 k

-- Document 02, requests 4 and 6: what is promised of a line, over the contracts of `terminal::answer`, of the
-- controller's read and write and of `Refusal::number`. Shared with the rules are the types of the state and of the
-- results, what a valid controller is, and the paper's numbers for the answers of a read and a write, whose refusals
-- are promised by themselves (promises). What a line asks and how a value is displayed are told apart from the rules
-- (Forms.antt).
use Rattle.std.specs.Prelude.{◌≡◌, List, ◌∷◌, ◌++◌, ℕ, ◌%◌, ◌≤◌, ◌<◌, ℤ, pos, length, take, drop, Err, Ok}
use contract.Lifetimes.{Lfts}
use denote.Ref.{at_last}
use Rattle.terminal_guarantee.specs.PlaceValue.{Number}
use Rattle.signals.specs.declared.Refusal.{Refusal}
use Rattle.rights.specs.declared.Writer.{Writer}
use Rattle.controller.specs.Answers as calls
use Rattle.controller.specs.Answers.{reply_of_verdict, reply_of_read, ReadAnswer}
use Rattle.controller.specs.Valid.{Valid}
use Rattle.controller.specs.declared.CallResult.{CallResult}
use Rattle.controller.specs.declared.Controller.{Controller}
use Rattle.terminal.specs.declared.LineResult.{LineResult}
use Rattle.terminal.proofs.answer.Reads as answer-reads
use Rattle.guarantee.specs.Linked.{Slice, MutSlice, ReadEnsures, WriteEnsures}
use Rattle.promises.specs.RefusalCauses.{NumberEnsures}
use Rattle.terminal_guarantee.specs.Forms.{letters, InTable, IsWord, IsDecimal, Value, Asked, a_read, a_write, Asks}

abbrev pub Lifetimes : Type 0
Lifetimes = Lfts 2

-- what the `ensures` of a line says of its result, where the reply buffer has the bytes `after` afterwards
abbrev pub LineEnsures : Lifetimes → Controller → Writer → Slice → MutSlice → LineResult → List ℕ → Type 0
LineEnsures lives c w line buffer r after =
    answer-reads.Post lives (c, (w, (line, (buffer, tt)))) r (c, (w, (line, (at_last buffer after, tt))))

-- its `requires`, whoever the writer, whatever the line and the buffer
abbrev pub LineReady : Controller → Type 0
LineReady c = (lives : Lifetimes) (w : Writer) (line : Slice) (buffer : MutSlice) → answer-reads.Pre lives (c, (w, (line, (buffer, tt))))

-- ---- a value as the terminal displays it

-- "four hexadecimal capitals or the shortest decimal": those of a word's 16 bits, of MD, number 24, those of all of it
-- (SW and the pins of DS are natural numbers of any size in these statements); the bytes of the value of which none are
-- fewer, and no others are as few
pub data Displayed (n : ℕ) : ℤ → List ℕ → Type 0 where
  as_word_lem : {v : ℕ} {ds : List ℕ} → IsWord n → (n ≡ 24 → v < 65536) → length ds ≡ 4 → Number 16 ds (v % 65536) →
      Displayed n (pos v) ds
  as_decimal : {v : ℤ} {ds : List ℕ} → IsDecimal n → Value n ds v → ((t : List ℕ) → Value n t v → length ds ≤ length t) →
      ((t : List ℕ) → Value n t v → length t ≡ length ds → t ≡ ds) → Displayed n v ds

-- ---- the reply

-- "The reply is the mnemonic, > and the present value": present is what a read of the controller answers then; there is
-- one (`read_exists`)
pub record Replied (c : Controller) (n : ℕ) (buffer : List ℕ) (r : LineResult) (after : List ℕ) : Type 0 where
  pub value : ℤ
  pub text : List ℕ
  pub present : (q : ReadAnswer) → ReadEnsures c n q → (q ≡ Ok value) × (reply_of_read q ≡ calls.reading value)
  pub display : Displayed n value text
  -- "and goes to the front of a lent buffer; its length is the answer and the bytes behind it stay"
  pub answer : r.answer ≡ Ok (length (letters n ++ (62 ∷ text)))
  pub bytes : after ≡ (letters n ++ (62 ∷ text)) ++ drop (length (letters n ++ (62 ∷ text))) buffer

-- a line that is refused leaves the controller and the buffer
pub record RefusedWith (k : ℕ) (c : Controller) (buffer : List ℕ) (r : LineResult) (after : List ℕ) : Type 0 where
  pub controller : r.controller ≡ c
  pub refusal : Refusal
  pub answer : r.answer ≡ Err refusal
  -- the number that a caller gets of it
  pub numbered : (m : ℕ) → NumberEnsures refusal m → m ≡ k
  pub bytes : after ≡ buffer

-- a line by which a writer writes v to the parameter n does what that writer's write does: its controller, and its
-- refusal or the reply with what is present after it; there is a result of it (`write_exists`)
pub data Written (c : Controller) (w : Writer) (n : ℕ) (v : ℤ) (buffer : List ℕ) (r : LineResult) (after : List ℕ) : Type 0 where
  refused_write : {k : ℕ} → ((q : CallResult) → WriteEnsures c w n v q → reply_of_verdict q.verdict ≡ calls.number k) →
      RefusedWith k c buffer r after → Written c w n v buffer r after
  accepted_write : ((q : CallResult) → WriteEnsures c w n v q →
      (reply_of_verdict q.verdict ≡ calls.acceptance) × (r.controller ≡ q.controller)) →
      Replied r.controller n buffer r after → Written c w n v buffer r after

-- ---- every line

-- "17 when the first two bytes are no mnemonic, before all others. 18 when what follows isn't nothing or > with such a
-- value, next after 17. 15 is also given for a reply buffer under nine bytes, right after 18 and before any refusal of
-- the read or write itself." A line that reads is answered alike whoever types it: "Reading stays free."
pub data LineClaim (c : Controller) (w : Writer) (line buffer : List ℕ) (r : LineResult) (after : List ℕ) : Type 0 where
  no_mnemonic : ((n : ℕ) → InTable n → take 2 line ≡ letters n → ⊥) → RefusedWith 17 c buffer r after → LineClaim c w line buffer r after
  no_value : {n : ℕ} → InTable n → take 2 line ≡ letters n → ((a : Asked) → Asks line a → ⊥) → RefusedWith 18 c buffer r after →
      LineClaim c w line buffer r after
  short_buffer : {a : Asked} → Asks line a → length buffer < 9 → RefusedWith 15 c buffer r after → LineClaim c w line buffer r after
  a_reading : {n : ℕ} → Asks line (a_read n) → 9 ≤ length buffer → r.controller ≡ c → Replied c n buffer r after →
      LineClaim c w line buffer r after
  a_writing : {n : ℕ} {v : ℤ} → Asks line (a_write n v) → 9 ≤ length buffer → Written c w n v buffer r after →
      LineClaim c w line buffer r after

-- of every line and every buffer, at every valid controller: each that calls and lines lead to is (`LinesAreWrites`)
abbrev pub LinesRight : Type 0
LinesRight =
    (lives : Lifetimes) (c : Controller) (w : Writer) (line : Slice) (buffer : MutSlice) (r : LineResult) (after : List ℕ) → Valid c →
    LineEnsures lives c w line buffer r after → LineClaim c w line.now buffer.now r after

-- a line asks one thing at the most, so one case of the claim is left to it
abbrev pub OneMeaning : Type 0
OneMeaning = (line : List ℕ) (a b : Asked) → Asks line a → Asks line b → a ≡ b

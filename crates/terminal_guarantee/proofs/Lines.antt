-- Every line does what its bytes ask, and is refused in the order of the request.
use Rattle.std.specs.Prelude.{if◌then◌else◌, Err, Ok}
use mathlib.Core.Path.{◌≡◌, refl, sym, ap, subst, ◌∙◌}
use mathlib.Core.Bool.{Bool, true, false}
use mathlib.Core.List.{List, ◌∷◌, ◌++◌}
use mathlib.Core.Option.{Option, some, none}
use Prim.Native.Nat.{ℕ, ◌+◌, ◌*◌, ◌/◌, ◌%◌, ◌≤◌, ◌<◌}
use native.Mathlib.Omega.{arith}
use lib.Dec.{ltb}
use lib.IntN.{ℤ, pos, nat_abs}
use lib.ListN.{length, drop}
use borrow.Author.Tests.{ltb-true, ltb-false}
use Rattle.integers.specs.Choice.{by_cases}
use Rattle.numerals.specs.DigitLaws.{digits_length}
use Rattle.numerals.specs.Numerals.{last_digits, decimal, hexadecimal_word, read_on, integer_of}
use Rattle.numerals.specs.Reading.{read_last}
use Rattle.numerals.specs.Shortest.{decimal_shortest}
use Rattle.signals.specs.Refusals.{number_of, refused_by}
use Rattle.signals.specs.declared.Refusal.{Refusal}
use Rattle.rights.specs.declared.Writer.{Writer}
use Rattle.controller.specs.Answers.{Response, reading, reply_by, reply_of_read, ReadAnswer}
use Rattle.controller.specs.Read.{value_in}
use Rattle.controller.specs.Scan.{mode_now}
use Rattle.controller.specs.Valid.{Valid}
use Rattle.controller.specs.Write.{write_tests, write}
use Rattle.controller.specs.WriteLaws.{valid_write, write_answer}
use Rattle.controller.specs.declared.Controller.{Controller}
use Rattle.terminal.specs.Commands.{is_word, value_of, command_in}
use Rattle.terminal.specs.Terminal.{value_text, reply_text, present_value, LineOutcome, reply, number, refused_line, replied}
use Rattle.terminal.specs.Terminal.{wrote_or, read_to, written_to, answered_to, answered, outcome_of, reply_of_line, LineAnswer}
use Rattle.terminal.specs.TerminalLaws.{read_named, value_few, word_value}
use Rattle.terminal.specs.declared.LineResult.{LineResult}
use Rattle.promises.specs.RefusalCauses.{NumberEnsures}
use Rattle.promises.proofs.Words.{byte_most}
use Rattle.modes.specs.declared.Conditions.{Conditions}
use Rattle.modes.specs.declared.Mode.{Mode}
use Rattle.words.specs.Words.{md_high, md_low, MD}
use Rattle.words.specs.declared.Indications.{Indications}
use Rattle.words.specs.declared.UserBits.{UserBits}
use Rattle.terminal.specs.Commands.{Command, Read, Write, NoMnemonic, NoValue}
use Rattle.terminal_guarantee.specs.Forms.{letters, InTable, Value, a_read, a_write, Asks, reads, writes}
use Rattle.terminal_guarantee.specs.Lines.{Displayed, as_word_lem, as_decimal, Replied, RefusedWith}
use Rattle.terminal_guarantee.specs.Lines.{Written, refused_write, accepted_write}
use Rattle.terminal_guarantee.specs.Lines.{LineClaim, no_mnemonic, no_value, short_buffer, a_reading, a_writing, LinesRight}
use Rattle.terminal_guarantee.proofs.PlaceValue.{read_number}
use Rattle.terminal_guarantee.proofs.Forms.{apart, is_word_lem, is_decimal, value_form, form_value}
use Rattle.terminal_guarantee.proofs.Meaning.{letters_are, Meaning, names_none, asks_nothing, asks_read, asks_write, meaning}

-- ---- a value as it is displayed

same_digit : (x y k : ℕ) → x ≡ 16 * k + y → y % 16 ≡ x % 16
same_digit x y k e = omega arith

-- the last four digits are those of 16 bits
same_word : (w : ℕ) → last_digits 16 4 (w % 65536) ≡ last_digits 16 4 w
unfolding last_digits
same_word w =
    let q = w / 65536 in
    let low = w % 65536 in
    let whole : w ≡ 65536 * q + low = omega arith in
    let tail1 : w / 16 ≡ 4096 * q + low / 16 = omega (arith, whole) in
    let tail2 : w / 16 / 16 ≡ 256 * q + low / 16 / 16 = omega (arith, tail1) in
    let tail3 : w / 16 / 16 / 16 ≡ 16 * q + low / 16 / 16 / 16 = omega (arith, tail2) in
    let a = same_digit w low (4096 * q) (omega (arith, whole)) in
    let b = same_digit (w / 16) (low / 16) (256 * q) (omega (arith, tail1)) in
    let d = same_digit (w / 16 / 16) (low / 16 / 16) (16 * q) (omega (arith, tail2)) in
    let e = same_digit (w / 16 / 16 / 16) (low / 16 / 16 / 16) q (omega (arith, tail3)) in
    rw (a, b, d, e) refl

word_displayed : (n w : ℕ) → is_word n ≡ true → (n ≡ 24 → w < 65536) → Displayed n (pos w) (hexadecimal_word w)
unfolding hexadecimal_word
word_displayed n w e small =
    let low = w % 65536 in
    let back = ap (read_on 16 0) (sym (same_word w)) ∙ read_last 16 (omega arith) (omega arith) 4 low (omega arith) in
    as_word_lem (is_word_lem n e) small (digits_length 16 4 w) (read_number 16 (omega arith) low (hexadecimal_word w) back)

-- MD is made of two bytes
high_most : (mode : Mode) (c : Conditions) → md_high mode c ≤ 255
unfolding md_high
high_most mode c = byte_most _ _ _ _ _ _ _ _

low_most : (userbits : UserBits) (indications : Indications) → md_low userbits indications ≤ 255
unfolding md_low
low_most userbits indications = byte_most _ _ _ _ _ _ _ _

md_most : (mode : Mode) (c : Conditions) (userbits : UserBits) (indications : Indications) → MD mode c userbits indications < 65536
unfolding MD
md_most mode c userbits indications = omega (arith, high_most mode c, low_most userbits indications)

md_small : (c : Controller) (n : ℕ) → n ≡ 24 → nat_abs (present_value c n) < 65536
unfolding value_in
md_small c n e = rw e (md_most (mode_now c.core) c.core.conditions c.core.userbits c.core.indications)

displayed : (c : Controller) (n : ℕ) → Valid c → Displayed n (present_value c n) (value_text n (present_value c n))
unfolding value_text value_of
displayed c n valid =
    let v = present_value c n in
    by_cases (Displayed n v) (is_word n) (hexadecimal_word (nat_abs v)) (decimal v)
    (λ e.
    subst (λ (z : ℤ). Displayed n z (hexadecimal_word (nat_abs v))) (sym (word_value c n e))
    (word_displayed n (nat_abs v) e (md_small c n)))
    (λ e.
    let d = decimal_shortest 5 v (omega (arith, value_few c n valid e)) (omega arith) in
    let reads_as : (t : List ℕ) → Value n t v → integer_of 5 t ≡ some v = λ t f. rw e at (form_value f) in
    as_decimal (is_decimal n e) (value_form n (decimal v) v (rw e d.reads)) (λ t f. d.least t (reads_as t f))
    (λ t f. d.only t (reads_as t f)))

-- ---- an answer in the code's terms

pub is_reply : (a : LineAnswer) (k : ℕ) → reply_of_line a ≡ reply k → a ≡ Ok k
is_reply (Ok l) k e = cc
is_reply (Err refusal) k e = let z : ◌≡◌ {A = ℕ} 0 1 = cc in apart z

is_value : (q : ReadAnswer) (v : ℤ) → reply_of_read q ≡ reading v → q ≡ Ok v
is_value (Ok w) v e = cc
is_value (Err refusal) v e = let z : ◌≡◌ {A = ℕ} 0 1 = cc in apart z

-- a refusal, and that its number is k
record IsRefusal (a : LineAnswer) (k : ℕ) : Type 0 where
  refusal : Refusal
  is : a ≡ Err refusal
  numbered : (m : ℕ) → NumberEnsures refusal m → m ≡ k

is_refusal : (a : LineAnswer) (k : ℕ) → reply_of_line a ≡ number k → IsRefusal a k
is_refusal (Ok l) k e = let z : ◌≡◌ {A = ℕ} 0 1 = cc in apart z
is_refusal (Err refusal) k e =
    let same : number_of refusal ≡ k = cc in record { refusal = refusal; is = refl; numbered = λ m f. f ∙ same }

-- ---- a reply

module _ (c : Controller) (n : ℕ) (buffer : List ℕ) (r : LineResult) (after : List ℕ) (t : InTable n) where
  text_is : reply_text n (present_value c n) ≡ letters n ++ (62 ∷ value_text n (present_value c n))
  unfolding reply_text
  text_is = ap (λ (l : List ℕ). l ++ (62 ∷ value_text n (present_value c n))) (sym (letters_are n t))

  replied_right : Valid c → outcome_of r after ≡ replied c n buffer → Replied c n buffer r after
  unfolding replied
  replied_right valid e =
      record {
        value = present_value c n;
        text = value_text n (present_value c n);
        present = λ q h. let is = h ∙ read_named n t.least t.most c in (is_value q (present_value c n) is, is);
        display = displayed c n valid;
        answer = is_reply r.answer _ (ap (λ (o : LineOutcome). o.answer) e ∙ ap (λ (l : List ℕ). reply (length l)) text_is);
        bytes = ap (λ (o : LineOutcome). o.buffer) e ∙ ap (λ (l : List ℕ). l ++ drop (length l) buffer) text_is;
      }

  replied_next : outcome_of r after ≡ replied c n buffer → r.controller ≡ c
  unfolding replied
  replied_next e = ap (λ (o : LineOutcome). o.next) e

pub refused_right : (k : ℕ) (c : Controller) (buffer : List ℕ) (r : LineResult) (after : List ℕ) →
    outcome_of r after ≡ refused_line c buffer k → RefusedWith k c buffer r after
refused_right k c buffer r after e =
    let f = is_refusal r.answer k (ap (λ (o : LineOutcome). o.answer) e) in
    record {
      controller = ap (λ (o : LineOutcome). o.next) e;
      refusal = f.refusal;
      answer = f.is;
      numbered = f.numbered;
      bytes = ap (λ (o : LineOutcome). o.buffer) e;
    }

-- ---- a write

written_right : (c : Controller) (w : Writer) (n : ℕ) (v : ℤ) (buffer : List ℕ) (r : LineResult) (after : List ℕ) (d : Option ℕ) →
    InTable n → Valid c → refused_by (write_tests c.core w n v) ≡ d → outcome_of r after ≡ wrote_or d c w n v buffer →
    Written c w n v buffer r after
written_right c w n v buffer r after none t valid f e =
    let next = replied_next (write c w n v).next n buffer r after t e in
    let answers = write_answer c w n v ∙ ap reply_by f in
    accepted_write
    (λ q h. (ap (λ (k : Response). k.answer) h.0 ∙ answers, next ∙ sym (ap (λ (k : Response). k.next) h.0)))
    (subst (λ (k : Controller). Replied k n buffer r after) (sym next)
    (replied_right (write c w n v).next n buffer r after t (valid_write c w n v valid) e))
written_right c w n v buffer r after (some k) t valid f e =
    refused_write (λ q h. ap (λ (k : Response). k.answer) h.0 ∙ write_answer c w n v ∙ ap reply_by f)
    (refused_right k c buffer r after e)

-- ---- every line

asked_in_table : {line : List ℕ} {n : ℕ} → Asks line (a_read n) → InTable n
asked_in_table (reads t) = t

written_in_table : {line : List ℕ} {n : ℕ} {v : ℤ} → Asks line (a_write n v) → InTable n
written_in_table (writes t f) = t

-- with room for a reply, or none
pub by_room : {P : Type 0} (c : Controller) (buffer : List ℕ) (o : LineOutcome) (r : LineResult) (after : List ℕ) →
    outcome_of r after ≡ (if ltb (length buffer) 9 then refused_line c buffer 15 else o) →
    (length buffer < 9 → RefusedWith 15 c buffer r after → P) → (9 ≤ length buffer → outcome_of r after ≡ o → P) → P
by_room {P} c buffer o r after e short room = go (ltb (length buffer) 9) refl e
  where
    go : (t : Bool) → ltb (length buffer) 9 ≡ t → outcome_of r after ≡ (if t then refused_line c buffer 15 else o) → P
    go true f g = short (ltb-true (length buffer) 9 f) (refused_right 15 c buffer r after g)
    go false f g = room (ltb-false (length buffer) 9 f) g

line_right : (c : Controller) (w : Writer) (line buffer : List ℕ) (r : LineResult) (after : List ℕ) (command : Command) → Valid c →
    Meaning line command → outcome_of r after ≡ answered_to c w buffer command → LineClaim c w line buffer r after
unfolding answered_to read_to written_to
line_right c w line buffer r after NoMnemonic valid (names_none f) e = no_mnemonic f (refused_right 17 c buffer r after e)
line_right c w line buffer r after NoValue valid (asks_nothing t f g) e = no_value t f g (refused_right 18 c buffer r after e)
line_right c w line buffer r after (Read n) valid (asks_read a) e =
    let t = asked_in_table a in
    by_room c buffer (replied c n buffer) r after e (λ h f. short_buffer a h f)
    (λ h f. a_reading a h (replied_next c n buffer r after t f) (replied_right c n buffer r after t valid f))
line_right c w line buffer r after (Write n v) valid (asks_write a) e =
    by_room c buffer (wrote_or (refused_by (write_tests c.core w n v)) c w n v buffer) r after e (λ h f. short_buffer a h f)
    (λ h f. a_writing a h (written_right c w n v buffer r after (refused_by (write_tests c.core w n v)) (written_in_table a) valid refl f))

pub lines_right : LinesRight
unfolding answered
lines_right lives c w line buffer r after valid e =
    line_right c w line.now buffer.now r after (command_in line.now) valid (meaning line.now) e

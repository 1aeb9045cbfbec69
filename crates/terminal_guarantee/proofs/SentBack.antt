-- A parameter's decimal reply, sent back as a line, is answered the same and changes nothing.
use mathlib.Core.Logic.{inl}
use mathlib.Core.Path.{◌≡◌, refl, sym, ap, ◌∙◌}
use mathlib.Core.Bool.{true, false}
use mathlib.Core.List.{List, ◌++◌}
use mathlib.Core.Option.{Option, some, none}
use Prim.Native.Nat.{ℕ, ◌≤◌}
use native.Mathlib.Omega.{arith}
use lib.Dec.{eqb}
use lib.IntN.{ℤ}
use lib.ListN.{length, take, drop}
use lib.Seq.{take-append_seam, drop-append_seam}
use borrow.Author.Tests.{eqb-true, eq-eqb, le-leb, le-ltb}
use Rattle.integers.specs.Choice.{by_cases}
use Rattle.numerals.specs.Numerals.{decimal}
use Rattle.numerals.specs.Shortest.{decimal_shortest}
use Rattle.signals.specs.Refusals.{number_of, refused_by}
use Rattle.modes.specs.declared.Mode.{Mode}
use Rattle.parameters.specs.Table.{value}
use Rattle.rights.specs.declared.Writer.{Writer}
use Rattle.controller.specs.Read.{value_in}
use Rattle.controller.specs.Valid.{Valid}
use Rattle.controller.specs.Write.{write_tests, write}
use Rattle.controller.specs.declared.Controller.{Controller}
use Rattle.guarantee.specs.Claim.{WithinLimits}
use Rattle.guarantee.specs.Modes.{mode_in, is_hold_or_track}
use Rattle.guarantee.specs.Rights.{has_right}
use Rattle.guarantee.proofs.Modes.{mode_is_first}
use Rattle.guarantee.proofs.Rights.{refused_without, some_without}
use Rattle.promises.specs.RefusalCauses.{setpoint_refused}
use Rattle.terminal.specs.Commands.{value_of, command_in}
use Rattle.terminal.specs.MnemonicLaws.{names}
use Rattle.terminal.specs.Mnemonics.{named}
use Rattle.terminal.specs.Terminal.{value_text, reply_text, present_value, LineOutcome, reply, number, refused_line, replied}
use Rattle.terminal.specs.Terminal.{wrote_or, read_to, written_to, answered_to, answered, outcome_of, reply_of_line}
use Rattle.terminal.specs.TerminalLaws.{value_few}
use Rattle.terminal.specs.declared.LineResult.{LineResult}
use Rattle.terminal.specs.Commands.{Command, Read, Write, NoMnemonic, NoValue}
use Rattle.terminal_guarantee.specs.Forms.{letters, InTable, Asked, a_read, a_write, Asks, reads, writes}
use Rattle.terminal_guarantee.specs.Lines.{RefusedWith}
use Rattle.terminal_guarantee.specs.SentBack.{ReplySentBack}
use Rattle.terminal_guarantee.specs.Visits.{typed}
use Rattle.terminal_guarantee.proofs.Forms.{apart, decimal_is, value_form}
use Rattle.terminal_guarantee.proofs.Lines.{is_reply, refused_right, by_room}
use Rattle.terminal_guarantee.proofs.Meaning.{letters_are, asked_command, Meaning, names_none, asks_nothing, asks_read}
use Rattle.terminal_guarantee.proofs.Meaning.{asks_write, meaning}
use Rattle.terminal_guarantee.proofs.Unchanged.{tests_are, unchanged}
use Rattle.terminal_guarantee.proofs.Visits.{lines_are_writes}

-- ---- the line that was answered with a reply

-- a reply is no refusal
no_reply : {A : Type 0} (k m : ℕ) → number k ≡ reply m → A
no_reply k m e = let z : ◌≡◌ {A = ℕ} 0 1 = cc in apart z

-- the parameter that a line asks for
abbrev parameter_of : Asked → ℕ
parameter_of (a_read n) = n
parameter_of (a_write n v) = n

asked_name : {line : List ℕ} {a : Asked} → Asks line a → InTable (parameter_of a) × (take 2 line ≡ letters (parameter_of a))
asked_name (reads t) = (t, refl)
asked_name (writes t f) = (t, refl)

name_is : (line : List ℕ) (n : ℕ) → InTable n → take 2 line ≡ letters n → named line ≡ some n
name_is line n t e = names line n t.least t.most (e ∙ letters_are n t)

same_number : (line : List ℕ) (a : Asked) (n : ℕ) → Asks line a → InTable n → take 2 line ≡ letters n → parameter_of a ≡ n
same_number line a n asked t e =
    let m = asked_name asked in
    let both_are : some (parameter_of a) ≡ some n = sym (name_is line (parameter_of a) m.0 m.1) ∙ name_is line n t e in
    cc

module _ (c : Controller) (line buffer : List ℕ) (r : LineResult) (after : List ℕ) (n k : ℕ) (t : InTable n)
    (named-so : take 2 line ≡ letters n) (answer : reply_of_line r.answer ≡ reply k) where
  refused_not : (j : ℕ) (o : LineOutcome) → outcome_of r after ≡ refused_line c buffer j → outcome_of r after ≡ o
  refused_not j o e = no_reply j k (sym (ap (λ (q : LineOutcome). q.answer) e) ∙ answer)

  -- it shows the parameter n of the controller that it left
  shows : (d : Controller) (m : ℕ) → m ≡ n → outcome_of r after ≡ replied d m buffer → outcome_of r after ≡ replied r.controller n buffer
  unfolding replied
  shows d m is e =
      e ∙ ap (λ (j : ℕ). replied d j buffer) is ∙ ap (λ (q : Controller). replied q n buffer) (sym (ap (λ (q : LineOutcome). q.next) e))

  by_write : (w : Writer) (m : ℕ) (v : ℤ) (d : Option ℕ) → m ≡ n → outcome_of r after ≡ wrote_or d c w m v buffer →
      outcome_of r after ≡ replied r.controller n buffer
  by_write w m v none is e = shows (write c w m v).next m is e
  by_write w m v (some j) is e = refused_not j _ e

  by_command : (w : Writer) (command : Command) → Meaning line command → outcome_of r after ≡ answered_to c w buffer command →
      outcome_of r after ≡ replied r.controller n buffer
  unfolding answered_to read_to written_to
  by_command w NoMnemonic (names_none f) e = refused_not 17 _ e
  by_command w NoValue (asks_nothing f g h) e = refused_not 18 _ e
  by_command w (Read m) (asks_read a) e =
      by_room c buffer (replied c m buffer) r after e
      (λ h f. no_reply (number_of f.refusal) k (sym (ap reply_of_line f.answer) ∙ answer))
      (λ h f. shows c m (same_number line (a_read m) n a t named-so) f)
  by_command w (Write m v) (asks_write a) e =
      by_room c buffer _ r after e
      (λ h f. no_reply (number_of f.refusal) k (sym (ap reply_of_line f.answer) ∙ answer))
      (λ h f. by_write w m v (refused_by (write_tests c.core w m v)) (same_number line (a_write m v) n a t named-so) f)

-- ---- its bytes

module _ (c : Controller) (n k : ℕ) (buffer : List ℕ) (r : LineResult) (after : List ℕ) (e : outcome_of r after ≡ replied c n buffer)
    (answer : reply_of_line r.answer ≡ reply k) where
  text : List ℕ
  text = reply_text n (present_value c n)

  size : length text ≡ k
  unfolding replied text
  size = let same : reply (length text) ≡ reply k = sym (ap (λ (q : LineOutcome). q.answer) e) ∙ answer in cc

  whole : after ≡ text ++ drop (length text) buffer
  unfolding replied text
  whole = ap (λ (q : LineOutcome). q.buffer) e

  pub front : take k after ≡ reply_text n (present_value c n)
  unfolding text
  front = rw (← size, whole) (take-append_seam text _)

  pub behind : drop k after ≡ drop k buffer
  unfolding text
  behind = rw (← size, whole) (drop-append_seam text _)

-- the same parameter of the same controller has the same reply, whatever the buffers
reply_size : (c : Controller) (n : ℕ) (buffer buffer2 : List ℕ) (r : LineResult) (after : List ℕ) (r2 : LineResult) (after2 : List ℕ) →
    outcome_of r after ≡ replied c n buffer → outcome_of r2 after2 ≡ replied c n buffer2 → reply_of_line r2.answer ≡ reply_of_line r.answer
unfolding replied
reply_size c n buffer buffer2 r after r2 after2 e f = ap (λ (q : LineOutcome). q.answer) f ∙ sym (ap (λ (q : LineOutcome). q.answer) e)

next_is : (c : Controller) (n : ℕ) (buffer : List ℕ) (r : LineResult) (after : List ℕ) → outcome_of r after ≡ replied c n buffer →
    r.controller ≡ c
unfolding replied
next_is c n buffer r after e = ap (λ (q : LineOutcome). q.next) e

-- ---- sent back

-- a read of parameters 1 to 23 answers what is stored
stored : (c : Controller) (n : ℕ) → 1 ≤ n → n ≤ 23 → present_value c n ≡ value c.core.parameters n
unfolding value_in
stored c n h k = rw (le-leb 1 n h, le-leb n 23 k) refl

reply_asks : (c : Controller) (n : ℕ) → Valid c → InTable n → n ≤ 23 →
    Asks (reply_text n (present_value c n)) (a_write n (present_value c n))
unfolding reply_text value_text value_of
reply_asks c n valid t most =
    let v = present_value c n in
    let is_decimal = decimal_is n (inl (omega arith)) in
    let few = value_few c n valid is_decimal in
    let back : value_of n (decimal v) ≡ some v = rw is_decimal (decimal_shortest 5 v (omega arith) (omega arith)).reads in
    rw (← letters_are n t, is_decimal) (writes t (value_form n (decimal v) v back))

module _ (c : Controller) (n : ℕ) (least : 1 ≤ n) (most : n ≤ 23) (valid : Valid c)
    (within : (mode : Mode) → mode_in c.core ≡ some mode → is_hold_or_track mode ≡ false → WithinLimits c) where
  abbrev v : ℤ
  v = value c.core.parameters n

  in_table : InTable n
  in_table = record { least = least; most = omega arith }

  -- the line is that write
  module _ (w : Writer) (again buffer : List ℕ) (r : LineResult) (after : List ℕ) (sent : again ≡ reply_text n (present_value c n))
      (room : 9 ≤ length buffer) (e : outcome_of r after ≡ answered c w again buffer) where
    is_write : command_in again ≡ Write n v
    is_write =
        ap command_in sent ∙ asked_command (reply_asks c n valid in_table most) ∙ ap (Write n) (stored c n least most)

    as_write : outcome_of r after ≡ wrote_or (refused_by (write_tests c.core w n v)) c w n v buffer
    unfolding answered answered_to written_to
    as_write = e ∙ rw is_write (rw (le-ltb (length buffer) 9 room) refl)

    accepted : has_right c.core.conditions.pins w n ≡ true → (n ≡ 20 → setpoint_refused c.core ≡ false) →
        outcome_of r after ≡ replied c n buffer
    accepted right free =
        let passes : refused_by (write_tests c.core w n v) ≡ none = tests_are c n least most valid w right ∙
        by_cases (λ (o : Option ℕ). o ≡ none) (eqb n 20) _ none (λ is. rw (free (eqb-true n 20 is)) refl) (λ is. refl) in
        as_write ∙ ap (λ (d : Option ℕ). wrote_or d c w n v buffer) passes ∙
        ap (λ (q : Controller). replied q n buffer) (unchanged c n least most valid w passes within)

    -- a refusal of the write is one of the line
    refused : (k : ℕ) → refused_by (write_tests c.core w n v) ≡ some k → RefusedWith k c buffer r after
    refused k f = refused_right k c buffer r after (as_write ∙ ap (λ (d : Option ℕ). wrote_or d c w n v buffer) f)

    held_refused : has_right c.core.conditions.pins w n ≡ true → n ≡ 20 → setpoint_refused c.core ≡ true →
        RefusedWith 8 c buffer r after
    held_refused right is held = refused 8 (tests_are c n least most valid w right ∙ rw (eq-eqb n 20 is, held) refl)

pub reply_sent_back : ReplySentBack
unfolding answered
reply_sent_back word es c visited n least most lives w bytes buffer r after e named-so k given lives2 w2 again buffer2 r2 after2 e2 sent
    room =
    let t : InTable n = record { least = least; most = omega arith } in
    let answer = ap reply_of_line given in
    let line = bytes.now in
    let first = by_command c line buffer.now r after n k t named-so answer w (command_in line) (meaning line) e in
    let now-visited = typed lives w bytes buffer r after visited e in
    let claim = lines_are_writes word _ r.controller now-visited in
    let valid = claim.ready.valid in
    let d = r.controller in
    let reply-is = front d n k buffer.now r after first answer in
    let within : (mode : Mode) → mode_in d.core ≡ some mode → is_hold_or_track mode ≡ false → WithinLimits d =
    λ mode is. claim.guaranteed.within_limits mode (claim.guaranteed.mode_first ∙ sym (mode_is_first d.core) ∙ is) in
    let text_is = sent ∙ reply-is in
    record {
      same = λ right free.
          let again-replied = accepted d n least most valid within w2 again.now buffer2.now r2 after2 text_is room e2 right free in
          let answer2 = reply_size d n buffer.now buffer2.now r after r2 after2 first again-replied ∙ answer in
          record {
            controller = next_is d n buffer2.now r2 after2 again-replied;
            answer = is_reply r2.answer k answer2;
            bytes = front d n k buffer2.now r2 after2 again-replied answer2 ∙ sym reply-is;
            behind = behind d n k buffer2.now r2 after2 again-replied answer2;
          };
      setpoint = held_refused d n least most valid within w2 again.now buffer2.now r2 after2 text_is room e2;
      without = λ none-there.
          refused d n least most valid within w2 again.now buffer2.now r2 after2 text_is room e2 _
          (refused_without d.core w2 n (value d.core.parameters n) none-there ∙
          some_without d.core.conditions.pins w2 n least (omega arith) none-there);
    }

-- Laws of what comes of a line: a read of a named parameter, the length of a reply; the next controller is valid.
use Rattle.std.specs.Prelude.{Ok, Err, ◌≡◌, true, false, ℕ, ◌≤◌, eqb, leb, ltb, ℤ, pos, nat_abs, get_or}
use Rattle.std.proofs.Math.Path.{refl, ap}
use Rattle.std.proofs.Common.{sym, subst, ◌∙◌, length-append, eqb-true, leb-true}
use mathlib.Core.List.{List, [], ◌∷◌, ◌++◌}
use Rattle.std.proofs.Math.Option.{Option, some, none}
use native.Mathlib.Omega.{arith}
use Rattle.std.proofs.Math.ListN.{length, drop}
use Rattle.std.proofs.lemmas.Bool.{eqb-false}
use Rattle.integers.specs.Choice.{by_cases, both, never}
use Rattle.integers.specs.Listed.{listed, listed_same}
use Rattle.numerals.specs.DigitLaws.{digits_length}
use Rattle.numerals.specs.Numerals.{decimal, hexadecimal_word}
use Rattle.numerals.specs.Shortest.{decimal_few}
use Rattle.signals.specs.Refusals.{number_of, refused_by}
use Rattle.signals.specs.declared.Refusal.{Refusal}
use Rattle.signals.specs.declared.Refusal.TheVariants.{Mnemonic, ValueForm}
use Rattle.formatting.specs.Buffer.{Buffer, buffer, append_all, filled, written}
use Rattle.formatting.specs.Laws.{append_front}
use Rattle.parameters.specs.LegalLaws.{value_most}
use Rattle.parameters.specs.RuleLaws.{is_known}
use Rattle.parameters.specs.Table.{is_from}
use Rattle.rights.specs.declared.Writer.{Writer}
use Rattle.outputs.specs.OutputLaws.{OutputRange, stored_most}
use Rattle.controller.specs.Answers.{reading, number, op_of}
use Rattle.controller.specs.Read.{value_in, read_in, read}
use Rattle.controller.specs.Valid.{Valid}
use Rattle.controller.specs.Write.{write_tests, write}
use Rattle.controller.specs.WriteLaws.{valid_write}
use Rattle.controller.specs.declared.Controller.{Controller}
use Rattle.terminal.specs.Commands.{is_word, value_of, writing, command_of, command_by, command_in, asked}
use Rattle.terminal.specs.MnemonicLaws.{named_range}
use Rattle.terminal.specs.Mnemonics.{mnemonic, named}
use Rattle.terminal.specs.Terminal.{value_text, reply_text, present_value, replied, wrote_or, read_to, written_to, answered_to, answered}
use Rattle.terminal.specs.Terminal.{refused_line, LineOutcome}
use Rattle.terminal.specs.Commands.{Command, Read, Write, NoMnemonic, NoValue}
use Rattle.terminal.specs.declared.command.Command.TheVariants as code_command

-- ---- a parameter that a mnemonic names

module _ (n : ℕ) (least : 1 ≤ n) (most : n ≤ 32) where
  -- its read is never refused
  pub read_named : (c : Controller) → read c n ≡ reading (present_value c n)
  unfolding read read_in
  read_named c = rw (is_known n least most) refl

  pub value_read : (c : Controller) (v : ℤ) → reading v ≡ read c n → v ≡ present_value c n
  value_read c v e = let same : reading v ≡ reading (present_value c n) = e ∙ read_named c in cc

  pub never_refused : (c : Controller) (k : ℕ) → number k ≡ read c n → ⊥
  never_refused c k e =
      let same : number k ≡ reading (present_value c n) = e ∙ read_named c in
      let z : ◌≡◌ {A = ℕ} 0 1 = cc in
      omega arith

  pub mnemonic_length : length (mnemonic n) ≡ 2
  unfolding mnemonic listed
  mnemonic_length = listed_same (λ (m : ℕ). length (mnemonic m)) (λ (m : ℕ). 2) 1 32 n refl least (omega arith)

-- ---- how long a reply is

-- a word is none of the decimals
not_word : (n m : ℕ) → is_word n ≡ false → is_word m ≡ true → eqb n m ≡ true → ⊥
not_word n m e f q = never (sym e ∙ ap is_word (eqb-true n m q) ∙ f)

op_most : (x : ℤ) → OutputRange x → nat_abs (pos (op_of x)) ≤ 19998
unfolding op_of
op_most x r = omega (arith, stored_most x r)

pub value_few : (c : Controller) (n : ℕ) → Valid c → is_word n ≡ false → nat_abs (present_value c n) ≤ 19998
unfolding value_in is_word
value_few c n v e =
    let P : ℤ → Type 0 = λ z. nat_abs z ≤ 19998 in
    by_cases P (is_from n 1 23) _ _
    (λ f. let h = both (leb 1 n) (leb n 23) f in
    omega (arith, value_most c.core.parameters v.legal n (leb-true 1 n h.0) (leb-true n 23 h.1)))
    (λ _. by_cases P (eqb n 24) _ _ (λ f. absurd (not_word n 24 e refl f))
    (λ _. by_cases P (eqb n 25) _ _ (λ f. absurd (not_word n 25 e refl f))
    (λ _. by_cases P (eqb n 26) _ _ (λ f. absurd (not_word n 26 e refl f))
    (λ _. by_cases P (eqb n 27) _ _ (λ f. absurd (not_word n 27 e refl f))
    (λ _. by_cases P (eqb n 28) _ _ (λ f. op_most c.output v.stored)
    (λ _. by_cases P (eqb n 29) _ _ (λ f. v.readable.sp_most)
    (λ _. by_cases P (eqb n 30) _ _ (λ f. v.readable.pv_most)
    (λ _. by_cases P (eqb n 31) _ _ (λ f. v.readable.er_most) (λ _. v.readable.mp_most)))))))))

-- a word's value is not below zero
pub word_value : (c : Controller) (n : ℕ) → is_word n ≡ true → present_value c n ≡ pos (nat_abs (present_value c n))
unfolding value_in is_word
word_value c n e =
    let t = both (leb 24 n) (leb n 27) e in
    let low = leb-true 24 n t.0 in
    let high = leb-true n 27 t.1 in
    let P : ℤ → Type 0 = λ z. z ≡ pos (nat_abs z) in
    by_cases P (is_from n 1 23) _ _ (λ f. let h = leb-true n 23 (both (leb 1 n) (leb n 23) f).1 in absurd (omega arith))
    (λ _. by_cases P (eqb n 24) _ _ (λ f. refl)
    (λ a. by_cases P (eqb n 25) _ _ (λ f. refl)
    (λ b. by_cases P (eqb n 26) _ _ (λ f. refl)
    (λ d. by_cases P (eqb n 27) _ _ (λ f. refl)
    (λ f. absurd (omega (arith, eqb-false n 24 a, eqb-false n 25 b, eqb-false n 26 d, eqb-false n 27 f)))))))

value_length : (n : ℕ) (v : ℤ) → (is_word n ≡ false → nat_abs v ≤ 19998) → length (value_text n v) ≤ 6
unfolding value_text hexadecimal_word
value_length n v few =
    by_cases (λ (l : List ℕ). length l ≤ 6) (is_word n) (hexadecimal_word (nat_abs v)) (decimal v)
    (λ e. omega (arith, digits_length 16 4 (nat_abs v))) (λ e. decimal_few 5 v (omega (arith, few e)) (omega arith))

-- nine bytes hold every reply
pub reply_length : (n : ℕ) (v : ℤ) → 1 ≤ n → n ≤ 32 → (is_word n ≡ false → nat_abs v ≤ 19998) → length (reply_text n v) ≤ 9
unfolding reply_text
reply_length n v least most few =
    omega (arith, length-append (mnemonic n) (62 ∷ value_text n v), mnemonic_length n least most, value_length n v few)

-- ---- the reply in the buffer

-- the two letters by themselves
both_letters : (m : List ℕ) → length m ≡ 2 → get_or m 0 0 ∷ get_or m 1 0 ∷ [] ≡ m
both_letters [] h = absurd (omega arith)
both_letters (a ∷ []) h = absurd (omega arith)
both_letters (a ∷ b ∷ []) h = refl
both_letters (a ∷ b ∷ d ∷ m) h = absurd (omega arith)

module _ (n : ℕ) (v : ℤ) (least : 1 ≤ n) (most : n ≤ 32) where
  pub reply_bytes : get_or (mnemonic n) 0 0 ∷ get_or (mnemonic n) 1 0 ∷ 62 ∷ value_text n v ≡ reply_text n v
  unfolding reply_text
  reply_bytes = ap (λ (m : List ℕ). m ++ (62 ∷ value_text n v)) (both_letters (mnemonic n) (mnemonic_length n least most))

  -- written where nothing was
  pub reply_written : (out : List ℕ) (after : Buffer) → (is_word n ≡ false → nat_abs v ≤ 19998) → 9 ≤ length out →
      after ≡ append_all (buffer out 0) (get_or (mnemonic n) 0 0 ∷ get_or (mnemonic n) 1 0 ∷ 62 ∷ value_text n v) →
      (filled after ≡ length (reply_text n v)) × (written after ≡ reply_text n v)
  reply_written out after few room e =
      append_front
      (reply_text n v) out after (omega (arith, reply_length n v least most few)) (e ∙ ap (append_all (buffer out 0)) reply_bytes)

-- ---- the number of a command that a line has

pub record Named (n : ℕ) : Type 0 where
  pub least : 1 ≤ n
  pub most : n ≤ 32

abbrev NamedIn : Command → Type 0
NamedIn NoMnemonic = Unit {0}
NamedIn NoValue = Unit {0}
NamedIn (Read n) = Named n
NamedIn (Write n v) = Named n

writing_named : (n : ℕ) (o : Option ℤ) → Named n → NamedIn (writing n o)
writing_named n none h = tt
writing_named n (some v) h = h

command_named : (n : ℕ) (bytes : List ℕ) → Named n → NamedIn (command_of n bytes)
unfolding command_of
command_named n [] h = h
command_named n (b ∷ bytes) h =
    by_cases NamedIn (eqb b 62) (writing n (value_of n bytes)) NoValue (λ e. writing_named n (value_of n bytes) h) (λ e. tt)

line_named : (line : List ℕ) → NamedIn (command_in line)
unfolding command_in
line_named line = go (named line) refl
  where
    go : (o : Option ℕ) → named line ≡ o → NamedIn (command_by o (drop 2 line))
    go none e = tt
    go (some n) e = let r = named_range line n e in command_named n (drop 2 line) (record { least = r.least; most = r.most })

pub read_is_named : (line : List ℕ) (n : ℕ) → command_in line ≡ Read n → Named n
read_is_named line n e = subst NamedIn e (line_named line)

pub write_is_named : (line : List ℕ) (n : ℕ) (v : ℤ) → command_in line ≡ Write n v → Named n
write_is_named line n v e = subst NamedIn e (line_named line)

-- ---- valid

replied_valid : (c : Controller) (n : ℕ) (room : List ℕ) → Valid c → Valid (replied c n room).next
unfolding replied
replied_valid c n room v = v

wrote_valid : (d : Option ℕ) (c : Controller) (w : Writer) (n : ℕ) (v : ℤ) (room : List ℕ) → Valid c → Valid (wrote_or d c w n v room).next
wrote_valid none c w n v room valid = replied_valid (write c w n v).next n room (valid_write c w n v valid)
wrote_valid (some k) c w n v room valid = valid

line_valid : (c : Controller) (w : Writer) (room : List ℕ) (command : Command) → Valid c → Valid (answered_to c w room command).next
unfolding answered_to read_to written_to
line_valid c w room NoMnemonic valid = valid
line_valid c w room NoValue valid = valid
line_valid c w room (Read n) valid =
    by_cases (λ (o : LineOutcome). Valid o.next) (ltb (length room) 9) (refused_line c room 15) (replied c n room) (λ e. valid)
    (λ e. replied_valid c n room valid)
line_valid c w room (Write n v) valid =
    by_cases (λ (o : LineOutcome). Valid o.next) (ltb (length room) 9) (refused_line c room 15) _ (λ e. valid)
    (λ e. wrote_valid (refused_by (write_tests c.core w n v)) c w n v room valid)

pub valid_line : (c : Controller) (w : Writer) (line room : List ℕ) → Valid c → Valid (answered c w line room).next
unfolding answered
valid_line c w line room valid = line_valid c w room _ valid

-- ---- what a line asks, in the code's form

-- the mnemonic names a parameter
pub read_asked : (line : List ℕ) (n : ℕ) → Ok (code_command.Read n) ≡ asked (command_in line) → command_in line ≡ Read n
read_asked line n e = go (command_in line) e
  where
    go : (k : Command) → Ok (code_command.Read n) ≡ asked k → k ≡ Read n
    go NoMnemonic f = cc
    go NoValue f = cc
    go (Read m) f = cc
    go (Write m v) f = cc

pub write_asked : (line : List ℕ) (n : ℕ) (v : ℤ) → Ok (code_command.Write n v) ≡ asked (command_in line) → command_in line ≡ Write n v
write_asked line n v e = go (command_in line) e
  where
    go : (k : Command) → Ok (code_command.Write n v) ≡ asked k → k ≡ Write n v
    go NoMnemonic f = cc
    go NoValue f = cc
    go (Read m) f = cc
    go (Write m u) f = cc

-- a refusal's number is the line's
pub refused_asked : (c : Controller) (w : Writer) (bytes : List ℕ) (k : Command) (r : Refusal) → Err r ≡ asked k
    → refused_line c bytes (number_of r) ≡ answered_to c w bytes k
unfolding answered_to
refused_asked c w bytes NoMnemonic r e = let is : r ≡ Mnemonic = cc in rw is refl
refused_asked c w bytes NoValue r e = let is : r ≡ ValueForm = cc in rw is refl
refused_asked c w bytes (Read n) r e = cc
refused_asked c w bytes (Write n v) r e = cc

-- Laws of the calls: the next controller is valid, a save changes no byte that isn't the image's, and a terminal's line
-- none that isn't the reply's.
use Rattle.std.specs.Prelude.{Bool, ◌&&◌, cond, ◌≡◌, ℕ, zero, suc, ◌+◌, ◌≤◌, ◌<◌, eqb, leb, ℤ, take, drop, get_or}
use Rattle.std.specs.Prelude.{replicate, Err, Ok}
use Rattle.std.proofs.Math.Bool.{true, false}
use mathlib.Core.List.{List, [], ◌∷◌, ◌++◌, append_assoc}
use Rattle.std.proofs.Math.Option.{Option, some, none}
use Rattle.std.proofs.Math.Path.{refl}
use Rattle.std.proofs.Common.{add-one, drop_of_length-le, eq-eqb, ne_eqb, le-leb, leb-true, ltb-true, ltb-false}
use Rattle.std.proofs.Math.Dec.{ltb}
use Rattle.std.proofs.Math.ListN.{length}
use Rattle.std.proofs.Math.Seq.{drop_at, drop-cons}
use Rattle.std.proofs.lemmas.Bool.{lt-leb}
use Rattle.integers.specs.Choice.{by_cases, both}
use Rattle.signals.specs.Refusals.{number_of, refused_by, Verdict}
use Rattle.fields.specs.Fields.{save_tests, saved_in}
use Rattle.rights.specs.declared.Writer.{Writer}
use Rattle.controller.specs.Answers.{reply_of_verdict, reply_by, acceptance, number}
use Rattle.controller.specs.ImageLaws.{saved_size}
use Rattle.controller.specs.Restart.{restart}
use Rattle.controller.specs.RestartLaws.{valid_restart}
use Rattle.controller.specs.Save.{saved_image}
use Rattle.controller.specs.Valid.{Valid}
use Rattle.controller.specs.ValidLaws.{valid_fresh, valid_scan}
use Rattle.controller.specs.Write.{write_tests, write}
use Rattle.controller.specs.WriteLaws.{valid_write}
use Rattle.controller.specs.declared.Controller.{Controller}
use Rattle.terminal.specs.Commands.{command_in}
use Rattle.terminal.specs.Terminal.{reply_text, present_value, replied, wrote_or, read_to, written_to, answered_to, answered}
use Rattle.terminal.specs.Terminal.{refused_line, LineOutcome}
use Rattle.terminal.specs.TerminalLaws.{valid_line}
use Rattle.terminal.specs.Commands as command
use Rattle.controller_calls.specs.Calls.{is_filled, step_of, unchanged_with, performed, checked_reply, save_reply}
use Rattle.controller_calls.specs.Calls.{filled, terminal_fits, terminal_reply, terminal_step, checked_terminal}
use Rattle.controller_calls.specs.declared.Step.{Step}
use Rattle.commands.specs.declared.Call.{Call}
use Rattle.commands.specs.declared.Call.TheVariants.{Fresh, Scan, Write, Access, Read, Restart, Save, Line, Clock}
use Rattle.replies.specs.declared.Reply.TheVariants.{Image, Refused, Error}

-- every call leaves a controller that the next call may take
pub valid_performed : (c : Controller) (call : Call) (bytes : List ℕ) → Valid c → Valid (performed c call bytes).controller
unfolding performed terminal_step
valid_performed c (Fresh sw) bytes v = valid_fresh sw
valid_performed c (Scan input) bytes v = valid_scan c input v
valid_performed c (Write w n value) bytes v = valid_write c w n value v
valid_performed c (Access w n) bytes v = v
valid_performed c (Read n) bytes v = v
valid_performed c (Restart count) bytes v =
    by_cases (λ (s : Step). Valid s.controller) (leb count (length bytes)) (step_of (restart c (take count bytes)))
    (unchanged_with c Error) (λ e. valid_restart c (take count bytes) v) (λ e. v)
valid_performed c (Save count) bytes v = v
valid_performed c (Line w count size) bytes v =
    by_cases (λ (s : Step). Valid s.controller) (terminal_fits count size (length bytes)) _ (unchanged_with c Error)
    (λ e. valid_line c w (take count bytes) (take size (filled bytes)) v) (λ e. v)
valid_performed c Clock bytes v = v

-- ---- filled buffers

pub filled_replicate : (n : ℕ) → is_filled (replicate n 0xA5) ≡ true
unfolding is_filled
filled_replicate zero = refl
filled_replicate (suc n) = filled_replicate n

pub filled_append : (xs ys : List ℕ) → is_filled xs ≡ true → is_filled ys ≡ true → is_filled (xs ++ ys) ≡ true
unfolding is_filled
filled_append [] ys e f = f
filled_append (x ∷ xs) ys e f = go (eqb x 0xA5) e (filled_append xs ys)
  where
    go : (t : Bool) → t && is_filled xs ≡ true → (is_filled xs ≡ true → is_filled ys ≡ true → is_filled (xs ++ ys) ≡ true)
        → t && is_filled (xs ++ ys) ≡ true
    go true p r = r p f
    go false p r = p

pub filled_drop : (n : ℕ) (xs : List ℕ) → is_filled xs ≡ true → is_filled (drop n xs) ≡ true
unfolding is_filled
filled_drop zero xs e = e
filled_drop (suc n) [] e = refl
filled_drop (suc n) (x ∷ xs) e = go (eqb x 0xA5) e (filled_drop n xs)
  where
    go : (t : Bool) → t && is_filled xs ≡ true → (is_filled xs ≡ true → is_filled (drop n xs) ≡ true) → is_filled (drop n xs) ≡ true
    go true p r = r p
    go false p r = cc

pub filled_take : (n : ℕ) (xs : List ℕ) → is_filled xs ≡ true → is_filled (take n xs) ≡ true
unfolding is_filled
filled_take zero xs e = refl
filled_take (suc n) [] e = refl
filled_take (suc n) (x ∷ xs) e = go (eqb x 0xA5) e (filled_take n xs)
  where
    go : (t : Bool) → t && is_filled xs ≡ true → (is_filled xs ≡ true → is_filled (take n xs) ≡ true) → t && is_filled (take n xs) ≡ true
    go true p r = r p
    go false p r = p

-- a search for a byte that isn't filled
module _ (bytes : List ℕ) (i : ℕ) where
  pub filled_more : i < length bytes → get_or bytes i 0 ≡ 0xA5 → is_filled (drop (i + 1) bytes) ≡ is_filled (drop i bytes)
  unfolding is_filled
  filled_more h e = rw (add-one, drop-cons bytes i 0 h) (simp (eq-eqb (get_or bytes i 0) 0xA5 e))

  pub filled_fails : i < length bytes → (get_or bytes i 0 ≡ 0xA5 → ⊥) → is_filled (drop i bytes) ≡ false
  unfolding is_filled
  filled_fails h d = rw (drop-cons bytes i 0 h) (simp (ne_eqb (get_or bytes i 0) 0xA5 d))

  pub filled_ends : length bytes ≤ i → is_filled (drop i bytes) ≡ true
  unfolding is_filled
  filled_ends h = rw (drop_of_length-le bytes {i = i} h)

-- ---- a save

-- into `part` of a filled buffer, with `rest` behind it
module _ (c : Controller) (valid : Valid c) (part rest : List ℕ) (p : is_filled part ≡ true) (r : is_filled rest ≡ true) where
  short : length part < 137 → (v : Verdict) → reply_of_verdict v ≡ number 15
      → checked_reply v (saved_in (saved_image c) part ++ rest) ≡ Refused 15
  unfolding checked_reply saved_in
  short l (Ok accepted) e = cc
  short l (Err refusal) e =
      let n : number_of refusal ≡ 15 = cc in
      simp (lt-leb 137 (length part) l, filled_append part rest p r, n)

  long : 137 ≤ length part → (v : Verdict) → reply_of_verdict v ≡ acceptance →
      checked_reply v (saved_in (saved_image c) part ++ rest) ≡ Image
  unfolding checked_reply saved_in
  long l (Ok accepted) e =
      simp (le-leb 137 (length part) l)
      (rw (
        append_assoc (saved_image c) (drop 137 part) rest,
        drop_at (saved_image c) (drop 137 part ++ rest) 137 (saved_size c valid),
        filled_append (drop 137 part) rest (filled_drop 137 part p) r,
      ))
  long l (Err refusal) e = cc

  -- the reply goes by the verdict alone: no byte has changed that isn't the image's
  pub checked_save : (v : Verdict) → reply_of_verdict v ≡ reply_by (refused_by (save_tests part))
      → checked_reply v (saved_in (saved_image c) part ++ rest) ≡ save_reply (refused_by (save_tests part))
  unfolding refused_by save_tests
  checked_save v = go (ltb (length part) 137) refl
    where
      go : (t : Bool) → ltb (length part) 137 ≡ t → reply_of_verdict v ≡ reply_by (cond t (some 15) none)
          → checked_reply v (saved_in (saved_image c) part ++ rest) ≡ save_reply (cond t (some 15) none)
      go true e = short (ltb-true (length part) 137 e) v
      go false e = long (ltb-false (length part) 137 e) v

-- ---- a line of the terminal

pub record Fits (count size room : ℕ) : Type 0 where
  pub few : count ≤ 300
  pub line : count ≤ room
  pub reply : size ≤ room

pub line_fits : (count size room : ℕ) → terminal_fits count size room ≡ true → Fits count size room
line_fits count size room e =
    let h = both (leb count 300 && leb count room) (leb size room) e in
    let k = both (leb count 300) (leb count room) h.0 in
    record { few = leb-true count 300 k.0; line = leb-true count room k.1; reply = leb-true size room h.1 }

-- into `part` of a filled buffer, with `rest` behind it
module _ (part rest : List ℕ) (p : is_filled part ≡ true) (r : is_filled rest ≡ true) where
  -- the reply goes by the answer alone: no byte has changed that isn't the reply's
  abbrev Unchanged : LineOutcome → Type 0
  Unchanged o = checked_terminal o.answer (o.buffer ++ rest) ≡ terminal_reply o.answer

  unchanged_refused : (c : Controller) (n : ℕ) → Unchanged (refused_line c part n)
  unfolding checked_terminal
  unchanged_refused c n = simp (filled_append part rest p r)

  unchanged_replied : (c : Controller) (n : ℕ) → Unchanged (replied c n part)
  unfolding checked_terminal replied
  unchanged_replied c n =
      let text = reply_text n (present_value c n) in
      let count = length text in
      rw (
        append_assoc text (drop count part) rest,
        drop_at text (drop count part ++ rest) count refl,
        filled_append (drop count part) rest (filled_drop count part p) r,
      )

  module _ (c : Controller) (w : Writer) where
    unchanged_wrote : (d : Option ℕ) (n : ℕ) (v : ℤ) → Unchanged (wrote_or d c w n v part)
    unchanged_wrote none n v = unchanged_replied (write c w n v).next n
    unchanged_wrote (some k) n v = unchanged_refused c k

    unchanged_to : (asked : command.Command) → Unchanged (answered_to c w part asked)
    unfolding answered_to read_to written_to
    unchanged_to command.NoMnemonic = unchanged_refused c 17
    unchanged_to command.NoValue = unchanged_refused c 18
    unchanged_to (command.Read n) =
        by_cases Unchanged (ltb (length part) 9) (refused_line c part 15) (replied c n part) (λ e. unchanged_refused c 15)
        (λ e. unchanged_replied c n)
    unchanged_to (command.Write n v) =
        by_cases Unchanged (ltb (length part) 9) (refused_line c part 15) _ (λ e. unchanged_refused c 15)
        (λ e. unchanged_wrote (refused_by (write_tests c.core w n v)) n v)

    pub checked_line : (line : List ℕ) → Unchanged (answered c w line part)
    unfolding answered
    checked_line line = unchanged_to (command_in line)

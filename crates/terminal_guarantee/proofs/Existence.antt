-- For every switch word and every list with lines there are controllers that the contracts lead to.
use Rattle.std.specs.Prelude.{if◌then◌else◌, Err, Ok}
use mathlib.Core.Path.{◌≡◌, refl, sym, ap, subst}
use mathlib.Core.Bool.{Bool, true, false}
use mathlib.Core.List.{List, []}
use Prim.Native.Nat.{ℕ}
use lib.Dec.{ltb}
use lib.IntN.{ℤ}
use lib.ListN.{length, replicate, length-replicate}
use Rattle.signals.specs.Refusals.{number_of, refused_by, Verdict}
use Rattle.signals.specs.declared.Refusal.{Refusal}
use Rattle.signals.specs.declared.Refusal.TheVariants.{ShortBuffer, Mnemonic, ValueForm}
use Rattle.rights.specs.declared.Writer.{Writer}
use Rattle.controller.specs.Answers as answers
use Rattle.controller.specs.Answers.{Response}
use Rattle.controller.specs.State.{fresh_controller}
use Rattle.controller.specs.Valid.{Valid}
use Rattle.controller.specs.ValidLaws.{valid_fresh}
use Rattle.controller.specs.Write as writes
use Rattle.controller.specs.Write.{write_tests}
use Rattle.controller.specs.declared.Controller.{Controller}
use Rattle.guarantee.specs.Exact.{scan, write, restart}
use Rattle.guarantee.specs.Linked.{MutSlice}
use Rattle.guarantee.proofs.Existence.{lend, write_exists, scan_exists, restart_exists, whenever}
use Rattle.terminal.specs.Commands.{command_in}
use Rattle.terminal.specs.Terminal.{LineOutcome, reply_text, present_value, refused_line, replied, wrote_or, answered_to, answered}
use Rattle.terminal.specs.Terminal.{read_to, written_to, outcome_of}
use Rattle.controller.specs.WriteLaws.{write_accepted_lem, write_refused}
use Rattle.terminal.specs.TerminalLaws.{valid_line}
use Rattle.terminal.specs.declared.LineResult.{LineResult}
use Rattle.terminal.specs.Commands.{Command, Read, Write, NoMnemonic, NoValue}
use Rattle.terminal_guarantee.specs.Lines.{Lifetimes}
use Rattle.terminal_guarantee.specs.Visits.{Events, none, ◌then◌, call, line, Visited, started, scanned, wrote, restarted, typed}
use Rattle.terminal_guarantee.specs.Visits.{AlwaysVisited}

-- a result and a buffer that the contract of a line describes
record Result (o : LineOutcome) : Type 0 where
  result : LineResult
  after : List ℕ
  described : outcome_of result after ≡ o

refused_result : (refusal : Refusal) (c : Controller) (buffer : List ℕ) → Result (refused_line c buffer (number_of refusal))
refused_result refusal c buffer = record { result = record { controller = c; answer = Err refusal }; after = buffer; described = refl }

replied_result : (c : Controller) (n : ℕ) (buffer : List ℕ) → Result (replied c n buffer)
unfolding replied
replied_result c n buffer =
    record { result = record { controller = c; answer = Ok (length (reply_text n (present_value c n))) }; after = _; described = refl }

wrote_result : (c : Controller) (who : Writer) (n : ℕ) (v : ℤ) (buffer : List ℕ) → Valid c →
    Result (wrote_or (refused_by (write_tests c.core who n v)) c who n v buffer)
wrote_result c who n v buffer valid =
    let w = write_exists c who n v valid in
    by_verdict_lem w.result.verdict (ap (λ (h : Response). h.answer) w.described.0)
  where
    by_verdict_lem : (d : Verdict) → answers.reply_of_verdict d ≡ (writes.write c who n v).answer →
        Result (wrote_or (refused_by (write_tests c.core who n v)) c who n v buffer)
    by_verdict_lem (Ok accepted) e = rw (write_accepted_lem c who n v (sym e)) (replied_result (writes.write c who n v).next n buffer)
    by_verdict_lem (Err refusal) e = rw (write_refused c who n v (number_of refusal) (sym e)) (refused_result refusal c buffer)

with_room : (t : Bool) (c : Controller) (buffer : List ℕ) (o : LineOutcome) → Result o → Result (if t then refused_line c buffer 15 else o)
with_room true c buffer o r = refused_result ShortBuffer c buffer
with_room false c buffer o r = r

result_by : (c : Controller) (who : Writer) (buffer : List ℕ) (command : Command) → Valid c → Result (answered_to c who buffer command)
unfolding answered_to read_to written_to
result_by c who buffer NoMnemonic valid = refused_result Mnemonic c buffer
result_by c who buffer NoValue valid = refused_result ValueForm c buffer
result_by c who buffer (Read n) valid = with_room (ltb (length buffer) 9) c buffer _ (replied_result c n buffer)
result_by c who buffer (Write n v) valid = with_room (ltb (length buffer) 9) c buffer _ (wrote_result c who n v buffer valid)

-- ---- every list

abbrev lives : Lifetimes
lives = ([], ([], tt))

-- by the contracts alone
valid_visited : {word : ℕ} {es : Events} {c : Controller} → Visited word es c → Valid c
valid_visited (started r e) = e.1
valid_visited (scanned i r l e) = e.1
valid_visited (wrote w n v r l e) = e.1
valid_visited (restarted life image r l e) = e.1
valid_visited (typed {c = c} lives w bytes buffer r after l e) =
    subst (λ (o : LineOutcome). Valid o.next) (sym e) (valid_line c w bytes.now buffer.now (valid_visited l))

-- these bytes, as a reference that may be written to
abbrev lend_mut : List ℕ → MutSlice
lend_mut bytes = record { ref_ptr = (0, 0); ghost_name = 0; now = bytes }

pub always_visited : AlwaysVisited
unfolding answered
always_visited word none = record { last = fresh_controller word; visited = started (fresh_controller word) (refl, valid_fresh word) }
always_visited word (es then call (scan i)) =
    let w = always_visited word es in
    let r = scan_exists w.last i (valid_visited w.visited) in
    record { last = r.result.controller; visited = scanned i r.result w.visited r.described }
always_visited word (es then call (write who n v)) =
    let w = always_visited word es in
    let r = write_exists w.last who n v (valid_visited w.visited) in
    record { last = r.result.controller; visited = wrote who n v r.result w.visited r.described }
always_visited word (es then call (restart image)) =
    let w = always_visited word es in
    let r = restart_exists whenever w.last (lend image) (valid_visited w.visited) in
    record { last = r.result.controller; visited = restarted whenever (lend image) r.result w.visited r.described }
always_visited word (es then line who bytes room) =
    let w = always_visited word es in
    let buffer : List ℕ = replicate room 0 in
    let valid = valid_visited w.visited in
    let r = result_by w.last who buffer (command_in bytes) valid in
    let here = typed lives who (lend bytes) (lend_mut buffer) r.result r.after w.visited r.described in
    record {
      last = r.result.controller;
      visited = subst (λ (k : ℕ). Visited word (es then line who bytes k) r.result.controller) (length-replicate room 0) here;
    }

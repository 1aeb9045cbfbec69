-- A list with lines leads where the same list without them leads, each line that writes being that write.
use mathlib.Core.Path.{◌≡◌, refl, sym, ap, subst, ◌∙◌}
use mathlib.Core.List.{List, []}
use Prim.Native.Nat.{ℕ, ◌<◌}
use lib.IntN.{ℤ}
use lib.ListN.{length, take}
use Rattle.rights.specs.declared.Writer.{Writer}
use Rattle.controller.specs.Answers.{Response}
use Rattle.controller.specs.Valid.{Valid}
use Rattle.controller.specs.declared.CallResult.{CallResult}
use Rattle.controller.specs.declared.Controller.{Controller}
use Rattle.guarantee.specs.Exact as calls
use Rattle.guarantee.specs.Exact.{Calls, write}
use Rattle.guarantee.specs.Linked as linked
use Rattle.guarantee.specs.Linked.{Linked, WriteEnsures}
use Rattle.guarantee.proofs.Existence.{write_exists}
use Rattle.guarantee.proofs.Guarantee.{guarantee, ready}
use Rattle.guarantee.proofs.Linked.{valid_linked}
use Rattle.controller.specs.WriteLaws.{write_refused, write_leaves}
use Rattle.terminal.specs.declared.LineResult.{LineResult}
use Rattle.terminal_guarantee.specs.Forms.{letters, InTable, a_read, a_write, Asks, writes}
use Rattle.terminal_guarantee.specs.Lines.{Written, refused_write, accepted_write, LineClaim, no_mnemonic, no_value, short_buffer}
use Rattle.terminal_guarantee.specs.Lines.{a_reading, a_writing}
use Rattle.terminal_guarantee.specs.Visits.{Events, ◌then◌, line, Visited, started, scanned, wrote, restarted, typed}
use Rattle.terminal_guarantee.specs.Visits.{Turned, nothing, a_call, a_write_of, no_call, LinesAreWrites}
use Rattle.terminal_guarantee.proofs.Forms.{apart}
use Rattle.terminal_guarantee.proofs.Lines.{lines_right}
use Rattle.terminal_guarantee.proofs.Meaning.{one_meaning}

-- calls alone that lead to a controller
record Without (word : ℕ) (es : Events) (c : Controller) : Type 0 where
  without : Calls
  turned : Turned es without
  responses : List Response
  linked : Linked word without responses c

-- ---- one line

-- the write that a line makes, and where it leads
record Wrote (c : Controller) (who : Writer) (n : ℕ) (v : ℤ) (r : LineResult) : Type 0 where
  result : CallResult
  ensured : WriteEnsures c who n v result
  same : result.controller ≡ r.controller

wrote_by : (c : Controller) (who : Writer) (n : ℕ) (v : ℤ) (buffer : List ℕ) (r : LineResult) (after : List ℕ) → Valid c →
    Written c who n v buffer r after → Wrote c who n v r
wrote_by c who n v buffer r after valid (accepted_write f g) =
    let w = write_exists c who n v valid in
    record { result = w.result; ensured = w.described; same = sym (f w.result w.described).1 }
wrote_by c who n v buffer r after valid (refused_write {k} f g) =
    let w = write_exists c who n v valid in
    let is = w.described.0 in
    let answer = sym (ap (λ (h : Response). h.answer) is) ∙ f w.result w.described in
    let left = write_leaves c who n v k (write_refused c who n v k answer) in
    record { result = w.result; ensured = w.described; same = ap (λ (h : Response). h.next) is ∙ left ∙ sym g.controller }

-- a line that writes nothing
unwritten : {word : ℕ} {es : Events} {c : Controller} {who : Writer} {bytes : List ℕ} {room : ℕ} (r : LineResult) → Without word es c →
    r.controller ≡ c → ((n : ℕ) (v : ℤ) → Asks bytes (a_write n v) → room < 9) → Without word (es then line who bytes room) r.controller
unwritten {word} r w same f =
    record {
      without = w.without;
      turned = no_call w.turned f;
      responses = w.responses;
      linked = subst (Linked word w.without w.responses) (sym same) w.linked;
    }

begins_with_letters : {bytes : List ℕ} {n : ℕ} {v : ℤ} → Asks bytes (a_write n v) → take 2 bytes ≡ letters n
begins_with_letters (writes t f) = refl

by_claim : {word : ℕ} {es : Events} {c : Controller} (who : Writer) (bytes buffer : List ℕ) (r : LineResult) (after : List ℕ) →
    Without word es c → LineClaim c who bytes buffer r after → Without word (es then line who bytes (length buffer)) r.controller
by_claim who bytes buffer r after w (no_mnemonic f g) =
    unwritten r w g.controller (λ n v a. absurd (f n (in_table a) (begins_with_letters a)))
  where
    in_table : {line : List ℕ} {n : ℕ} {v : ℤ} → Asks line (a_write n v) → InTable n
    in_table (writes t form) = t
by_claim who bytes buffer r after w (no_value t f g h) = unwritten r w h.controller (λ n v a. absurd (g (a_write n v) a))
by_claim who bytes buffer r after w (short_buffer a h g) = unwritten r w g.controller (λ n v b. h)
by_claim who bytes buffer r after w (a_reading {n} a h same g) =
    unwritten r w same (λ m v b.
    let e = one_meaning bytes (a_read n) (a_write m v) a b in
    let z : ◌≡◌ {A = ℕ} 0 1 = cc in
    apart z)
by_claim {word} {es} {c} who bytes buffer r after w (a_writing {n} {v} a h g) =
    let k = wrote_by c who n v buffer r after (valid_linked w.linked) g in
    record {
      without = calls.◌then◌ w.without (write who n v);
      turned = a_write_of w.turned a h;
      responses = _;
      linked = subst (Linked word (calls.◌then◌ w.without (write who n v)) _) k.same
          (linked.wrote who n v k.result w.linked k.ensured);
    }

-- ---- every list

without_lines : {word : ℕ} {es : Events} {c : Controller} → Visited word es c → Without word es c
without_lines (started r e) = record { without = calls.none; turned = nothing; responses = []; linked = linked.started r e }
without_lines (scanned i r l e) =
    let w = without_lines l in
    record { without = _; turned = a_call w.turned; responses = _; linked = linked.scanned i r w.linked e }
without_lines (wrote who n v r l e) =
    let w = without_lines l in
    record { without = _; turned = a_call w.turned; responses = _; linked = linked.wrote who n v r w.linked e }
without_lines (restarted life image r l e) =
    let w = without_lines l in
    record { without = _; turned = a_call w.turned; responses = _; linked = linked.restarted life image r w.linked e }
without_lines {word} (typed {es} {c} lives who bytes buffer r after l e) =
    let w = without_lines l in
    let valid = (ready word w.without w.responses c w.linked).valid in
    by_claim who bytes.now buffer.now r after w (lines_right lives c who bytes buffer r after valid e)

pub lines_are_writes : LinesAreWrites
lines_are_writes word es c l =
    let w = without_lines l in
    let ready-now = ready word w.without w.responses c w.linked in
    record {
      without = w.without;
      turned = w.turned;
      responses = w.responses;
      linked = w.linked;
      guaranteed = guarantee word w.without w.responses c w.linked;
      ready = ready-now;
      line_ready = λ lives who bytes buffer. tt;
    }

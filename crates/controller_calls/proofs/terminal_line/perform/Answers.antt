-- `controller_calls::terminal_line::perform` meets its contract.
use mathlib.Core.List.{◌++◌}
use mathlib.Core.Path.{◌≡◌, refl, sym, ap, ◌∙◌}
use native.Mathlib.Omega.{arith}
use lib.ListN.{length, take, drop, length-take}
use Rattle.formatting.specs.Laws.{append_front}
use Rattle.terminal.specs.Terminal.{reply_of_line, LineOutcome}
use Rattle.controller_calls.specs.CallLaws.{filled_replicate, filled_take, filled_drop, line_fits, checked_line, Fits}
use Rattle.controller_calls.specs.Calls.{filled, checked_terminal, terminal_outcome, terminal_step, terminal_buffer}
use Rattle.controller_calls.proofs.terminal_line.perform.Goals as goal

pub returns-then-fits : goal.returns-then-fits
unfolding terminal_step terminal_buffer
returns-then-fits c =
    let count = c.args.count in
    let size = c.args.size in
    let bytes = c.args.buffer.now in
    let part = take size (filled bytes) in
    let rest = drop size (filled bytes) in
    let is = sym c.fits.ensures ∙ c.if-fits.true in
    let fits : Fits count size (length bytes) = line_fits _ _ _ is in
    let written = rw c.new-line.ensures at c.push_all.ensures in
    let line = append_front (take count bytes) _ _ (omega (arith, length-take count bytes)) written in
    let o = rw (c.fill.ensures, c.as_slice.ensures, line.1) at c.answer-result.ensures in
    let whole = filled_replicate (length bytes) in
    let checked = checked_line part rest (filled_take size (filled bytes) whole) (filled_drop size (filled bytes) whole)
    c.args.controller c.args.writer (take count bytes) in
    let outcome = terminal_outcome c.args.controller c.args.writer count size bytes in
    let after : c.answer-result.new.reply ++ drop size c.fill.new.buffer ≡ outcome.buffer ++ rest =
    rw (c.fill.ensures, ap (λ (x' : LineOutcome). x'.buffer) o) refl in
    let reply =
    c.reply_to_answer.ensures ∙ ap (checked_terminal (reply_of_line c.answer-result.result.answer)) after ∙
    ap (λ (x : LineOutcome). checked_terminal x.answer (outcome.buffer ++ rest)) o ∙ checked in
    (rw (is, ap (λ (x' : LineOutcome). x'.next) o, reply) refl, rw is after)

pub returns : goal.returns
unfolding terminal_step terminal_buffer
returns c =
    let isnot = sym c.fits.ensures ∙ c.if-fits.false in
    (rw isnot refl, rw isnot refl)

-- So many lines were answered.
use Rattle.lines.specs.Answering.{place, Answered}
use Rattle.lines.proofs.answering.answer_each.Given as goal

abbrev pub invariant-loop : goal.invariant-loop
invariant-loop g l =
    Answered g.S.LineSession.answers
    (place (g.R.Read.remaining l.fn.reader) l.fn.input l.fn.line l.fn.session l.fn.out) l.counter
    (place (g.R.Read.remaining l.reader) l.input l.line l.session l.out)

-- `rights::Writer::right_verdict` meets its contract.
use mathlib.Core.Path.{sym, ◌∙◌}
use Rattle.signals.specs.Refusals.{refused_by}
use Rattle.rights.specs.Rights.{right_tests}
use Rattle.rights.proofs.Writer.right_verdict.Goals as goal

pub returns-then-may_write : goal.returns-then-may_write
unfolding refused_by right_tests
returns-then-may_write c = simp (sym c.may_write.ensures ∙ c.if-may_write.true)

pub returns : goal.returns
unfolding refused_by right_tests
returns c = simp (sym c.may_write.ensures ∙ c.if-may_write.false)

-- `scaling::inverse_ratio` meets its contract.
use mathlib.Core.Path.{◌∙◌}
use mir.Facts.{to_z-of_z}
use mir.Syntax.{w64}
use Rattle.integers.specs.Machine.{back}
use Rattle.scaling.specs.Ratio.{inverse_quotient}
use Rattle.scaling.proofs.inverse_ratio.Goals as goal

pub returns : goal.returns
unfolding inverse_quotient
returns c = back w64 _ c.quotient.type_inv ∙ c.quotient.ensures ∙ simp (to_z-of_z c.ranges.q)

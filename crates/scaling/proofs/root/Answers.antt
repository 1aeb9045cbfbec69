-- `scaling::root` meets its contract: a sample has one greatest root, and the table's entry is it.
use Rattle.scaling.specs.Root.{root_is, root_same}
use Rattle.scaling.proofs.root.Goals as goal

pub returns : goal.returns
returns c = root_same c.entry.ensures (root_is c.args.sample c.requires)

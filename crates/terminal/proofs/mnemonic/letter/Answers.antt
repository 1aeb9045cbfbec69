-- `terminal::mnemonic::letter` meets its contract.
use Rattle.terminal.specs.MnemonicLaws.{letter_at}
use Rattle.terminal.proofs.mnemonic.letter.Goals as goal

pub returns : goal.returns
returns c =
    let p = c.parameter in
    rw (← p.view_is) (letter_at p.inside.number c.args.place p.invariant.0 p.invariant.1 c.requires)

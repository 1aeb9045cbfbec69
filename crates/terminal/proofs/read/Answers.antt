-- `terminal::read` meets its contract.
use borrow.Author.Tests.{lt-ltb, le-ltb}
use Rattle.terminal.specs.Terminal.{read_to}
use Rattle.terminal.proofs.read.Goals as goal

pub returns-then-reply-lt-REPLY_LENGTH : goal.returns-then-reply-lt-REPLY_LENGTH
unfolding read_to
returns-then-reply-lt-REPLY_LENGTH c = rw c.refused.ensures (simp (lt-ltb _ _ c.if-reply-lt-REPLY_LENGTH.true))

pub returns : goal.returns
unfolding read_to
returns c = simp (le-ltb _ _ c.if-reply-lt-REPLY_LENGTH.false) c.show.ensures

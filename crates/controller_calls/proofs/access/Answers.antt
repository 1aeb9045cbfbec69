-- `controller_calls::access` meets its contract.
use mathlib.Core.Path.{ap, ◌∙◌}
use Rattle.controller.specs.Answers.{reply_by, reply_by_lem}
use Rattle.controller_calls.specs.Calls.{reply_to, unchanged_with, access_reply}
use Rattle.controller_calls.proofs.access.Goals as goal

pub returns : goal.returns
unfolding access_reply
returns c =
    let answer = reply_by_lem c.write_access-verdict.result ∙ ap reply_by c.write_access-verdict.ensures in
    ap (unchanged_with c.args.controller) (c.reply_to_verdict.ensures ∙ ap reply_to answer)

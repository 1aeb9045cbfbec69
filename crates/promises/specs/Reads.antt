-- Document 01, "Parameters" and "Words": what a read answers, told for each number. Shared with the rules are the
-- types of the state and the value of a parameter.
use Rattle.std.specs.Prelude.{◌≡◌, ℕ, ◌≤◌, ◌<◌, pos}
use Rattle.parameters.specs.Table.{value}
use Rattle.controller.specs.Answers.{Reply, reading, number, reply_of_read, ReadAnswer}
use Rattle.controller.specs.Valid.{Valid}
use Rattle.controller.specs.declared.Controller.{Controller}
use Rattle.guarantee.specs.Claim.{OwnOutput}
use Rattle.guarantee.specs.Linked.{ReadEnsures}
use Rattle.promises.specs.Words.{ShowsMD, ShowsDS}

-- "a read answers the value"; the column "Numbers"
pub record ReadReply (c : Controller) (n : ℕ) (reply : Reply) : Type 0 where
  pub parameter : 1 ≤ n → n ≤ 23 → reply ≡ reading (value c.core.parameters n)
  pub md : ℕ
  pub shows_md : ShowsMD md c.core
  pub md_read : n ≡ 24 → reply ≡ reading (pos md)
  pub ds : ℕ
  pub shows_ds : ShowsDS ds c.core
  pub ds_read : n ≡ 25 → reply ≡ reading (pos ds)
  pub sw_read : n ≡ 26 → reply ≡ reading (pos c.core.sw)
  -- "27 II (3608h)"
  pub ii_read : n ≡ 27 → reply ≡ reading (pos 0x3608)
  pub op : ℕ
  pub electrical : ℕ
  pub own : OwnOutput c op electrical
  pub op_read : n ≡ 28 → reply ≡ reading (pos op)
  pub sp_read : n ≡ 29 → reply ≡ reading c.core.readings.sp
  pub pv_read : n ≡ 30 → reply ≡ reading c.core.readings.pv
  pub er_read : n ≡ 31 → reply ≡ reading c.core.readings.er
  pub mp_read : n ≡ 32 → reply ≡ reading c.core.readings.mp
  -- "4 number outside 1..32 (reads too)"
  pub below : n ≡ 0 → reply ≡ number 4
  pub beyond : 32 < n → reply ≡ number 4

-- of every read at every valid controller: each that calls lead to is (`ready`)
abbrev pub ReadReplies : Type 0
ReadReplies = (c : Controller) (n : ℕ) (r : ReadAnswer) → Valid c → ReadEnsures c n r → ReadReply c n (reply_of_read r)

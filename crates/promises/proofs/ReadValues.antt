-- What a read answers is what the column of numbers says.
use mathlib.Core.Path.{◌≡◌, refl, sym, ap, subst, ◌∙◌}
use mathlib.Core.Bool.{true, ◌||◌}
use Prim.Native.Nat.{ℕ, ◌≤◌}
use native.Mathlib.Omega.{arith}
use lib.Dec.{eqb, ltb}
use borrow.Author.Tests.{ne_eqb, le-leb, lt-ltb, le-ltb}
use Rattle.parameters.specs.Table.{value}
use Rattle.controller.specs.Answers.{reading, number, op_of, electrical_of}
use Rattle.controller.specs.Read.{value_in, read_in, read}
use Rattle.controller.specs.Scan.{md_now, ds_now}
use Rattle.controller.specs.Valid.{Valid}
use Rattle.controller.specs.declared.Controller.{Controller}
use Rattle.guarantee.proofs.Answers.{own_output}
use Rattle.promises.specs.Reads.{ReadReply, ReadReplies}
use Rattle.parameters.specs.RuleLaws.{unknown_is}
use Rattle.promises.proofs.Words.{shows_md, shows_ds}

-- a known number answers its value
value_read : (c : Controller) (n : ℕ) → 1 ≤ n → n ≤ 32 → read c n ≡ reading (value_in c.core (op_of c.output) n)
unfolding read read_in
value_read c n h k = rw (unknown_is n, ne_eqb n 0 (λ q. omega arith), le-ltb 32 n k) refl

parameter_read : (c : Controller) (n : ℕ) → 1 ≤ n → n ≤ 23 → read c n ≡ reading (value c.core.parameters n)
unfolding value_in
parameter_read c n h k = value_read c n h (omega arith) ∙ rw (le-leb 1 n h, le-leb n 23 k) refl

-- any other is refused
unknown_read : (c : Controller) (n : ℕ) → (eqb n 0 || ltb 32 n) ≡ true → read c n ≡ number 4
unfolding read read_in
unknown_read c n e = rw (unknown_is n, e) refl

effects : (c : Controller) (n : ℕ) → Valid c → ReadReply c n (read c n)
unfolding value_in
effects c n valid =
    let op = op_of c.output in
    let at : (m : ℕ) → 1 ≤ m → m ≤ 32 → n ≡ m → read c n ≡ reading (value_in c.core op m) =
    λ m h k e. ap (read c) e ∙ value_read c m h k in
    record {
      parameter = parameter_read c n;
      md = md_now c.core;
      shows_md = shows_md c.core;
      md_read = at 24 (omega arith) (omega arith);
      ds = ds_now c.core;
      shows_ds = shows_ds c.core;
      ds_read = at 25 (omega arith) (omega arith);
      sw_read = at 26 (omega arith) (omega arith);
      ii_read = at 27 (omega arith) (omega arith);
      op = op;
      electrical = electrical_of c.core.sw c.output;
      own = own_output c valid.stored;
      op_read = at 28 (omega arith) (omega arith);
      sp_read = at 29 (omega arith) (omega arith);
      pv_read = at 30 (omega arith) (omega arith);
      er_read = at 31 (omega arith) (omega arith);
      mp_read = at 32 (omega arith) (omega arith);
      below = λ e. ap (read c) e ∙ unknown_read c 0 refl;
      beyond = λ h. unknown_read c n (rw (ne_eqb n 0 (λ q. omega arith), lt-ltb 32 n h) refl);
    }

pub read_replies : ReadReplies
read_replies c n r valid e = subst (ReadReply c n) (sym e) (effects c n valid)

-- Document 02, request 6: what a host is told of a right, over the contracts of `Writer::may_write` and
-- `Controller::write_access`; and that the engineer's write is the write of before this request. Which writes are
-- refused for want of a right is told in RefusalCauses.antt, and that they change nothing, over every list, in
-- `without_right` of demand 3 (guarantee).
use Rattle.std.specs.Prelude.{◌≡◌, Bool, ℕ, ◌≤◌, ℤ}
use Rattle.std.proofs.Math.Option.{none}
use Rattle.signals.specs.Refusals.{refused_by, Verdict}
use Rattle.rights.specs.declared.Writer.{Writer}
use Rattle.rights.specs.declared.Writer.TheVariants.{Engineer}
use Rattle.rights.proofs.Writer.may_write.Reads as may-write-reads
use Rattle.controller.specs.Answers.{Response, number, acceptance, reply_of_verdict, response_of_verdict}
use Rattle.controller.specs.Scan.{refused_or, response_from}
use Rattle.controller.specs.Write.{common_tests, write_accepted}
use Rattle.controller.specs.declared.CallResult.{CallResult}
use Rattle.controller.specs.declared.Controller.{Controller}
use Rattle.guarantee.specs.Linked.{WriteEnsures, AccessEnsures}
use Rattle.guarantee.specs.Rights.{is_of, access_or}
use Rattle.promises.specs.Refusals.{refusal_in}

-- ---- what a host is told before it offers a field for editing

-- by the contract of `Writer::may_write`, whose a parameter is
abbrev pub MayWriteEnsures : Writer → ℕ → Bool → Type 0
MayWriteEnsures w n r = may-write-reads.Post tt (w, (n, tt)) r (w, (n, tt))

abbrev pub TableOfRights : Type 0
TableOfRights = (w : Writer) (n : ℕ) (r : Bool) → MayWriteEnsures w n r → r ≡ is_of n w

pub record Foretold (d : Controller) (w : Writer) (n : ℕ) (told : Verdict) : Type 0 where
  -- 4, 19, 20 or 5, in this order
  pub refusal : refusal_in (reply_of_verdict told) ≡ access_or d.core.conditions.pins w n none
  -- a refusal is the one that a write of any value gets
  pub refused : (k : ℕ) → reply_of_verdict told ≡ number k → (v : ℤ) (r : CallResult) → WriteEnsures d w n v r →
      reply_of_verdict r.verdict ≡ number k
  -- otherwise a write is refused with 6 to 11, if at all
  pub free : reply_of_verdict told ≡ acceptance → (v : ℤ) (r : CallResult) (k : ℕ) → WriteEnsures d w n v r →
      reply_of_verdict r.verdict ≡ number k → (6 ≤ k) × (k ≤ 11)

-- of any controller, reached by calls or not; there is such an answer (`access_exists`). A write of a valid one has a
-- result (`write_exists`)
abbrev pub AccessForetells : Type 0
AccessForetells = (d : Controller) (w : Writer) (n : ℕ) (told : Verdict) → AccessEnsures d w n told → Foretold d w n told

-- ---- the engineer

-- the write of before this request, which named no writer: by document 01's tests alone
unfoldable pub former_write : Controller → ℕ → ℤ → Response
former_write d n v = response_from d (refused_or (refused_by (common_tests d.core n v)) d.core (write_accepted d.core n v))

abbrev pub EngineerWrites : Type 0
EngineerWrites =
    (d : Controller) (n : ℕ) (v : ℤ) (r : CallResult) → WriteEnsures d Engineer n v r → response_of_verdict r ≡ former_write d n v

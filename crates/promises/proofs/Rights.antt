-- What a host is told of a right comes true, whatever it writes; the engineer's write is the write of before.
use mathlib.Core.Path.{◌≡◌, refl, sym, ap, ◌∙◌}
use mathlib.Core.Option.{some}
use Prim.Native.Nat.{ℕ}
use native.Mathlib.Omega.{arith}
use lib.IntN.{ℤ}
use Rattle.signals.specs.RefusalLaws.{refused_append, refused_from}
use Rattle.signals.specs.Refusals.{number_in, first_of, refused_by, Verdict}
use Rattle.rights.specs.declared.Writer.{Writer}
use Rattle.controller.specs.Answers.{Reply, words, reading, acceptance, number, reply_of_verdict, reply_by_lem, Response}
use Rattle.controller.specs.Scan.{response_from}
use Rattle.controller.specs.Write as writes
use Rattle.controller.specs.Write.{value_tests, access_now, write_tests, write_accepted, write_core}
use Rattle.controller.specs.RightLaws.{engineer_common, value_numbers}
use Rattle.controller.specs.declared.CallResult.{CallResult}
use Rattle.controller.specs.declared.Controller.{Controller}
use Rattle.guarantee.specs.Linked.{WriteEnsures}
use Rattle.guarantee.proofs.Rights.{right_is, access_alone}
use Rattle.promises.specs.Refusals.{refusal_in}
use Rattle.promises.specs.Rights.{TableOfRights, AccessForetells, former_write, EngineerWrites}
use Rattle.promises.proofs.Refusals.{not_both, refusal_is, reply_refusal}

-- ---- the number of a verdict and of a reply

verdict_number : (v : Verdict) → refusal_in (reply_of_verdict v) ≡ number_in v
verdict_number v = ap refusal_in (reply_by_lem v) ∙ reply_refusal (number_in v)

number_of : (s : Reply) (k : ℕ) → refusal_in s ≡ some k → s ≡ number k
number_of (words md ds op electrical mode pv) k e = not_both e
number_of (reading v) k e = not_both e
number_of acceptance k e = not_both e
number_of (number n) k e = let same : n ≡ k = cc in ap number same

-- ---- what a host is told

pub table_of_rights : TableOfRights
table_of_rights w n r e = e ∙ right_is w n

-- the number of a write's refusal, by the right and by the value
written_number : (d : Controller) (w : Writer) (n : ℕ) (v : ℤ) (r : CallResult) → WriteEnsures d w n v r →
    refusal_in (reply_of_verdict r.verdict) ≡ first_of (refused_by (access_now d.core w n)) (refused_by (value_tests d.core n v))
unfolding writes.write write_core response_from write_accepted write_tests
written_number d w n v r e =
    ap (λ (h : Response). refusal_in h.answer) e.0 ∙
    refusal_is d (refused_by (write_tests d.core w n v)) (write_accepted d.core n v) refl ∙
    refused_append (access_now d.core w n) (value_tests d.core n v)

pub access_foretells : AccessForetells
access_foretells d w n told e =
    let is : refused_by (access_now d.core w n) ≡ refusal_in (reply_of_verdict told) = sym e ∙ sym (verdict_number told) in
    record {
      refusal = sym is ∙ access_alone d.core w n;
      refused = λ k q v r h.
          number_of (reply_of_verdict r.verdict) k (written_number d w n v r h ∙ rw (is ∙ ap refusal_in q) refl);
      free = λ q v r k h s.
          refused_from 6 11 (value_tests d.core n v) (value_numbers 6 d.core n v (omega arith)) k
          (sym (written_number d w n v r h ∙ rw (is ∙ ap refusal_in q) refl) ∙ ap refusal_in s);
    }

-- ---- the engineer

pub engineer_writes : EngineerWrites
unfolding writes.write write_core former_write
engineer_writes d n v r e = e.0 ∙ rw (engineer_common d.core n v) refl

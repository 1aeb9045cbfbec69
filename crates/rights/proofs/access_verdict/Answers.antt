-- `rights::access_verdict` meets its contract.
use mathlib.Core.List.{◌++◌}
use mathlib.Core.Option.{Option, some, none}
use mathlib.Core.Path.{◌≡◌, refl}
use Prim.Native.Nat.{ℕ}
use Rattle.std.specs.Result.{result_and}
use Rattle.signals.specs.RefusalLaws.{number_of_both, refused_append}
use Rattle.signals.specs.Refusals.{first_of, refused_by}
use Rattle.parameters.specs.Legal.{unknown_refusal, read_only_refusal}
use Rattle.parameters.specs.declared.Rule.{Rule}
use Rattle.rights.specs.Rights.{named, pin_tests, right_tests, access_tests}
use Rattle.rights.specs.declared.Writer.{Writer}
use Rattle.rights.proofs.access_verdict.Goals as goal

-- a refusal that a row names, as a test
named_is : (o : Option ℕ) → refused_by (named o) ≡ o
unfolding refused_by
named_is none = refl
named_is (some n) = refl

-- the tests one list after the other
in_order_lem : (rule : Rule) (writer : Writer) (pins number : ℕ) → refused_by (access_tests rule writer pins number) ≡
    first_of (unknown_refusal rule) (first_of (refused_by (pin_tests writer pins))
    (first_of (refused_by (right_tests writer number)) (read_only_refusal rule)))
unfolding access_tests
in_order_lem rule writer pins number =
    let right = right_tests writer number in
    let readonly = named (read_only_refusal rule) in
    rw (
      refused_append (named (unknown_refusal rule)) (pin_tests writer pins ++ (right ++ readonly)),
      refused_append (pin_tests writer pins) (right ++ readonly),
      refused_append right readonly,
      named_is (unknown_refusal rule),
      named_is (read_only_refusal rule),
    ) refl

-- the first of four refusals, taken from the left or from the right
associated_lem : (a b c d : Option ℕ) → first_of (first_of (first_of a b) c) d ≡ first_of a (first_of b (first_of c d))
associated_lem none none c d = refl
associated_lem none (some n) c d = refl
associated_lem (some n) b c d = refl

pub returns : goal.returns
returns c =
    let unknown = c.unknown_verdict.result in
    let pin = c.pin_verdict.result in
    let right = c.right_verdict.result in
    rw (
      c.and-3.ensures,
      c.and-2.ensures,
      c.and.ensures,
      number_of_both (result_and (result_and unknown pin) right) c.read_only_verdict.result,
      number_of_both (result_and unknown pin) right,
      number_of_both unknown pin,
      in_order_lem c.args.rule c.args.writer c.args.pins c.args.number,
      c.unknown_verdict.ensures,
      c.pin_verdict.ensures,
      c.right_verdict.ensures,
      c.read_only_verdict.ensures,
    ) (associated_lem
    (unknown_refusal c.args.rule)
    (refused_by (pin_tests c.args.writer c.args.pins))
    (refused_by (right_tests c.args.writer c.args.number))
    (read_only_refusal c.args.rule))

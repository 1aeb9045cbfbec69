-- `controller::Controller::write` meets its contract.
use Rattle.std.specs.Prelude.{Ok, Err}
use mathlib.Core.Bool.{Bool}
use mathlib.Core.List.{List}
use mathlib.Core.Option.{none, some}
use Prim.Native.Nat.{ℕ}
use mathlib.Core.Path.{◌≡◌, sym, ap, ◌∙◌}
use mir.Facts.{to_z-of_z}
use mir.Val.{to_z, of_z}
use mir.Syntax.{w32, w64}
use Rattle.integers.specs.Machine.{back}
use Rattle.signals.specs.Refusals.{Verdict, number_of, number_in, refused_by}
use Rattle.signals.specs.declared.Refusal.{Refusal}
use Rattle.outputs.specs.Instruction.{executed, changed, limited_to}
use Rattle.controller.specs.Write.{write_tests, write_accepted, write_core, controller_written, write}
use Rattle.controller.specs.RightLaws.{common_passed}
use Rattle.controller.specs.Scan.{controller_after, refused, response_from}
use Rattle.controller.specs.WriteLaws.{written_valid}
use Rattle.controller.proofs.Controller.write.Goals.{After-write_verdict}
use Rattle.controller.proofs.Controller.write.Goals as goal

-- the value that was widened is the value
value_is : (c : After-write_verdict) → to_z w64 (of_z w64 c.from-v.result) ≡ c.args.value
value_is c = back w64 c.from-v.result c.from-v.type_inv ∙ c.from-v.ensures ∙ to_z-of_z {w = w32} c.ranges.value

verdict_is : (c : After-write_verdict) → number_in c.write_verdict.result
    ≡ refused_by (write_tests c.args.self.core c.args.writer c.args.number c.args.value)
verdict_is c = rw (← c.self.view_is) (rw (value_is c) at c.write_verdict.ensures)

-- what an accepted verdict says, and a refusal
none_refuses : {v : Verdict} (ts : List (Bool × ℕ)) → number_in v ≡ refused_by ts → v ≡ Ok tt → refused_by ts ≡ none
none_refuses ts e is = sym e ∙ ap number_in is

some_refuses : {v : Verdict} (r : Refusal) (ts : List (Bool × ℕ)) → number_in v ≡ refused_by ts → v ≡ Err r →
    refused_by ts ≡ some (number_of r)
some_refuses r ts e is = sym e ∙ ap number_in is

pub written-requires : goal.written-requires
written-requires c = simp (value_is (goal.at.written-requires c).After-write_verdict) (
    common_passed c.args.self.core c.args.writer c.args.number c.args.value
    (none_refuses _ (verdict_is (goal.at.written-requires c).After-write_verdict) c.in-Ok.is))

pub returns-in-Err : goal.returns-in-Err
unfolding write write_core response_from controller_after refused executed changed limited_to
returns-in-Err c =
    let refuses = some_refuses _ _ (verdict_is (goal.at.returns-in-Err c).After-write_verdict) c.in-Err.is in
    (simp refuses, rw (← c.self.view_is) c.self.invariant)

pub returns-in-Ok : goal.returns-in-Ok
unfolding write write_core response_from controller_after controller_written write_accepted
returns-in-Ok c =
    let passed = none_refuses _ (verdict_is (goal.at.returns-in-Ok c).After-write_verdict) c.in-Ok.is in
    let is = simp (value_is (goal.at.returns-in-Ok c).After-write_verdict) at c.written.ensures in (
      simp (passed, is),
      rw is
          (written_valid c.args.self c.args.number c.args.value (rw (← c.self.view_is) c.self.invariant)
          (common_passed c.args.self.core c.args.writer c.args.number c.args.value passed)),
    )

-- `controller::Controller::rule` meets its contract.
use mathlib.Core.Path.{refl}
use native.Mathlib.Omega.{arith}
use Rattle.integers.specs.Listed.{listed}
use Rattle.parameters.specs.RuleLaws.{row, row_beyond}
use Rattle.parameters.specs.Table.{rule_of}
use Rattle.controller.proofs.Controller.rule.Goals as goal

pub returns-in-17 : goal.returns-in-17
unfolding rule_of
returns-in-17 c = simp c.in-17.is

pub returns-in-20 : goal.returns-in-20
unfolding rule_of
returns-in-20 c = simp c.in-20.is

pub returns-in-21 : goal.returns-in-21
unfolding rule_of
returns-in-21 c = simp c.in-21.is

pub returns-in-22 : goal.returns-in-22
unfolding rule_of
returns-in-22 c = simp c.in-22.is

pub returns-in-23 : goal.returns-in-23
unfolding rule_of
returns-in-23 c = simp c.in-23.is

pub returns-in-1-to-2 : goal.returns-in-1-to-2
unfolding rule_of listed
returns-in-1-to-2 c = row 1 2 c.args.number refl (omega arith) (omega arith)

pub returns-in-3-to-4 : goal.returns-in-3-to-4
unfolding rule_of listed
returns-in-3-to-4 c = row 3 2 c.args.number refl (omega arith) (omega arith)

pub returns-in-5-to-6 : goal.returns-in-5-to-6
unfolding rule_of listed
returns-in-5-to-6 c = row 5 2 c.args.number refl (omega arith) (omega arith)

pub returns-in-7-to-8 : goal.returns-in-7-to-8
unfolding rule_of listed
returns-in-7-to-8 c = row 7 2 c.args.number refl (omega arith) (omega arith)

pub returns-in-9-to-10 : goal.returns-in-9-to-10
unfolding rule_of listed
returns-in-9-to-10 c = row 9 2 c.args.number refl (omega arith) (omega arith)

pub returns-in-11-to-12 : goal.returns-in-11-to-12
unfolding rule_of listed
returns-in-11-to-12 c = row 11 2 c.args.number refl (omega arith) (omega arith)

pub returns-in-13-to-14 : goal.returns-in-13-to-14
unfolding rule_of listed
returns-in-13-to-14 c = row 13 2 c.args.number refl (omega arith) (omega arith)

pub returns-in-15-to-16 : goal.returns-in-15-to-16
unfolding rule_of listed
returns-in-15-to-16 c = row 15 2 c.args.number refl (omega arith) (omega arith)

pub returns-in-18-to-19 : goal.returns-in-18-to-19
unfolding rule_of listed
returns-in-18-to-19 c = row 18 2 c.args.number refl (omega arith) (omega arith)

pub returns-in-24-to-25 : goal.returns-in-24-to-25
unfolding rule_of listed
returns-in-24-to-25 c = row 24 2 c.args.number refl (omega arith) (omega arith)

pub returns-in-26-to-32 : goal.returns-in-26-to-32
unfolding rule_of listed
returns-in-26-to-32 c = row 26 7 c.args.number refl (omega arith) (omega arith)

pub returns-in_default : goal.returns-in_default
unfolding rule_of listed
returns-in_default c = row 0 1 c.args.number refl (omega arith) (omega arith)

pub returns-in_default-2 : goal.returns-in_default-2
returns-in_default-2 c = row_beyond c.args.number (omega arith)

-- `sheet_lines::print::append_counts` meets its contract. The counts of the modes passed stand in the text, in order.
use Prim.Native.Nat.{◌*◌}
use lib.ListN.{take}
use Rattle.std.specs.List.{flat_map}
use Rattle.sheet_lines.specs.Appended.{TextAppended}
use Rattle.sheet_lines.specs.SheetText.{count_text}
use Rattle.sheet_lines.specs.declared.mode.TheConstants.{MODES}
use Rattle.sheet_lines.proofs.print.append_counts.Given as goal

abbrev pub invariant-loop-mode : goal.invariant-loop-mode
invariant-loop-mode g l =
    TextAppended l.initial.out l.out (flat_map (count_text l.sheet.values) (take l.mode-index MODES)) (l.mode-index * 20)

-- `sheet_lines::print::append_counts` meets its contract. The counts of the modes passed stand in the text, in order.
use mathlib.Core.List.{List, [], ◌++◌}
use Prim.Native.Nat.{ℕ}
use mathlib.Core.Path.{◌≡◌, refl, sym, ap, ◌∙◌}
use native.Mathlib.Omega.{arith}
use lib.ListN.{take}
use Rattle.std.specs.List.{flat_map}
use Rattle.std.proofs.lemmas.List.{take_more, flat_map_more, append-nil, append_assoc}
use Rattle.modes.specs.declared.Mode.{Mode}
use Rattle.modes.specs.declared.Mode.TheVariants.{Hold, Track, Forced, Manual, Auto, Remote, Ratio, Fallback}
use Rattle.formatting.specs.Buffer.{append_all}
use Rattle.sheet.specs.declared.SheetValues.{SheetValues}
use Rattle.sheet_lines.specs.Appended.{text_of, text_then, text_most, text_is}
use Rattle.sheet_lines.specs.SheetText.{count_text, counts_text}
use Rattle.sheet_lines.specs.declared.mode.TheConstants.{MODES}
use Rattle.sheet_lines.proofs.print.append_counts.Goals as goal

in_order : (f : Mode → List ℕ) → flat_map f MODES
    ≡ f Hold ++ f Track ++ f Forced ++ f Manual ++ f Auto ++ f Remote ++ f Ratio ++ f Fallback
in_order f = simp (append-nil, append_assoc)

-- the counts of all modes are the counts' text
all_counts : (v : SheetValues) → flat_map (count_text v) MODES ≡ counts_text v
unfolding counts_text
all_counts v = in_order (count_text v)

pub loop-mode-init : goal.loop-mode-init
unfolding append_all
loop-mode-init g c = text_of 0 refl (omega arith)

pub loop-mode-preserved : goal.loop-mode-preserved
loop-mode-preserved g c =
    let f = count_text c.args.sheet.values in
    let i = c.loop-mode.mode-index in
    let behind = flat_map_more f [] (take i MODES) _ ∙ ap (flat_map f) (sym (take_more MODES i _ c.loop-mode-test.true)) in
    text_most (text_is (text_then c.loop-mode.invariant c.append_count.ensures) behind) (omega arith)

pub returns : goal.returns
returns g c =
    let all : c.loop-mode.mode-index ≡ 8 = omega (arith, c.loop-mode-test.false, c.loop-mode.auto.mode-index-end) in
    text_is (rw all at c.loop-mode.invariant) (all_counts c.args.sheet.values)

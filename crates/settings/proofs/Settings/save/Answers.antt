-- `settings::Settings::save` meets its contract.
use mathlib.Core.Path.{ap, ◌∙◌}
use mathlib.Core.List.{List}
use Prim.Native.Nat.{ℕ}
use Rattle.fields.specs.Fields.{fields_from, saved_in}
use Rattle.settings.specs.Settings.{image_of}
use Rattle.settings.proofs.Settings.save.Goals as goal

pub returns : goal.returns
unfolding image_of
returns c = let image = ap (fields_from 0) c.values.ensures in
    let e = c.save.ensures in
    (e.0, e.1 ∙ ap (λ (bytes : List ℕ). saved_in bytes c.args.buffer.now) image)

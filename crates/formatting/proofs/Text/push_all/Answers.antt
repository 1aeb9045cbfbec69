-- `formatting::Text::push_all` meets its contract. The part behind the bytes used becomes those that fit.
use Rattle.std.proofs.Common.{◌≡◌, refl, sym, ap, ◌∙◌, List, ℕ, ◌+◌, ◌-◌, ◌≤◌, arith, length, take, drop-drop}
use borrow.Rule.Slice.PartMut.{put_mid}
use Rattle.formatting.specs.Buffer.{buffer, append_all}
use Rattle.formatting.specs.Laws.{replaced, append_fitting}
use Rattle.formatting.proofs.Text.push_all.Goals as goal

part_replaced : (at n : ℕ) (bytes out : List ℕ) → n ≡ length bytes → put_mid at n out bytes ≡ replaced at bytes out
unfolding replaced
part_replaced at n bytes out e = rw (drop-drop n at out, e) refl

copied : (bytes out fitting part : List ℕ) (used n : ℕ) → used ≤ length out → n ≡ length fitting
    → fitting ≡ take (length out - used) bytes → part ≡ fitting
    → buffer (put_mid used n out part) (used + length fitting) ≡ append_all (buffer out used) bytes
copied bytes out fitting part used n h e f p =
    rw p (ap (λ (b : List ℕ). buffer b (used + length fitting)) (part_replaced used n fitting out e) ∙
    sym (rw (← f) at (append_fitting bytes out used h)))

pub returns : goal.returns
returns g c =
    let i = c.self.inside in
    let size = c.self.told in
    rw (← c.self.view_is)
    (copied c.args.bytes.now i.bytes c.front-fitting.result.now c.copy_from_slice.new.self i.used _ (omega arith) (omega arith)
    (rw (← size) at c.front-fitting.ensures) c.copy_from_slice.ensures.after)

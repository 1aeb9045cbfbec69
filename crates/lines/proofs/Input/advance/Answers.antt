-- `lines::Input::advance` meets its contract.
use Rattle.std.proofs.Common.{List, ℕ, sym, ◌∙◌, arith, take, drop, drop-drop, drop_of_length-le, length-take}
use Rattle.lines.specs.Reading.{Reading}
use Rattle.lines.specs.ReadingLaws.{to_end, advanced_past, advanced_whole}
use Rattle.lines.proofs.Input.advance.Goals as goal

pub returns-in-Some : goal.returns-in-Some
returns-in-Some g c =
    let i = c.self.inside in
    let read : List ℕ = take i.end i.bytes in
    let place : Reading = record { unread = drop i.at read; more = i.more } in
    let found = rw (to_end i.at read) at (sym c.feed.ensures ∙ c.in-Some.is) in
    let past = advanced_past place c.args.line.now _ c.in-Some.count found (rw (to_end i.at read) at c.push_all.ensures) in
    rw (← c.self.view_is) (rw drop-drop at past)

pub returns-in-None : goal.returns-in-None
returns-in-None g c =
    let i = c.self.inside in
    let read : List ℕ = take i.end i.bytes in
    let place : Reading = record { unread = drop i.at read; more = i.more } in
    let missed = rw (to_end i.at read) at (sym c.feed.ensures ∙ c.in-None.is) in
    let whole = advanced_whole place c.args.line.now _ missed (rw (to_end i.at read) at c.push_all-in-None.ensures) in
    let none = drop_of_length-le read {i = i.end} (omega (arith, length-take i.end i.bytes)) in
    rw (← c.self.view_is, none) whole

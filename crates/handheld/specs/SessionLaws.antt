-- A law of a session: the next controller is valid.
use Rattle.std.specs.Prelude.{List, ℕ, Option, None, Some}
use Rattle.rights.specs.declared.Writer.{Writer}
use Rattle.controller.specs.Valid.{Valid}
use Rattle.handheld.specs.PlantLaws.{valid_outcome}
use Rattle.handheld.specs.Sessions.{who_in, outcome_of_who, typed_outcome}
use Rattle.handheld.specs.declared.session.Session.{Session}

valid_who : (own : Option Writer) (s : Session) (line bytes : List ℕ) → Valid s.controller →
    Valid (outcome_of_who own s line bytes).session.controller
valid_who (Some w) s line bytes valid = valid
valid_who None s line bytes valid = valid_outcome s.controller s.writer line bytes valid

pub valid_typed : (s : Session) (line bytes : List ℕ) → Valid s.controller → Valid (typed_outcome s line bytes).session.controller
unfolding typed_outcome
valid_typed s line bytes valid = valid_who (who_in line) s line bytes valid

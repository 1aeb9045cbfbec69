-- Document 01, "The exact controller": "The memory fault stands exactly when the last accepted restart
-- brought it and no accepted write of MD with bit 8 zero came after that restart."
use Rattle.std.specs.Prelude.{◌≡◌, Bool, false, not, ◌&&◌, ◌||◌, List, [], ◌∷◌, ℕ, eqb, nat_abs, get_or, if◌then◌else◌}
use Rattle.signals.specs.Bits.{bit}
use Rattle.modes.specs.Modes.{counted}
use Rattle.controller.specs.declared.Core.{Core}
use Rattle.guarantee.specs.Bytes.{sum_right}
use Rattle.guarantee.specs.Exact.{Call, scan, write, restart, Calls, none, ◌then◌, is_accepted, outcome_of, exact_answer}

-- what an accepted call is to that sentence
pub data Event : Type 0 where
  -- a restart, and whether it brought the fault
  restarted : Bool → Event
  -- a write of MD, and its word
  wrote : ℕ → Event
  other_call : Event

-- "A fault of 1 or a wrong sumcheck brings the memory fault, any other accepted restart ends it.", told by
-- the bytes of an accepted image: that of 43h is byte 127
unfoldable pub brings : List ℕ → Bool
brings image = eqb (get_or image 127 0) 1 || not (sum_right image)

-- MD is parameter 24; a write of it counts whoever made it: of one who may not write it none is accepted
unfoldable pub event_of : Call → Event
event_of (scan i) = other_call
event_of (write w n v) = if eqb n 24 then wrote (nat_abs v) else other_call
event_of (restart image) = restarted (brings image)

-- the fault after one accepted call more
abbrev pub fault_after : Event → Bool → Bool
fault_after (restarted brought) fault = brought
fault_after (wrote word) fault = fault && bit word 8
fault_after other_call fault = fault

-- what one call does to the fault in any state, reached by calls or not
abbrev pub FaultStep : Type 0
FaultStep = (c : Core) (x : Call) → let o = outcome_of counted c x in
    o.next.conditions.fault ≡ (if is_accepted o.answer then fault_after (event_of x) c.conditions.fault else c.conditions.fault)

-- the accepted calls, the latest first
unfoldable pub events : ℕ → Calls → List Event
events word none = []
events word (xs then x) = if is_accepted (exact_answer word xs x) then event_of x ∷ events word xs else events word xs

-- "the last accepted restart brought it"
unfoldable pub last_brought : List Event → Bool
last_brought [] = false
last_brought (restarted brought ∷ earlier) = brought
last_brought (wrote word ∷ earlier) = last_brought earlier
last_brought (other_call ∷ earlier) = last_brought earlier

-- an "accepted write of MD with bit 8 zero came after that restart"
unfoldable pub cleared_after : List Event → Bool
cleared_after [] = false
cleared_after (restarted brought ∷ earlier) = false
cleared_after (wrote word ∷ earlier) = not (bit word 8) || cleared_after earlier
cleared_after (other_call ∷ earlier) = cleared_after earlier

unfoldable pub stands : List Event → Bool
stands es = last_brought es && not (cleared_after es)

unfoldable pub fault_stands : ℕ → Calls → Bool
fault_stands word calls = stands (events word calls)

-- The tests of each call end in none or in one of its refusals, so that there is an answer for each.
use mathlib.Core.Path.{◌≡◌, refl, ap}
use mathlib.Core.Bool.{Bool}
use mathlib.Core.List.{List, [], ◌∷◌, ◌++◌}
use mathlib.Core.Option.{Option, some, none}
use Prim.Native.Nat.{ℕ}
use lib.Dec.{eqb}
use lib.IntN.{ℤ}
use Rattle.integers.specs.Choice.{by_cases}
use Rattle.signals.specs.Clock.{ClockReading}
use Rattle.signals.specs.Refusals.{number_of, refused_by, scan_tests}
use Rattle.signals.specs.declared.Input.{Input}
use Rattle.signals.specs.declared.Refusal.{Refusal}
use Rattle.signals.specs.declared.Refusal.TheVariants.{Sample, ButtonBits, SensorBits, Range, Pair, Setpoint}
use Rattle.signals.specs.declared.Refusal.TheVariants.{RequestBits, RemotePin, Cause, Clock}
use Rattle.signals.specs.declared.Refusal.TheVariants.{ImageLength, ImageField, ImageValue, ShortBuffer, ComputerPin, WriterRight}
use Rattle.fields.specs.Fields.{save_tests}
use Rattle.words.specs.Written.{md_tests}
use Rattle.parameters.specs.Table.{rule_of}
use Rattle.parameters.specs.declared.Rule.{Rule}
use Rattle.parameters.specs.declared.Rule.TheVariants as rule
use Rattle.rights.specs.Rights.{pin_tests, right_tests, access_tests}
use Rattle.rights.specs.declared.Writer.{Writer}
use Rattle.controller.specs.Restart.{restart_tests}
use Rattle.controller.specs.Write.{word_of, setpoint_tests, state_tests, value_tests, access_now, write_tests}
use Rattle.controller.specs.declared.Core.{Core}

pub data Ends (v : Option ℕ) : Type 0 where
  passes : v ≡ none → Ends v
  refused_by_lem : (refusal : Refusal) → v ≡ some (number_of refusal) → Ends v

-- the number of a refusal
record Named (n : ℕ) : Type 0 where
  refusal : Refusal
  is : n ≡ number_of refusal

abbrev Numbered : List (Bool × ℕ) → Type 0
Numbered [] = Unit {0}
Numbered (t ∷ ts) = Named t.1 × Numbered ts

ends_of : (ts : List (Bool × ℕ)) → Numbered ts → Ends (refused_by ts)
unfolding refused_by
ends_of [] h = passes refl
ends_of (t ∷ ts) h =
    by_cases Ends t.0 (some t.1) (refused_by ts) (λ e. refused_by_lem h.0.refusal (ap some h.0.is)) (λ e. ends_of ts h.1)

named : (refusal : Refusal) → Named (number_of refusal)
named refusal = record { refusal = refusal; is = refl }

pub scan_ends : (last : ClockReading) (i : Input) → Ends (refused_by (scan_tests last i))
unfolding scan_tests
scan_ends last i = ends_of (scan_tests last i) (named Sample, (named ButtonBits, (named SensorBits, (named Clock, tt))))

-- what a row of the table names is the number of a refusal, and the writer's two between them are
access_numbered : (r : Rule) (w : Writer) (pins n : ℕ) → Numbered (access_tests r w pins n)
unfolding access_tests pin_tests right_tests
access_numbered (rule.Unknown refusal) w pins n = (named refusal, (named ComputerPin, (named WriterRight, tt)))
access_numbered (rule.ReadOnly refusal) w pins n = (named ComputerPin, (named WriterRight, (named refusal, tt)))
access_numbered (rule.Word least most) w pins n = (named ComputerPin, (named WriterRight, tt))
access_numbered (rule.Free least most) w pins n = (named ComputerPin, (named WriterRight, tt))
access_numbered (rule.Pair least most high low strict) w pins n = (named ComputerPin, (named WriterRight, tt))
access_numbered (rule.Between low high) w pins n = (named ComputerPin, (named WriterRight, tt))

value_numbered : (c : Core) (n : ℕ) (v : ℤ) → Numbered (value_tests c n v)
unfolding value_tests state_tests setpoint_tests md_tests
value_numbered c n v = (
  named Range,
  (
    named Pair,
    by_cases Numbered (eqb n 20) (setpoint_tests c) _ (λ e. (named Setpoint, tt))
        (λ e. by_cases Numbered (eqb n 24) (md_tests c.conditions (word_of v)) []
        (λ d. (named RequestBits, (named RemotePin, (named Cause, tt)))) (λ d. tt)),
  ),
)

numbered_append : (ts us : List (Bool × ℕ)) → Numbered ts → Numbered us → Numbered (ts ++ us)
numbered_append [] us h k = k
numbered_append (t ∷ ts) us h k = (h.0, numbered_append ts us h.1 k)

pub access_ends : (c : Core) (w : Writer) (n : ℕ) → Ends (refused_by (access_now c w n))
unfolding access_now
access_ends c w n = ends_of (access_now c w n) (access_numbered (rule_of n) w c.conditions.pins n)

pub write_ends : (c : Core) (w : Writer) (n : ℕ) (v : ℤ) → Ends (refused_by (write_tests c w n v))
unfolding write_tests access_now
write_ends c w n v =
    ends_of (write_tests c w n v)
    (numbered_append (access_now c w n) (value_tests c n v) (access_numbered (rule_of n) w c.conditions.pins n) (value_numbered c n v))

pub restart_ends : (image : List ℕ) → Ends (refused_by (restart_tests image))
unfolding restart_tests
restart_ends image = ends_of (restart_tests image) (named ImageLength, (named ImageField, (named ImageValue, tt)))

pub save_ends : (buffer : List ℕ) → Ends (refused_by (save_tests buffer))
unfolding save_tests
save_ends buffer = ends_of (save_tests buffer) (named ShortBuffer, tt)

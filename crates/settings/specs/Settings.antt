-- Document 01, "The image": what each field holds, and what is legal.
use Rattle.std.specs.Prelude.{Bool, ◌&&◌, ◌||◌, List, ℕ, ◌+◌, ◌-◌, ltb, leb, eqb, ℤ, pos, get_or, take, if◌then◌else◌}
use Rattle.integers.specs.Listed.{listed}
use Rattle.integers.specs.TwosComplement.{as_word, from_word}
use Rattle.signals.specs.Bits.{bit}
use Rattle.fields.specs.Fields.{fields_from, sum_of, with_sumcheck}
use Rattle.modes.specs.declared.Request.{Request}
use Rattle.modes.specs.declared.Request.TheVariants.{Manual, Auto, Remote}
use Rattle.words.specs.Words.{weight}
use Rattle.words.specs.declared.UserBits.{UserBits}
use Rattle.parameters.specs.Table.{value}
use Rattle.parameters.specs.declared.Parameters.{Parameters}
use Rattle.settings.specs.declared.Settings.{Settings}

-- ---- saved: the value of each field

-- 42h: "0 M, 1 A, 2 R"
abbrev pub request_number : Request → ℕ
request_number Manual = 0
request_number Auto = 1
request_number Remote = 2

-- 43h: "0 or 1"
abbrev pub fault_number : Bool → ℕ
fault_number fault = if fault then 1 else 0

-- 44h: "bits 0, 1 user bits 1, 2, bit 2 MD bit 4"
unfoldable pub user_bits_number : UserBits → ℕ
user_bits_number m = weight m.user1 1 + weight m.user2 2 + weight m.measuredpower 4

-- by the field's place: the parameters 1 to 23 in "two bytes, two's complement", then OP, request, fault and 44h
unfoldable pub value_at : Settings → ℕ → ℕ
value_at s place =
    if ltb place 23 then as_word (value s.parameters (place + 1)) else
    if eqb place 23 then s.op else
    if eqb place 24 then request_number s.request else
    if eqb place 25 then fault_number s.fault else user_bits_number s.userbits

unfoldable pub values_of : Settings → List ℕ
values_of s = listed (value_at s) 0 27

-- the image's bytes, "7Fh sumcheck" last
unfoldable pub image_of : Settings → List ℕ
image_of s = fields_from 0 (with_sumcheck (values_of s))

-- ---- decoded: what the values of the 28 fields say

abbrev pub request_in : ℕ → Request
request_in v =
    if eqb v 0 then Manual else
    if eqb v 1 then Auto else Remote

unfoldable pub user_bits_in : ℕ → UserBits
user_bits_in v = record { user1 = bit v 0; user2 = bit v 1; measuredpower = bit v 2 }

-- by the parameter's number; entry 0 is not used
unfoldable pub parameter_in : List ℕ → ℕ → ℤ
parameter_in vs n = if eqb n 0 then pos 0 else from_word (get_or vs (n - 1) 0)

unfoldable pub parameters_in : List ℕ → Parameters
parameters_in vs = record { values = listed (parameter_in vs) 0 24 }

unfoldable pub settings_in : List ℕ → Settings
settings_in vs =
    record {
      parameters = parameters_in vs;
      op = get_or vs 23 0;
      request = request_in (get_or vs 24 0);
      fault = eqb (get_or vs 25 0) 1;
      userbits = user_bits_in (get_or vs 26 0);
    }

-- "the sumcheck right": "all earlier values, read unsigned, summed modulo 65,536"
unfoldable pub is_sum_right : List ℕ → Bool
is_sum_right vs = eqb (get_or vs 27 0) (sum_of (take 27 vs))

-- "Legal: .. OP 0..9999, request 0..2, fault 0 or 1 and 1 only with request 0, 44h 0..7."
unfoldable pub are_others_legal : List ℕ → Bool
are_others_legal vs =
    leb (get_or vs 23 0) 9999 && leb (get_or vs 24 0) 2 && (leb (get_or vs 25 0) 1 && (eqb (get_or vs 25 0) 0 || eqb (get_or vs 24 0) 0))
    && leb (get_or vs 26 0) 7

-- under a wrong sumcheck "an illegal 44h is 0"
unfoldable pub legal_user_bits : List ℕ → UserBits
legal_user_bits vs = if leb (get_or vs 26 0) 7 then user_bits_in (get_or vs 26 0) else user_bits_in 0

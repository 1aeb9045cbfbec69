-- Document 01, "Parameters": the table of numbers, ranges and defaults.
use Rattle.std.specs.Prelude.{Bool, true, false, ◌&&◌, List, [], ◌∷◌, ℕ, leb, ℤ, pos, neg_ℤ, get_or, set, if◌then◌else◌}
use Rattle.signals.specs.declared.Refusal.TheVariants as refusal
use Rattle.parameters.specs.declared.Parameters.{Parameters}
use Rattle.parameters.specs.declared.Rule.{Rule}
use Rattle.parameters.specs.declared.Rule.TheVariants.{Unknown, ReadOnly, Word, Free, Pair, Between}

-- the parameters with these values, by their numbers
abbrev pub parameters_of : List ℤ → Parameters
parameters_of values = record { values = values }

-- the value of the parameter with this number
unfoldable pub value : Parameters → ℕ → ℤ
value p number = get_or p.values number (pos 0)

unfoldable pub with_value : Parameters → ℕ → ℤ → Parameters
with_value p number to = record { values = set p.values number to }

-- ---- the column "Numbers": the 6360's mnemonics, 1H to 3L with the digit behind

abbrev pub H1 : Parameters → ℤ
H1 p = value p 1

abbrev pub L1 : Parameters → ℤ
L1 p = value p 2

abbrev pub H2 : Parameters → ℤ
H2 p = value p 3

abbrev pub L2 : Parameters → ℤ
L2 p = value p 4

abbrev pub H3 : Parameters → ℤ
H3 p = value p 5

abbrev pub L3 : Parameters → ℤ
L3 p = value p 6

abbrev pub HR : Parameters → ℤ
HR p = value p 7

abbrev pub LR : Parameters → ℤ
LR p = value p 8

abbrev pub HS : Parameters → ℤ
HS p = value p 9

abbrev pub LS : Parameters → ℤ
LS p = value p 10

abbrev pub HA : Parameters → ℤ
HA p = value p 11

abbrev pub LA : Parameters → ℤ
LA p = value p 12

abbrev pub HD : Parameters → ℤ
HD p = value p 13

abbrev pub LD : Parameters → ℤ
LD p = value p 14

abbrev pub HO : Parameters → ℤ
HO p = value p 15

abbrev pub LO : Parameters → ℤ
LO p = value p 16

abbrev pub XP : Parameters → ℤ
XP p = value p 17

abbrev pub TI : Parameters → ℤ
TI p = value p 18

abbrev pub TD : Parameters → ℤ
TD p = value p 19

abbrev pub SL : Parameters → ℤ
SL p = value p 20

abbrev pub RS : Parameters → ℤ
RS p = value p 21

abbrev pub RB : Parameters → ℤ
RB p = value p 22

abbrev pub IC : Parameters → ℤ
IC p = value p 23

-- ---- the column "Range"

abbrev pub is_from : ℕ → ℕ → ℕ → Bool
is_from n first last = leb first n && leb n last

-- "a parameter number from 1 to 32 chooses the range and the rule": the limits, the pair rule with the numbers of the
-- upper one and of the lower one, and "4 number outside 1..32 (reads too); 5 read only"
unfoldable pub rule_of : ℕ → Rule
rule_of n =
    if is_from n 1 2 then Pair (neg_ℤ (pos 9999)) (pos 9999) 1 2 true else  -- 1H, 1L: -9999..9999, L < H
    if is_from n 3 4 then Pair (neg_ℤ (pos 9999)) (pos 9999) 3 4 true else  -- 2H, 2L: -9999..9999, L < H
    if is_from n 5 6 then Pair (neg_ℤ (pos 9999)) (pos 9999) 5 6 true else  -- 3H, 3L: -9999..9999, L < H
    if is_from n 7 8 then Pair (pos 1) (pos 9999) 7 8 false else  -- HR, LR: 1..9999, LR ≤ HR
    if is_from n 9 10 then Pair (neg_ℤ (pos 9999)) (pos 9999) 9 10 false else  -- HS, LS: -9999..9999, L ≤ H
    if is_from n 11 12 then Pair (neg_ℤ (pos 9999)) (pos 9999) 11 12 false else  -- HA, LA: -9999..9999, L ≤ H
    if is_from n 13 14 then Free (pos 0) (pos 9999) else  -- HD, LD: 0..9999
    if is_from n 15 16 then Pair (pos 0) (pos 9999) 15 16 false else  -- HO, LO: 0..9999, LO ≤ HO
    if is_from n 17 17 then Free (pos 1) (pos 9999) else  -- XP: 1..9999
    if is_from n 18 19 then Free (pos 0) (pos 9999) else  -- TI, TD: 0..9999
    if is_from n 20 20 then Between 10 9 else  -- SL: LS..HS
    if is_from n 21 21 then Between 8 7 else  -- RS: LR..HR
    if is_from n 22 22 then Free (neg_ℤ (pos 9999)) (pos 9999) else  -- RB: -9999..9999
    if is_from n 23 23 then Free (pos 0) (pos 1) else  -- IC: 0..1
    if is_from n 24 25 then Word (pos 0) (pos 65535) else  -- MD, DS: 0..65535
    if is_from n 26 32 then ReadOnly refusal.ReadOnly else  -- SW, II, OP, SP, PV, ER, MP: read only
    Unknown refusal.Number

-- ---- the column "Defaults", after the unused entry 0

abbrev pub defaults : List ℤ
defaults =
    pos 0
    ∷ pos 1000 ∷ pos 0 ∷ pos 1000 ∷ pos 0 ∷ pos 1 ∷ pos 0  -- 1H to 3L: 1000, 0, 1000, 0, 1, 0
    ∷ pos 9999 ∷ pos 1  -- HR, LR: 9999, 1
    ∷ pos 1000 ∷ pos 0 ∷ pos 9999 ∷ neg_ℤ (pos 9999)  -- HS, LS, HA, LA: 1000, 0, 9999, -9999
    ∷ pos 9999 ∷ pos 9999  -- HD, LD: 9999, 9999
    ∷ pos 9999 ∷ pos 0  -- HO, LO: 9999, 0
    ∷ pos 1000 ∷ pos 0 ∷ pos 0  -- XP: 1000; TI, TD: 0, 0
    ∷ pos 0 ∷ pos 100 ∷ pos 0 ∷ pos 0  -- SL: 0; RS: 100; RB: 0; IC: 0
    ∷ []

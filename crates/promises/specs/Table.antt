-- Document 01's table of parameters by its columns, where the rules have it by its rows; and what a host is told of a
-- row, over the contract of `Controller::rule`.
use Rattle.std.specs.Prelude.{◌≡◌, Bool, true, false, ◌||◌, List, [], ◌∷◌, ℕ, ◌+◌, ◌-◌, ◌%◌, eqb, leb, ltb, ℤ, pos, neg_ℤ, if◌then◌else◌}
use Rattle.std.specs.Int.Signed.{le_z, lt_z}
use Rattle.signals.specs.declared.Refusal.TheVariants as refusal
use Rattle.parameters.specs.declared.Rule.{Rule}
use Rattle.parameters.specs.declared.Rule.TheVariants.{Unknown, ReadOnly, Word, Free, Pair, Between}
use Rattle.controller.proofs.Controller.rule.Reads as rule-reads

-- whether n is one of these numbers
abbrev pub among : ℕ → List ℕ → Bool
among n [] = false
among n (m ∷ ms) = eqb n m || among n ms

-- ---- the column "Range"

-- the least value of the number n, among values by their numbers: SL between LS and HS, RS between LR and HR
unfoldable pub least : (ℕ → ℤ) → ℕ → ℤ
least values n =
    if among n (20 ∷ []) then values 10 else
    if among n (21 ∷ []) then values 8 else
    if among n (7 ∷ 8 ∷ 17 ∷ []) then pos 1 else  -- HR, LR, XP
    if among n (13 ∷ 14 ∷ 15 ∷ 16 ∷ 18 ∷ 19 ∷ 23 ∷ 24 ∷ 25 ∷ []) then pos 0 else  -- HD, LD, HO, LO, TI, TD, IC, MD, DS
    neg_ℤ (pos 9999)  -- 1H to 3L, HS, LS, HA, LA, RB

-- and the greatest
unfoldable pub most : (ℕ → ℤ) → ℕ → ℤ
most values n =
    if among n (20 ∷ []) then values 9 else
    if among n (21 ∷ []) then values 7 else
    if among n (23 ∷ []) then pos 1 else  -- IC
    if among n (24 ∷ 25 ∷ []) then pos 65535 else  -- MD, DS
    pos 9999

-- "L < H" of the channel ranges, "LR ≤ HR", "L ≤ H" of the setpoint limits and absolute alarms, "LO ≤ HO": whether
-- the pair that the number n belongs to, if to any, is in order among these values
unfoldable pub in_order : (ℕ → ℤ) → ℕ → Bool
in_order values n =
    if among n (1 ∷ 2 ∷ []) then lt_z (values 2) (values 1) else
    if among n (3 ∷ 4 ∷ []) then lt_z (values 4) (values 3) else
    if among n (5 ∷ 6 ∷ []) then lt_z (values 6) (values 5) else
    if among n (7 ∷ 8 ∷ []) then le_z (values 8) (values 7) else
    if among n (9 ∷ 10 ∷ []) then le_z (values 10) (values 9) else
    if among n (11 ∷ 12 ∷ []) then le_z (values 12) (values 11) else
    if among n (15 ∷ 16 ∷ []) then le_z (values 16) (values 15) else
    true

-- ---- the column "Defaults"

unfoldable pub default : ℕ → ℤ
default n =
    if among n (1 ∷ 3 ∷ 9 ∷ 17 ∷ []) then pos 1000 else  -- 1H, 2H, HS, XP
    if among n (7 ∷ 11 ∷ 13 ∷ 14 ∷ 15 ∷ []) then pos 9999 else  -- HR, HA, HD, LD, HO
    if among n (12 ∷ []) then neg_ℤ (pos 9999) else  -- LA
    if among n (5 ∷ 8 ∷ []) then pos 1 else  -- 3H, LR
    if among n (21 ∷ []) then pos 100 else  -- RS
    pos 0

-- ---- a row, as a host is told it

-- of a pair the upper one has the odd number, the lower one the next
abbrev pub upper : ℕ → ℕ
upper n = if eqb (n % 2) 1 then n else n - 1

-- "4 number outside 1..32", "5 read only"; MD and DS; SL between LS and HS, RS between LR and HR; the pairs, of which
-- those of the channel ranges are strictly in order; all others by their range alone
unfoldable pub row_for : ℕ → Rule
row_for n =
    let low = least (λ k. pos 0) n in
    let high = most (λ k. pos 0) n in
    if eqb n 0 || ltb 32 n then Unknown refusal.Number else
    if ltb 25 n then ReadOnly refusal.ReadOnly else
    if ltb 23 n then Word low high else
    if among n (20 ∷ []) then Between 10 9 else
    if among n (21 ∷ []) then Between 8 7 else
    if leb n 12 || among n (15 ∷ 16 ∷ []) then Pair low high (upper n) (upper n + 1) (leb n 6) else Free low high

abbrev pub RuleEnsures : ℕ → Rule → Type 0
RuleEnsures n r = rule-reads.Post tt (n, tt) r (n, tt)

abbrev pub TableOfRules : Type 0
TableOfRules = (n : ℕ) (r : Rule) → RuleEnsures n r → r ≡ row_for n

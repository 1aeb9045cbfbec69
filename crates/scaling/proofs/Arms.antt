-- A table of numbers as the compiler lowers it: a switch with an arm for each place, which sets local 2 to its entry.
-- `entries_of` reads the entries off any arms, and `arms_of` makes the arms of entries. Where code has another form 0
-- is read; `arms_of` makes no such code, so the arms that it makes aren't the ones that were read.
use mathlib.Core.Bool.{Bool, true, false}
use mathlib.Core.List.{List, [], ◌∷◌}
use Prim.Native.Nat.{ℕ, suc}
use lib.Dec.{ltb}
use mir.Syntax.{w16, place, Opd, copy, int, int_neg, int_big, float, opd_true, opd_false, opd_unit, ptr_const}
use mir.Syntax.{size_of, align_of, num_of, fn_addr, vtable, Rv, rv_opd, op1, op2, addr_of, aggregate, repeat, repeat_p, select}
use mir.Syntax.{Body, skip, seq, assign, block, loop, cond, switch, exit, return, call, unreachable, call_v, lend_static}
use mir.Syntax.{Arms, arm, default, no_default}

-- the number that an operand is
abbrev number_in : Opd → ℕ
number_in (int w n) = n
number_in (int_big w n) = n
number_in (copy p) = 0
number_in (int_neg w n) = 0
number_in (float w n) = 0
number_in opd_true = 0
number_in opd_false = 0
number_in opd_unit = 0
number_in (ptr_const f) = 0
number_in (size_of t) = 0
number_in (align_of t) = 0
number_in (num_of w t) = 0
number_in (fn_addr f s) = 0
number_in (vtable t fs) = 0

-- the number that is assigned
abbrev value_in : Rv → ℕ
value_in (rv_opd x) = number_in x
value_in (op1 o x) = 0
value_in (op2 o x y) = 0
value_in (addr_of p) = 0
value_in (aggregate xs) = 0
value_in (repeat x n) = 0
value_in (repeat_p x n) = 0
value_in (select m x y) = 0

-- the number that an arm assigns
abbrev entry_in : Body → ℕ
entry_in (assign p v) = value_in v
entry_in skip = 0
entry_in (seq a b) = 0
entry_in (block b) = 0
entry_in (loop b) = 0
entry_in (cond c a b) = 0
entry_in (switch c arms) = 0
entry_in (exit n) = 0
entry_in return = 0
entry_in (call f xs d) = 0
entry_in unreachable = 0
entry_in (call_v x s xs d) = 0
entry_in (lend_static p t c) = 0

abbrev pub entries_of : Arms → List ℕ
entries_of (arm keys body others) = entry_in body ∷ entries_of others
entries_of (default body) = []
entries_of no_default = []

-- the arms of a switch
abbrev pub arms_in : Body → Arms
arms_in (switch c arms) = arms
arms_in skip = no_default
arms_in (seq a b) = no_default
arms_in (assign p v) = no_default
arms_in (block b) = no_default
arms_in (loop b) = no_default
arms_in (cond c a b) = no_default
arms_in (exit n) = no_default
arms_in return = no_default
arms_in (call f xs d) = no_default
arms_in unreachable = no_default
arms_in (call_v x s xs d) = no_default
arms_in (lend_static p t c) = no_default

-- numbers from 1024 on have a form of their own
abbrev pub literal : Bool → ℕ → Opd
literal true n = int w16 n
literal false n = int_big w16 n

-- what an arm does
abbrev pub sets : ℕ → Body
sets n = assign (place 2 []) (rv_opd (literal (ltb n 1024) n))

-- The places are counted on from the first entry's. The default, which no sample reads, gives 10001.
abbrev pub arms_of : ℕ → List ℕ → Arms
arms_of at [] = default (sets 10001)
arms_of at (r ∷ others) = arm (at ∷ []) (sets r) (arms_of (suc at) others)

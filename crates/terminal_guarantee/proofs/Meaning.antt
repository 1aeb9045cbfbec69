-- What each line asks, beside what the rules take it for.
use Rattle.std.specs.Prelude.{if◌then◌else◌}
use mathlib.Core.Path.{◌≡◌, refl, sym, ap, subst, ◌∙◌}
use mathlib.Core.Bool.{Bool, true, false}
use mathlib.Core.List.{List, [], ◌∷◌, ◌++◌}
use mathlib.Core.Option.{Option, some, none}
use Prim.Native.Nat.{ℕ}
use native.Mathlib.Omega.{arith}
use lib.Dec.{eqb}
use lib.IntN.{ℤ}
use lib.ListN.{take, drop, take-append-drop}
use borrow.Author.Tests.{eqb-true}
use Rattle.integers.specs.Listed.{listed, listed_same}
use Rattle.terminal.specs.Commands.{value_of, writing, command_of, command_by, command_in}
use Rattle.terminal.specs.MnemonicLaws.{begins_with, names, named_range}
use Rattle.terminal.specs.Mnemonics.{mnemonic, named}
use Rattle.terminal.specs.Commands.{Command, Read, Write, NoMnemonic, NoValue}
use Rattle.terminal_guarantee.specs.Forms.{letters, InTable, Asked, a_read, a_write, Asks, reads, writes}
use Rattle.terminal_guarantee.specs.Lines.{OneMeaning}
use Rattle.terminal_guarantee.proofs.Forms.{apart, value_form, form_value}

-- ---- the letters by columns are the table's

pub letters_are : (n : ℕ) → InTable n → letters n ≡ mnemonic n
unfolding mnemonic listed
letters_are n t = listed_same letters mnemonic 1 32 n refl t.least (omega (arith, t.most))

letters_name : (n : ℕ) (bytes : List ℕ) → InTable n → named (letters n ++ bytes) ≡ some n
letters_name n bytes t = names (letters n ++ bytes) n t.least t.most (letters_are n t)

-- ---- what is asked is taken

abbrev pub command_for : Asked → Command
command_for (a_read n) = Read n
command_for (a_write n v) = Write n v

pub asked_command : {line : List ℕ} {a : Asked} → Asks line a → command_in line ≡ command_for a
unfolding command_in command_of
asked_command (reads {n} t) = ap (λ (o : Option ℕ). command_by o []) (letters_name n [] t)
asked_command (writes {n} {bytes} {v} t f) =
    ap (λ (o : Option ℕ). command_by o (62 ∷ bytes)) (letters_name n (62 ∷ bytes) t) ∙ ap (writing n) (form_value f)

read_asked : (a b : Asked) → command_for a ≡ command_for b → a ≡ b
read_asked (a_read n) (a_read m) e = cc
read_asked (a_read n) (a_write m w) e = let z : ◌≡◌ {A = ℕ} 0 1 = cc in apart z
read_asked (a_write n v) (a_read m) e = let z : ◌≡◌ {A = ℕ} 0 1 = cc in apart z
read_asked (a_write n v) (a_write m w) e = cc

pub one_meaning : OneMeaning
one_meaning line a b f g = read_asked a b (sym (asked_command f) ∙ asked_command g)

-- ---- what is taken is asked

pub data Meaning (line : List ℕ) : Command → Type 0 where
  names_none : ((n : ℕ) → InTable n → take 2 line ≡ letters n → ⊥) → Meaning line NoMnemonic
  asks_nothing : {n : ℕ} → InTable n → take 2 line ≡ letters n → ((a : Asked) → Asks line a → ⊥) → Meaning line NoValue
  asks_read : {n : ℕ} → Asks line (a_read n) → Meaning line (Read n)
  asks_write : {n : ℕ} {v : ℤ} → Asks line (a_write n v) → Meaning line (Write n v)

asked_something : (a : Asked) → NoValue ≡ command_for a → ⊥
asked_something (a_read n) e = let z : ◌≡◌ {A = ℕ} 0 1 = cc in apart z
asked_something (a_write n v) e = let z : ◌≡◌ {A = ℕ} 0 1 = cc in apart z

module _ (line : List ℕ) (n : ℕ) (e : named line ≡ some n) where
  in_table : InTable n
  in_table = let r = named_range line n e in record { least = r.least; most = r.most }

  front : take 2 line ≡ letters n
  front = begins_with line n e ∙ sym (letters_are n in_table)

  whole : (behind : List ℕ) → drop 2 line ≡ behind → letters n ++ behind ≡ line
  whole behind f = sym (sym (take-append-drop 2 line) ∙ ap (λ (l : List ℕ). l ++ drop 2 line) front ∙ ap (λ (l : List ℕ). letters n ++ l) f)

  nothing : command_in line ≡ NoValue → Meaning line NoValue
  nothing g = asks_nothing in_table front (λ a asked. asked_something a (sym g ∙ asked_command asked))

  by_value : (bytes : List ℕ) (o : Option ℤ) → letters n ++ (62 ∷ bytes) ≡ line → value_of n bytes ≡ o → command_in line ≡ writing n o →
      Meaning line (writing n o)
  by_value bytes (some v) is f g =
      asks_write (subst (λ (l : List ℕ). Asks l (a_write n v)) is (writes in_table (value_form n bytes v f)))
  by_value bytes none is f g = nothing g

  by_behind : (behind : List ℕ) → drop 2 line ≡ behind → command_in line ≡ command_of n behind → Meaning line (command_of n behind)
  unfolding command_of
  by_behind [] f g = asks_read (subst (λ (l : List ℕ). Asks l (a_read n)) (whole [] f) (reads in_table))
  by_behind (b ∷ bytes) f g = go (eqb b 62) refl g
    where
      go : (t : Bool) → eqb b 62 ≡ t → command_in line ≡ (if t then writing n (value_of n bytes) else NoValue) →
          Meaning line (if t then writing n (value_of n bytes) else NoValue)
      go true h k =
          let sign : letters n ++ (62 ∷ bytes) ≡ line =
          ap (λ (c : ℕ). letters n ++ (c ∷ bytes)) (sym (eqb-true b 62 h)) ∙ whole (b ∷ bytes) f in
          by_value bytes (value_of n bytes) sign refl k
      go false h k = nothing k

pub meaning : (line : List ℕ) → Meaning line (command_in line)
unfolding command_in
meaning line = go (named line) refl
  where
    go : (o : Option ℕ) → named line ≡ o → Meaning line (command_by o (drop 2 line))
    go none e = names_none (λ n t f.
        let found = names line n t.least t.most (f ∙ letters_are n t) in
        let z : ◌≡◌ {A = ℕ} 0 1 = cc in apart z)
    go (some n) e = by_behind line n e (drop 2 line) refl (ap (λ (o : Option ℕ). command_by o (drop 2 line)) e)

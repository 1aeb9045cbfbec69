-- Laws of what a line asks, by the steps in which the code reads it.
use Rattle.std.specs.Prelude.{◌≡◌, true, false, List, ℕ, ◌<◌, ◌≤◌, ℤ, pos, nat_abs, length, drop, get_or}
use Rattle.std.specs.Prelude.{◌-◌, take, Some, None, Ok, Err}
use Rattle.std.proofs.Math.Path.{refl, sym, ap}
use Rattle.std.proofs.Math.Option.{Option, some, none}
use Rattle.signals.specs.declared.Refusal.TheVariants.{Mnemonic, ValueForm}
use Rattle.std.proofs.Common.{◌∙◌, arith, length-drop, take_all, drop_of_length-le, drop-cons, eq-eqb, ne_eqb}
use Rattle.numerals.specs.Numerals.{integer_of, word_of}
use Rattle.numerals.specs.Parsed.{number_of, parsed_word}
use Rattle.numerals.specs.ParsedValues.{number_told, number_untold, word_told, word_untold, integer_most}
use Rattle.terminal.specs.Commands.{Read, NoValue, is_word, value_of, value_in, writing, command_of, command_by, command_in, asked}
use Rattle.terminal.specs.MnemonicLaws.{no_name, name_found}
use Rattle.terminal.specs.Mnemonics.{named, number_in}
use Rattle.terminal.specs.declared.command.Command.TheVariants as code

-- ---- values

module _ (n : ℕ) (bytes : List ℕ) where
  module _ (is : is_word n ≡ true) where
    pub word_value : (w : ℕ) → Some w ≡ parsed_word bytes → Some (pos w) ≡ value_in (value_of n bytes)
    unfolding value_of parsed_word
    word_value w e = rw (is, word_told (word_of bytes) w (sym e)) refl

    pub no_word : None ≡ parsed_word bytes → None ≡ value_in (value_of n bytes)
    unfolding value_of parsed_word
    no_word e = rw (is, word_untold (word_of bytes) (sym e)) refl

  module _ (is : is_word n ≡ false) where
    pub decimal_value : (v : ℤ) → Some v ≡ number_of 5 bytes → (Some v ≡ value_in (value_of n bytes)) × (nat_abs v < 100000)
    unfolding value_of number_of
    decimal_value v e =
        let r = number_told (integer_of 5 bytes) v (sym e) in
        (rw (is, r) refl, omega (arith, integer_most 5 bytes v r))

    pub no_decimal : None ≡ number_of 5 bytes → None ≡ value_in (value_of n bytes)
    unfolding value_of number_of
    no_decimal e = rw (is, number_untold (integer_of 5 bytes) (sym e)) refl

-- ---- what stands behind the mnemonic

module _ (n : ℕ) (line : List ℕ) where
  pub nothing_behind : length line ≤ 2 → command_of n (drop 2 line) ≡ Read n
  unfolding command_of
  nothing_behind h = rw (drop_of_length-le line {i = 2} h) refl

  module _ (more : 2 < length line) where
    pub other_sign : (get_or line 2 0 ≡ 62 → ⊥) → command_of n (drop 2 line) ≡ NoValue
    unfolding command_of
    other_sign h = rw (drop-cons line 2 0 more) (simp (ne_eqb (get_or line 2 0) 62 h))

    pub value_behind : get_or line 2 0 ≡ 62 → command_of n (drop 2 line) ≡ writing n (value_of n (drop 3 line))
    unfolding command_of
    value_behind h = rw (drop-cons line 2 0 more) (simp (eq-eqb (get_or line 2 0) 62 h))

-- ---- the whole, for the code

module _ (line : List ℕ) where
  pub none_named : None ≡ number_in (named line) → Err Mnemonic ≡ asked (command_in line)
  unfolding command_in
  none_named e = sym (ap (λ (o : Option ℕ). asked (command_by o (drop 2 line))) (no_name line e))

  module _ (n : ℕ) (e : Some n ≡ number_in (named line)) where
    by_name : command_in line ≡ command_of n (drop 2 line)
    unfolding command_in
    by_name = ap (λ (o : Option ℕ). command_by o (drop 2 line)) (name_found line n e)

    pub read_asked : length line ≤ 2 → Ok (code.Read n) ≡ asked (command_in line)
    read_asked h = sym (ap asked (by_name ∙ nothing_behind n line h))

    pub other_asked : 2 < length line → (get_or line 2 0 ≡ 62 → ⊥) → Err ValueForm ≡ asked (command_in line)
    other_asked h k = sym (ap asked (by_name ∙ other_sign n line h k))

    -- the slice behind the sign is all that is left of the line
    module _ (more : 2 < length line) (sign : get_or line 2 0 ≡ 62) where
      rest : take (length line - 3) (drop 3 line) ≡ drop 3 line
      rest = take_all (length line - 3) (drop 3 line) (omega (arith, length-drop 3 line))

      pub write_asked : (v : ℤ) → Some v ≡ value_in (value_of n (take (length line - 3) (drop 3 line)))
          → Ok (code.Write n v) ≡ asked (command_in line)
      write_asked v f = go (value_of n (drop 3 line)) (rw rest at f) ∙ sym (ap asked (by_name ∙ value_behind n line more sign))
        where
          go : (o : Option ℤ) → Some v ≡ value_in o → Ok (code.Write n v) ≡ asked (writing n o)
          go none g = cc
          go (some u) g = let same : v ≡ u = cc in rw same refl

      pub no_value_asked : None ≡ value_in (value_of n (take (length line - 3) (drop 3 line))) → Err ValueForm ≡ asked (command_in line)
      no_value_asked f = go (value_of n (drop 3 line)) (rw rest at f) ∙ sym (ap asked (by_name ∙ value_behind n line more sign))
        where
          go : (o : Option ℤ) → None ≡ value_in o → Err ValueForm ≡ asked (writing n o)
          go none g = refl
          go (some u) g = cc

-- `text::hexadecimal::parse` meets its contract, case by case.
use mathlib.Core.Path.{◌≡◌, refl, sym, ◌∙◌}
use mathlib.Core.Bool.{false}
use mathlib.Core.List.{[]}
use mathlib.Core.Option.{some, none}
use Prim.Native.Nat.{◌/◌, ◌≤◌}
use native.Mathlib.Omega.{arith}
use lib.ListN.{length}
use borrow.Author.Rules.{rules}
use Rattle.text.specs.Hexadecimal.{is_dash, pairs, bytes_of}
use Rattle.text.specs.HexadecimalLaws.{dash_read, empty_read, odd_read, digits_read, others_read, none_in, too_many, all_in}
use Rattle.text.specs.HexadecimalLaws.{length_pairs}
use Rattle.text.proofs.hexadecimal.parse.Goals.{Joined-then-is_empty, Else-not-all_digits}
use Rattle.text.proofs.hexadecimal.parse.Goals.{then-is_empty-via-then-is_empty, then-is_empty-via-else-is_empty+then-word-eq1}
use Rattle.text.proofs.hexadecimal.parse.Goals.{then-is_empty-via-else-is_empty+else-word-eq1+then-not-all_digits}
use Rattle.text.proofs.hexadecimal.parse.Goals as goal

pub returns-then-is_dash : goal.returns-then-is_dash
returns-then-is_dash c =
    let all = all_in c.args.bytes.now [] 0 (dash_read c.args.word.now (sym c.if-is_dash.ensures)) refl (omega arith) in
    record {
      value = all.0;
      bytes_after = all.1;
    }

malformed : (c : Joined-then-is_empty) → bytes_of c.args.word.now ≡ none
malformed c =
    let word = c.args.word.now in
    let other : is_dash word ≡ false = sym c.if-is_dash.ensures in
    elim c.then-is_empty.branch [
      | then-is_empty-via-then-is_empty w ↦ empty_read word other (search rules)
      | then-is_empty-via-else-is_empty+then-word-eq1 w ↦ odd_read word other w.if-word-eq1.true
      | then-is_empty-via-else-is_empty+else-word-eq1+then-not-all_digits w ↦
          others_read word other (search rules) w.if-word-eq1.false (search rules)
    ]

pub returns-then-is_empty : goal.returns-then-is_empty
returns-then-is_empty c =
    let all = none_in c.args.bytes.now (malformed c) in
    record {
      value = all.0;
      bytes_after = all.1;
    }

read : (c : Else-not-all_digits) → bytes_of c.args.word.now ≡ some (pairs c.args.word.now (length c.args.word.now / 2))
read c =
    digits_read c.args.word.now (sym c.if-is_dash.ensures) (search rules) c.if-word-eq1.false (search rules)

pub returns-then-bytes-count : goal.returns-then-bytes-count
returns-then-bytes-count c =
    let word = c.args.word.now in
    let count = length word / 2 in
    let all = too_many c.args.bytes.now (pairs word count) count (read (goal.at.returns-then-bytes-count c).Else-not-all_digits)
    (length_pairs word count) (omega arith) in
    record {
      value = all.0;
      bytes_after = all.1;
    }

pub returns : goal.returns
returns c =
    let word = c.args.word.now in
    let count = length word / 2 in
    let fits : count ≤ length c.args.bytes.now = omega arith in
    let whole = all_in c.args.bytes.now (pairs word count) count (read (goal.at.returns c).Else-not-all_digits)
    (length_pairs word count) fits in
    record {
      value = whole.0;
      bytes_after = c.write_pairs.ensures ∙ whole.1;
    }

-- `fields::encode_field` meets its contract.
use Rattle.std.proofs.Common.{◌≡◌, ⊎_elim, eq-or-lt_of_le, arith, get_or, ◌/◌, ◌%◌}
use Rattle.fields.proofs.EncodingLaws.{encoded_one, encoded_two}
use Rattle.fields.proofs.encode_field.Goals.{After-to_be_bytes}
use Rattle.fields.proofs.encode_field.Goals as goal

high_is : (c : After-to_be_bytes) → get_or c.to_be_bytes.result 0 0 ≡ c.args.value / 256
high_is c = rw c.to_be_bytes.ensures (omega arith)

low_is : (c : After-to_be_bytes) → get_or c.to_be_bytes.result 1 0 ≡ c.args.value % 256
low_is c = rw c.to_be_bytes.ensures (omega arith)

pub returns-then-size-eq-WORD_LENGTH : goal.returns-then-size-eq-WORD_LENGTH
returns-then-size-eq-WORD_LENGTH c = let a = c.args in
    let bytes = (goal.at.returns-then-size-eq-WORD_LENGTH c).After-to_be_bytes in
    rw (high_is bytes, low_is bytes) (encoded_two a.part.now a.tag a.size a.value c.if-size-eq-WORD_LENGTH.true c.requires.0)

pub returns-else-size-eq-WORD_LENGTH : goal.returns-else-size-eq-WORD_LENGTH
returns-else-size-eq-WORD_LENGTH c = let a = c.args in
    let e : a.size ≡ 1 = ⊎_elim (λ w. absurd (c.if-size-eq-WORD_LENGTH.false w)) (λ w. omega arith) (eq-or-lt_of_le c.requires.2) in
    rw (low_is (goal.at.returns-else-size-eq-WORD_LENGTH c).After-to_be_bytes) (encoded_one a.part.now a.tag a.size a.value e c.requires.0)

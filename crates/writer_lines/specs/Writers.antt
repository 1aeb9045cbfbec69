-- Document 02, request 6: "Each write names its writer: operator, engineer or computer", in a line by that word.
use Rattle.std.specs.Prelude.{◌≡◌, refl, List, ℕ, ◌<◌, length, Option, Some, None, if◌then◌else◌}
use Rattle.std.proofs.Common.{arith}
use Rattle.rights.specs.declared.Writer.{Writer}
use Rattle.rights.specs.declared.Writer.TheVariants.{Operator, Engineer, Computer}
use Rattle.text.specs.Words.{same_bytes, same_unequal}
use Rattle.formatting.specs.Ascii.{ascii}

-- the writer whose word it is, if one has it
unfoldable pub writer_of : List ℕ → Option Writer
writer_of word =
    if same_bytes word (ascii "operator") then Some Operator else
    if same_bytes word (ascii "engineer") then Some Engineer else
    if same_bytes word (ascii "computer") then Some Computer else None

-- capitals are no writer's
capital_example : writer_of (ascii "Operator") ≡ None
unfolding writer_of same_bytes
capital_example = refl

-- each has eight letters
pub long_word : (word : List ℕ) → 8 < length word → writer_of word ≡ None
unfolding writer_of
long_word word h =
    simp (
      same_unequal word (ascii "operator") (λ e. omega arith),
      same_unequal word (ascii "engineer") (λ e. omega arith),
      same_unequal word (ascii "computer") (λ e. omega arith),
    )

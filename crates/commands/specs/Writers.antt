-- Who writes, as a line of the console names them: the word behind the name of the call.
use Rattle.std.specs.Prelude.{List, ℕ, Option}
use Rattle.rights.specs.declared.Writer.{Writer}
use Rattle.text.specs.Arguments.{part}
use Rattle.text.specs.Words.{word_at}
use Rattle.writer_lines.specs.Writers.{writer_of}

-- the writer of the first word at or behind a place
unfoldable pub writer_at : List ℕ → ℕ → Option Writer
writer_at line start = let word = word_at line start in writer_of (part line word.from word.to)

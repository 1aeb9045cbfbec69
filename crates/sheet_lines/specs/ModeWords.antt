-- The word of each mode in a line, and the mode of a word.
use Rattle.std.specs.Prelude.{List, ℕ, Option, Some, None, if◌then◌else◌}
use Rattle.modes.specs.declared.Mode.{Mode}
use Rattle.modes.specs.declared.Mode.TheVariants.{Hold, Track, Forced, Manual, Auto, Remote, Ratio, Fallback}
use Rattle.text.specs.Words.{same_bytes}
use Rattle.formatting.specs.Ascii.{ascii}

unfoldable pub mode_word : Mode → List ℕ
mode_word Hold = ascii "hold"
mode_word Track = ascii "track"
mode_word Forced = ascii "forced"
mode_word Manual = ascii "manual"
mode_word Auto = ascii "auto"
mode_word Remote = ascii "remote"
mode_word Ratio = ascii "ratio"
mode_word Fallback = ascii "fallback"

-- a mode whose word it is, else what the words of others give
abbrev pub mode_or : List ℕ → Mode → Option Mode → Option Mode
mode_or word m other = if same_bytes word (mode_word m) then Some m else other

-- the mode whose word it is, if one has it
unfoldable pub mode_of : List ℕ → Option Mode
mode_of word =
    mode_or word Hold (mode_or word Track (mode_or word Forced (mode_or word Manual
    (mode_or word Auto (mode_or word Remote (mode_or word Ratio (mode_or word Fallback None)))))))

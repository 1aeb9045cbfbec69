-- The bytes of a text in ASCII, so that a definition shows the text and not its numbers.
use Rattle.std.specs.Prelude.{◌≡◌, refl, List, [], ◌∷◌, ℕ}
use Prim.Native.Char.{code}
use Prim.Native.String.{String}
use Prim.Native.String.{[] as no_text, ◌∷◌ as ◌before◌}
use Rattle.integers.specs.Listed.{listed}

-- each character's code
abbrev pub ascii : String → List ℕ
ascii no_text = []
ascii (c before s) = code c ∷ ascii s

ascii_example : ascii "ok\n" ≡ 111 ∷ 107 ∷ 10 ∷ []
ascii_example = refl

-- digits from 48 on, capitals from 65 on, small letters from 97 on
digits : ascii "0123456789" ≡ listed (λ n. n) 48 10
unfolding listed
digits = refl

capitals : ascii "ABCDEFGHIJKLMNOPQRSTUVWXYZ" ≡ listed (λ n. n) 65 26
unfolding listed
capitals = refl

small_letters_lem : ascii "abcdefghijklmnopqrstuvwxyz" ≡ listed (λ n. n) 97 26
unfolding listed
small_letters_lem = refl

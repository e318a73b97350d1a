-- Words in hexadecimal digits.
use Rattle.std.specs.Prelude.{ℕ, ◌/◌, ◌%◌, List, [], ◌∷◌, ◌++◌}
use Rattle.nibble.specs.Digits.{upper}

-- a word in eight digits, and a line feed
abbrev pub word_line : ℕ → List ℕ
word_line w =
    upper (w / 0x10000000) ∷ upper (w / 0x1000000 % 16) ∷ upper (w / 0x100000 % 16) ∷ upper (w / 0x10000 % 16)
    ∷ upper (w / 0x1000 % 16) ∷ upper (w / 0x100 % 16) ∷ upper (w / 0x10 % 16) ∷ upper (w % 16) ∷ 10 ∷ []

abbrev pub word_lines : List ℕ → List ℕ
word_lines [] = []
word_lines (w ∷ ws) = word_line w ++ word_lines ws

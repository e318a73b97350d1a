-- Numbers as text.
use Rattle.std.specs.Prelude.{ℕ, ◌-◌, ◌/◌, ◌%◌, List, [], ◌∷◌, ◌++◌, length, replicate, decimal}
use Rattle.nibble.specs.Digits.{upper}

-- decimal digits, behind as many spaces as make them `width` characters
abbrev pub right : (width n : ℕ) → List ℕ
right w n = replicate (w - length (decimal n)) 32 ++ decimal n

-- a byte in two hexadecimal digits
abbrev pub hex : ℕ → List ℕ
hex b = upper (b / 16) ∷ upper (b % 16) ∷ []

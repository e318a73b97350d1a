-- Hexadecimal text.
use Rattle.std.specs.Prelude.{ℕ, ◌+◌, ◌/◌, ◌%◌, ◌≤◌, Bool, List, [], ◌∷◌, ◌++◌, take, position, is_none, option_map, unwrap_or, slice_index, Option, Vec, vec_len, vec_capacity}
use Rattle.nibble.specs.Digits.{value, upper, byte_of}

-- a character that is no digit
abbrev pub bad : ℕ → Bool
bad c = is_none (value c)

-- the column, from 1, of the first of a line's first 66 characters that is no digit
abbrev pub wrong : List ℕ → Option ℕ
wrong l = option_map (λ i. i + 1) (position bad (take 66 l))

-- the first byte that a text of digits writes, and all of them
abbrev pub first_byte : List ℕ → ℕ
first_byte l = unwrap_or (byte_of (slice_index l 0) (slice_index l 1)) 0

abbrev pub bytes_of : List ℕ → List ℕ
bytes_of [] = []
bytes_of (h ∷ []) = []
bytes_of (h ∷ l ∷ rest) = unwrap_or (byte_of h l) 0 ∷ bytes_of rest

abbrev pub two : ℕ → List ℕ
two b = upper (b / 16) ∷ upper (b % 16) ∷ []

abbrev pub four : ℕ → List ℕ
four h = two (h / 0x100) ++ two (h % 0x100)

abbrev pub eight : ℕ → List ℕ
eight w = four (w / 0x10000) ++ four (w % 0x10000)

-- so many bytes fit without more memory
abbrev pub HasRoom : {X Z : Type 0} → Vec X Z → ℕ → Type 0
HasRoom v n = vec_len v + n ≤ vec_capacity v

-- of the room that there was, no more than so many bytes have been taken
abbrev pub Takes : {X Z : Type 0} → (v v₂ : Vec X Z) → ℕ → Type 0
Takes v v₂ n = vec_len v₂ + vec_capacity v ≤ vec_len v + n + vec_capacity v₂

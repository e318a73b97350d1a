-- The figures among the arguments.
use Rattle.std.specs.Prelude.{ℕ, ◌+◌, ◌*◌, cond, ◌&&◌, List, length, Some, None, Option, ◌==◌, nat_le, slice_index}
use Rattle.video.specs.declared.parameters.ResetParameters.{ResetParameters}
use Rattle.arguments.specs.Hex.{byte_of}
use Rattle.arguments.specs.Numbers.{then, decimal, figure_of, pair_of}

-- the byte of digits 2 k and 2 k + 1
abbrev pub byte_at : List ℕ → (k : ℕ) → Option ℕ
byte_at t k = byte_of (slice_index t (2 * k)) (slice_index t (2 * k + 1))

-- eight digits, two to each of the four parameters of Reset
abbrev pub parameters_of : List ℕ → Option ResetParameters
parameters_of t =
    cond (length t == 8)
    (then (byte_at t 0) (λ p. then (byte_at t 1) (λ q. then (byte_at t 2) (λ r. then (byte_at t 3) (λ s.
    Some (record { first = p; second = q; third = r; fourth = s }))))))
    None

-- two digits that write 20 to 3F
abbrev pub start_of : List ℕ → Option ℕ
start_of t = cond (length t == 2) (then (byte_at t 0) (λ b. cond (nat_le 0x20 b && nat_le b 0x3F) (Some b) None)) None

-- three decimal digits that write 1 to 255
abbrev pub decimal_of : (hundreds tens ones : ℕ) → Option ℕ
decimal_of h t o =
    then (decimal h) (λ a. then (decimal t) (λ b. then (decimal o) (λ c.
    cond (nat_le 1 (100 * a + 10 * b + c) && nat_le (100 * a + 10 * b + c) 255) (Some (100 * a + 10 * b + c)) None)))

-- one to three digits
abbrev pub row_of : List ℕ → Option ℕ
row_of t =
    cond (length t == 1) (decimal_of 48 48 (slice_index t 0))
    (cond (length t == 2) (decimal_of 48 (slice_index t 0) (slice_index t 1))
    (cond (length t == 3) (decimal_of (slice_index t 0) (slice_index t 1) (slice_index t 2)) None))

abbrev pub frames_of : List ℕ → Option ℕ
frames_of t = then (figure_of 65535 t) (λ n. cond (n == 0) None (Some n))

-- column and row, a comma between them
abbrev pub cursor_of : List ℕ → Option (ℕ × ℕ)
cursor_of t = pair_of 44 255 t

-- Hexadecimal digits, in upper case.
use Rattle.std.specs.Prelude.{ℕ, ◌+◌, ◌-◌, ◌*◌, cond, ◌&&◌, Some, None, Option, nat_le, nat_lt}

-- the value of a digit, 0 to 9 and A to F
abbrev pub value : ℕ → Option ℕ
value c = cond (nat_le 48 c && nat_le c 57) (Some (c - 48)) (cond (nat_le 65 c && nat_le c 70) (Some (c - 55)) None)

-- the digit of a value below 16
abbrev pub upper : ℕ → ℕ
upper v = cond (nat_lt v 10) (48 + v) (55 + v)

abbrev pub joined : Option ℕ → Option ℕ → Option ℕ
joined None l = None
joined (Some h) None = None
joined (Some h) (Some l) = Some (h * 16 + l)

-- the byte that two digits write
abbrev pub byte_of : (high low : ℕ) → Option ℕ
byte_of h l = joined (value h) (value l)

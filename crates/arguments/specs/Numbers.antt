-- Decimal numbers, alone and in pairs.
use Rattle.std.specs.Prelude.{ℕ, ◌+◌, ◌-◌, ◌*◌, cond, ◌&&◌, List, [], ◌∷◌, length, take, drop, Some, None, Option, ◌==◌, nat_le}
use Rattle.std.specs.List.{position_or_len}

-- f of the value that is there
abbrev pub then : {A : Type 0} → Option ℕ → (ℕ → Option A) → Option A
then None f = None
then (Some v) f = f v

abbrev pub decimal : ℕ → Option ℕ
decimal c = cond (nat_le 48 c && nat_le c 57) (Some (c - 48)) None

-- the number with one digit more
abbrev pub grown : (most number c : ℕ) → Option ℕ
grown most n c = then (decimal c) (λ d. cond (nat_le (10 * n + d) most) (Some (10 * n + d)) None)

-- with all digits of a text behind it
abbrev pub figure_after : (most number : ℕ) → List ℕ → Option ℕ
figure_after most n [] = Some n
figure_after most n (c ∷ cs) = then (grown most n c) (λ m. figure_after most m cs)

-- one digit or more
abbrev pub figure_of : (most : ℕ) → List ℕ → Option ℕ
figure_of most t = cond (length t == 0) None (figure_after most 0 t)

-- the bytes before the first mark
abbrev pub before : (mark : ℕ) → List ℕ → ℕ
before m t = position_or_len (λ c. c == m) t

abbrev pub front : (mark : ℕ) → List ℕ → List ℕ
front m t = take (before m t) t

abbrev pub behind : (mark : ℕ) → List ℕ → List ℕ
behind m t = drop (before m t + 1) t

-- two numbers with a mark between them
abbrev pub pair_of : (mark most : ℕ) → List ℕ → Option (ℕ × ℕ)
pair_of m most t =
    cond (before m t == length t) None
    (then (figure_of most (front m t)) (λ a. then (figure_of most (behind m t)) (λ b. Some (a, b))))

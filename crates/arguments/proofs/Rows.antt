-- A row number of one to three digits is a number that is not above 255.
use Rattle.std.proofs.Common.{◌≡◌, ℕ, ◌≤◌, List, [], ◌∷◌, length, cond, eqb, Some, None, Option, refl, arith}
use Rattle.std.proofs.lemmas.Bool.Decides.{nat_tests}
use Rattle.arguments.specs.Numbers.{then, figure_after, figure_of}
use Rattle.arguments.specs.Figures.{decimal_of, row_of}

abbrev pub unless_zero : Option ℕ → Option ℕ
unless_zero o = then o (λ n. cond (eqb n 0) None (Some n))

one : (a : ℕ) → unless_zero (figure_after 255 0 (a ∷ [])) ≡ decimal_of 48 48 a
one a = grind (arith, nat_tests)

two : (a b : ℕ) → unless_zero (figure_after 255 0 (a ∷ b ∷ [])) ≡ decimal_of 48 a b
two a b = grind (arith, nat_tests)

three : (a b c : ℕ) → unless_zero (figure_after 255 0 (a ∷ b ∷ c ∷ [])) ≡ decimal_of a b c
three a b c = grind (arith, nat_tests)

pub row_number : (t : List ℕ) → length t ≤ 3 → unless_zero (figure_of 255 t) ≡ row_of t
row_number [] h = refl
row_number (a ∷ []) h = one a
row_number (a ∷ b ∷ []) h = two a b
row_number (a ∷ b ∷ c ∷ []) h = three a b c
row_number (a ∷ b ∷ c ∷ d ∷ t) h = absurd (omega arith)

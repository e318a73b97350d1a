-- Booleans, tests at a successor, and the width of a position.
use Rattle.std.proofs.Common.{◌≡◌, ℕ, suc, ◌≤◌, Bool, true, false, not, ◌&&◌, ◌||◌, eqb, ltb, leb, List, [], ◌∷◌, refl, arith}
use Rattle.std.proofs.lemmas.Bool.{cond-false}
use Rattle.std.proofs.lemmas.Bool.Decides.{nat_tests}
use Rattle.rows.specs.declared.kinds.Position.{Position}
use Rattle.rows.specs.declared.kinds.Position.TheVariants.{Letter, Attribute, Pair, Graphic, Control, Unused}
use Rattle.rows.specs.Positions.{field_code, read, positions, width}

pub or_true : (a : Bool) → (a || true) ≡ true
or_true true = refl
or_true false = refl

pub or_move : (a b c : Bool) → ((a || b) || c) ≡ (b || (a || c))
or_move true true c = refl
or_move true false c = refl
or_move false b c = refl

pub leb_suc : (a b : ℕ) → leb (suc a) (suc b) ≡ leb a b
leb_suc a b = grind (arith, nat_tests)

pub ltb_suc : (a b : ℕ) → ltb (suc a) (suc b) ≡ ltb a b
ltb_suc a b = grind (arith, nat_tests)

pub not_zero : (m : ℕ) → eqb (suc m) 0 ≡ false
not_zero m = grind (arith, nat_tests)

pub width_one : (p : Position) → 1 ≤ width p
width_one (Letter c) = omega arith
width_one (Attribute a) = omega arith
width_one (Pair a c) = omega arith
width_one (Graphic g) = omega arith
width_one (Control x) = omega arith
width_one Unused = omega arith

pub width_read : (b : ℕ) → width (read b) ≡ 1
width_read b = grind (arith, nat_tests)

-- a byte that fills a position alone
pub positions_one : (f : Bool) (b : ℕ) (bs : List ℕ) → (not f && field_code b) ≡ false → positions f (b ∷ bs) ≡ read b ∷ positions f bs
positions_one f b [] h = cond-false _ _ _ h
positions_one f b (c ∷ cs) h = cond-false _ _ _ h

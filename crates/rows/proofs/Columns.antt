-- A column by its number.
use Rattle.std.proofs.Common.{◌≡◌, ℕ, zero, suc, ◌<◌, ◌≤◌, List, [], ◌∷◌, length, get_or, take, refl, arith}
use Rattle.rows.specs.declared.kinds.Column.{Column}
use Rattle.video.specs.declared.cell.Cell.TheVariants.{Dark}
use Rattle.rows.specs.Buffer.{resolved, cell_of}

pub inside : (r : List ℕ) (ss : List Column) (n p : ℕ) (d : Column) → p < n → n ≤ length ss → resolved r (get_or ss p d) ≡ cell_of r (take n ss) p
inside r [] n p d h l = absurd (omega arith)
inside r (s ∷ ss) zero p d h l = absurd (omega arith)
inside r (s ∷ ss) (suc n) zero d h l = refl
inside r (s ∷ ss) (suc n) (suc p) d h l = inside r ss n p d (omega arith) (omega arith)

pub behind : (r : List ℕ) (ss : List Column) (n p : ℕ) → n ≤ p → Dark ≡ cell_of r (take n ss) p
behind r [] zero p l = refl
behind r [] (suc n) p l = refl
behind r (s ∷ ss) zero p l = refl
behind r (s ∷ ss) (suc n) zero l = absurd (omega arith)
behind r (s ∷ ss) (suc n) (suc p) l = behind r ss n p (omega arith)

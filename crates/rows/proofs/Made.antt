-- An array that a closure makes, element by element.
use Rattle.std.proofs.Common.{◌≡◌, ℕ, zero, suc, ◌+◌, ◌<◌, List, get_or, sym, subst, arith}
use denote.Param.Members.{Mut, Called}
use Rattle.std.specs.Array.{IsFromFnResult, IsFromFnResultFrom}

module _ {F Y : Type 0} (g : Mut F (ℕ × Unit {0}) Y) (h : F) (R : ℕ → Y → Type 0) where
  -- each call leaves the closure as it is, and gives what stands in R to its number
  abbrev pub Gives : Type 0
  Gives = (q : F) (i : ℕ) (y : Y) → Called g h (i, tt) y q → (q ≡ h) × R i y

  made_from : (d : Y) (ys : List Y) (i n : ℕ) → Gives → IsFromFnResultFrom g h ys i n → (k : ℕ) → k < n → R (i + k) (get_or ys (i + k) d)
  made_from d ys i zero gives m k b = absurd (omega arith)
  made_from d ys i (suc n) gives m zero b =
      let z : i + 0 ≡ i = omega arith in
      rw z (subst (R i) (sym (m.2.1 d)) (gives m.0 i m.1 m.3).1)
  made_from d ys i (suc n) gives m (suc k) b =
      let z : i + suc k ≡ (i + 1) + k = omega arith in
      let e = (gives m.0 i m.1 m.3).0 in
      rw z (made_from d ys (i + 1) n gives (subst (λ x. IsFromFnResultFrom g x ys (i + 1) n) e m.4) k (omega arith))

  pub made_by : (d : Y) (ys : List Y) (n : ℕ) → Gives → IsFromFnResult g h ys n → (k : ℕ) → k < n → R k (get_or ys k d)
  made_by d ys n gives m k b =
      let z : 0 + k ≡ k = omega arith in
      subst (λ i. R i (get_or ys i d)) z (made_from d ys 0 n gives m.each k b)

-- Lines, columns and words, one after another.
use Rattle.std.proofs.Common.{◌≡◌, ℕ, zero, IfOk, Result, Vec, vec_items, suc, map, ◌+◌, ◌-◌, ◌*◌, ◌<◌, ◌≤◌, true, false, cond, List, [], ◌∷◌, get_or, refl, ap, add-one, arith}
use Rattle.std.specs.List.{range_with_len}
use Rattle.video.specs.Fields.{has}
use Rattle.listing.specs.Looks.{lit_lines, lines_from, columns_from}
use Rattle.listing.specs.Summary.{summary, above}
use Rattle.listing.specs.declared.lit.Lit.{Lit}

kept_above : (w : ℕ) (ws : List ℕ) → above w (summary ws) ≡ summary (cond (has 0x10000 w) ws (w ∷ ws))
kept_above w [] = elim (has 0x10000 w) as (λ b. cond b (summary []) (summary (w ∷ [])) ≡ summary (cond b [] (w ∷ []))) [ true ↦ refl | false ↦ refl ]
kept_above w (v ∷ ws) =
    elim (has 0x10000 w) as (λ b. cond b (summary (v ∷ ws)) (summary (w ∷ v ∷ ws)) ≡ summary (cond b (v ∷ ws) (w ∷ v ∷ ws))) [ true ↦ refl | false ↦ refl ]

-- what is kept of lit lines, with a line above them
pub above_lit : (w : ℕ) (ws : List ℕ) → above w (summary (lit_lines ws)) ≡ summary (lit_lines (w ∷ ws))
above_lit w ws = kept_above w (lit_lines ws)

-- the columns in turn
pub columns_in_turn : (f : ℕ → ℕ) (p n : ℕ) → map f (range_with_len p n) ≡ columns_from f p n
columns_in_turn f p zero = refl
columns_in_turn f p (suc n) = ap (λ (cs : List ℕ). f p ∷ cs) (simp add-one (columns_in_turn f (suc p) n))

pub columns_collected : {Z E : Type 0} (f : ℕ → ℕ) (n : ℕ) (r : Result (Vec ℕ Z) E) → IfOk r (λ v. vec_items v ≡ map f (range_with_len 0 n)) → IfOk r (λ v. vec_items v ≡ columns_from f 0 n)
columns_collected f n r h = rw (← columns_in_turn f 0 n) h

-- one line more, above the others
pub line_more : (still : List ℕ) (n k w p v : ℕ) (s s₂ : Lit) → 0 < k → k ≤ n → v ≡ get_or still ((k - 1) * w + p) 0x10000 → s₂ ≡ above v s
    → s ≡ summary (lit_lines (lines_from k (n - k) w p still)) → s₂ ≡ summary (lit_lines (lines_from (k - 1) (n - (k - 1)) w p still))
line_more still n k w p v s s₂ b h e q i =
    let d : n - (k - 1) ≡ suc (n - k) = omega arith in
    let f : suc (k - 1) ≡ k = omega arith in
    rw (q, i, e, d, f) (above_lit (get_or still ((k - 1) * w + p) 0x10000) (lines_from k (n - k) w p still))

-- A text without the spaces at its end.
use Rattle.std.proofs.Common.{◌≡◌, ℕ, suc, ◌<◌, List, [], ◌∷◌, length, get_or, sym, refl, arith}
use native.Mathlib.Numerals.{unary_clauses}
use Rattle.std.proofs.lemmas.Bool.Decides.{nat_tests}
use Rattle.listing.specs.Looks.{Trimmed}
use Rattle.layout.specs.Lines.{kept, trim}

spaces_only : (t : List ℕ) → ((k : ℕ) → k < length t → get_or t k 0 ≡ 32) → trim t ≡ []
spaces_only [] h = refl
spaces_only (c ∷ cs) h =
    let e : c ≡ 32 = h 0 (omega arith) in
    let r : trim cs ≡ [] = spaces_only cs (λ k l. h (suc k) (omega arith)) in
    rw (r, e) refl

last_kept : (c : ℕ) → (c ≡ 32 → ⊥) → kept c [] ≡ c ∷ []
last_kept c h = grind (arith, nat_tests)

heads : {c d : ℕ} {cs ds : List ℕ} → c ∷ cs ≡ d ∷ ds → (c ≡ d) × (cs ≡ ds)
heads e = (cc, cc)

pub trimmed_is : (t p : List ℕ) → Trimmed t p → p ≡ trim t
trimmed_is [] [] h = refl
trimmed_is [] (d ∷ ds) h = grind arith
trimmed_is (c ∷ cs) [] h = sym (spaces_only (c ∷ cs) (λ k l. h.spaces k (omega arith) l))
trimmed_is (c ∷ cs) (d ∷ []) h =
    let f = heads h.front in
    let r : trim cs ≡ [] = spaces_only cs (λ k l. h.spaces (suc k) (omega arith) (omega arith)) in
    rw (r, f.0) (sym (last_kept c (h.visible (omega arith))))
trimmed_is (c ∷ cs) (d ∷ e ∷ es) h =
    let f = heads h.front in
    let r : e ∷ es ≡ trim cs =
    trimmed_is cs (e ∷ es)
    (record {
      front = f.1;
      spaces = λ k l m. h.spaces (suc k) (omega arith) (omega arith);
      visible = λ l. simp unary_clauses (simp unary_clauses at (h.visible (omega arith)));
    }) in
    rw (sym r, f.0) refl

-- The first number of a range that passes a test.
use Rattle.std.proofs.Common.{◌≡◌, ℕ, suc, ◌+◌, ◌<◌, Bool, true, false, cond, List, [], ◌∷◌, Some, None, Option, IfSome, sym, refl, ap, ◌∙◌, arith}
use denote.Ref.{Bor}
use denote.Param.Members.{Mut}
use Rattle.std.specs.Fn.{CalledAt}
use Rattle.std.specs.Iterator.{Yields}
use Rattle.std.specs.List.{FoldsTo}
use Rattle.std.specs.Range.{range_inclusive_start, range_inclusive_exhausted, range_inclusive_len, range_inclusive_left, range_inclusive_steps}
use Rattle.std.specs.declared.ops.RangeInclusive.{RangeInclusive}
use Rattle.film.specs.FrameRows.{first_from}

not_spent : (gap : ℕ → ℕ → ℕ) (a b : ℕ) (e : Bool) → 0 < range_inclusive_len gap a b e → e ≡ false
not_spent gap a b true h = absurd (omega arith)
not_spent gap a b false h = refl

pub first_by : {F : Type 0} {g : Mut F (Bor ℕ × Unit {0}) Bool} {follows : ℕ → ℕ → Type 0} (gap : ℕ → ℕ → ℕ) (test : ℕ → Bool) (f j : F) (xs : List ℕ) (s t u : RangeInclusive ℕ) (r : Option ℕ) (i n : ℕ)
    → ((a b : ℕ) → follows a b → b ≡ a + 1) → ((x : ℕ) (b : Bool) (q : F) → CalledAt g f x b q → (q ≡ f) × (b ≡ test x))
    → range_inclusive_left gap s ≡ n → (0 < n → range_inclusive_start s ≡ suc i)
    → Yields (range_inclusive_steps gap follows) s xs t → range_inclusive_steps gap follows t r u
    → FoldsTo (λ p x q. CalledAt g p x false q) f xs j → IfSome r (λ x. (h : F) × CalledAt g j x true h) → r ≡ first_from test i n
first_by gap test f j [] s t u None i n fo cl e st y p d m =
    let z : n ≡ 0 = sym e ∙ (ap (range_inclusive_left gap) y ∙ p.1.0) in
    ap (first_from test i) (sym z)
first_by {g = g} gap test f j [] s t u (Some x) i n fo cl e st y p d m =
    let k : n ≡ suc (range_inclusive_left gap u) = sym e ∙ (ap (range_inclusive_left gap) y ∙ omega (arith, p.1.1)) in
    let a : x ≡ suc i = p.1.0 ∙ (ap range_inclusive_start (sym y) ∙ st (omega arith)) in
    let c : CalledAt g f x true m.0 = rw d m.1 in
    let v : true ≡ test (suc i) = (cl x true m.0 c).1 ∙ ap test a in
    ap (λ (b : ℕ). Some b) a
    ∙ (ap (λ (b : Bool). cond b (Some (suc i)) (first_from test (suc i) (range_inclusive_left gap u))) v ∙ ap (first_from test i) (sym k))
first_by {F = F} {g = g} gap test f j (x ∷ xs) s t u r i n fo cl e st y p d m =
    let k : n ≡ suc (range_inclusive_left gap y.0) = sym e ∙ omega (arith, y.1.1.1) in
    let a : x ≡ suc i = y.1.1.0 ∙ st (omega arith) in
    let c = cl x false d.0 d.1 in
    let v : false ≡ test (suc i) = c.1 ∙ ap test a in
    let h : FoldsTo (λ p x q. CalledAt g p x false q) f xs j = rw (sym c.0) d.2 in
    let l : 0 < range_inclusive_left gap y.0 → range_inclusive_start y.0 ≡ suc (suc i) =
    (λ q. let b = fo _ _ (y.1.1.2 (not_spent gap _ _ (range_inclusive_exhausted y.0) q)) in let o = st (omega arith) in omega (arith, b, o)) in
    first_by gap test f j xs y.0 t u r (suc i) (range_inclusive_left gap y.0) fo cl refl l y.2 p h m
    ∙ (ap (λ (b : Bool). cond b (Some (suc i)) (first_from test (suc i) (range_inclusive_left gap y.0))) v ∙ ap (first_from test i) (sym k))

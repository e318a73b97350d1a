-- A row's positions lie in its own bytes.
use Rattle.std.proofs.Common.{◌≡◌, ℕ, zero, suc, ◌+◌, ◌-◌, ◌%◌, ◌≤◌, Bool, true, false, not, ◌&&◌, ◌||◌, leb, List, [], ◌∷◌, ◌++◌, length, take, drop, Option, sym, refl, ap, ◌∙◌, ⊎_elim, arith, length-append, length-drop}
use Rattle.std.proofs.lemmas.Bool.{cases_Bool, and_parts, le-leb}
use Rattle.std.proofs.lemmas.Bool.Decides.{nat_tests}
use Rattle.rows.specs.declared.kinds.Position.{Position}
use Rattle.rows.specs.declared.kinds.Position.TheVariants.{Pair}
use Rattle.rows.specs.Lists.{some, upto}
use Rattle.rows.specs.Positions.{field_code, read, positions, stops}
use lib.Seq.{drop-append-le}
use Rattle.video.specs.Composition.{Shape}
use Rattle.rows.specs.Takes.{row_positions, size, count, enough}
use Rattle.rows.specs.Page.{Row, row, blank, idle_below, taking_at, effects, screen_over, row_cell, picture}
use Rattle.video.specs.Fields.{field_of}
use Rattle.rows.proofs.Basics.{width_one, width_read, positions_one}
use Rattle.rows.proofs.Chain.{place_next, idle_row, taking_row}

-- the row is filled or stopped
abbrev pub closed : ℕ → List Position → Bool
closed m ps = leb m (length ps) || some stops ps

-- no position, no row
empty_open : (m : ℕ) → closed (suc m) [] ≡ true → ⊥
empty_open m h = let t : closed (suc m) [] ≡ false = grind (arith, nat_tests) in let z : ◌≡◌ {A = ℕ} 0 1 = (let e : true ≡ false = sym h ∙ t in cc) in omega arith

no_bytes : (m : ℕ) (qs : List Position) → closed (suc m) (upto stops (take (suc m) qs)) ≡ true → 1 ≤ size (upto stops (take (suc m) qs))
no_bytes m [] h = absurd (empty_open m h)
no_bytes m (q ∷ qs) h = let w = width_one q in omega arith

closed_more : (m : ℕ) (p : Position) (ps : List Position) → stops p ≡ false → closed (suc m) (p ∷ ps) ≡ closed m ps
closed_more m p ps h = let t : leb (suc m) (suc (length ps)) ≡ leb m (length ps) = grind (arith, nat_tests) in rw (h, t) refl

abbrev pub Same : (f : Bool) → (pre xs ys : List ℕ) → Type 0
Same f pre xs ys = (m : ℕ) → closed m (row_positions f m (pre ++ xs)) ≡ true → size (row_positions f m (pre ++ xs)) ≤ length pre → row_positions f m (pre ++ ys) ≡ row_positions f m (pre ++ xs)

plain : (f : Bool) (b m : ℕ) (pre xs ys : List ℕ) → Same f pre xs ys → (not f && field_code b) ≡ false
    → closed (suc m) (row_positions f (suc m) (b ∷ (pre ++ xs))) ≡ true → size (row_positions f (suc m) (b ∷ (pre ++ xs))) ≤ suc (length pre)
    → row_positions f (suc m) (b ∷ (pre ++ ys)) ≡ row_positions f (suc m) (b ∷ (pre ++ xs))
plain f b m pre xs ys ih h c s =
    rw (positions_one f b (pre ++ xs) h, positions_one f b (pre ++ ys) h) (⊎_elim stop go (cases_Bool (stops (read b))))
  where
    Goal : Type 0
    Goal = upto stops (take (suc m) (read b ∷ positions f (pre ++ ys))) ≡ upto stops (take (suc m) (read b ∷ positions f (pre ++ xs)))

    c₂ : closed (suc m) (upto stops (take (suc m) (read b ∷ positions f (pre ++ xs)))) ≡ true
    c₂ = rw (positions_one f b (pre ++ xs) h) at c

    s₂ : size (upto stops (take (suc m) (read b ∷ positions f (pre ++ xs)))) ≤ suc (length pre)
    s₂ = rw (positions_one f b (pre ++ xs) h) at s

    stop : stops (read b) ≡ true → Goal
    stop e = rw e refl

    go : stops (read b) ≡ false → Goal
    go e =
        let t : upto stops (take (suc m) (read b ∷ positions f (pre ++ xs))) ≡ read b ∷ row_positions f m (pre ++ xs) = rw e refl in
        let c₃ : closed m (row_positions f m (pre ++ xs)) ≡ true = sym (closed_more m (read b) (row_positions f m (pre ++ xs)) e) ∙ sym (ap (closed (suc m)) t) ∙ c₂ in
        let s₃ : size (row_positions f m (pre ++ xs)) ≤ length pre = omega (arith, ap size t, s₂, width_read b) in
        rw e (ap (λ (l : List Position). read b ∷ l) (ih m c₃ s₃))

-- a field code alone fills nothing, and with its character two bytes
lone : (f : Bool) (b m : ℕ) (xs : List ℕ) → (not f && field_code b) ≡ true → closed (suc m) (row_positions f (suc m) (b ∷ xs)) ≡ true → size (row_positions f (suc m) (b ∷ xs)) ≤ 1 → ⊥
lone f b m [] h c s =
    let t : row_positions f (suc m) (b ∷ []) ≡ [] = rw h refl in
    empty_open m (sym (ap (closed (suc m)) t) ∙ c)
lone f b m (d ∷ xs) h c s =
    let t : row_positions f (suc m) (b ∷ d ∷ xs) ≡ Pair (field_of b) (d % 128) ∷ row_positions f m xs = rw h refl in
    omega (arith, ap size t, s)

pub same : (f : Bool) (pre xs ys : List ℕ) → Same f pre xs ys
same f pre xs ys zero c s = refl
same f [] xs ys (suc m) c s = absurd (let n = no_bytes m (positions f xs) c in omega arith)
same f (b ∷ []) xs ys (suc m) c s = ⊎_elim (λ (h : (not f && field_code b) ≡ true). absurd (lone f b m xs h c s)) (λ (h : (not f && field_code b) ≡ false). plain f b m [] xs ys (same f [] xs ys) h c s) (cases_Bool (not f && field_code b))
same f (b ∷ d ∷ pre) xs ys (suc m) c s =
    ⊎_elim
    (λ (h : (not f && field_code b) ≡ true).
    let t : row_positions f (suc m) (b ∷ d ∷ (pre ++ xs)) ≡ Pair (field_of b) (d % 128) ∷ row_positions f m (pre ++ xs) = rw h refl in
    let c₃ : closed m (row_positions f m (pre ++ xs)) ≡ true = sym (closed_more m (Pair (field_of b) (d % 128)) (row_positions f m (pre ++ xs)) refl) ∙ sym (ap (closed (suc m)) t) ∙ c in
    let s₃ : size (row_positions f m (pre ++ xs)) ≤ length pre = omega (arith, ap size t, s) in
    rw h (ap (λ (l : List Position). Pair (field_of b) (d % 128) ∷ l) (same f pre xs ys m c₃ s₃)))
    (λ (h : (not f && field_code b) ≡ false). plain f b m (d ∷ pre) xs ys (same f (d ∷ pre) xs ys) h c s)
    (cases_Bool (not f && field_code b))

-- the row that begins at `from`, where it ends inside `pre`
same_from : (c : Shape) (n : ℕ) (pre xs ys : List ℕ) (above : Bool) (from : ℕ) → from ≤ length pre → (taking_at c n (pre ++ xs) above from).whole ≡ true
    → from + (taking_at c n (pre ++ xs) above from).taken ≤ length pre → taking_at c n (pre ++ ys) above from ≡ taking_at c n (pre ++ xs) above from
unfolding taking_at
same_from c n pre xs ys above from l w e =
    let p : List ℕ = drop from pre in
    let dx : drop from (pre ++ xs) ≡ p ++ xs = drop-append-le from pre xs l in
    let dy : drop from (pre ++ ys) ≡ p ++ ys = drop-append-le from pre ys l in
    let ps : List Position = row_positions c.f c.h (p ++ xs) in
    let w₂ : (above && enough n c.h ps (p ++ xs)) ≡ true = rw dx at w in
    let e₂ : from + count n c.h ps ≤ length pre = rw dx at e in
    let en : enough n c.h ps (p ++ xs) ≡ true = (and_parts above (enough n c.h ps (p ++ xs)) w₂).1 in
    let cl : closed c.h ps ≡ true = (and_parts (closed c.h ps) (leb (count n c.h ps) (length (p ++ xs))) en).0 in
    let lp : length p ≡ length pre - from = length-drop from pre in
    let q : row_positions c.f c.h (p ++ ys) ≡ ps = same c.f p xs ys c.h cl (omega arith) in
    let ly : leb (count n c.h ps) (length (p ++ ys)) ≡ true = le-leb _ _ (omega (arith, length-append p ys)) in
    let lx : leb (count n c.h ps) (length (p ++ xs)) ≡ true = le-leb _ _ (omega (arith, length-append p xs)) in
    rw (dx, dy, q, ly, lx) refl

above_whole : (c : Shape) (n : ℕ) (page : List ℕ) (above : Bool) (from : ℕ) → (taking_at c n page above from).whole ≡ true → above ≡ true
unfolding taking_at
above_whole c n page true from h = refl
above_whole c n page false from h = h

-- row j is whole and ends inside pre
abbrev pub Inside : Shape → (n : ℕ) → (pre xs : List ℕ) → (j : ℕ) → Type 0
Inside c n pre xs j = ((row c n (pre ++ xs) j).whole ≡ true) × ((row c n (pre ++ xs) j).place + (row c n (pre ++ xs) j).taken ≤ length pre)

-- then so does the row above it
inside_above : (c : Shape) (n : ℕ) (pre xs : List ℕ) (j : ℕ) → Inside c n pre xs (suc j) → Inside c n pre xs j
inside_above c n pre xs j h =
    let next = place_next c n (pre ++ xs) j in
    let e = h.1 in (
      ⊎_elim
          (λ (t : (blank c (suc j) || (row c n (pre ++ xs) j).over) ≡ true). ap (λ (x : Row). x.whole) (sym (idle_row c n (pre ++ xs) j t)) ∙ h.0)
          (λ (t : (blank c (suc j) || (row c n (pre ++ xs) j).over) ≡ false).
          above_whole c n (pre ++ xs) (row c n (pre ++ xs) j).whole ((row c n (pre ++ xs) j).place + (row c n (pre ++ xs) j).taken) (ap (λ (x : Row). x.whole) (sym (taking_row c n (pre ++ xs) j t)) ∙ h.0))
          (cases_Bool (blank c (suc j) || (row c n (pre ++ xs) j).over)),
      omega arith,
    )

same_next : (c : Shape) (n : ℕ) (pre xs ys : List ℕ) (j : ℕ) → Inside c n pre xs (suc j) → row c n (pre ++ ys) j ≡ row c n (pre ++ xs) j
    → row c n (pre ++ ys) (suc j) ≡ row c n (pre ++ xs) (suc j)
same_next c n pre xs ys j h ih = ⊎_elim idle takes (cases_Bool (blank c (suc j) || (row c n (pre ++ xs) j).over))
  where
    r : Row
    r = row c n (pre ++ xs) j

    idle : (blank c (suc j) || (row c n (pre ++ xs) j).over) ≡ true → row c n (pre ++ ys) (suc j) ≡ row c n (pre ++ xs) (suc j)
    idle t = idle_row c n (pre ++ ys) j (rw ih t) ∙ ap idle_below ih ∙ sym (idle_row c n (pre ++ xs) j t)

    takes : (blank c (suc j) || (row c n (pre ++ xs) j).over) ≡ false → row c n (pre ++ ys) (suc j) ≡ row c n (pre ++ xs) (suc j)
    takes t =
        let i = taking_row c n (pre ++ xs) j t in
        let next = place_next c n (pre ++ xs) j in
        let many : (row c n (pre ++ xs) (suc j)).taken ≡ (taking_at c n (pre ++ xs) (row c n (pre ++ xs) j).whole ((row c n (pre ++ xs) j).place + (row c n (pre ++ xs) j).taken)).taken = ap (λ (x : Row). x.taken) i in
        let e = h.1 in
        taking_row c n (pre ++ ys) j (rw ih t)
        ∙ ap (λ (x : Row). taking_at c n (pre ++ ys) x.whole (x.place + x.taken)) ih
        ∙ same_from c n pre xs ys (row c n (pre ++ xs) j).whole ((row c n (pre ++ xs) j).place + (row c n (pre ++ xs) j).taken) (omega arith) (ap (λ (x : Row). x.whole) (sym i) ∙ h.0) (omega arith)
        ∙ sym i

-- a row that ends inside pre, and the rows above it, do not depend on what is behind
pub same_rows : (c : Shape) (n : ℕ) (pre xs ys : List ℕ) (j : ℕ) → Inside c n pre xs j → row c n (pre ++ ys) j ≡ row c n (pre ++ xs) j
same_rows c n pre xs ys zero h = unfold row in refl
same_rows c n pre xs ys (suc j) h = same_next c n pre xs ys j h (same_rows c n pre xs ys j (inside_above c n pre xs j h))

same_effects : (c : Shape) (n : ℕ) (pre xs ys : List ℕ) (j : ℕ) → Inside c n pre xs j
    → (effects c n (pre ++ ys) j ≡ effects c n (pre ++ xs) j) × (screen_over c n (pre ++ ys) j ≡ screen_over c n (pre ++ xs) j)
unfolding effects screen_over
same_effects c n pre xs ys zero h = (refl, refl)
same_effects c n pre xs ys (suc j) h =
    let i = same_effects c n pre xs ys j (inside_above c n pre xs j h) in
    let r = same_rows c n pre xs ys (suc j) h in
    (rw (i.0, r) refl, rw (i.1, r) refl)

-- a row's picture depends on no byte behind its window
pub same_picture : (c : Shape) (n : ℕ) (pre xs ys : List ℕ) (q : Option (ℕ × ℕ)) (k j l p : ℕ) → Inside c n pre xs (suc j)
    → picture c n (pre ++ ys) q k (suc j) l p ≡ picture c n (pre ++ xs) q k (suc j) l p
unfolding picture row_cell
same_picture c n pre xs ys q k j l p h =
    let i = same_effects c n pre xs ys j (inside_above c n pre xs j h) in
    let r = same_rows c n pre xs ys (suc j) h in
    rw (i.0, i.1, r) refl

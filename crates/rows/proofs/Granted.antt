-- What a window and a still of a row that was found have.
use Rattle.std.proofs.Common.{◌≡◌, ℕ, zero, suc, ◌+◌, ◌-◌, ◌*◌, ◌<◌, ◌≤◌, Bool, true, false, ◌||◌, ltb, leb, List, [], ◌∷◌, ◌++◌, length, get_or, take, drop, Option, sym, refl, ap, ◌∙◌, subst, ⊎_elim, append-nil, arith, length-drop}
use Rattle.std.proofs.Math.Seq.{take-nil, length-take-le}
use Rattle.std.proofs.lemmas.List.{take-append-drop}
use Rattle.std.proofs.lemmas.Bool.{cases_Bool, and_parts}
use Rattle.std.proofs.lemmas.Bool.Decides.{nat_tests}
use Rattle.video.specs.Composition.{Shape, width, line_count}
use Rattle.video.specs.Picture.{dark_word, cell_word}
use Rattle.video.specs.declared.cell.Cell.TheVariants.{Dark}
use Rattle.rows.specs.declared.kinds.Position.{Position}
use Rattle.rows.specs.declared.state.RowBuffer.{RowBuffer}
use Rattle.rows.specs.Lists.{upto}
use Rattle.rows.specs.Positions.{stops}
use Rattle.rows.specs.Takes.{row_positions, size, count, enough}
use Rattle.rows.specs.Page.{Row, row, blank, taking_at, window, row_field, screen_over, row_cell, picture}
use Rattle.rows.specs.Stands.{Finds}
use Rattle.rows.specs.Refusals.{ends_refusal, window_refusal, still_refusal}
use Rattle.rows.specs.Laws.{EmptyRows, Windowed, AheadOnly, OwnOnly, BlankDark, Still}
use Rattle.rows.proofs.Chain.{idle_row, taking_row, end_to_end, place_next}
use Rattle.rows.proofs.Prefix.{same, closed, same_picture}

-- rows that take nothing
pub empty_rows : (c : Shape) (n : ℕ) (page : List ℕ) → EmptyRows c n page
unfolding window
empty_rows c n page j t = rw (idle_row c n page j t) refl

pub windowed : (c : Shape) (n : ℕ) (page : List ℕ) (j place : ℕ) (b : RowBuffer) → 1 ≤ j
    → window_refusal c n page j ≡ ends_refusal c n page j → (row c n page (suc (j - 1))).whole ≡ true → Finds c n page (j - 1) place b
    → Windowed c n page j place (take b.take.taken (drop place page))
unfolding window
windowed c n page j place b p e w f =
    let z : suc (j - 1) ≡ j = omega arith in
    let w₂ : (row c n page j).whole ≡ true = ap (λ (i : ℕ). (row c n page i).whole) (sym z) ∙ w in
    let at : (row c n page j).place ≡ place = ap (λ (i : ℕ). (row c n page i).place) (sym z) ∙ f.at in
    let many : (row c n page j).taken ≡ b.take.taken = ap (λ (i : ℕ). (row c n page i).taken) (sym z) ∙ f.taken in
    let d = length-drop place page in
    let l : length (take b.take.taken (drop place page)) ≡ b.take.taken = length-take-le b.take.taken (drop place page) (let v = f.within in omega arith) in
    record {
      granted = e ∙ (rw w₂ refl);
      begins = sym at;
      takes = rw (at, many) refl;
      joined = end_to_end c n page j ∙ (rw (at, many, l) refl);
      empty = empty_rows c n page;
    }

-- a blank row is dark
blank_cell : (c : Shape) (n : ℕ) (page : List ℕ) (j p : ℕ) → blank c j ≡ true → row_cell c n page j p ≡ Dark
unfolding row_cell
blank_cell c n page zero p h = refl
blank_cell c n page (suc j) p h =
    let e = idle_row c n page j (rw h refl) in
    rw e (⊎_elim (λ (t : screen_over c n page j ≡ true). rw t refl) (λ (t : screen_over c n page j ≡ false). rw t refl) (cases_Bool (screen_over c n page j)))

pub blank_dark : (c : Shape) (n : ℕ) (page : List ℕ) (q : Option (ℕ × ℕ)) (k : ℕ) → BlankDark c n page q k
unfolding picture cell_word
blank_dark c n page q k j line p h l =
    let t : ltb p c.h ≡ true = grind (arith, nat_tests) in
    rw (t, blank_cell c n page j p h) refl

-- outside the columns
pub margin_dark : (c : Shape) (n : ℕ) (page : List ℕ) (q : Option (ℕ × ℕ)) (k j line p : ℕ) → c.h ≤ p → picture c n page q k j line p ≡ dark_word (line_count c line) true false
unfolding picture
margin_dark c n page q k j line p h = let t : ltb p c.h ≡ false = grind (arith, nat_tests) in rw t refl

-- another page that goes on otherwise behind the row
pub ahead_only : (c : Shape) (n : ℕ) (page : List ℕ) (q : Option (ℕ × ℕ)) (k j : ℕ) → (row c n page (suc j)).whole ≡ true → AheadOnly c n page q k (suc j)
ahead_only c n page q k j w pre xs ys e l line p =
    rw e (same_picture c n pre xs ys q k j line p (rw (← e) w, rw (← e) l))

-- a row's positions are those of its own bytes
own_taking : (c : Shape) (n : ℕ) (page : List ℕ) (above : Bool) (from : ℕ) → (taking_at c n page above from).whole ≡ true
    → (taking_at c n page above from).positions ≡ row_positions c.f c.h (take (taking_at c n page above from).taken (drop from page))
unfolding taking_at
own_taking c n page above from w =
    let bs : List ℕ = drop from page in
    let ps : List Position = row_positions c.f c.h bs in
    let m : ℕ = count n c.h ps in
    let en : enough n c.h ps bs ≡ true = (and_parts above (enough n c.h ps bs) w).1 in
    let cl : closed c.h ps ≡ true = (and_parts (closed c.h ps) (leb m (length bs)) en).0 in
    let le : leb m (length bs) ≡ true = (and_parts (closed c.h ps) (leb m (length bs)) en).1 in
    let fits : m ≤ length bs = grind (arith, nat_tests) in
    let e : take m bs ++ drop m bs ≡ bs = take-append-drop m bs in
    let cl₂ : closed c.h (row_positions c.f c.h (take m bs ++ drop m bs)) ≡ true = rw e cl in
    let l : length (take m bs) ≡ m = length-take-le m bs fits in
    let s₂ : size (row_positions c.f c.h (take m bs ++ drop m bs)) ≤ length (take m bs) = rw (e, l) (omega arith) in
    let g : row_positions c.f c.h (take m bs ++ []) ≡ row_positions c.f c.h (take m bs ++ drop m bs) = same c.f (take m bs) (drop m bs) [] c.h cl₂ s₂ in
    sym (ap (row_positions c.f c.h) (sym (append-nil (take m bs))) ∙ g ∙ ap (row_positions c.f c.h) e)

no_bytes : (f : Bool) (h : ℕ) → row_positions f h [] ≡ []
no_bytes f h = ap (upto stops) (take-nil h)

own_positions : (c : Shape) (n : ℕ) (page : List ℕ) (j : ℕ) → (row c n page (suc j)).whole ≡ true → (row c n page (suc j)).positions ≡ row_positions c.f c.h (window c n page (suc j))
unfolding window
own_positions c n page j w =
    ⊎_elim
    (λ (t : (blank c (suc j) || (row c n page j).over) ≡ true). rw (idle_row c n page j t) (sym (no_bytes c.f c.h)))
    (λ (t : (blank c (suc j) || (row c n page j).over) ≡ false).
    let from : ℕ = (row c n page j).place + (row c n page j).taken in
    let i = taking_row c n page j t in
    let at : (row c n page (suc j)).place ≡ from = place_next c n page j in
    let w₂ : (taking_at c n page (row c n page j).whole from).whole ≡ true = ap (λ (x : Row). x.whole) (sym i) ∙ w in
    rw at (rw i (own_taking c n page (row c n page j).whole from w₂)))
    (cases_Bool (blank c (suc j) || (row c n page j).over))

own_suc : (c : Shape) (n : ℕ) (page : List ℕ) (q : Option (ℕ × ℕ)) (k j : ℕ) → (row c n page (suc j)).whole ≡ true → (other : List ℕ) → (row c n other (suc j)).whole ≡ true
    → window c n other (suc j) ≡ window c n page (suc j) → row_field c n other j ≡ row_field c n page j → screen_over c n other j ≡ screen_over c n page j
    → (line p : ℕ) → picture c n other q k (suc j) line p ≡ picture c n page q k (suc j) line p
unfolding picture row_cell
own_suc c n page q k j w other w₂ e f s line p =
    let ps : (row c n other (suc j)).positions ≡ (row c n page (suc j)).positions =
    own_positions c n other j w₂ ∙ ap (row_positions c.f c.h) e ∙ sym (own_positions c n page j w) in
    rw (ps, f, s) refl

own_only : (c : Shape) (n : ℕ) (page : List ℕ) (q : Option (ℕ × ℕ)) (k j : ℕ) → 1 ≤ j → (row c n page (suc (j - 1))).whole ≡ true → OwnOnly c n page q k j
own_only c n page q k j h w =
    let z : suc (j - 1) ≡ j = omega arith in
    subst
    (λ (m : ℕ). (other : List ℕ) → (row c n other m).whole ≡ true → window c n other m ≡ window c n page m → row_field c n other (j - 1) ≡ row_field c n page (j - 1)
    → screen_over c n other (j - 1) ≡ screen_over c n page (j - 1) → (line p : ℕ) → picture c n other q k m line p ≡ picture c n page q k m line p)
    z (own_suc c n page q k (j - 1) w)

pub stilled : (c : Shape) (n : ℕ) (page : List ℕ) (q : Option (ℕ × ℕ)) (k j : ℕ) (out out₂ : List ℕ) → 1 ≤ j
    → still_refusal c n page j (length out) ≡ ends_refusal c n page j → (row c n page (suc (j - 1))).whole ≡ true
    → length out₂ ≡ length out
    → ((line p : ℕ) → line < c.l → p < width c → get_or out₂ (line * width c + p) 0 ≡ picture c n page q k (suc (j - 1)) line p)
    → ((i : ℕ) → c.l * width c ≤ i → get_or out₂ i 0 ≡ get_or out i 0)
    → Still c n page q k j out out₂
stilled c n page q k j out out₂ h e w s words kept =
    let z : suc (j - 1) ≡ j = omega arith in
    let w₂ : (row c n page j).whole ≡ true = ap (λ (i : ℕ). (row c n page i).whole) (sym z) ∙ w in
    let same_row : (line p : ℕ) → picture c n page q k (suc (j - 1)) line p ≡ picture c n page q k j line p = λ line p. ap (λ (i : ℕ). picture c n page q k i line p) z in
    record {
      granted = e ∙ (rw w₂ refl);
      size = s;
      words = λ line p a b. words line p a b ∙ same_row line p;
      kept = kept;
      margin = λ line p a b d. words line p a d ∙ margin_dark c n page q k (suc (j - 1)) line p b;
      ahead_only = subst (λ (m : ℕ). AheadOnly c n page q k m) z (ahead_only c n page q k (j - 1) w);
      own_only = own_only c n page q k j h w;
      blank_dark = blank_dark c n page q k;
    }

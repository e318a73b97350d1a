-- Rows of a page, one below another, as a row buffer reads them.
use Rattle.std.proofs.Common.{◌≡◌, ℕ, zero, suc, ◌+◌, Bool, true, false, ◌&&◌, ◌||◌, List, [], ◌∷◌, ◌++◌, take, drop, Some, None, sym, refl, ap, ◌∙◌, ⊎_elim, append-nil, arith}
use Rattle.std.proofs.Math.Seq.{take-add}
use Rattle.std.proofs.lemmas.Bool.{cases_Bool, cond-true, cond-false}
use Rattle.video.specs.Composition.{Shape}
use Rattle.rows.specs.declared.kinds.Position.{Position}
use Rattle.rows.specs.Lists.{some, last}
use Rattle.rows.specs.Positions.{ends_screen, stops_all}
use Rattle.rows.specs.Takes.{row_positions, count, enough}
use Rattle.rows.specs.Shows.{effective, fields, field_behind, cell}
use Rattle.video.specs.Fields.{no_field}
use Rattle.video.specs.declared.field.Field.{Field}
use Rattle.rows.specs.declared.kinds.Position.TheVariants.{Letter, Attribute, Pair, Graphic, Control, Unused}
use Rattle.std.proofs.Math.Bool.{or-false}
use Rattle.rows.specs.Buffer.{Shown, Reading, fresh, reads, puts, full, cell_of}
use Rattle.rows.specs.Page.{blank, idle_below, taking_at, row, row_field, effects, screen_over, row_cell, window, windows}
use Rattle.rows.specs.Stands.{Stands, Columns}
use Rattle.rows.proofs.Takes.{taking, ready, outcome, mk, reads_full}
use Rattle.rows.proofs.Shows.{shows, field_is, below_is, hidden_is}

last_append : {A : Type 0} (d : A) (xs ys : List A) → last d (xs ++ ys) ≡ last (last d xs) ys
last_append d [] ys = refl
last_append d (x ∷ xs) ys = last_append x xs ys

fields_append : (ps qs : List Position) → fields (ps ++ qs) ≡ fields ps ++ fields qs
fields_append [] qs = refl
fields_append (Letter c ∷ ps) qs = fields_append ps qs
fields_append (Attribute a ∷ ps) qs = ap (λ (l : List Field). a ∷ l) (fields_append ps qs)
fields_append (Pair a c ∷ ps) qs = ap (λ (l : List Field). a ∷ l) (fields_append ps qs)
fields_append (Graphic g ∷ ps) qs = fields_append ps qs
fields_append (Control x ∷ ps) qs = fields_append ps qs
fields_append (Unused ∷ ps) qs = fields_append ps qs

field_behind_append : (f : Field) (ps qs : List Position) → field_behind f (ps ++ qs) ≡ field_behind (field_behind f ps) qs
field_behind_append f ps qs = ap (last f) (fields_append ps qs) ∙ last_append f (fields ps) (fields qs)

pub idle_row : (c : Shape) (n : ℕ) (page : List ℕ) (j : ℕ) → (blank c (suc j) || (row c n page j).over) ≡ true → row c n page (suc j) ≡ idle_below (row c n page j)
unfolding row
idle_row c n page j h = cond-true _ _ _ h

pub taking_row : (c : Shape) (n : ℕ) (page : List ℕ) (j : ℕ) → (blank c (suc j) || (row c n page j).over) ≡ false → row c n page (suc j) ≡ taking_at c n page (row c n page j).whole ((row c n page j).place + (row c n page j).taken)
unfolding row
taking_row c n page j h = cond-false _ _ _ h

-- a row that takes nothing
pub idle_step : (c : Shape) (n : ℕ) (page : List ℕ) (j place : ℕ) (idle over : Bool) (s : Shown) → Stands c n page j place over s → (blank c (suc j) || (row c n page j).over) ≡ true
    → Stands c n page (suc j) place over (fresh c.h idle over s).show × Columns c n page j (fresh c.h idle over s).show
    × ((row c n page (suc j)).place ≡ place) × ((row c n page (suc j)).taken ≡ 0)
unfolding fresh effects screen_over row_cell
idle_step c n page j place idle over s h i =
    let e = idle_row c n page j i in (
      record {
        at = let z : place + 0 ≡ place = omega arith in (rw e (omega (arith, h.at)));
        whole = rw e h.whole;
        stop = rw e h.stop;
        field = rw e (h.field ∙ ap (field_behind no_field) (sym (append-nil (effects c n page j))));
        below = rw e (h.below ∙ sym (or-false (screen_over c n page j)));
      },
      λ p. rw (e, h.below) refl,
      rw e (sym h.at),
      rw e refl,
    )

-- what the page gives a row that takes
read_row : (c : Shape) (n : ℕ) (bs : List ℕ) (s : Shown)
    → reads c.f n (fresh c.h false false s) bs
    ≡ mk (enough n c.h (row_positions c.f c.h bs) bs) (0 + count n c.h (row_positions c.f c.h bs)) (some stops_all (row_positions c.f c.h bs))
    (puts (fresh c.h false false s).show (row_positions c.f c.h bs)) (drop (count n c.h (row_positions c.f c.h bs)) bs)
unfolding fresh outcome ready
read_row c n bs s = taking c.f n bs c.h 0 false (fresh c.h false false s).show

-- the bytes sufficed, or not
got : (r : Reading) (t : Bool) (a : ℕ) (o : Bool) (q : Shown) (l : List ℕ) → mk t a o q l ≡ Some r
    → (t ≡ true) × (r ≡ record { taken = a; over = o; show = q; left = l })
unfolding mk
got r true a o q l e = (refl, cc)
got r false a o q l e = absurd (let z : ◌≡◌ {A = ℕ} 0 1 = cc in omega arith)

none : (t : Bool) (a : ℕ) (o : Bool) (q : Shown) (l : List ℕ) → mk t a o q l ≡ None → t ≡ false
unfolding mk
none true a o q l e = absurd (let z : ◌≡◌ {A = ℕ} 0 1 = cc in omega arith)
none false a o q l e = refl

pub taking_step : (c : Shape) (n : ℕ) (page : List ℕ) (j place : ℕ) (s : Shown) (r : Reading) → Stands c n page j place false s → (blank c (suc j) || (row c n page j).over) ≡ false
    → reads c.f n (fresh c.h false false s) (drop place page) ≡ Some r
    → Stands c n page (suc j) (place + r.taken) r.over r.show × Columns c n page j r.show
    × ((row c n page (suc j)).place ≡ place) × ((row c n page (suc j)).taken ≡ r.taken)
unfolding effects screen_over row_cell taking_at fresh
taking_step c n page j place s r h i e =
    let bs : List ℕ = drop place page in
    let ps : List Position = row_positions c.f c.h bs in
    let s₀ : Shown = (fresh c.h false false s).show in
    let g = got r _ _ _ _ _ (sym (read_row c n bs s) ∙ e) in
    let many : r.taken ≡ count n c.h ps = ap (λ (x : Reading). x.taken) g.1 ∙ (omega arith) in
    let show : r.show ≡ puts s₀ ps = ap (λ (x : Reading). x.show) g.1 in
    let is : row c n page (suc j) ≡ record { place = place; positions = ps; taken = count n c.h ps; whole = (row c n page j).whole && enough n c.h ps bs; over = some stops_all ps } =
    taking_row c n page j i ∙ ap (taking_at c n page (row c n page j).whole) (sym h.at) in
    let hides : r.show.hidden ≡ screen_over c n page j = ap (λ (x : Shown). x.hidden) show ∙ hidden_is s₀ ps ∙ h.below in
    let cells : (p : ℕ) → cell_of r.show.ring r.show.columns p ≡ cell (row_field c n page j) ps p =
    λ p. rw show (shows s₀ ps p refl refl refl refl ∙ ap (λ (f : Field). cell f ps p) h.field) in
    let shown : Columns c n page j r.show = λ p. rw (hides, cells p, is) refl in (
      record {
        at = rw is (omega arith);
        whole = rw (is, h.whole, g.0) refl;
        stop = rw is (ap (λ (x : Reading). x.over) g.1);
        field = rw (is, show) (field_is s₀ ps refl ∙ ap (λ (f : Field). field_behind f (effective ps)) h.field ∙ sym (field_behind_append no_field (effects c n page j) (effective ps)));
        below = rw (is, show) (below_is s₀ ps ∙ ap (λ (b : Bool). b || some ends_screen ps) h.below);
      },
      shown,
      rw is refl,
      rw is (sym many),
    )

-- a row that takes nothing is read at once
read_idle : (c : Shape) (n : ℕ) (bs : List ℕ) (idle over : Bool) (s : Shown) (r : Reading) → (idle || over) ≡ true → reads c.f n (fresh c.h idle over s) bs ≡ Some r
    → r ≡ record { taken = 0; over = over; show = (fresh c.h idle over s).show; left = bs }
unfolding fresh full
read_idle c n bs idle over s r t e = let w = sym (reads_full c.f n (fresh c.h idle over s) bs (rw t refl)) ∙ e in cc

never_none : (c : Shape) (n place : ℕ) (idle over : Bool) (s : Shown) (page : List ℕ) → (idle || over) ≡ true → reads c.f n (fresh c.h idle over s) (drop place page) ≡ None → ⊥
unfolding fresh full
never_none c n place idle over s page t e =
    let w = sym (reads_full c.f n (fresh c.h idle over s) (drop place page) (rw t refl)) ∙ e in
    let z : ◌≡◌ {A = ℕ} 0 1 = cc in omega arith

idles : (c : Shape) (n : ℕ) (page : List ℕ) (j place : ℕ) (idle over : Bool) (s : Shown) (r : Reading) → Stands c n page j place over s
    → (blank c (suc j) || (row c n page j).over) ≡ true → (idle || over) ≡ true → reads c.f n (fresh c.h idle over s) (drop place page) ≡ Some r
    → Stands c n page (suc j) (place + r.taken) r.over r.show × Columns c n page j r.show
    × ((row c n page (suc j)).place ≡ place) × ((row c n page (suc j)).taken ≡ r.taken)
idles c n page j place idle over s r h o t e =
    let i = idle_step c n page j place idle over s h o in
    let q = read_idle c n (drop place page) idle over s r t e in
    let z : place + 0 ≡ place = omega arith in
    rw (q, z) i

-- a row of the page, which is idle where it is blank
pub row_step : (c : Shape) (n : ℕ) (page : List ℕ) (j place : ℕ) (idle over : Bool) (s : Shown) (r : Reading) → Stands c n page j place over s → idle ≡ blank c (suc j)
    → reads c.f n (fresh c.h idle over s) (drop place page) ≡ Some r
    → Stands c n page (suc j) (place + r.taken) r.over r.show × Columns c n page j r.show
    × ((row c n page (suc j)).place ≡ place) × ((row c n page (suc j)).taken ≡ r.taken)
row_step c n page j place true over s r h b e = idles c n page j place true over s r h (rw (← b) refl) refl e
row_step c n page j place false true s r h b e = idles c n page j place false true s r h (rw (← b, ← h.stop) refl) refl e
row_step c n page j place false false s r h b e = taking_step c n page j place s r h (rw (← b, ← h.stop) refl) e

pub row_short : (c : Shape) (n : ℕ) (page : List ℕ) (j place : ℕ) (idle over : Bool) (s : Shown) → Stands c n page j place over s → idle ≡ blank c (suc j)
    → reads c.f n (fresh c.h idle over s) (drop place page) ≡ None
    → (row c n page (suc j)).whole ≡ false
unfolding taking_at
row_short c n page j place true over s h b e = absurd (never_none c n place true over s page refl e)
row_short c n page j place false true s h b e = absurd (never_none c n place false true s page refl e)
row_short c n page j place false false s h b e =
    let bs : List ℕ = drop place page in
    let t = none _ _ _ _ _ (sym (read_row c n bs s) ∙ e) in
    let is = taking_row c n page j (rw (← b, ← h.stop) refl) ∙ ap (taking_at c n page (row c n page j).whole) (sym h.at) in
    rw (is, h.whole, t) refl

-- what is left behind a row are the bytes behind those that it took
pub row_left : (c : Shape) (n : ℕ) (bs : List ℕ) (idle over : Bool) (s : Shown) (r : Reading) → reads c.f n (fresh c.h idle over s) bs ≡ Some r → r.left ≡ drop r.taken bs
row_left c n bs true over s r e = let q = read_idle c n bs true over s r refl e in rw q refl
row_left c n bs false true s r e = let q = read_idle c n bs false true s r refl e in rw q refl
row_left c n bs false false s r e =
    let g = got r _ _ _ _ _ (sym (read_row c n bs s) ∙ e) in
    let m : ℕ = count n c.h (row_positions c.f c.h bs) in
    let z : 0 + m ≡ m = omega arith in
    rw (g.1, z) refl

-- once the page has come to its end, no row below is whole
pub never_whole : (c : Shape) (n : ℕ) (page : List ℕ) (j d : ℕ) → (row c n page j).whole ≡ false → (row c n page (d + j)).whole ≡ false
unfolding row taking_at
never_whole c n page j zero h = let z : 0 + j ≡ j = omega arith in rw z h
never_whole c n page j (suc d) h =
    let z : suc d + j ≡ suc (d + j) = omega arith in
    let w = never_whole c n page j d h in
    rw z (⊎_elim
    (λ (t : (blank c (suc (d + j)) || (row c n page (d + j)).over) ≡ true). rw (idle_row c n page (d + j) t) w)
    (λ (t : (blank c (suc (d + j)) || (row c n page (d + j)).over) ≡ false). rw (taking_row c n page (d + j) t, w) refl)
    (cases_Bool (blank c (suc (d + j)) || (row c n page (d + j)).over)))

pub at_top : (c : Shape) (n : ℕ) (page : List ℕ) (s : Shown) → s.field ≡ no_field → s.below ≡ false → Stands c n page 0 0 false s
unfolding row effects screen_over
at_top c n page s f b = record { at = refl; whole = refl; stop = refl; field = f; below = b }

pub place_next : (c : Shape) (n : ℕ) (page : List ℕ) (j : ℕ) → (row c n page (suc j)).place ≡ (row c n page j).place + (row c n page j).taken
unfolding taking_at
place_next c n page j =
    ⊎_elim
    (λ (t : (blank c (suc j) || (row c n page j).over) ≡ true). rw (idle_row c n page j t) refl)
    (λ (t : (blank c (suc j) || (row c n page j).over) ≡ false). rw (taking_row c n page j t) refl)
    (cases_Bool (blank c (suc j) || (row c n page j).over))

row_zero : (c : Shape) (n : ℕ) (page : List ℕ) → (row c n page 0).place + (row c n page 0).taken ≡ 0
unfolding row
row_zero c n page = refl

-- the windows of the rows 1 to j, end to end, are the page's first bytes
pub end_to_end : (c : Shape) (n : ℕ) (page : List ℕ) (j : ℕ) → windows c n page j ≡ take ((row c n page j).place + (row c n page j).taken) page
unfolding windows window
end_to_end c n page zero = sym (ap (λ (k : ℕ). take k page) (row_zero c n page))
end_to_end c n page (suc j) =
    ap (λ (l : List ℕ). l ++ window c n page (suc j)) (end_to_end c n page j)
    ∙ ap (λ (k : ℕ). take k page ++ window c n page (suc j)) (sym (place_next c n page j))
    ∙ sym (take-add (row c n page (suc j)).place (row c n page (suc j)).taken page)

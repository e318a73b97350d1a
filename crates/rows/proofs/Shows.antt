-- A row buffer shows what a row shows.
use Rattle.std.proofs.Common.{◌≡◌, ℕ, zero, suc, ◌+◌, ◌%◌, ◌<◌, Bool, true, false, cond, ◌||◌, eqb, List, [], ◌∷◌, ◌++◌, length, get_or, take, set, replicate, sym, refl, ap, ◌∙◌, ⊎_elim, append_assoc, append-nil, arith, length-set, get_or-set_other, get_or-set_same}
use mathlib.Core.Path.{fun_ext}
use lib.ListN.{get_or-replicate}
use Rattle.std.proofs.lemmas.Bool.{cases_Bool, eqb-true, eqb-false}
use Rattle.rows.specs.declared.kinds.Position.{Position}
use Rattle.rows.specs.declared.kinds.Position.TheVariants.{Letter, Attribute, Pair, Graphic, Control, Unused}
use Rattle.rows.specs.declared.kinds.Column.{Column}
use Rattle.rows.specs.declared.kinds.Column.TheVariants.{Fixed, Memory}
use Rattle.rows.specs.Lists.{some, at, last}
use Rattle.rows.specs.Positions.{screen_code, ends_screen}
use Rattle.video.specs.declared.field.Field.{Field}
use Rattle.video.specs.declared.cell.Cell.{Cell}
use Rattle.video.specs.declared.cell.Cell.TheVariants.{Dark, Text, Symbol}
use Rattle.rows.specs.Shows.{effective, field_behind, characters, alike, memory, shown_at, cell}
use Rattle.std.proofs.Math.Bool.{or-false}
use Rattle.rows.proofs.Basics.{or_move}
use Rattle.rows.specs.Buffer.{Shown, put, puts, cell_of}

-- the columns that positions give: f the field before them, k field characters before them
columns_of : Field → (k : ℕ) → (ended : Bool) → List Position → List Column
columns_of f k e [] = []
columns_of f k e (Letter c ∷ ps) = cond e (Fixed Dark) (Fixed (Text c f)) ∷ columns_of f k e ps
columns_of f k e (Attribute a ∷ ps) = Fixed Dark ∷ columns_of (cond e f a) k e ps
columns_of f k e (Pair a c ∷ ps) = cond e (Fixed Dark) (Memory k a) ∷ columns_of (cond e f a) (suc k) e ps
columns_of f k e (Graphic g ∷ ps) = cond e (Fixed Dark) (Fixed (Symbol g f)) ∷ columns_of f k e ps
columns_of f k e (Control x ∷ ps) = Fixed Dark ∷ columns_of f k true ps
columns_of f k e (Unused ∷ ps) = Fixed Dark ∷ columns_of f k e ps

cond_dark : (e : Bool) → cond e (Fixed Dark) (Fixed Dark) ≡ Fixed Dark
cond_dark true = refl
cond_dark false = refl

-- columns so far and columns to come are the row's
columns_are : (s : Shown) (ps : List Position) → (puts s ps).columns ≡ s.columns ++ columns_of s.field s.pairs s.ended ps
unfolding puts put columns_of
columns_are s [] = sym (append-nil s.columns)
columns_are s (Letter c ∷ ps) = columns_are (put s (Letter c)) ps ∙ simp append_assoc
columns_are s (Attribute a ∷ ps) = columns_are (put s (Attribute a)) ps ∙ simp (append_assoc, cond_dark)
columns_are s (Pair a c ∷ ps) = columns_are (put s (Pair a c)) ps ∙ simp append_assoc
columns_are s (Graphic g ∷ ps) = columns_are (put s (Graphic g)) ps ∙ simp append_assoc
columns_are s (Control x ∷ ps) = columns_are (put s (Control x)) ps ∙ simp (append_assoc, cond_dark)
columns_are s (Unused ∷ ps) = columns_are (put s Unused) ps ∙ simp (append_assoc, cond_dark)

-- a column behind an end is dark
after_end : (r : List ℕ) (f : Field) (k : ℕ) (ps : List Position) (p : ℕ) → cell_of r (columns_of f k true ps) p ≡ Dark
unfolding columns_of
after_end r f k [] p = refl
after_end r f k (Letter c ∷ ps) zero = refl
after_end r f k (Letter c ∷ ps) (suc p) = after_end r f k ps p
after_end r f k (Attribute a ∷ ps) zero = refl
after_end r f k (Attribute a ∷ ps) (suc p) = after_end r f k ps p
after_end r f k (Pair a c ∷ ps) zero = refl
after_end r f k (Pair a c ∷ ps) (suc p) = after_end r f (suc k) ps p
after_end r f k (Graphic g ∷ ps) zero = refl
after_end r f k (Graphic g ∷ ps) (suc p) = after_end r f k ps p
after_end r f k (Control x ∷ ps) zero = refl
after_end r f k (Control x ∷ ps) (suc p) = after_end r f k ps p
after_end r f k (Unused ∷ ps) zero = refl
after_end r f k (Unused ∷ ps) (suc p) = after_end r f k ps p

-- a cell by what is known of the row: the effective positions, and the character of each number
look : Field → (k : ℕ) (m : ℕ → ℕ) → List Position → (p : ℕ) → Cell
look f k m ps p = shown_at (at (effective ps) p) (field_behind f (take (suc p) (effective ps))) (m (k + length (characters (take p ps))))

-- and the columns show it
columns : (r : List ℕ) (f : Field) (k : ℕ) (ps : List Position) (p : ℕ) → cell_of r (columns_of f k false ps) p ≡ look f k (λ (i : ℕ). get_or r (i % 16) 0) ps p
unfolding columns_of look
columns r f k [] p = refl
columns r f k (Letter c ∷ ps) zero = refl
columns r f k (Letter c ∷ ps) (suc p) = columns r f k ps p
columns r f k (Attribute a ∷ ps) zero = refl
columns r f k (Attribute a ∷ ps) (suc p) = columns r a k ps p
columns r f k (Pair a c ∷ ps) zero = let z : k + 0 ≡ k = omega arith in rw z refl
columns r f k (Pair a c ∷ ps) (suc p) =
    let z : suc k + length (characters (take p ps)) ≡ k + suc (length (characters (take p ps))) = omega arith in
    columns r a (suc k) ps p
    ∙ ap (λ (i : ℕ). shown_at (at (effective ps) p) (field_behind a (take (suc p) (effective ps))) (get_or r (i % 16) 0)) z
columns r f k (Graphic g ∷ ps) zero = refl
columns r f k (Graphic g ∷ ps) (suc p) = columns r f k ps p
columns r f k (Control x ∷ ps) zero = refl
columns r f k (Control x ∷ ps) (suc p) = after_end r f k ps p
columns r f k (Unused ∷ ps) zero = refl
columns r f k (Unused ∷ ps) (suc p) = columns r f k ps p

-- the field character memory holds, for each remainder, the last character
ring_size : (s : Shown) (ps : List Position) → length (puts s ps).ring ≡ length s.ring
unfolding puts put
ring_size s [] = refl
ring_size s (Letter c ∷ ps) = ring_size (put s (Letter c)) ps
ring_size s (Attribute a ∷ ps) = ring_size (put s (Attribute a)) ps
ring_size s (Pair a c ∷ ps) = ring_size (put s (Pair a c)) ps ∙ length-set s.ring (s.pairs % 16) c
ring_size s (Graphic g ∷ ps) = ring_size (put s (Graphic g)) ps
ring_size s (Control x ∷ ps) = ring_size (put s (Control x)) ps
ring_size s (Unused ∷ ps) = ring_size (put s Unused) ps

stored : (xs : List ℕ) (i r c : ℕ) → i < length xs → get_or (set xs i c) r 0 ≡ cond (eqb i r) c (get_or xs r 0)
stored xs i r c h =
    ⊎_elim
    (λ (e : eqb i r ≡ true). let q : i ≡ r = eqb-true i r e in rw (e, ← q) (get_or-set_same xs i c 0 h))
    (λ (e : eqb i r ≡ false). rw e (get_or-set_other xs i r c 0 (λ q. eqb-false i r e (sym q))))
    (cases_Bool (eqb i r))

-- a character more, of the same remainder or not
last_alike : (b : Bool) (c d : ℕ) (cs : List ℕ) → last (cond b c d) cs ≡ last d (cond b (c ∷ cs) cs)
last_alike true c d cs = refl
last_alike false c d cs = refl

ring_is : (s : Shown) (ps : List Position) (k : ℕ) → length s.ring ≡ 16 → get_or (puts s ps).ring (k % 16) 0 ≡ last (get_or s.ring (k % 16) 0) (alike k s.pairs (characters ps))
unfolding puts put
ring_is s [] k h = refl
ring_is s (Letter c ∷ ps) k h = ring_is (put s (Letter c)) ps k h
ring_is s (Attribute a ∷ ps) k h = ring_is (put s (Attribute a)) ps k h
ring_is s (Pair a c ∷ ps) k h =
    ring_is (put s (Pair a c)) ps k (length-set s.ring (s.pairs % 16) c ∙ h)
    ∙ ap (λ (d : ℕ). last d (alike k (suc s.pairs) (characters ps))) (stored s.ring (s.pairs % 16) (k % 16) c (omega arith))
    ∙ last_alike (eqb (s.pairs % 16) (k % 16)) c (get_or s.ring (k % 16) 0) (alike k (suc s.pairs) (characters ps))
ring_is s (Graphic g ∷ ps) k h = ring_is (put s (Graphic g)) ps k h
ring_is s (Control x ∷ ps) k h = ring_is (put s (Control x)) ps k h
ring_is s (Unused ∷ ps) k h = ring_is (put s Unused) ps k h

-- what a row leaves to the rows below it
field_after : (s : Shown) (ps : List Position) → s.ended ≡ true → (puts s ps).field ≡ s.field
unfolding puts put
field_after s [] h = refl
field_after s (Letter c ∷ ps) h = field_after (put s (Letter c)) ps h
field_after s (Attribute a ∷ ps) h = field_after (put s (Attribute a)) ps h ∙ (rw h refl)
field_after s (Pair a c ∷ ps) h = field_after (put s (Pair a c)) ps h ∙ (rw h refl)
field_after s (Graphic g ∷ ps) h = field_after (put s (Graphic g)) ps h
field_after s (Control x ∷ ps) h = field_after (put s (Control x)) ps refl
field_after s (Unused ∷ ps) h = field_after (put s Unused) ps h

pub field_is : (s : Shown) (ps : List Position) → s.ended ≡ false → (puts s ps).field ≡ field_behind s.field (effective ps)
unfolding puts put
field_is s [] h = refl
field_is s (Letter c ∷ ps) h = field_is (put s (Letter c)) ps h
field_is s (Attribute a ∷ ps) h = field_is (put s (Attribute a)) ps h ∙ (rw h refl)
field_is s (Pair a c ∷ ps) h = field_is (put s (Pair a c)) ps h ∙ (rw h refl)
field_is s (Graphic g ∷ ps) h = field_is (put s (Graphic g)) ps h
field_is s (Control x ∷ ps) h = field_after (put s (Control x)) ps refl
field_is s (Unused ∷ ps) h = field_is (put s Unused) ps h

pub below_is : (s : Shown) (ps : List Position) → (puts s ps).below ≡ (s.below || some ends_screen ps)
unfolding puts put
below_is s [] = sym (or-false s.below)
below_is s (Letter c ∷ ps) = below_is (put s (Letter c)) ps
below_is s (Attribute a ∷ ps) = below_is (put s (Attribute a)) ps
below_is s (Pair a c ∷ ps) = below_is (put s (Pair a c)) ps
below_is s (Graphic g ∷ ps) = below_is (put s (Graphic g)) ps
below_is s (Control x ∷ ps) = below_is (put s (Control x)) ps ∙ or_move (screen_code x) s.below (some ends_screen ps)
below_is s (Unused ∷ ps) = below_is (put s Unused) ps

pub hidden_is : (s : Shown) (ps : List Position) → (puts s ps).hidden ≡ s.hidden
unfolding puts put
hidden_is s [] = refl
hidden_is s (p ∷ ps) = hidden_is (put s p) ps

look_same : (f : Field) (k : ℕ) (m m₂ : ℕ → ℕ) (ps : List Position) (p : ℕ) → ((i : ℕ) → m i ≡ m₂ i) → look f k m ps p ≡ look f k m₂ ps p
look_same f k m m₂ ps p h = let e : m ≡ m₂ = fun_ext h in rw e refl

-- a row's columns are its cells
pub shows : (s : Shown) (ps : List Position) (p : ℕ) → s.columns ≡ [] → s.ended ≡ false → s.pairs ≡ 0 → s.ring ≡ replicate 16 0
    → cell_of (puts s ps).ring (puts s ps).columns p ≡ cell s.field ps p
unfolding look
shows s ps p e₁ e₂ e₃ e₄ =
    let r : List ℕ = (puts s ps).ring in
    let a : (puts s ps).columns ≡ columns_of s.field 0 false ps = columns_are s ps ∙ (rw (e₁, e₂, e₃) refl) in
    let zeros : (i : ℕ) → get_or s.ring (i % 16) 0 ≡ 0 = λ i. (rw e₄ (get_or-replicate 16 (i % 16) 0 0 (omega arith))) in
    let m : (i : ℕ) → get_or r (i % 16) 0 ≡ memory ps i = λ i.
    ring_is s ps i (ap length e₄) ∙ (rw (e₃, zeros i) refl) in
    let z : (0 + length (characters (take p ps))) ≡ length (characters (take p ps)) = omega arith in
    ap (λ (ss : List Column). cell_of r ss p) a
    ∙ columns r s.field 0 ps p
    ∙ look_same s.field 0 _ (memory ps) ps p m
    ∙ (rw z refl)

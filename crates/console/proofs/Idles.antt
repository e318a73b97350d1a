-- Clocks in which nothing begins and no byte is asked for.
use Rattle.std.proofs.Common.{◌≡◌, ℕ, zero, suc, ◌+◌, ◌-◌, ◌*◌, ◌<◌, ◌≤◌, Bool, true, false, not, ◌&&◌, leb, ◌⊎◌, List, [], ◌∷◌, ◌++◌, Option, sym, refl, ap, ◌∙◌, inl, inr, ⊎_elim, append_assoc, arith}
use Rattle.std.specs.Prelude.{slice_index}
use Rattle.std.proofs.lemmas.Bool.{cases_lt}
use Rattle.std.proofs.lemmas.Bool.Decides.{nat_tests}
use Rattle.std.specs.Int.{from_bool}
use Rattle.video.specs.Composition.{Shape, line_count}
use Rattle.video.specs.Picture.{bit, dark_word, cell_word, look}
use Rattle.video.proofs.Looks.{word_by_look}
use Rattle.rows.specs.Buffer.{Shown, column_cell}
use Rattle.rows.specs.Model.{shown_of}
use Rattle.rows.specs.Page.{cursor_in}
use Rattle.frame.specs.declared.call.Answer.{Answer}
use Rattle.frame.specs.declared.call.Answer.TheVariants.{Word}
use Rattle.frame.specs.Ports.{Core}
use Rattle.frame.specs.Machine.{hrtc, vrtc, lit, pictured}
use Rattle.console.specs.declared.raster.Raster.{Raster}
use Rattle.console.specs.Raster.{AtHand}
use Rattle.console.specs.Idle.{idled, idle_words, looked, repeated}

-- a flag as a number
pub bit_is : (b : Bool) → from_bool b ≡ bit b
bit_is true = refl
bit_is false = refl

-- one word more
pub repeated_more : (w n : ℕ) (out : List Answer) → (out ++ repeated w n) ++ Word w ∷ [] ≡ out ++ repeated w (n + 1)
repeated_more w n out =
    let e : suc n ≡ n + 1 = omega arith in
    append_assoc out (repeated w n) (Word w ∷ []) ∙ ap (λ (l : List Answer). out ++ l) (more n ∙ ap (repeated w) e)
  where
    more : (n : ℕ) → repeated w n ++ Word w ∷ [] ≡ repeated w (suc n)
    more zero = refl
    more (suc n) = ap (λ (l : List Answer). Word w ∷ l) (more n)

pub looked_more : (c : Shape) (line k : ℕ) (s : Shown) (base first p v : ℕ) (out : List Answer) → first ≤ p → v ≡ look c line k (column_cell s p) + base
    → (out ++ looked c line k s base (p - first) first) ++ Word v ∷ [] ≡ out ++ looked c line k s base (p + 1 - first) first
looked_more c line k s base first p v out h e =
    let n : suc (p - first) ≡ p + 1 - first = omega arith in
    append_assoc out (looked c line k s base (p - first) first) (Word v ∷ [])
    ∙ ap (λ (l : List Answer). out ++ l) (more (p - first) first (omega arith) ∙ ap (λ (n : ℕ). looked c line k s base n first) n)
  where
    more : (n q : ℕ) → q + n ≡ p → looked c line k s base n q ++ Word v ∷ [] ≡ looked c line k s base (suc n) q
    more zero q z = let z₂ : q ≡ p = omega arith in rw (z₂, e) refl
    more (suc n) q z = ap (λ (l : List Answer). Word (look c line k (column_cell s q) + base) ∷ l) (more n (q + 1) (omega arith))

-- the words of a row that is drawn, where no cursor stands
pub lit_words : (c : Shape) (q : Option (ℕ × ℕ)) (irq : Bool) (n : ℕ) (k : Core) → k.armed ≡ true → k.dark ≡ false → vrtc c k ≡ false → k.column + n ≤ c.h
    → ((p : ℕ) → k.column ≤ p → p < k.column + n → cursor_in q k.row p ≡ false)
    → looked c k.line k.blink k.shown (0x100 * line_count c k.line + 0x800000 * bit irq) n k.column ≡ idle_words c q irq n k
lit_words c q irq zero k a d v h away = refl
lit_words c q irq (suc n) k a d v h away =
    let e : hrtc c k ≡ false = grind (arith, nat_tests) in
    let w = word_by_look c k.line k.blink (column_cell k.shown k.column) in
    let p : pictured c q k ≡ cell_word c k.line k.blink false (column_cell k.shown k.column) = rw (a, d, v, e, away k.column (omega arith) (omega arith)) refl in
    let first : look c k.line k.blink (column_cell k.shown k.column) + (0x100 * line_count c k.line + 0x800000 * bit irq) ≡ pictured c q k + 0x800000 * bit irq = omega arith in
    ap (λ (x : ℕ). Word x ∷ looked c k.line k.blink k.shown (0x100 * line_count c k.line + 0x800000 * bit irq) n (k.column + 1)) first
    ∙ ap (λ (l : List Answer). Word (pictured c q k + 0x800000 * bit irq) ∷ l) (lit_words c q irq n (idled 1 k) a d v (omega arith) (λ x l u. away x (omega arith) (omega arith)))

unlit : (a d v h : Bool) → ((a && (not d && not v)) ≡ false) ⊎ (h ≡ true) → (a && (not d && (not v && not h))) ≡ false
unlit a d v h p = grind (arith, nat_tests)

-- the words of clocks that are dark, all in retrace or all before it
pub dark_words : (c : Shape) (q : Option (ℕ × ℕ)) (irq : Bool) (h : Bool) (n : ℕ) (k : Core) → ((k.armed && (not k.dark && not (vrtc c k))) ≡ false) ⊎ (h ≡ true)
    → ((p : ℕ) → k.column ≤ p → p < k.column + n → leb c.h p ≡ h)
    → repeated (dark_word (line_count c k.line) h (vrtc c k) + 0x800000 * bit irq) n ≡ idle_words c q irq n k
dark_words c q irq h zero k u side = refl
dark_words c q irq h (suc n) k u side =
    let e : hrtc c k ≡ h = side k.column (omega arith) (omega arith) in
    let p : pictured c q k ≡ dark_word (line_count c k.line) h (vrtc c k) = rw (e, unlit k.armed k.dark (vrtc c k) h u) refl in
    ap (λ (x : ℕ). Word (x + 0x800000 * bit irq) ∷ repeated (dark_word (line_count c k.line) h (vrtc c k) + 0x800000 * bit irq) n) (sym p)
    ∙ ap (λ (l : List Answer). Word (pictured c q k + 0x800000 * bit irq) ∷ l) (dark_words c q irq h n (idled 1 k) u (λ x l b. side x (omega arith) (omega arith)))

lit_parts : (a d v h : Bool) → (a && (not d && (not v && not h))) ≡ true → (a ≡ true) × (d ≡ false) × (v ≡ false) × (h ≡ false)
lit_parts a d v h p = (grind (arith, nat_tests), grind (arith, nat_tests), grind (arith, nat_tests), grind (arith, nat_tests))

unlit_parts : (a d v h : Bool) → (a && (not d && (not v && not h))) ≡ false → ((a && (not d && not v)) ≡ false) ⊎ (h ≡ true)
unlit_parts a d v true p = inr refl
unlit_parts a d v false p = inl (grind (arith, nat_tests))

-- what is put out where the clocks are lit, and where they are dark
pub put_lit : (c : Shape) (q : Option (ℕ × ℕ)) (irq : Bool) (n : ℕ) (k : Core) (count v : ℕ) (out out₂ : List Answer) → lit c k ≡ true
    → (k.column < c.h → k.column + n ≤ c.h) → ((p : ℕ) → k.column ≤ p → p < k.column + n → cursor_in q k.row p ≡ false)
    → count ≡ line_count c k.line → v ≡ bit irq → out₂ ≡ out ++ looked c k.line k.blink k.shown (0x100 * count + 0x800000 * v) n k.column → out₂ ≡ out ++ idle_words c q irq n k
put_lit c q irq n k count v out out₂ l side away f g o =
    let parts = lit_parts k.armed k.dark (vrtc c k) (hrtc c k) l in
    let inside : k.column < c.h = let h = parts.3 in grind (arith, nat_tests) in
    o ∙ (rw (f, g) (ap (λ (ws : List Answer). out ++ ws) (lit_words c q irq n k parts.0 parts.1 parts.2 (side inside) away)))

pub put_dark : (c : Shape) (q : Option (ℕ × ℕ)) (irq : Bool) (n : ℕ) (k : Core) (w v : ℕ) (out out₂ : List Answer) → lit c k ≡ false
    → (k.column < c.h → k.column + n ≤ c.h) → w ≡ dark_word (line_count c k.line) (hrtc c k) (vrtc c k) → v ≡ bit irq
    → out₂ ≡ out ++ repeated (w + 0x800000 * v) n → out₂ ≡ out ++ idle_words c q irq n k
put_dark c q irq n k w v out out₂ l side e g o =
    let same : (p : ℕ) → k.column ≤ p → p < k.column + n → leb c.h p ≡ hrtc c k =
    λ p b u.
    ⊎_elim
    (λ (z : k.column < c.h). let s = side z in grind (arith, nat_tests))
    (λ (z : c.h ≤ k.column). grind (arith, nat_tests))
    (cases_lt k.column c.h) in
    o ∙ (rw (e, g) (ap (λ (ws : List Answer). out ++ ws) (dark_words c q irq (hrtc c k) n k (unlit_parts k.armed k.dark (vrtc c k) (hrtc c k) l) same)))

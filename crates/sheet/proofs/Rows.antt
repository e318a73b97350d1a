-- The lines of rows.
use Rattle.std.proofs.Common.{◌≡◌, ℕ, zero, suc, ◌+◌, ◌-◌, ◌<◌, ◌≤◌, Bool, true, false, cond, ltb, List, ◌++◌, length, Some, None, Option, refl, ap, sym, ◌∙◌, inl, inr, ⊎_elim, append_assoc, arith, length-drop, length-take}
use Rattle.std.proofs.lemmas.Bool.Decides.{nat_tests}
use Rattle.refusal.specs.declared.Refusal.{Refusal}
use Rattle.video.specs.Composition.{Shape, shape_of}
use Rattle.rows.specs.Page.{blank, window}
use Rattle.rows.specs.Refusals.{window_refusal}
use Rattle.rows.specs.Laws.{Windowed}
use Rattle.frame.specs.Ports.{State}
use Rattle.console.specs.Answers.{With, WindowOf}
use Rattle.console.specs.Model.{state_of}
use Rattle.layout.specs.Lines.{under, still_heading, still_figures, pictured}
use Rattle.sheet.specs.Screens.{Composed, row_refused, StoppedRow, Stopped}
use Rattle.sheet.specs.Stills.{bytes_of, still_words, still_margin, row_rest, ListedRow, counted, counted_row, tally, with_row, with_rows, NextRow, with_row_words, with_words}
use Rattle.sheet.specs.declared.screen.Screen.{Screen}
use Rattle.sheet.specs.declared.stop.Stop.{Stop}
use Rattle.sheet.specs.declared.tally.Tally.{Tally}

not_too_long : (b : Bool) (r : Refusal) (e : Option Refusal) → cond b (Some r) e ≡ None → b ≡ false
not_too_long true r e h = grind arith
not_too_long false r e h = refl

short_page : (c : Shape) (n : ℕ) (page : List ℕ) (j : ℕ) → window_refusal c n page j ≡ None → length page ≤ 16384
short_page c n page j h = let b = not_too_long (ltb 16384 (length page)) _ _ h in grind (arith, nat_tests)

short_window : (c : Shape) (n : ℕ) (page : List ℕ) (j : ℕ) → length page ≤ 16384 → length (window c n page j) ≤ 16384
unfolding window
short_window c n page j h =
    simp (length-take, length-drop) (omega arith)

-- a text behind a headed one
pub behind_heading : (o u f t : List ℕ) {o₁ o₂ : List ℕ} → o₁ ≡ o ++ (u ++ f) → o₂ ≡ o₁ ++ t → o₂ ≡ o ++ (u ++ (f ++ t))
behind_heading o u f t p q =
    q ∙ (ap (λ (x : List ℕ). x ++ t) p ∙ (append_assoc o (u ++ f) t ∙ ap (λ (x : List ℕ). o ++ x) (append_assoc u f t)))

-- a console with a composition answers by it
pub windowed : (c : Shape) (s : State) (page : List ℕ) (j place : ℕ) (part : List ℕ) → s.shape ≡ Some c → WindowOf s page j place part
    → Windowed c s.control.bursts.n page j place part
windowed c s page j place part e w = rw e at w

few_in : (o : Option Shape) (n : ℕ) (page : List ℕ) (j place : ℕ) (part : List ℕ) → With o (λ c. Windowed c n page j place part) → length part ≤ 16384
few_in None n page j place part w = absurd w
few_in (Some c) n page j place part w = rw w.takes (short_window c n page j (short_page c n page j w.granted))

-- a row takes no more bytes than a page may have
pub few_bytes : (s : State) (page : List ℕ) (j place : ℕ) (part : List ℕ) → WindowOf s page j place part → length part ≤ 16384
few_bytes s page j place part w = few_in s.shape s.control.bursts.n page j place part w

pub row_listed : (x : Screen) (page : List ℕ) (j place : ℕ) (part still o o₁ o₂ : List ℕ) → Composed x → WindowOf (state_of x.console) page j place part
    → still ≡ still_words x page j → o₁ ≡ o ++ (under still_heading o ++ still_figures j place (length part))
    → o₂ ≡ o₁ ++ row_rest (length part) (pictured still_margin (shape_of x.composition) still) → ListedRow x page j (length part) o o₂
row_listed x page j place part still o o₁ o₂ e w t p q =
    let v = windowed (shape_of x.composition) (state_of x.console) page j place part e w in
    let k : length part ≡ length (bytes_of x page j) = ap length v.takes in
    record {
      taken = k;
      few = few_bytes (state_of x.console) page j place part w;
      lines =
          behind_heading o (under still_heading o) (still_figures j place (length part)) (row_rest (length part) (pictured still_margin (shape_of x.composition) still)) p q
          ∙ ap (λ (t : List ℕ). o ++ (under still_heading o ++ t)) (rw (v.begins, k, t) refl);
    }

-- a row left blank adds nothing to a tally
counted_any : (b : Bool) (t : Tally) (m : ℕ) → counted t (cond b 0 m) ≡ cond b t (counted t m)
counted_any true t m = let z : t.used + 0 ≡ t.used = omega arith in let y : t.shown + 0 ≡ t.shown = omega arith in rw (z, y) refl
counted_any false t m = refl

-- rows 1 to j, behind the rows above row j
pub rows_more : (x : Screen) (page out o o₂ : List ℕ) (j n : ℕ) (t : Tally) → 0 < j → t ≡ tally x page (j - 1) → o ≡ with_rows x page out (j - 1)
    → NextRow x page j t.used n o o₂ → (counted t n ≡ tally x page j) × (o₂ ≡ with_rows x page out j)
unfolding tally with_rows
rows_more x page out o o₂ zero n t h e f m = absurd (omega arith)
rows_more x page out o o₂ (suc i) n t h e f m =
    let d : suc i - 1 ≡ i = omega arith in (
      ap (counted t) m.taken ∙ (counted_any (blank (shape_of x.composition) (suc i)) t (length (bytes_of x page (suc i))) ∙ ap (counted_row x page (suc i)) (e ∙ ap (tally x page) d)),
      m.text ∙ (ap (λ (u : Tally). with_row x page (suc i) u.used o) (e ∙ ap (tally x page) d) ∙ ap (with_row x page (suc i) (tally x page i).used) (f ∙ ap (with_rows x page out) d)),
    )

pub words_more : (x : Screen) (page out o o₂ : List ℕ) (j : ℕ) → 0 < j → o ≡ with_words x page out (j - 1) → o₂ ≡ with_row_words x page j o → o₂ ≡ with_words x page out j
unfolding with_words
words_more x page out o o₂ zero h f n = absurd (omega arith)
words_more x page out o o₂ (suc i) h f n = let d : suc i - 1 ≡ i = omega arith in n ∙ ap (with_row_words x page (suc i)) (f ∙ ap (with_words x page out) d)

pub rows_none : (x : Screen) (page out : List ℕ) → (record { shown = 0; used = 0 } ≡ tally x page 0) × (out ≡ with_rows x page out 0)
unfolding tally with_rows
rows_none x page out = (refl, refl)

pub words_none : (x : Screen) (page out : List ℕ) → out ≡ with_words x page out 0
unfolding with_words
words_none x page out = refl

-- a listing stopped at row j, behind the rows above it
pub stopped : (x : Screen) (page : List ℕ) (above : ℕ → List ℕ) (j : ℕ) (e : Stop) (o o₂ : List ℕ) → 0 < j → j ≤ x.composition.rows → o ≡ above (j - 1)
    → StoppedRow x page j e o o₂ → Stopped x page above e o₂
stopped x page above zero e o o₂ l h f s = absurd (omega arith)
stopped x page above (suc i) e o o₂ l h f s =
    let d : suc i - 1 ≡ i = omega arith in
    let a : i + 1 ≡ suc i = omega arith in
    ⊎_elim (λ p. inl (i, omega arith, p.0 ∙ ap (λ (n : ℕ). Some n) (sym a), ap (row_refused x page) a ∙ p.1, p.2 ∙ (f ∙ ap above d))) inr s

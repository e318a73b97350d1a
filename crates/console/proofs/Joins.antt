-- The parts of a clock, put together from what the raster's functions ensure.
use Rattle.std.proofs.Common.{◌≡◌, ℕ, suc, Bool, true, false, cond, ◌&&◌, eqb, Some, None, Option, sym, refl, ap, ◌∙◌, ⊎_elim}
use Rattle.std.proofs.lemmas.Bool.{cases_Bool, eqb-true}
use Rattle.std.proofs.lemmas.Option.{none-some}
use Rattle.std.proofs.Math.Bool.{or-false}
use Rattle.video.specs.Composition.{Shape}
use Rattle.rows.specs.Buffer.{Buffer, full, eat}
use Rattle.source.specs.Meaning.{Meaning, answer, clocked}
use Rattle.frame.specs.Ports.{Core, State}
use Rattle.frame.specs.Timing.{pause}
use Rattle.frame.specs.Machine.{frame_start, row_start, underrun, prepared, begins, wants, word, fed, turn, moved, ready_core, ready_source, fed_core, next_core, next_flags, clock_state, clock_source, clock_word}
use Rattle.frame.proofs.Filling.{taken_eat}
use Rattle.console.specs.Steps.{with, du_if, interrupted, frame_opened, row_opened, readied, stored}

-- a full row is not fed
not_full : (b : Bool) (came : Option ℕ) (x : ℕ) → (b ≡ true → came ≡ None) → came ≡ Some x → b ≡ false
not_full true came x h e = absurd (none-some x (sym (h refl) ∙ e))
not_full false came x h e = refl

pub fed_some : (c : Shape) (k : Core) (came : Option ℕ) (x gap : ℕ) (f : Buffer) → (full k.fill.take ≡ true → came ≡ None) → came ≡ Some x
    → f ≡ cond (full k.fill.take) k.fill (eat c.f k.bursts.n k.fill x) → gap ≡ pause k.bursts f.take.taken
    → ◌≡◌ {A = Core}
    (record {
      row = k.row;
      line = k.line;
      column = k.column;
      blink = k.blink;
      armed = k.armed;
      dark = k.dark;
      bursts = k.bursts;
      gap = gap;
      fill = f;
      shown = k.shown;
    })
    (fed c k came)
fed_some c k came x gap f h e p q =
    let nf = not_full (full k.fill.take) came x h e in
    let p₂ : f ≡ eat c.f k.bursts.n k.fill x = p ∙ (rw nf refl) in
    let q₂ : gap ≡ pause k.bursts (suc k.fill.take.taken) =
    q ∙ ap (λ (y : Buffer). pause k.bursts y.take.taken) p₂ ∙ ap (pause k.bursts) (taken_eat c.f k.bursts.n k.fill x) in
    rw (e, p₂, q₂) refl

-- a row time begins, and the row is late or not
pub row_joined : (c : Shape) (s : State) (k : Core) (late : Bool) → late ≡ underrun s.core
    → k ≡ prepared c s.control.ve s.control.bursts row_start s.core → with s k (du_if late s.flags) ≡ row_opened c s
row_joined c s k late e p = rw (e, p) refl

-- what begins with a clock: a frame, a row time, or nothing
pub frame_begins : (c : Shape) (s s₁ s₂ : State) (m m₂ : Meaning) → s₁ ≡ interrupted c s → (eqb s₁.core.line 0 && eqb s₁.core.column 0) ≡ true → s₁.core.row ≡ 0
    → s₂ ≡ frame_opened c s₁ → m₂ ≡ begins frame_start s₁.control.ve m → (s₂ ≡ readied c s) × (m₂ ≡ ready_source s m)
unfolding ready_core ready_source
frame_begins c s s₁ s₂ m m₂ e h z p q =
    let h₂ : (eqb s.core.line 0 && eqb s.core.column 0) ≡ true = ap (λ (x : State). eqb x.core.line 0 && eqb x.core.column 0) (sym e) ∙ h in
    let z₂ : s.core.row ≡ 0 = ap (λ (x : State). x.core.row) (sym e) ∙ z in
    let v : s₁.control.ve ≡ s.control.ve = ap (λ (x : State). x.control.ve) e in
    (p ∙ ap (frame_opened c) e ∙ (rw (h₂, z₂, or-false) refl), q ∙ (rw (v, h₂, z₂) refl))

pub row_begins : (c : Shape) (s s₁ s₂ : State) (m : Meaning) → s₁ ≡ interrupted c s → (eqb s₁.core.line 0 && eqb s₁.core.column 0) ≡ true → (s₁.core.row ≡ 0 → ⊥)
    → s₂ ≡ row_opened c s₁ → (s₂ ≡ readied c s) × (m ≡ ready_source s m)
unfolding ready_core ready_source
row_begins c s s₁ s₂ m e h z p =
    let h₂ : (eqb s.core.line 0 && eqb s.core.column 0) ≡ true = ap (λ (x : State). eqb x.core.line 0 && eqb x.core.column 0) (sym e) ∙ h in
    let r : s.core.row ≡ s₁.core.row = ap (λ (x : State). x.core.row) (sym e) in
    let z₂ : eqb s.core.row 0 ≡ false = ⊎_elim (λ (y : eqb s.core.row 0 ≡ true). absurd (z (sym r ∙ eqb-true _ _ y))) (λ (y : eqb s.core.row 0 ≡ false). y) (cases_Bool (eqb s.core.row 0)) in
    (p ∙ ap (row_opened c) e ∙ (rw (h₂, z₂) refl), rw (h₂, z₂) refl)

pub none_begins : (c : Shape) (s s₁ : State) (m : Meaning) → s₁ ≡ interrupted c s → (eqb s₁.core.line 0 && eqb s₁.core.column 0) ≡ false
    → (s₁ ≡ readied c s) × (m ≡ ready_source s m)
unfolding ready_core ready_source
none_begins c s s₁ m e h =
    let h₂ : (eqb s.core.line 0 && eqb s.core.column 0) ≡ false = ap (λ (x : State). eqb x.core.line 0 && eqb x.core.column 0) (sym e) ∙ h in
    (e ∙ (rw (h₂, or-false) refl), rw h₂ refl)

-- a whole clock
pub record Clocked (c : Shape) (s : State) (m : Meaning) (s₂ : State) (m₂ : Meaning) (w : ℕ) : Type 0 where
  pub state : s₂ ≡ clock_state c s m
  pub source : m₂ ≡ clock_source c s m
  pub word : w ≡ clock_word c s

pub clocks : (c : Shape) (s s₁ s₂ : State) (m m₁ m₂ : Meaning) (k₃ : Core) (wanted : Bool) (came : Option ℕ) (w : ℕ)
    → s₁ ≡ readied c s → m₁ ≡ ready_source s m → w ≡ word c s₁.cursor s₁.flags.ir s₁.core → wanted ≡ wants s₁.core → came ≡ answer m₁ wanted
    → m₂ ≡ clocked m₁ wanted → s₂ ≡ stored c s₁ came → k₃ ≡ moved (turn c s₂.core.row s₂.core.line s₂.core.column) s₂.core
    → Clocked c s m (with s₂ k₃ s₂.flags) m₂ w
unfolding clock_state next_core fed_core next_flags clock_source clock_word
clocks c s s₁ s₂ m m₁ m₂ k₃ wanted came w e₁ f₁ ew en ec f₂ e₂ e₃ =
    let n : wanted ≡ wants (ready_core c s) = en ∙ ap (λ (x : State). wants x.core) e₁ in
    let y : came ≡ answer (ready_source s m) (wants (ready_core c s)) = ec ∙ (rw (f₁, n) refl) in
    let s₂_is : s₂ ≡ stored c (readied c s) (answer (ready_source s m) (wants (ready_core c s))) =
    e₂ ∙ ap (λ (x : State). stored c x came) e₁ ∙ ap (stored c (readied c s)) y in
    let whole : with s₂ k₃ s₂.flags ≡ with s₂ (moved (turn c s₂.core.row s₂.core.line s₂.core.column) s₂.core) s₂.flags = rw e₃ refl in
    record {
      state = whole ∙ ap (λ (x : State). with x (moved (turn c x.core.row x.core.line x.core.column) x.core) x.flags) s₂_is;
      source = f₂ ∙ (rw (f₁, n) refl);
      word = ew ∙ ap (λ (x : State). word c x.cursor x.flags.ir x.core) e₁;
    }

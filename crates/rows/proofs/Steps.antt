-- One step of a row buffer, put together from its parts.
use Rattle.std.proofs.Common.{◌≡◌, ℕ, suc, ◌+◌, ◌-◌, ◌*◌, ◌%◌, ◌<◌, ◌≤◌, Bool, true, false, cond, not, ◌&&◌, ◌||◌, eqb, leb, List, [], ◌∷◌, ◌++◌, length, take, set, Some, None, Option, MatchOption, sym, refl, ◌∙◌, ⊎_elim, add-one, arith, take-suc-set}
use Rattle.std.proofs.lemmas.Bool.{cases_Bool}
use Rattle.rows.specs.declared.kinds.Position.{Position}
use Rattle.rows.specs.declared.kinds.Position.TheVariants.{Letter, Attribute, Pair, Graphic, Control, Unused}
use Rattle.rows.specs.declared.kinds.Phase.{Phase}
use Rattle.rows.specs.declared.kinds.Phase.TheVariants.{Ready, Second, Extra, Done}
use Rattle.rows.specs.declared.kinds.Column.{Column}
use Rattle.rows.specs.declared.kinds.Column.TheVariants.{Fixed}
use Rattle.rows.specs.Lists.{some}
use Rattle.std.proofs.Math.Bool.{or-false, or_comm}
use Rattle.rows.specs.Model.{listed}
use Rattle.std.specs.Int.{from_bool}
use Rattle.std.specs.Prelude.{is_some}
use Rattle.rows.specs.Positions.{field_code, ends, ends_screen, stops_all}
use Rattle.video.specs.declared.field.Field.{Field}
use Rattle.video.specs.declared.cell.Cell.TheVariants.{Dark}
use Rattle.rows.specs.Bound.{ahead}
use Rattle.rows.specs.Buffer.{Taken, Shown, done, fills, phase_after, took, turned, column, stored, counted, in_force, put, puts, Buffer, eat}

pub put_joined :
    (ss : List Column) (l : ℕ) (r : List ℕ) (k : ℕ) (f : Field) (e b : Bool) (p : Position) (x : Column) (r₂ : List ℕ) (k₂ : ℕ) (f₂ : Field) (e₂ b₂ hid : Bool)
    → l < length ss → x ≡ cond e (Fixed Dark) (column (turned f p) k p) → r₂ ≡ stored r k p → k₂ ≡ counted k p → f₂ ≡ in_force e f p → e₂ ≡ ends p → b₂ ≡ ends_screen p
    → ◌≡◌ {A = Shown}
    (record { columns = take (l + 1) (set ss l x); ring = r₂; pairs = k₂; field = f₂; ended = e || e₂; below = b || b₂; hidden = hid })
    (put (record { columns = take l ss; ring = r; pairs = k; field = f; ended = e; below = b; hidden = hid }) p)
unfolding put
put_joined ss l r k f e b p x r₂ k₂ f₂ e₂ b₂ hid h hx hr hk hf he hb =
    let t : take (l + 1) (set ss l x) ≡ take l ss ++ (x ∷ []) = rw (add-one, take-suc-set) in
    let ends_is : (e || e₂) ≡ (e₂ || e) = or_comm e e₂ in
    let below_is : (b || b₂) ≡ (b₂ || b) = or_comm b b₂ in
    cc

pub stored_rest : (r : List ℕ) (k : ℕ) (p : Position) → ((a : Field) (c : ℕ) → p ≡ Pair a c → ⊥) → (r ≡ stored r k p) × (k ≡ counted k p)
stored_rest r k (Letter c) h = (refl, refl)
stored_rest r k (Attribute a) h = (refl, refl)
stored_rest r k (Pair a c) h = absurd (h a c refl)
stored_rest r k (Graphic g) h = (refl, refl)
stored_rest r k (Control x) h = (refl, refl)
stored_rest r k Unused h = (refl, refl)

pub took_joined :
    (f : Bool) (n : ℕ) (t : Taken) (b : ℕ) (ph : Phase) (came : List Position) (room : ℕ) (over : Bool)
    → ph ≡ phase_after f (eqb ((t.taken + 1) % n) 0) (leb t.room 1) t.phase b → came ≡ fills f t.phase b
    → room ≡ t.room - length came → over ≡ (t.over || some stops_all came)
    → ◌≡◌ {A = Taken} (record { phase = ph; room = room; taken = t.taken + 1; over = over }) (took f n t b)
unfolding took
took_joined f n t b ph came room over hp hc hr ho = let z : t.taken + 1 ≡ suc t.taken = omega arith in cc

-- a position that came, as a number
pub came_one : (came : Option Position) → from_bool (is_some came) ≡ length (listed came)
came_one None = refl
came_one (Some p) = refl

pub came_few : (came : Option Position) → length (listed came) ≤ 1
came_few None = omega arith
came_few (Some p) = omega arith

pub came_last : (came : Option Position) (over : Bool) → MatchOption came (over ≡ false) (λ p. over ≡ stops_all p) → over ≡ some stops_all (listed came)
came_last None over h = h
came_last (Some p) over h = h ∙ sym (or-false (stops_all p))

-- a byte more is a position begun or a position filled
pub steps_ahead : (f last filled : Bool) (ph : Phase) (b : ℕ) → done ph ≡ false → ahead ph + 1 ≤ ahead (phase_after f last filled ph b) + 2 * length (fills f ph b)
steps_ahead f last filled Ready b h =
    ⊎_elim
    (λ (e : (not f && field_code b) ≡ true). rw e (omega arith))
    (λ (e : (not f && field_code b) ≡ false). rw e (omega arith))
    (cases_Bool (not f && field_code b))
steps_ahead f last filled (Second a) b h = omega arith
steps_ahead f last filled Extra b h = omega arith
steps_ahead f last filled Done b h = absurd (let z : ◌≡◌ {A = ℕ} 0 1 = cc in omega arith)

pub eat_joined : (f : Bool) (n : ℕ) (t : Taken) (s : Shown) (x : ℕ) (t₂ : Taken) (s₂ : Shown) (came : List Position)
    → t₂ ≡ took f n t x → came ≡ fills f t.phase x → s₂ ≡ puts s came
    → ◌≡◌ {A = Buffer} (record { take = t₂; show = s₂ }) (eat f n (record { take = t; show = s }) x)
unfolding eat
eat_joined f n t s x t₂ s₂ came p q r = cc

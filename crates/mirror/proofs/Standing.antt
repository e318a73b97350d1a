-- What a mirror stands for, by its parts.
use Rattle.std.proofs.Common.{◌≡◌, ℕ, Bool, true, false, Some, None, Option, ap, ◌∙◌}
use Rattle.std.specs.Int.{from_bool}
use Rattle.std.specs.Option.{is_some, UnwrapsOrElse}
use Rattle.frame.specs.Ports.{State}
use Rattle.console.specs.Parts.{inside, settled}
use Rattle.mirror.specs.declared.numbers.Spot.{Spot}
use Rattle.mirror.specs.declared.numbers.Mirror.{Mirror}
use Rattle.mirror.specs.Codes.{flag, shown_in, row_sound, buffer_in, fill_sound, layout_in, layout_sound, pending_in, bursts_in, flags_in}
use Rattle.mirror.specs.Stands.{cursor_in, core_in, state_at, stands}

pub flag_bit : (n : ℕ) (b : Bool) → n ≡ from_bool b → flag n ≡ b
flag_bit n true e = simp e
flag_bit n false e = simp e

-- the cursor's place beside its flag
pub cursor_left :
    (o : Option (ℕ × ℕ)) (n : ℕ) (s : Spot) {b : Bool} (p : ℕ × ℕ) (D : ℕ × ℕ → Type 0) → n ≡ from_bool b → b ≡ is_some o → (s.column, s.row) ≡ p
    → UnwrapsOrElse o D p → cursor_in n s ≡ o
cursor_left None n s p D d e f g = simp (d, e)
cursor_left (Some q) n s p D d e f g = simp (d, e) (ap (λ (r : ℕ × ℕ). Some r) (f ∙ g))

-- a sound mirror of a console that is inside its limits
pub packed :
    (m : Mirror) (s : State) → layout_sound m.layout ≡ true → fill_sound m.fill ≡ true → row_sound m.shown ≡ true → inside s ≡ true
    → layout_in m.layout ≡ s.shape → flag m.ve ≡ s.control.ve → flag m.ie ≡ s.control.ie → bursts_in m.bursts ≡ s.control.bursts
    → cursor_in m.placed m.cursor ≡ s.cursor → pending_in m.waits ≡ s.pending → buffer_in m.fill ≡ s.core.fill → shown_in m.shown ≡ s.core.shown
    → core_in m.beam s.core.fill s.core.shown ≡ s.core → flags_in m.flags ≡ s.flags → (m.pen.column, m.pen.row) ≡ s.pen → stands m ≡ Some s
unfolding stands
packed m s a0 a1 a2 a3 e0 e1 e2 e3 e4 e5 e6 e7 e8 e9 e10 =
    let state : state_at m ≡ s = simp (e0, e1, e2, e3, e4, e5, e6, e7, e8, e9, e10) in
    simp (a0, a1, a2) (ap settled state ∙ simp a3)

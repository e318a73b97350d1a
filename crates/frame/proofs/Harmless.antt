-- Reads, pen strokes and refused writes leave a frame as it was.
use Rattle.std.proofs.Common.{◌≡◌, ℕ, Bool, true, false, cond, Some, None, Option, sym, refl, ap, ◌∙◌, ⊎_elim}
use Rattle.std.proofs.lemmas.Bool.{cases_Bool}
use Rattle.std.proofs.lemmas.Option.{none-some}
use Rattle.refusal.specs.declared.Refusal.{Refusal}
use Rattle.refusal.specs.declared.Refusal.TheVariants.{UnknownCommand, TooManyColumns}
use Rattle.video.specs.Composition.{Shape, allowed}
use Rattle.frame.specs.declared.flags.Flags.{Flags}
use Rattle.frame.specs.declared.pending.Pending.{Pending}
use Rattle.frame.specs.declared.pending.Pending.TheVariants.{Nothing, Reset1, Reset2, Reset3, Reset4, CursorColumn, CursorRow, PenColumn, PenRow}
use Rattle.frame.specs.Ports.{State, is_command, command_refusal, commanded, refused_parameter, parameter_to, after_read}
use Rattle.frame.specs.History.{call_state, stroke_by}
use Rattle.frame.specs.Law.{Alike, Harmless}

-- only what the ports wait for, the flags and the light pen were altered
alike : (s : State) (p : Pending) (f : Flags) (pen : ℕ × ℕ)
    → Alike s (record { shape = s.shape; control = s.control; cursor = s.cursor; pending = p; core = s.core; flags = f; pen = pen })
alike s p f pen = record { shape = refl; cursor = refl; core = refl; video = refl; bursts = refl }

after_read_alike : (p : Pending) (s : State) → Alike s (after_read p s)
after_read_alike Nothing s = alike s _ _ _
after_read_alike Reset1 s = alike s _ _ _
after_read_alike (Reset2 p) s = alike s _ _ _
after_read_alike (Reset3 p q) s = alike s _ _ _
after_read_alike (Reset4 p q r) s = alike s _ _ _
after_read_alike CursorColumn s = alike s _ _ _
after_read_alike (CursorRow p) s = alike s _ _ _
after_read_alike PenColumn s = alike s _ _ _
after_read_alike PenRow s = alike s _ _ _

stroke_alike : (o : Option Shape) (s : State) → Alike s (stroke_by o s)
stroke_alike None s = alike s _ _ _
stroke_alike (Some c) s = alike s _ _ _

refused_command : (s : State) (b : ℕ) (e : Refusal) → command_refusal b ≡ Some e → commanded s b ≡ s
refused_command s b e h =
    ⊎_elim
    (λ (y : is_command b ≡ true). absurd (none-some e (sym (ap (λ (x : Bool). cond x None (Some UnknownCommand)) y) ∙ h)))
    (λ (y : is_command b ≡ false). rw y refl)
    (cases_Bool (is_command b))

refused_at : (p : Pending) (s : State) (b : ℕ) (e : Refusal) → refused_parameter p b ≡ Some e → parameter_to p s b ≡ s
refused_at Nothing s b e h = absurd (none-some e h)
refused_at Reset1 s b e h =
    ⊎_elim
    (λ (y : allowed b ≡ true). absurd (none-some e (sym (ap (λ (x : Bool). cond x None (Some TooManyColumns)) y) ∙ h)))
    (λ (y : allowed b ≡ false). rw y refl)
    (cases_Bool (allowed b))
refused_at (Reset2 p) s b e h = absurd (none-some e h)
refused_at (Reset3 p q) s b e h = absurd (none-some e h)
refused_at (Reset4 p q r) s b e h = absurd (none-some e h)
refused_at CursorColumn s b e h = absurd (none-some e h)
refused_at (CursorRow p) s b e h = absurd (none-some e h)
refused_at PenColumn s b e h = absurd (none-some e h)
refused_at PenRow s b e h = absurd (none-some e h)

pub harmless : Harmless
unfolding call_state
harmless =
    record {
      status = λ s m. alike s _ _ _;
      read = λ s m. after_read_alike s.pending s;
      stroke = λ s m. stroke_alike s.shape s;
      command = λ s m b e h. refused_command s b e h;
      parameter = λ s m b e h. refused_at s.pending s b e h;
    }

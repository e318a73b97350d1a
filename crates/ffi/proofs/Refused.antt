-- A call that is refused leaves the console as it was.
use Rattle.std.proofs.Common.{◌≡◌, ℕ, Bool, true, false, cond, Some, None, Option, refl}
use Rattle.refusal.specs.declared.Refusal.{Refusal}
use Rattle.source.specs.Meaning.{Meaning}
use Rattle.video.specs.Composition.{Shape, allowed}
use Rattle.frame.specs.declared.pending.Pending.{Pending}
use Rattle.frame.specs.declared.pending.Pending.TheVariants.{Nothing, Reset1, Reset2, Reset3, Reset4, CursorColumn, CursorRow, PenColumn, PenRow}
use Rattle.frame.specs.declared.call.Call.{Call}
use Rattle.frame.specs.declared.call.Call.TheVariants.{Command, Parameter, Status, Read, Stroke, Clock}
use Rattle.frame.specs.declared.call.Answer.TheVariants.{Refused}
use Rattle.frame.specs.Ports.{State, is_command, refused_parameter, parameter_to}
use Rattle.frame.specs.History.{call_state, call_answer, clocked_by, word_by, stroke_by, stroke_answer, done}

tested : (t : Bool) (why e : Refusal) (s s₂ : State) → done (cond t None (Some why)) ≡ Refused e → cond t s₂ s ≡ s
tested true why e s s₂ h = cc
tested false why e s s₂ h = refl

parameter : (p : Pending) (s : State) (b : ℕ) (e : Refusal) → done (refused_parameter p b) ≡ Refused e → parameter_to p s b ≡ s
parameter Nothing s b e h = cc
parameter Reset1 s b e h = tested (allowed b) _ e s _ h
parameter (Reset2 p) s b e h = cc
parameter (Reset3 p q) s b e h = cc
parameter (Reset4 p q r) s b e h = cc
parameter CursorColumn s b e h = cc
parameter (CursorRow c) s b e h = cc
parameter PenColumn s b e h = cc
parameter PenRow s b e h = cc

stroke : (o : Option Shape) (s : State) (e : Refusal) → stroke_answer o ≡ Refused e → stroke_by o s ≡ s
stroke None s e h = refl
stroke (Some c) s e h = cc

clock : (o : Option Shape) (s : State) (m : Meaning) (e : Refusal) → word_by o s ≡ Refused e → clocked_by o s m ≡ s
clock None s m e h = refl
clock (Some c) s m e h = cc

pub refused_same : (x : Call) (s : State) (m : Meaning) (e : Refusal) → call_answer x s ≡ Refused e → call_state x s m ≡ s
unfolding call_answer call_state
refused_same (Command b) s m e h = tested (is_command b) _ e s _ h
refused_same (Parameter b) s m e h = parameter s.pending s b e h
refused_same Status s m e h = cc
refused_same Read s m e h = cc
refused_same Stroke s m e h = stroke s.shape s e h
refused_same Clock s m e h = clock s.shape s m e h

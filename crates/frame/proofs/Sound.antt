-- Every composition that a history can lead to is proper.
use Rattle.std.proofs.Common.{◌≡◌, ℕ, ◌/◌, ◌%◌, ◌≤◌, Bool, true, false, cond, ◌&&◌, eqb, leb, List, [], ◌∷◌, Some, None, Option, sym, refl, subst, ⊎_elim, arith}
use Rattle.std.proofs.lemmas.Bool.{cases_Bool}
use Rattle.std.proofs.lemmas.Bool.Decides.{nat_tests}
use Rattle.source.specs.Meaning.{Meaning}
use Rattle.video.specs.Composition.{Shape, Proper, allowed, composed}
use Rattle.frame.specs.declared.pending.Pending.{Pending}
use Rattle.frame.specs.declared.pending.Pending.TheVariants.{Nothing, Reset1, Reset2, Reset3, Reset4, CursorColumn, CursorRow, PenColumn, PenRow}
use Rattle.frame.specs.declared.call.Call.{Call}
use Rattle.frame.specs.declared.call.Call.TheVariants.{Command, Parameter, Status, Read, Stroke, Clock}
use Rattle.frame.specs.Ports.{State, new, is_command, dropped, reset, controlled, stopped, waiting, preset, burst_size, burst_space, obeyed, parameter_to, after_read}
use Rattle.frame.specs.Machine.{clock_state}
use Rattle.frame.specs.History.{Moment, call_state, clocked_by, stroke_by, after}

abbrev ProperIn : Option Shape → Type 0
ProperIn None = Unit {0}
ProperIn (Some c) = Proper c

-- a first parameter that is kept was allowed
abbrev Kept : Pending → Type 0
Kept Nothing = Unit {0}
Kept Reset1 = Unit {0}
Kept (Reset2 p) = allowed p ≡ true
Kept (Reset3 p q) = allowed p ≡ true
Kept (Reset4 p q r) = allowed p ≡ true
Kept CursorColumn = Unit {0}
Kept (CursorRow p) = Unit {0}
Kept PenColumn = Unit {0}
Kept PenRow = Unit {0}

abbrev Sound : State → Type 0
Sound s = ProperIn s.shape × Kept s.pending

either : (b : Bool) (s t : State) → Sound s → Sound t → Sound (cond b s t)
either true s t x y = x
either false s t x y = y

pub proper : (p q r t : ℕ) → allowed p ≡ true → Proper (composed p q r t)
proper p q r t h =
    record {
      h_range = (let a : p % 128 ≤ 79 = grind (arith, nat_tests) in (omega arith, omega arith));
      z_range = (omega arith, omega arith);
      l_range = (omega arith, omega arith);
      r_range = (omega arith, omega arith);
      v_range = (omega arith, omega arith);
      u_range = omega arith;
    }

obeys : (s : State) (b : ℕ) → ProperIn s.shape → Sound (obeyed (dropped s) b)
obeys s b h =
    let d : State = dropped s in
    let disabled : State = cond (eqb b 0xC0) (controlled d.control.ve false d.control.bursts d) (preset d) in
    let enabled : State = cond (eqb b 0xA0) (controlled d.control.ve true d.control.bursts d) disabled in
    let cursor : State = cond (eqb b 0x80) (waiting CursorColumn d) enabled in
    let pen : State = cond (eqb b 0x60) (waiting PenColumn d) cursor in
    let stop : State = cond (eqb b 0x40) (stopped d) pen in
    let start : State = cond (leb 0x20 b && leb b 0x3F) (controlled true true (record { n = burst_size (b % 4); d = burst_space (b / 4 % 8) }) d) stop in
    either (eqb b 0x00) (reset d) start (h, tt)
    (either (leb 0x20 b && leb b 0x3F) _ stop (h, tt)
    (either (eqb b 0x40) (stopped d) pen (h, tt)
    (either (eqb b 0x60) (waiting PenColumn d) cursor (h, tt)
    (either (eqb b 0x80) (waiting CursorColumn d) enabled (h, tt)
    (either (eqb b 0xA0) _ disabled (h, tt)
    (either (eqb b 0xC0) _ (preset d) (h, tt) (h, tt)))))))

takes_parameter : (p : Pending) (s : State) (b : ℕ) → ProperIn s.shape → Kept p → s.pending ≡ p → Sound (parameter_to p s b)
takes_parameter Nothing s b h k e = (h, subst Kept (sym e) k)
takes_parameter Reset1 s b h k e =
    ⊎_elim
    (λ (a : allowed b ≡ true). rw a (h, a))
    (λ (a : allowed b ≡ false). rw a (h, subst Kept (sym e) k))
    (cases_Bool (allowed b))
takes_parameter (Reset2 p) s b h k e = (h, k)
takes_parameter (Reset3 p q) s b h k e = (h, k)
takes_parameter (Reset4 p q r) s b h k e = (proper p q r b k, tt)
takes_parameter CursorColumn s b h k e = (h, tt)
takes_parameter (CursorRow p) s b h k e = (h, tt)
takes_parameter PenColumn s b h k e = (h, subst Kept (sym e) k)
takes_parameter PenRow s b h k e = (h, subst Kept (sym e) k)

gives_parameter : (p : Pending) (s : State) → ProperIn s.shape → Kept p → s.pending ≡ p → Sound (after_read p s)
gives_parameter Nothing s h k e = (h, subst Kept (sym e) k)
gives_parameter Reset1 s h k e = (h, subst Kept (sym e) k)
gives_parameter (Reset2 p) s h k e = (h, subst Kept (sym e) k)
gives_parameter (Reset3 p q) s h k e = (h, subst Kept (sym e) k)
gives_parameter (Reset4 p q r) s h k e = (h, subst Kept (sym e) k)
gives_parameter CursorColumn s h k e = (h, subst Kept (sym e) k)
gives_parameter (CursorRow p) s h k e = (h, subst Kept (sym e) k)
gives_parameter PenColumn s h k e = (h, tt)
gives_parameter PenRow s h k e = (h, tt)

strikes : (o : Option Shape) (s : State) → Sound s → Sound (stroke_by o s)
strikes None s h = h
strikes (Some c) s h = h

ticks : (o : Option Shape) (s : State) (m : Meaning) → Sound s → Sound (clocked_by o s m)
unfolding clock_state
ticks None s m h = h
ticks (Some c) s m h = h

sound_call : (x : Call) (s : State) (m : Meaning) → Sound s → Sound (call_state x s m)
unfolding call_state
sound_call (Command b) s m h = either (is_command b) _ _ (obeys s b h.0) h
sound_call (Parameter b) s m h = takes_parameter s.pending s b h.0 h.1 refl
sound_call Status s m h = h
sound_call Read s m h = gives_parameter s.pending s h.0 h.1 refl
sound_call Stroke s m h = strikes s.shape s h
sound_call Clock s m h = ticks s.shape s m h

sound_after : (h : List Moment) (s : State) → Sound s → Sound (after h s)
unfolding after
sound_after [] s x = x
sound_after (e ∷ es) s x = sound_after es (call_state e.call s e.found) (sound_call e.call s e.found x)

pub history_proper : (h : List Moment) (c : Shape) → (after h new).shape ≡ Some c → Proper c
history_proper h c e = subst ProperIn e (sound_after h new (tt, tt)).0

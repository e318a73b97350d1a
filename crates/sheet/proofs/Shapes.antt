-- The composition of a console that was programmed.
use Rattle.std.proofs.Common.{◌≡◌, ℕ, Bool, true, false, cond, ◌&&◌, eqb, leb, Some, None, Option, refl, ◌∙◌}
use Rattle.video.specs.Composition.{Shape, allowed, composed}
use Rattle.frame.specs.Ports.{State, commanded, is_command}
use Rattle.video.specs.declared.parameters.ResetParameters.{ResetParameters}
use Rattle.listing.specs.Firmware.{composed as console-composed, with_cursor, programmed}

either : (b : Bool) (x y : State) (h : Option Shape) → x.shape ≡ h → y.shape ≡ h → (cond b x y).shape ≡ h
either true x y h p q = p
either false x y h p q = q

-- no command alters the composition
commanded_shape : (s : State) (b : ℕ) → (commanded s b).shape ≡ s.shape
commanded_shape s b =
    either (is_command b) _ _ _
    (either (eqb b 0x00) _ _ _ refl
    (either (leb 0x20 b && leb b 0x3F) _ _ _ refl
    (either (eqb b 0x40) _ _ _ refl
    (either (eqb b 0x60) _ _ _ refl
    (either (eqb b 0x80) _ _ _ refl
    (either (eqb b 0xA0) _ _ _ refl
    (either (eqb b 0xC0) _ _ _ refl refl)))))))
    refl

cursor_shape : (s : State) (q : Option (ℕ × ℕ)) → (with_cursor s q).shape ≡ s.shape
cursor_shape s None = refl
cursor_shape s (Some c) = refl

reset_shape : (p : ResetParameters) → allowed p.first ≡ true → (console-composed p).shape ≡ Some (composed p.first p.second p.third p.fourth)
reset_shape p h = rw h refl

pub programmed_shape : (p : ResetParameters) (q : Option (ℕ × ℕ)) (start : ℕ) → allowed p.first ≡ true
    → (programmed p q start).shape ≡ Some (composed p.first p.second p.third p.fourth)
programmed_shape p q start h = commanded_shape (with_cursor (console-composed p) q) start ∙ (cursor_shape (console-composed p) q ∙ reset_shape p h)

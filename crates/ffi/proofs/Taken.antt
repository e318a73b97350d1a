-- The byte that was offered is gone where the clock asked for one.
use Rattle.std.proofs.Common.{◌≡◌, ℕ, Bool, true, false, ◌&&◌, is_some, Some, None, Option, refl, ap, ◌∙◌}
use Rattle.std.specs.Int.{from_bool}
use Rattle.source.specs.Meaning.{Meaning, clocked}
use Rattle.video.specs.Composition.{Shape}
use Rattle.video.specs.Picture.{bit}
use Rattle.frame.specs.declared.call.Call.TheVariants.{Clock}
use Rattle.frame.specs.Ports.{State}
use Rattle.frame.specs.Machine.{Opening, within, frame_start, row_start, opening, begins, ready_source, ready_core, wants, clock_source}
use Rattle.frame.specs.History.{source_by, call_source}
use Rattle.ffi.specs.Offers.{offer, gone}
use Rattle.ffi.specs.Calls.{left_by, taken_by, taken}

-- a source that begins with what it offers still offers it
pub fresh : (w : Opening) (ve : Bool) (o : Option ℕ) → begins w ve (offer o) ≡ offer o
fresh within ve o = refl
fresh frame_start true o = refl
fresh frame_start false o = refl
fresh row_start ve o = refl

handed : (o : Option ℕ) (wanted : Bool) → gone (clocked (offer o) wanted) ≡ (is_some o && wanted)
handed None true = refl
handed None false = refl
handed (Some b) true = refl
handed (Some b) false = refl

none : (o : Option ℕ) → gone (offer o) ≡ (is_some o && false)
none None = refl
none (Some b) = refl

by_clock : (shape : Option Shape) (s : State) (o : Option ℕ) → gone (source_by shape s (offer o)) ≡ (is_some o && taken_by shape s)
unfolding clock_source ready_source
by_clock None s o = none o
by_clock (Some c) s o =
    ap (λ (m : Meaning). gone (clocked m (wants (ready_core c s)))) (fresh (opening s.core.row s.core.line s.core.column) s.control.ve o)
    ∙ handed o (wants (ready_core c s))

without : (o : Option ℕ) → gone (offer o) ≡ false
without None = refl
without (Some b) = refl

pub gone_is : (o : Option ℕ) (x : Option State) → gone (left_by Clock (offer o) x) ≡ taken o x
unfolding call_source
gone_is o None = without o
gone_is o (Some s) = by_clock s.shape s o

pub byte_bit : (b : Bool) → from_bool b ≡ bit b
byte_bit true = refl
byte_bit false = refl

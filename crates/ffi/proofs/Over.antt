-- A clock at which a byte is offered is a clock over any source that would hand out that byte.
use Rattle.std.proofs.Common.{◌≡◌, ℕ, Bool, true, false, ◌||◌, Some, None, Option, sym, refl, ap, ◌∙◌}
use Rattle.source.specs.Meaning.{Meaning, answer}
use Rattle.video.specs.Composition.{Shape}
use Rattle.frame.specs.declared.call.Call.TheVariants.{Clock}
use Rattle.frame.specs.Ports.{Core, State}
use Rattle.frame.specs.Machine.{opening, ready_source, ready_core, fed, turn, moved, requests, late_now, overrun, wants, fed_core, next_core, next_flags, clock_state}
use Rattle.frame.specs.History.{clocked_by, call_state}
use Rattle.ffi.specs.Offers.{offer}
use Rattle.ffi.proofs.Taken.{fresh}

all_offered : (o : Option ℕ) → answer (offer o) true ≡ o
all_offered None = refl
all_offered (Some b) = refl

answers_same : (s : State) (m : Meaning) (o : Option ℕ) (wanted : Bool) → answer (ready_source s m) true ≡ o → answer (ready_source s (offer o)) wanted ≡ answer (ready_source s m) wanted
unfolding ready_source
answers_same s m o true h =
    ap (λ (x : Meaning). answer x true) (fresh (opening s.core.row s.core.line s.core.column) s.control.ve o) ∙ all_offered o ∙ sym h
answers_same s m o false h = refl

-- the console behind a clock to which `came` came
abbrev behind : Shape → State → Option ℕ → State
behind c s came =
    let k : Core = fed c (ready_core c s) came in
    record {
      shape = s.shape;
      control = s.control;
      cursor = s.cursor;
      pending = s.pending;
      core = moved (turn c k.row k.line k.column) k;
      flags =
          record {
            ir = s.flags.ir || requests c s;
            lp = s.flags.lp;
            ic = s.flags.ic;
            du = s.flags.du || late_now (opening s.core.row s.core.line s.core.column) s.core;
            fo = s.flags.fo || overrun (ready_core c s).fill k.fill;
          };
      pen = s.pen;
    }

by_shape : (shape : Option Shape) (s : State) (m : Meaning) (o : Option ℕ) → answer (ready_source s m) true ≡ o → clocked_by shape s (offer o) ≡ clocked_by shape s m
unfolding clock_state next_core next_flags fed_core
by_shape None s m o h = refl
by_shape (Some c) s m o h = ap (behind c s) (answers_same s m o (wants (ready_core c s)) h)

pub clocks_same : (s : State) (m : Meaning) (o : Option ℕ) → answer (ready_source s m) true ≡ o → call_state Clock s (offer o) ≡ call_state Clock s m
unfolding call_state
clocks_same s m o h = by_shape s.shape s m o h

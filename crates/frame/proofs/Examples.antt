-- The law's hypotheses are met.
use Rattle.std.proofs.Common.{◌≡◌, ℕ, zero, suc, Bool, true, false, refl, arith}
use Rattle.source.specs.Meaning.{Meaning}
use Rattle.rows.specs.Page.{taking_at, row}
use Rattle.frame.specs.declared.call.Call.TheVariants.{Clock}
use Rattle.frame.specs.Ports.{State, new}
use Rattle.frame.specs.Timing.{line_clocks, span, total, seek, first_free, opens, takes, late, in_time}
use Rattle.frame.specs.History.{call_state, call_source, after, over}
use Rattle.frame.specs.Law.{at_start, Ready, Quiet, clocks}
use Rattle.frame.specs.Example.{tiny, held_until, start_up, clock_calls, Met}
use Rattle.frame.proofs.Threads.{found_over}

-- clocks alone are quiet, and each counts
all_quiet : (n : ℕ) (s : State) (m : Meaning) → Quiet (over (clock_calls n) s m) s
unfolding over
all_quiet zero s m = tt
all_quiet (suc n) s m = (tt, all_quiet n (call_state Clock s m) (call_source Clock s m))

all_count : (n : ℕ) (s : State) (m : Meaning) → clocks (over (clock_calls n) s m) ≡ n
unfolding over
all_count zero s m = refl
all_count (suc n) s m = let i = all_count n (call_state Clock s m) (call_source Clock s m) in omega arith

is_ready : (m : Meaning) → Ready tiny (after (start_up m) new)
unfolding after call_state at_start
is_ready m = record { composed = refl; first = refl; enabled = refl }

met : (clock : ℕ) (timely : Bool)
    → in_time tiny (after (start_up (held_until clock)) new).control.bursts (held_until clock).page (held_until clock).free 1 ≡ timely → Met clock timely
met clock timely e =
    let m : Meaning = held_until clock in
    let s : State = after (start_up m) new in
    let q = all_quiet (total tiny) s m in
    record {
      ready = is_ready m;
      quiet = q;
      found = found_over tiny (clock_calls (total tiny)) s m (is_ready m).composed q;
      whole = all_count (total tiny) s m;
      row = e;
    }

pub timely : Met 2 true
unfolding after call_state taking_at row line_clocks span total seek first_free opens takes late in_time
timely = met 2 true refl

pub tardy : Met 3 false
unfolding after call_state taking_at row line_clocks span total seek first_free opens takes late in_time
tardy = met 3 false refl

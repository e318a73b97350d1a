-- Calls played over one source, and the law of a frame for them.
use Rattle.std.specs.Prelude.{◌≡◌, ℕ, ◌+◌, ◌*◌, ◌≤◌, Bool, List, [], ◌++◌, length, drop}
use Rattle.source.specs.Meaning.{Meaning}
use Rattle.video.specs.Composition.{Shape}
use Rattle.frame.specs.declared.call.Call.{Call}
use Rattle.frame.specs.declared.call.Answer.{Answer}
use Rattle.frame.specs.Ports.{State, new}
use Rattle.frame.specs.History.{Moment, after, answers, over, source_after, words}
use Rattle.frame.specs.Law.{Ready, Quiet, Found, clocks, Law}

-- calls from s over m, whose answers came behind `out`: the console and the source after them, and every answer, are those of the rules
pub record Played (s : State) (m : Meaning) (cs : List Call) (out : List Answer) (e : State) (m₂ : Meaning) (out₂ : List Answer) : Type 0 where
  pub state : e ≡ after (over cs s m) s
  pub source : m₂ ≡ source_after cs s m
  pub answers_are : out₂ ≡ out ++ answers (over cs s m) s

-- some of the calls were played: those that are left lead from here where all of them lead
pub record On (cs : List Call) (s : State) (m : Meaning) (out : List Answer) (cs₀ : List Call) (s₀ : State) (m₀ : Meaning) (out₀ : List Answer) : Type 0 where
  pub state : after (over cs s m) s ≡ after (over cs₀ s₀ m₀) s₀
  pub source : source_after cs s m ≡ source_after cs₀ s₀ m₀
  pub all : out ++ answers (over cs s m) s ≡ out₀ ++ answers (over cs₀ s₀ m₀) s₀

-- the law of a frame, for every history from a new console
pub record Lawful (s : State) (m : Meaning) (cs : List Call) (out : List Answer) (e : State) (out₂ : List Answer) : Type 0 where
  -- of calls that begin at the first clock of an armed frame and stay inside it: page and bus are the source's at the first clock
  pub alone :
      (h : List Moment) (c : Shape) → s ≡ after h new → Ready c s → Quiet (over cs s m) s → clocks (over cs s m) ≤ (c.h + c.z) * c.l * (c.r + c.v)
      → Law c s m.page m.free (clocks (over cs s m)) e (words (drop (length out) out₂))
  -- of calls that go on in a frame which began in earlier calls, whatever happened to the source between the clocks, as long as each clock
  -- found the rest that the clock before left: page and bus are what the frame's clocks found
  pub resumed :
      (h es : List Moment) (c : Shape) (page : List ℕ) (free : ℕ → Bool) → s ≡ after es (after h new) → Ready c (after h new)
      → Quiet (es ++ over cs s m) (after h new) → Found page free 0 [] (es ++ over cs s m) (after h new)
      → clocks (es ++ over cs s m) ≤ (c.h + c.z) * c.l * (c.r + c.v)
      → Law c (after h new) page free (clocks (es ++ over cs s m)) e (words (answers es (after h new) ++ drop (length out) out₂))

-- What a call makes of the memory that holds a console, and what it answers.
use Rattle.std.specs.Prelude.{◌≡◌, ℕ, Bool, true, false, ◌&&◌, is_some, Some, None, Option, ◌≢◌}
use Rattle.refusal.specs.Numbers.{number}
use Rattle.source.specs.Meaning.{Meaning, answer}
use Rattle.video.specs.Composition.{Shape}
use Rattle.frame.specs.declared.call.Call.{Call}
use Rattle.frame.specs.declared.call.Call.TheVariants.{Clock}
use Rattle.frame.specs.declared.call.Answer.{Answer}
use Rattle.frame.specs.declared.call.Answer.TheVariants.{Done, Byte, Word, Refused}
use Rattle.frame.specs.Ports.{State}
use Rattle.frame.specs.Machine.{wants, ready_core, ready_source}
use Rattle.frame.specs.History.{call_state, call_source, call_answer}
use Rattle.mirror.specs.declared.numbers.Mirror.{Mirror}
use Rattle.mirror.specs.Stands.{stands}

-- a call by the rules, on a console or on none: the console after it, the source after it, and the answer
abbrev pub called : Call → Meaning → Option State → Option State
called x m None = None
called x m (Some s) = Some (call_state x s m)

abbrev pub left_by : Call → Meaning → Option State → Meaning
left_by x m None = m
left_by x m (Some s) = call_source x s m

abbrev pub replied : Call → Option State → Option Answer
replied x None = None
replied x (Some s) = Some (call_answer x s)

-- why a call was refused, as a number: 254 where the memory holds no console, 0 where the call was not refused
abbrev pub refusal_of : Option Answer → ℕ
refusal_of None = 254
refusal_of (Some Done) = 0
refusal_of (Some (Byte b)) = 0
refusal_of (Some (Word w)) = 0
refusal_of (Some (Refused e)) = number e

-- the byte that a call answers, and the word, or 0
abbrev pub byte_of : Option Answer → ℕ
byte_of None = 0
byte_of (Some Done) = 0
byte_of (Some (Byte b)) = b
byte_of (Some (Word w)) = 0
byte_of (Some (Refused e)) = 0

abbrev pub word_of : Option Answer → ℕ
word_of None = 0
word_of (Some Done) = 0
word_of (Some (Byte b)) = 0
word_of (Some (Word w)) = w
word_of (Some (Refused e)) = 0

-- the byte that was offered is taken where the clock asks for one
abbrev pub taken_by : Option Shape → State → Bool
taken_by None s = false
taken_by (Some c) s = wants (ready_core c s)

abbrev pub taken : Option ℕ → Option State → Bool
taken o None = false
taken o (Some s) = is_some o && taken_by s.shape s

-- a clock at which o was offered is a clock over any source that would hand out o if the clock asked
abbrev pub AsOver : Option ℕ → (a b : Mirror) → Type 0
AsOver o a b = (s : State) (m : Meaning) → stands a ≡ Some s → answer (ready_source s m) true ≡ o → stands b ≡ Some (call_state Clock s m)

-- a call over a source that means m, on memory that held a and holds b, and its refusal
pub record Kept (x : Call) (m : Meaning) (a b : Mirror) (refusal : ℕ) : Type 0 where
  -- the memory holds the console that the rules say
  pub state : stands b ≡ called x m (stands a)
  pub refused : refusal ≡ refusal_of (replied x (stands a))
  -- what is refused leaves every byte as it was
  pub unaltered : (refusal ≢ 0) → b ≡ a

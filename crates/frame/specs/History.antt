-- Histories: calls from a new console on, each with the source that it found.
use Rattle.std.specs.Prelude.{ℕ, List, [], ◌∷◌, Some, None, Option, Ok, Err, Result}
use Rattle.refusal.specs.declared.Refusal.{Refusal}
use Rattle.refusal.specs.declared.Refusal.TheVariants.{NoComposition}
use Rattle.source.specs.Meaning.{Meaning}
use Rattle.video.specs.Composition.{Shape}
use Rattle.frame.specs.declared.call.Call.{Call}
use Rattle.frame.specs.declared.call.Call.TheVariants.{Command, Parameter, Status, Read, Stroke, Clock}
use Rattle.frame.specs.declared.call.Answer.{Answer}
use Rattle.frame.specs.declared.call.Answer.TheVariants.{Done, Byte, Word, Refused}
use Rattle.frame.specs.Ports.{State, command_refusal, commanded, parameter_refusal, parameter_written, status_byte, status_read, parameter_byte, parameter_read}
use Rattle.frame.specs.Machine.{clock_state, clock_source, clock_word, stroke}

-- without a composition there is no clock and no stroke
abbrev pub clocked_by : Option Shape → State → Meaning → State
clocked_by None s m = s
clocked_by (Some c) s m = clock_state c s m

abbrev pub source_by : Option Shape → State → Meaning → Meaning
source_by None s m = m
source_by (Some c) s m = clock_source c s m

abbrev pub word_by : Option Shape → State → Answer
word_by None s = Refused NoComposition
word_by (Some c) s = Word (clock_word c s)

abbrev pub stroke_by : Option Shape → State → State
stroke_by None s = s
stroke_by (Some c) s = stroke c s

abbrev pub stroke_answer : Option Shape → Answer
stroke_answer None = Refused NoComposition
stroke_answer (Some c) = Done

-- a call that gives nothing but its effect, or is refused
abbrev pub done : Option Refusal → Answer
done None = Done
done (Some e) = Refused e

-- the same of what a call returns, and of the word of a clock
abbrev pub told : Result (Unit {0}) Refusal → Answer
told (Ok x) = Done
told (Err e) = Refused e

abbrev pub worded : Result ℕ Refusal → Answer
worded (Ok w) = Word w
worded (Err e) = Refused e

-- what a call makes of a console over a source, and of the source, and what it answers
unfoldable pub call_state : Call → State → Meaning → State
call_state (Command b) s m = commanded s b
call_state (Parameter b) s m = parameter_written s b
call_state Status s m = status_read s
call_state Read s m = parameter_read s
call_state Stroke s m = stroke_by s.shape s
call_state Clock s m = clocked_by s.shape s m

unfoldable pub call_source : Call → State → Meaning → Meaning
call_source (Command b) s m = m
call_source (Parameter b) s m = m
call_source Status s m = m
call_source Read s m = m
call_source Stroke s m = m
call_source Clock s m = source_by s.shape s m

unfoldable pub call_answer : Call → State → Answer
call_answer (Command b) s = done (command_refusal b)
call_answer (Parameter b) s = done (parameter_refusal s b)
call_answer Status s = Byte (status_byte s)
call_answer Read s = Byte (parameter_byte s)
call_answer Stroke s = stroke_answer s.shape
call_answer Clock s = word_by s.shape s

-- a call, and the source that it found
pub record Moment : Type 0 where
  pub call : Call
  pub found : Meaning

-- where a history leads, and what its calls answer
unfoldable pub after : List Moment → State → State
after [] s = s
after (e ∷ es) s = after es (call_state e.call s e.found)

unfoldable pub answers : List Moment → State → List Answer
answers [] s = []
answers (e ∷ es) s = call_answer e.call s ∷ answers es (call_state e.call s e.found)

-- calls over one source that nothing else alters: each finds what the one before left
unfoldable pub over : List Call → State → Meaning → List Moment
over [] s m = []
over (x ∷ xs) s m = record { call = x; found = m } ∷ over xs (call_state x s m) (call_source x s m)

unfoldable pub source_after : List Call → State → Meaning → Meaning
source_after [] s m = m
source_after (x ∷ xs) s m = source_after xs (call_state x s m) (call_source x s m)

-- the words among answers
abbrev pub words : List Answer → List ℕ
words [] = []
words (Done ∷ xs) = words xs
words (Byte b ∷ xs) = words xs
words (Word w ∷ xs) = w ∷ words xs
words (Refused e ∷ xs) = words xs

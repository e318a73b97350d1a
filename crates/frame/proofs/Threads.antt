-- One source that nothing else alters, as the clocks of a frame find it.
use Rattle.std.proofs.Common.{◌≡◌, ℕ, zero, suc, ◌+◌, ◌<◌, Bool, true, false, List, [], ◌∷◌, Some, Option, sym, refl, ap, ◌∙◌, subst, arith}
use Rattle.source.specs.Meaning.{Meaning}
use Rattle.video.specs.Composition.{Shape}
use Rattle.frame.specs.declared.call.Call.{Call}
use Rattle.frame.specs.declared.call.Call.TheVariants.{Command, Parameter, Status, Read, Stroke, Clock}
use Rattle.frame.specs.Ports.{State}
use Rattle.frame.specs.Machine.{Opening, within, frame_start, row_start, opening, begins, ready_source, clock_state, clock_source}
use Rattle.frame.specs.History.{clocked_by, source_by, call_state, call_source, over}
use Rattle.frame.specs.Law.{Alike, QuietCall, Quiet, clock_count, FoundAt, FoundBy, rest_by, Found}

-- one source that nothing else alters is found at clock t as its first meaning foretold
record Foretold (page : List ℕ) (free : ℕ → Bool) (t : ℕ) (rest : List ℕ) (m : Meaning) : Type 0 where
  page_is : m.page ≡ page
  free_is : (i : ℕ) → m.free i ≡ free (t + i)
  rest_is : 0 < t → m.rest ≡ rest

found_here : (page : List ℕ) (free : ℕ → Bool) (t : ℕ) (rest : List ℕ) (m : Meaning) → Foretold page free t rest m → FoundAt page free t rest m
found_here page free zero rest m f = (f.free_is 0 ∙ ap free (omega arith), f.page_is)
found_here page free (suc t) rest m f = (f.free_is 0 ∙ ap free (omega arith), f.rest_is (omega arith))

begun_page : (o : Opening) (ve : Bool) (m : Meaning) → ((begins o ve m).page ≡ m.page) × ((i : ℕ) → (begins o ve m).free i ≡ m.free i)
begun_page within ve m = (refl, λ i. refl)
begun_page frame_start true m = (refl, λ i. refl)
begun_page frame_start false m = (refl, λ i. refl)
begun_page row_start ve m = (refl, λ i. refl)

foretold_on : (c : Shape) (page : List ℕ) (free : ℕ → Bool) (t : ℕ) (rest : List ℕ) (s : State) (m : Meaning) → Foretold page free t rest m
    → Foretold page free (1 + t) (clock_source c s m).rest (clock_source c s m)
unfolding clock_source ready_source
foretold_on c page free t rest s m f =
    let b = begun_page (opening s.core.row s.core.line s.core.column) s.control.ve m in
    record {
      page_is = b.0 ∙ f.page_is;
      free_is = λ i. b.1 (suc i) ∙ f.free_is (suc i) ∙ ap free (omega arith);
      rest_is = λ _. refl;
    }

-- a clock as a call
pub clock_call : (s : State) (m : Meaning) (c : Shape) → s.shape ≡ Some c → (call_state Clock s m ≡ clock_state c s m) × (call_source Clock s m ≡ clock_source c s m)
clock_call s m c e = (unfold call_state in ap (λ (o : Option Shape). clocked_by o s m) e, unfold call_source in ap (λ (o : Option Shape). source_by o s m) e)

kept_shape : (c : Shape) (s : State) (m : Meaning) → (clock_state c s m).shape ≡ s.shape
unfolding clock_state
kept_shape c s m = refl

abbrev Threads : Shape → List ℕ → (ℕ → Bool) → List Call → Type 0
Threads c page free cs =
    (t : ℕ) (rest : List ℕ) (s : State) (m : Meaning) → s.shape ≡ Some c → Foretold page free t rest m → Quiet (over cs s m) s → Found page free t rest (over cs s m) s

-- a call between the clocks leaves the source
thread_quiet : (c : Shape) (page : List ℕ) (free : ℕ → Bool) (cs : List Call) → Threads c page free cs
    → (t : ℕ) (rest : List ℕ) (s s₂ : State) (m : Meaning) → s.shape ≡ Some c → Foretold page free t rest m → Alike s s₂ → Quiet (over cs s₂ m) s₂ → Found page free (0 + t) rest (over cs s₂ m) s₂
thread_quiet c page free cs ih t rest s s₂ m e f a q =
    let z : t ≡ 0 + t = omega arith in
    subst (λ (n : ℕ). Found page free n rest (over cs s₂ m) s₂) z (ih t rest s₂ m (a.shape ∙ e) f q)

thread_call : (c : Shape) (page : List ℕ) (free : ℕ → Bool) (x : Call) (cs : List Call) → Threads c page free cs
    → (t : ℕ) (rest : List ℕ) (s : State) (m : Meaning) → s.shape ≡ Some c → Foretold page free t rest m
    → QuietCall x s (call_state x s m) → Quiet (over cs (call_state x s m) (call_source x s m)) (call_state x s m)
    → FoundBy x page free t rest m
    × Found page free (clock_count x + t) (rest_by x rest (call_source x s m)) (over cs (call_state x s m) (call_source x s m)) (call_state x s m)
unfolding call_source
thread_call c page free (Command b) cs ih t rest s m e f a q = (tt, thread_quiet c page free cs ih t rest s _ m e f a q)
thread_call c page free (Parameter b) cs ih t rest s m e f a q = (tt, thread_quiet c page free cs ih t rest s _ m e f a q)
thread_call c page free Status cs ih t rest s m e f a q = (tt, thread_quiet c page free cs ih t rest s _ m e f a q)
thread_call c page free Read cs ih t rest s m e f a q = (tt, thread_quiet c page free cs ih t rest s _ m e f a q)
thread_call c page free Stroke cs ih t rest s m e f a q = (tt, thread_quiet c page free cs ih t rest s _ m e f a q)
thread_call c page free Clock cs ih t rest s m e f a q =
    let src : source_by s.shape s m ≡ clock_source c s m = ap (λ (o : Option Shape). source_by o s m) e in
    let st : call_state Clock s m ≡ clock_state c s m = (clock_call s m c e).0 in
    let shape₂ : (call_state Clock s m).shape ≡ Some c = ap (λ (x : State). x.shape) st ∙ kept_shape c s m ∙ e in
    let g : Foretold page free (1 + t) (source_by s.shape s m).rest (source_by s.shape s m) =
    subst (λ (m₂ : Meaning). Foretold page free (1 + t) m₂.rest m₂) (sym src) (foretold_on c page free t rest s m f) in
    (found_here page free t rest m f, ih (1 + t) (source_by s.shape s m).rest (call_state Clock s m) (source_by s.shape s m) shape₂ g q)

thread : (c : Shape) (page : List ℕ) (free : ℕ → Bool) (cs : List Call) → Threads c page free cs
unfolding over
thread c page free [] t rest s m e f q = tt
thread c page free (x ∷ cs) t rest s m e f q = thread_call c page free x cs (thread c page free cs) t rest s m e f q.0 q.1

-- page and bus as the source means them at the frame's first clock
pub found_over : (c : Shape) (cs : List Call) (s : State) (m : Meaning) → s.shape ≡ Some c → Quiet (over cs s m) s → Found m.page m.free 0 [] (over cs s m) s
found_over c cs s m e q =
    thread c m.page m.free cs 0 [] s m e (record { page_is = refl; free_is = λ i. ap m.free (omega arith); rest_is = λ lt. absurd (omega arith) }) q

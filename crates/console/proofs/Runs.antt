-- A run of clocks in which nothing begins and no byte is asked for leads where the calls lead one by one.
use Rattle.std.proofs.Common.{◌≡◌, ℕ, zero, suc, ◌+◌, ◌-◌, ◌*◌, ◌≤◌, Bool, true, false, not, ◌&&◌, ◌||◌, eqb, ltb, List, [], ◌∷◌, ◌++◌, drop, Some, None, Option, sym, refl, ap, ◌∙◌, ⊎_elim, append_assoc, add-one, arith}
use Rattle.std.proofs.lemmas.Bool.{cases_Bool}
use Rattle.std.proofs.lemmas.Bool.Decides.{nat_tests}
use Rattle.std.proofs.Math.Bool.{or-false}
use Rattle.source.specs.Meaning.{Meaning, answer, clocked}
use Rattle.source.specs.Runs.{waited}
use Rattle.source.proofs.Draining.{wait_none, wait_first}
use Rattle.video.specs.Composition.{Shape, width}
use Rattle.video.specs.Picture.{bit}
use Rattle.rows.specs.Buffer.{full}
use Rattle.frame.specs.declared.call.Call.{Call}
use Rattle.frame.specs.declared.call.Call.TheVariants.{Clock}
use Rattle.frame.specs.declared.call.Answer.{Answer}
use Rattle.frame.specs.declared.call.Answer.TheVariants.{Word}
use Rattle.frame.specs.declared.flags.Flags.{Flags}
use Rattle.frame.specs.Ports.{Core, State}
use Rattle.frame.specs.Machine.{underrun, wants, pictured, fed, opening, late_now, overrun, requests, ready_core, ready_source, fed_core, next_core, next_flags, clock_state, clock_source, clock_word}
use Rattle.frame.specs.History.{clocked_by, source_by, word_by, call_state, call_source, call_answer, after, answers, over, source_after}
use Rattle.console.specs.Idle.{idled, Idle, idle_words, Clocks}
use Rattle.console.specs.Playing.{On}
use Rattle.console.specs.Steps.{with}
use Rattle.console.proofs.Plays.{after_more, source_more, answers_more}

-- the console n such clocks on
abbrev pub idle_state : ℕ → State → State
idle_state n s = with s (idled n s.core) s.flags

and_false : (a b : Bool) → (a && (b && false)) ≡ false
and_false a b = grind (arith, nat_tests)

not_both : (n : ℕ) → (eqb n 16 && eqb n 17) ≡ false
not_both n = grind (arith, nat_tests)

-- nothing begins with the clock, no byte is asked for, and the line goes on
record Still (c : Shape) (s : State) : Type 0 where
  begun : (eqb s.core.line 0 && eqb s.core.column 0) ≡ false
  unasked : wants s.core ≡ false
  inside : ltb (suc s.core.column) (width c) ≡ true

readied : (c : Shape) (s : State) → Still c s → ready_core c s ≡ s.core
unfolding ready_core
readied c s i = rw i.begun refl

source_readied : (c : Shape) (s : State) (m : Meaning) → Still c s → ready_source s m ≡ m
unfolding ready_source
source_readied c s m i = rw i.begun refl

unfed : (c : Shape) (s : State) (m : Meaning) → Still c s → fed_core c s m ≡ fed c s.core None
unfolding fed_core
unfed c s m i =
    let none : answer (ready_source s m) (wants (ready_core c s)) ≡ None = rw (source_readied c s m i, readied c s i, i.unasked) refl in
    ap (λ (k : Core). fed c k (answer (ready_source s m) (wants (ready_core c s)))) (readied c s i) ∙ ap (fed c s.core) none

next_is : (c : Shape) (s : State) (m : Meaning) → Still c s → next_core c s m ≡ idled 1 s.core
unfolding next_core
next_is c s m i = rw (unfed c s m i, i.inside) (simp add-one)

kept : (f : Flags) (a b d : Bool) → a ≡ false → b ≡ false → d ≡ false
    → ◌≡◌ {A = Flags} (record { ir = f.ir || a; lp = f.lp; ic = f.ic; du = f.du || b; fo = f.fo || d }) f
kept f a b d e g h = rw (e, g, h, or-false f.ir, or-false f.du, or-false f.fo) refl

none_requested : (c : Shape) (s : State) → Still c s → requests c s ≡ false
none_requested c s i = rw (i.begun, and_false s.control.ie (eqb s.core.row c.r)) refl

flags_are : (c : Shape) (s : State) (m : Meaning) → Still c s → next_flags c s m ≡ s.flags
unfolding next_flags
flags_are c s m i =
    let late : late_now (opening s.core.row s.core.line s.core.column) s.core ≡ false = rw i.begun refl in
    let more : overrun (ready_core c s).fill (fed_core c s m).fill ≡ false = rw (unfed c s m i, readied c s i) (not_both s.core.fill.show.pairs) in
    kept s.flags (requests c s) _ _ (none_requested c s i) late more

state_is : (c : Shape) (s : State) (m : Meaning) → Still c s → clock_state c s m ≡ idle_state 1 s
unfolding clock_state
state_is c s m i = rw (next_is c s m i, flags_are c s m i) refl

source_is : (c : Shape) (s : State) (m : Meaning) → Still c s → clock_source c s m ≡ clocked m false
unfolding clock_source
source_is c s m i = rw (readied c s i, source_readied c s m i, i.unasked) refl

word_is : (c : Shape) (s : State) → Still c s → clock_word c s ≡ pictured c s.cursor s.core + 0x800000 * bit s.flags.ir
unfolding clock_word
word_is c s i = rw (readied c s i, none_requested c s i, or-false s.flags.ir, i.unasked) (omega arith)

-- one such clock, as a call
record Idled (s : State) (m : Meaning) (w : ℕ) : Type 0 where
  state : call_state Clock s m ≡ idle_state 1 s
  source : call_source Clock s m ≡ clocked m false
  answer_is : call_answer Clock s ≡ Word w

one : (c : Shape) (s : State) (m : Meaning) → s.shape ≡ Some c → Still c s → Idled s m (pictured c s.cursor s.core + 0x800000 * bit s.flags.ir)
unfolding call_state call_source call_answer
one c s m e i =
    record {
      state = ap (λ (o : Option Shape). clocked_by o s m) e ∙ state_is c s m i;
      source = ap (λ (o : Option Shape). source_by o s m) e ∙ source_is c s m i;
      answer_is = ap (λ (o : Option Shape). word_by o s) e ∙ ap Word (word_is c s i);
    }

-- nothing is asked for in the first of some such clocks
first_unasked : (k : Core) (n : ℕ) → (underrun k ≡ true → suc n ≤ k.gap) → wants k ≡ false
first_unasked k n h =
    ⊎_elim
    (λ (u : underrun k ≡ true). let g = h u in let z : eqb k.gap 0 ≡ false = grind (arith, nat_tests) in asked k.armed k.dark (full k.fill.take) (eqb k.gap 0) z)
    (λ (u : underrun k ≡ false). idle k.armed k.dark (full k.fill.take) (eqb k.gap 0) u)
    (cases_Bool (underrun k))
  where
    asked : (a d f g : Bool) → g ≡ false → (a && (not d && (not f && g))) ≡ false
    asked a d f g e = grind (arith, nat_tests)

    idle : (a d f g : Bool) → (a && (not d && not f)) ≡ false → (a && (not d && (not f && g))) ≡ false
    idle a d f g e = grind (arith, nat_tests)

still : (c : Shape) (s : State) (n : ℕ) → Idle c s.core (suc n) → Still c s
still c s n i =
    let b = i.inside in
    record { begun = i.begun (omega arith); unasked = first_unasked s.core n i.unasked; inside = grind (arith, nat_tests) }

next_idle : (c : Shape) (s : State) (n : ℕ) → Idle c s.core (suc n) → Idle c (idled 1 s.core) n
next_idle c s n i =
    let b = i.inside in
    record {
      begun = λ h. behind (eqb s.core.line 0) s.core.column;
      inside = omega arith;
      unasked = λ u. let g = i.unasked u in omega arith;
    }
  where
    behind : (a : Bool) (p : ℕ) → (a && eqb (p + 1) 0) ≡ false
    behind a p = grind (arith, nat_tests)

idled_none : (k : Core) → idled 0 k ≡ k
idled_none k = let a : k.column + 0 ≡ k.column = omega arith in let b : k.gap - 0 ≡ k.gap = omega arith in rw (a, b) refl

idled_more : (n : ℕ) (k : Core) → idled n (idled 1 k) ≡ idled (suc n) k
idled_more n k =
    let a : k.column + 1 + n ≡ k.column + suc n = omega arith in
    let b : k.gap - 1 - n ≡ k.gap - suc n = omega arith in
    rw (a, b) refl

-- the calls behind n of them lead from there where all lead
record Runs (n : ℕ) (cs : List Call) (c : Shape) (s : State) (m : Meaning) : Type 0 where
  state : after (over cs s m) s ≡ after (over (drop n cs) (idle_state n s) (waited n m)) (idle_state n s)
  source : source_after cs s m ≡ source_after (drop n cs) (idle_state n s) (waited n m)
  words : answers (over cs s m) s ≡ idle_words c s.cursor s.flags.ir n s.core ++ answers (over (drop n cs) (idle_state n s) (waited n m)) (idle_state n s)

runs_on : (n : ℕ) (xs : List Call) (c : Shape) (s : State) (m : Meaning) → Idled s m (pictured c s.cursor s.core + 0x800000 * bit s.flags.ir)
    → Runs n xs c (idle_state 1 s) (clocked m false) → Runs (suc n) (Clock ∷ xs) c s m
runs_on n xs c s m o r =
    let w : Answer = Word (pictured c s.cursor s.core + 0x800000 * bit s.flags.ir) in
    let k : idle_state n (idle_state 1 s) ≡ idle_state (suc n) s = ap (λ (x : Core). with s x s.flags) (idled_more n s.core) in
    let l : waited n (clocked m false) ≡ waited (suc n) m = wait_first n m in
    record {
      state = after_more Clock xs s m ∙ (rw (o.state, o.source) (r.state ∙ (rw (k, l) refl)));
      source = source_more Clock xs s m ∙ (rw (o.state, o.source) (r.source ∙ (rw (k, l) refl)));
      words = answers_more Clock xs s m ∙ (rw (o.state, o.source, o.answer_is) (ap (λ (ws : List Answer). w ∷ ws) (r.words ∙ (rw (k, l) refl))));
    }

runs : (n : ℕ) (cs : List Call) (c : Shape) (s : State) (m : Meaning) → s.shape ≡ Some c → Idle c s.core n → Clocks n cs → Runs n cs c s m
runs zero cs c s m e i h =
    let k : idle_state 0 s ≡ s = ap (λ (x : Core). with s x s.flags) (idled_none s.core) in
    let l : waited 0 m ≡ m = sym (wait_none m) in
    record { state = rw (k, l) refl; source = rw (k, l) refl; words = rw (k, l) refl }
runs (suc n) [] c s m e i h = absurd (let z = h.enough in omega arith)
runs (suc n) (x ∷ xs) c s m e i h =
    let first : x ≡ Clock = h.each 0 (omega arith) in
    let rest : Clocks n xs = record { enough = (let z = h.enough in omega arith); each = λ j b. h.each (suc j) (omega arith) } in
    rw first (runs_on n xs c s m (one c s m e (still c s n i)) (runs n xs c (idle_state 1 s) (clocked m false) e (next_idle c s n i) rest))

pub run_on : (n : ℕ) (cs : List Call) (c : Shape) (s s₂ : State) (m m₂ : Meaning) (out out₂ : List Answer) → s.shape ≡ Some c → Idle c s.core n → Clocks n cs
    → s₂ ≡ idle_state n s → m₂ ≡ waited n m → out₂ ≡ out ++ idle_words c s.cursor s.flags.ir n s.core → On (drop n cs) s₂ m₂ out₂ cs s m out
run_on n cs c s s₂ m m₂ out out₂ e i h es em eo =
    let r = runs n cs c s m e i h in
    rw (es, em, eo)
    (record {
      state = sym r.state;
      source = sym r.source;
      all = append_assoc out (idle_words c s.cursor s.flags.ir n s.core) (answers (over (drop n cs) (idle_state n s) (waited n m)) (idle_state n s))
          ∙ ap (λ (ws : List Answer). out ++ ws) (sym r.words);
    })

-- fewer of them
pub fewer : (c : Shape) (k : Core) (n m : ℕ) → m ≤ n → Idle c k n → Idle c k m
fewer c k n m l i =
    let b = i.inside in
    record { begun = λ h. i.begun (omega arith); inside = omega arith; unasked = λ u. let g = i.unasked u in omega arith }

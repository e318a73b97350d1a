-- What a loop over calls keeps, and the law for calls over one source.
use Rattle.std.proofs.Common.{◌≡◌, ℕ, List, [], ◌∷◌, ◌++◌, length, drop, Some, None, Option, sym, refl, ap, ◌∙◌, subst, append_assoc, append-nil, arith}
use Rattle.std.proofs.Math.Seq.{drop-append_seam}
use Rattle.refusal.specs.declared.Refusal.{Refusal}
use Rattle.source.specs.Meaning.{Meaning}
use Rattle.video.specs.Composition.{Shape}
use Rattle.frame.specs.declared.call.Call.{Call}
use Rattle.frame.specs.declared.call.Answer.{Answer}
use Rattle.frame.specs.Ports.{State, new}
use Rattle.frame.specs.History.{Moment, word_by, done, told, worded, stroke_answer, call_state, call_source, call_answer, after, answers, over, source_after, words}
use Rattle.frame.specs.Law.{Ready, Quiet, Found, clocks, Law}
use Rattle.frame.proofs.Lawful.{frame_law}
use Rattle.frame.proofs.Threads.{found_over}
use Rattle.console.specs.Answers.{answer, clock_answer, stroke_refusal}
use Rattle.console.specs.Playing.{Played, On, Lawful}

-- a refusal or none, as the calls and as the rules answer it
pub told_is : (o : Option Refusal) → told (answer o) ≡ done o
told_is None = refl
told_is (Some e) = refl

pub told_stroke : (o : Option Shape) → told (answer (stroke_refusal o)) ≡ stroke_answer o
told_stroke None = refl
told_stroke (Some c) = refl

-- a clock answers its word or its refusal
pub worded_is : (o : Option Shape) (s : State) → worded (clock_answer o s) ≡ word_by o s
worded_is None s = refl
worded_is (Some c) s = refl

pub after_more : (x : Call) (cs : List Call) (s : State) (m : Meaning) → after (over (x ∷ cs) s m) s ≡ after (over cs (call_state x s m) (call_source x s m)) (call_state x s m)
unfolding after over
after_more x cs s m = refl

pub source_more : (x : Call) (cs : List Call) (s : State) (m : Meaning) → source_after (x ∷ cs) s m ≡ source_after cs (call_state x s m) (call_source x s m)
unfolding source_after
source_more x cs s m = refl

pub answers_more : (x : Call) (cs : List Call) (s : State) (m : Meaning) → answers (over (x ∷ cs) s m) s ≡ call_answer x s ∷ answers (over cs (call_state x s m) (call_source x s m)) (call_state x s m)
unfolding answers over
answers_more x cs s m = refl

pub on_more :
    (xs : List Call) (x : Call) (cs : List Call) (s s₂ : State) (m m₂ : Meaning) (out out₂ : List Answer) (cs₀ : List Call) (s₀ : State) (m₀ : Meaning) (out₀ : List Answer)
    → On xs s m out cs₀ s₀ m₀ out₀ → xs ≡ x ∷ cs → s₂ ≡ call_state x s m → m₂ ≡ call_source x s m → out₂ ≡ out ++ call_answer x s ∷ []
    → On cs s₂ m₂ out₂ cs₀ s₀ m₀ out₀
on_more xs x cs s s₂ m m₂ out out₂ cs₀ s₀ m₀ out₀ on e es em eo =
    let rest : List Answer = answers (over cs (call_state x s m) (call_source x s m)) (call_state x s m) in
    rw (es, em, eo)
    (record {
      state = sym (after_more x cs s m) ∙ ap (λ (ys : List Call). after (over ys s m) s) (sym e) ∙ on.state;
      source = sym (source_more x cs s m) ∙ ap (λ (ys : List Call). source_after ys s m) (sym e) ∙ on.source;
      all = append_assoc out (call_answer x s ∷ []) rest
          ∙ ap (λ (ws : List Answer). out ++ ws) (sym (answers_more x cs s m) ∙ ap (λ (ys : List Call). answers (over ys s m) s) (sym e))
          ∙ on.all;
    })

pub on_end :
    (xs : List Call) (s : State) (m : Meaning) (out : List Answer) (cs₀ : List Call) (s₀ : State) (m₀ : Meaning) (out₀ : List Answer)
    → length xs ≡ 0 → On xs s m out cs₀ s₀ m₀ out₀ → Played s₀ m₀ cs₀ out₀ s m out
unfolding after over source_after answers
on_end [] s m out cs₀ s₀ m₀ out₀ e on = record { state = on.state; source = on.source; answers_are = sym (append-nil out) ∙ on.all }
on_end (x ∷ xs) s m out cs₀ s₀ m₀ out₀ e on = absurd (omega arith)

-- none of the calls that are left were played at once: one by itself
pub on_one :
    (n : ℕ) (xs : List Call) (x : Call) (cs : List Call) (s s₁ s₂ : State) (m m₁ m₂ : Meaning) (out out₁ out₂ : List Answer)
    (cs₀ : List Call) (s₀ : State) (m₀ : Meaning) (out₀ : List Answer)
    → n ≡ 0 → On (drop n xs) s₁ m₁ out₁ xs s m out → On xs s m out cs₀ s₀ m₀ out₀ → xs ≡ x ∷ cs
    → s₂ ≡ call_state x s₁ m₁ → m₂ ≡ call_source x s₁ m₁ → out₂ ≡ out₁ ++ call_answer x s₁ ∷ [] → On cs s₂ m₂ out₂ cs₀ s₀ m₀ out₀
on_one n xs x cs s s₁ s₂ m m₁ m₂ out out₁ out₂ cs₀ s₀ m₀ out₀ z a b e es em eo =
    on_more (drop n xs) x cs s₁ s₂ m₁ m₂ out₁ out₂ cs₀ s₀ m₀ out₀
    (record { state = a.state ∙ b.state; source = a.source ∙ b.source; all = a.all ∙ b.all }) (ap (λ (k : ℕ). drop k xs) z ∙ e) es em eo

-- histories one behind another
after_append : (es xs : List Moment) (s : State) → after (es ++ xs) s ≡ after xs (after es s)
unfolding after
after_append [] xs s = refl
after_append (e ∷ es) xs s = after_append es xs (call_state e.call s e.found)

answers_append : (es xs : List Moment) (s : State) → answers (es ++ xs) s ≡ answers es s ++ answers xs (after es s)
unfolding after answers
answers_append [] xs s = refl
answers_append (e ∷ es) xs s = ap (λ (l : List Answer). call_answer e.call s ∷ l) (answers_append es xs (call_state e.call s e.found))

pub lawful : (s : State) (m : Meaning) (cs : List Call) (out : List Answer) (e : State) (m₂ : Meaning) (out₂ : List Answer) → Played s m cs out e m₂ out₂ → Lawful s m cs out e out₂
lawful s m cs out e m₂ out₂ p =
    let tail : drop (length out) out₂ ≡ answers (over cs s m) s = ap (drop (length out)) p.answers_are ∙ drop-append_seam out (answers (over cs s m) s) in
    record {
      alone = λ h c is r q room.
          let r₂ : Ready c (after h new) = subst (Ready c) is r in
          let q₂ : Quiet (over cs s m) (after h new) = subst (Quiet (over cs s m)) is q in
          let f : Found m.page m.free 0 [] (over cs s m) (after h new) =
          subst (Found m.page m.free 0 [] (over cs s m)) is
          (found_over c cs s m r.composed q) in
          let l = frame_law c h (over cs s m) m.page m.free r₂ q₂ f room in
          rw (p.state, tail) (subst (λ (x : State). Law c x m.page m.free (clocks (over cs s m)) (after (over cs s m) x) (words (answers (over cs s m) x))) (sym is) l);
      resumed = λ h es c page free is r q f room.
          let l = frame_law c h (es ++ over cs s m) page free r q f room in
          let a : after (es ++ over cs s m) (after h new) ≡ e = after_append es (over cs s m) (after h new) ∙ ap (after (over cs s m)) (sym is) ∙ sym p.state in
          let b : answers (es ++ over cs s m) (after h new) ≡ answers es (after h new) ++ drop (length out) out₂ =
          answers_append es (over cs s m) (after h new)
          ∙ ap (λ (x : State). answers es (after h new) ++ answers (over cs s m) x) (sym is)
          ∙ ap (λ (l : List Answer). answers es (after h new) ++ l) (sym tail) in
          subst (λ (x : State). Law c (after h new) page free (clocks (es ++ over cs s m)) x (words (answers es (after h new) ++ drop (length out) out₂))) a
          (subst (λ (y : List Answer). Law c (after h new) page free (clocks (es ++ over cs s m)) (after (es ++ over cs s m) (after h new)) (words y)) b l);
    }

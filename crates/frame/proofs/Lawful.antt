-- The law of a frame.
use Rattle.std.proofs.Common.{◌≡◌, ℕ, zero, suc, ◌+◌, ◌*◌, ◌<◌, ◌≤◌, Bool, true, false, List, [], ◌∷◌, length, get_or, Some, None, Option, sym, refl, ap, ◌∙◌, subst, mul_comm, arith}
use Rattle.std.proofs.lemmas.Bool.{lt-leb, not-true, and_parts, and_from, or_parts, or_from, not_from_false, leb-false}
use Rattle.refusal.specs.declared.Refusal.{Refusal}
use Rattle.source.specs.Meaning.{Meaning}
use Rattle.video.specs.Composition.{Shape, Proper}
use Rattle.rows.specs.Page.{row}
use Rattle.frame.specs.declared.call.Call.{Call}
use Rattle.frame.specs.declared.call.Call.TheVariants.{Command, Parameter, Status, Read, Stroke, Clock}
use Rattle.frame.specs.declared.call.Answer.{Answer}
use Rattle.frame.specs.declared.call.Answer.TheVariants.{Byte, Word}
use Rattle.frame.specs.Ports.{Bursts, State, new, command_refusal, parameter_refusal, status_byte, parameter_byte}
use Rattle.frame.specs.Timing.{line_clocks, span, total, overdue, late, in_time}
use Rattle.frame.specs.Machine.{clock_state, clock_source, clock_word}
use Rattle.frame.specs.History.{Moment, word_by, stroke_answer, done, call_state, call_source, call_answer, after, answers, words}
use Rattle.frame.specs.Law.{at_start, Ready, Alike, QuietCall, Quiet, clock_count, clocks, FoundAt, FoundBy, Found, rest_by, picture_bits, place, Played, Equal, Law, FrameLaw}
use Rattle.frame.proofs.Takes.{takes_mono}
use Rattle.frame.proofs.Frames.{line_clocks_is}
use Rattle.frame.proofs.Sound.{history_proper}
use Rattle.frame.proofs.Threads.{clock_call}
use Rattle.frame.proofs.Walks.{At, Seen, number, begun_at, clock_on, at_alike, seen}

-- answers that are no words
words_done : (o : Option Refusal) (xs : List Answer) → words (done o ∷ xs) ≡ words xs
words_done None xs = refl
words_done (Some e) xs = refl

words_stroke : (o : Option Shape) (xs : List Answer) → words (stroke_answer o ∷ xs) ≡ words xs
words_stroke None xs = refl
words_stroke (Some c) xs = refl

-- moments from clock t of a frame on
pub record Walked (c : Shape) (b : Bursts) (q : Option (ℕ × ℕ)) (page : List ℕ) (free : ℕ → Bool) (blink t n : ℕ) (e : State) (ws : List ℕ) : Type 0 where
  pub ends : t + n ≡ total c → at_start e.core ≡ true
  pub mids : 0 < t + n → t + n < total c → at_start e.core ≡ false
  pub size : length ws ≡ n
  pub at : (i : ℕ) → i < n → (j l p : ℕ) → l < c.l → p < line_clocks c → t + i ≡ number c j l p → Seen c b q page free blink j l p (t + i) (get_or ws i 0)

abbrev Walks : Shape → Bursts → Option (ℕ × ℕ) → List ℕ → (ℕ → Bool) → (blink : ℕ) → List Moment → Type 0
Walks c b q page free blink es =
    (t : ℕ) (rest : List ℕ) (s : State) → At c b q page free blink t rest s → Quiet es s → Found page free t rest es s → t + clocks es ≤ total c
    → Walked c b q page free blink t (clocks es) (after es s) (words (answers es s))

-- a call between the clocks
quiet :
    (c : Shape) (b : Bursts) (q : Option (ℕ × ℕ)) (page : List ℕ) (free : ℕ → Bool) (blink : ℕ) (es : List Moment) → Walks c b q page free blink es
    → (t : ℕ) (rest : List ℕ) (s s₂ : State) (x : Answer) → At c b q page free blink t rest s → Alike s s₂ → Quiet es s₂ → Found page free (0 + t) rest es s₂ → t + (0 + clocks es) ≤ total c
    → words (x ∷ answers es s₂) ≡ words (answers es s₂)
    → Walked c b q page free blink t (0 + clocks es) (after es s₂) (words (x ∷ answers es s₂))
quiet c b q page free blink es ih t rest s s₂ x a e h f room ew =
    let z : 0 + t ≡ t = omega arith in
    let z₂ : 0 + clocks es ≡ clocks es = omega arith in
    rw (ew, z₂) (ih t rest s₂ (at_alike c b q page free blink t rest s s₂ a e) h (subst (λ (n : ℕ). Found page free n rest es s₂) z f) (omega arith))

-- a clock
first_or_later :
    (c : Shape) (b : Bursts) (q : Option (ℕ × ℕ)) (page : List ℕ) (free : ℕ → Bool) (blink t n w : ℕ) (e : State) (ws : List ℕ)
    → ((j l p : ℕ) → l < c.l → p < line_clocks c → t ≡ number c j l p → Seen c b q page free blink j l p t w)
    → Walked c b q page free blink (suc t) n e ws
    → (i : ℕ) → i < suc n → (j l p : ℕ) → l < c.l → p < line_clocks c → t + i ≡ number c j l p → Seen c b q page free blink j l p (t + i) (get_or (w ∷ ws) i 0)
first_or_later c b q page free blink t n w e ws now y zero h j l p hl hp g =
    let z : t + 0 ≡ t = omega arith in rw z (now j l p hl hp (omega arith))
first_or_later c b q page free blink t n w e ws now y (suc i) h j l p hl hp g =
    let z : t + suc i ≡ suc t + i = omega arith in rw z (y.at i (omega arith) j l p hl hp (omega arith))

tick :
    (c : Shape) (b : Bursts) (q : Option (ℕ × ℕ)) (page : List ℕ) (free : ℕ → Bool) (blink : ℕ) (es : List Moment) → Proper c → Walks c b q page free blink es
    → (t : ℕ) (rest : List ℕ) (s : State) (m : Meaning) → At c b q page free blink t rest s → Quiet es (clock_state c s m) → FoundAt page free t rest m
    → Found page free (1 + t) (clock_source c s m).rest es (clock_state c s m) → t + (1 + clocks es) ≤ total c
    → Walked c b q page free blink t (1 + clocks es) (after es (clock_state c s m)) (clock_word c s ∷ words (answers es (clock_state c s m)))
tick c b q page free blink es pr ih t rest s m a h now f room =
    let lt : t < total c = omega arith in
    let z : 1 + t ≡ suc t = omega arith in
    let z₂ : 1 + clocks es ≡ suc (clocks es) = omega arith in
    let y = ih (suc t) (clock_source c s m).rest (clock_state c s m) (clock_on c b q page free blink t rest s m a lt now) h
    (subst (λ (n : ℕ). Found page free n (clock_source c s m).rest es (clock_state c s m)) z f) (omega arith) in
    rw z₂ (record {
      ends = λ g. y.ends (omega arith);
      mids = λ u v. y.mids (omega arith) (omega arith);
      size = ap suc y.size;
      at = first_or_later c b q page free blink t (clocks es) (clock_word c s) (after es (clock_state c s m)) (words (answers es (clock_state c s m)))
          (λ j l p hl hp g. seen c b q page free blink t rest s pr a lt j l p hl hp g) y;
    })

by_call :
    (c : Shape) (b : Bursts) (q : Option (ℕ × ℕ)) (page : List ℕ) (free : ℕ → Bool) (blink : ℕ) (x : Call) (m : Meaning) (es : List Moment) → Proper c → Walks c b q page free blink es
    → (t : ℕ) (rest : List ℕ) (s : State) → At c b q page free blink t rest s
    → QuietCall x s (call_state x s m) → Quiet es (call_state x s m)
    → FoundBy x page free t rest m → Found page free (clock_count x + t) (rest_by x rest (call_source x s m)) es (call_state x s m)
    → t + (clock_count x + clocks es) ≤ total c
    → Walked c b q page free blink t (clock_count x + clocks es) (after es (call_state x s m)) (words (call_answer x s ∷ answers es (call_state x s m)))
unfolding call_answer
by_call c b q page free blink (Command n) m es pr ih t rest s a e h now f room =
    quiet c b q page free blink es ih t rest s _ (done (command_refusal n)) a e h f room (words_done (command_refusal n) _)
by_call c b q page free blink (Parameter n) m es pr ih t rest s a e h now f room =
    quiet c b q page free blink es ih t rest s _ (done (parameter_refusal s n)) a e h f room (words_done (parameter_refusal s n) _)
by_call c b q page free blink Status m es pr ih t rest s a e h now f room =
    quiet c b q page free blink es ih t rest s _ (Byte (status_byte s)) a e h f room refl
by_call c b q page free blink Read m es pr ih t rest s a e h now f room =
    quiet c b q page free blink es ih t rest s _ (Byte (parameter_byte s)) a e h f room refl
by_call c b q page free blink Stroke m es pr ih t rest s a e h now f room =
    quiet c b q page free blink es ih t rest s _ (stroke_answer s.shape) a e h f room (words_stroke s.shape _)
by_call c b q page free blink Clock m es pr ih t rest s a e h now f room =
    let call = clock_call s m c a.composed in
    let st = call.0 in
    let src = call.1 in
    let ans : word_by s.shape s ≡ Word (clock_word c s) = ap (λ (o : Option Shape). word_by o s) a.composed in
    let h₂ : Quiet es (clock_state c s m) = subst (Quiet es) st h in
    let f₂ : Found page free (1 + t) (clock_source c s m).rest es (clock_state c s m) =
    subst (λ (s₂ : State). Found page free (1 + t) (clock_source c s m).rest es s₂) st (subst (λ (m₂ : Meaning). Found page free (1 + t) m₂.rest es (call_state Clock s m)) src f) in
    rw (ans, st) (tick c b q page free blink es pr ih t rest s m a h₂ now f₂ room)

pub walk : (c : Shape) (b : Bursts) (q : Option (ℕ × ℕ)) (page : List ℕ) (free : ℕ → Bool) (blink : ℕ) (es : List Moment) → Proper c → Walks c b q page free blink es
unfolding after answers
walk c b q page free blink [] pr t rest s a h f room =
    record {
      ends = λ e. a.last (omega arith);
      mids = λ u v. a.not_first (omega arith) (omega arith);
      size = refl;
      at = λ i lt. absurd (omega arith);
    }
walk c b q page free blink (e ∷ es) pr t rest s a h f room =
    by_call c b q page free blink e.call e.found es pr (walk c b q page free blink es pr) t rest s a h.0 h.1 f.0 f.1 room

-- a row that is in time over one bus is in time over one that is free wherever that is
late_less :
    (c : Shape) (b : Bursts) (page : List ℕ) (f g : ℕ → Bool) (i : ℕ) → ((t : ℕ) → t < total c → f t ≡ true → g t ≡ true) → late c b page f (suc i) ≡ false → late c b page g (suc i) ≡ false
unfolding late
late_less c b page f g i more h =
    let p = or_parts _ _ h in
    or_from _ _ p.0 (go (row c b.n page (suc i)).taken p.1)
  where
    go : (k : ℕ) → overdue f (total c) b (i * span c) (suc i * span c) k ≡ false → overdue g (total c) b (i * span c) (suc i * span c) k ≡ false
    go zero e = refl
    go (suc k) e =
        let x = leb-false _ _ e in
        let y = takes_mono f g (total c) b (i * span c) more k in
        lt-leb _ _ (omega arith)

in_time_more : (c : Shape) (b : Bursts) (page : List ℕ) (f g : ℕ → Bool) (j : ℕ) → ((t : ℕ) → t < total c → f t ≡ true → g t ≡ true) → in_time c b page f j ≡ true → in_time c b page g j ≡ true
unfolding in_time
in_time_more c b page f g zero more h = refl
in_time_more c b page f g (suc i) more h =
    let p = and_parts _ _ h in
    and_from _ _ (in_time_more c b page f g i more p.0) (not_from_false _ (late_less c b page f g i more (not-true _ p.1)))

-- the law's words for the frame's measures
span_product : (c : Shape) → (c.h + c.z) * c.l ≡ span c
unfolding span line_clocks
span_product c = mul_comm (c.h + c.z) c.l

total_product : (c : Shape) → (c.h + c.z) * c.l * (c.r + c.v) ≡ total c
unfolding total
total_product c = mul_comm ((c.h + c.z) * c.l) (c.r + c.v) ∙ ap (λ (k : ℕ). (c.r + c.v) * k) (span_product c)

place_is : (c : Shape) (j l p : ℕ) → place c j l p ≡ number c j l p
unfolding line_clocks
place_is c j l p = ap (λ (k : ℕ). j * k + l * (c.h + c.z) + p) (span_product c)

-- what was seen at a place
seen_at :
    (c : Shape) (b : Bursts) (q : Option (ℕ × ℕ)) (page : List ℕ) (free : ℕ → Bool) (blink n : ℕ) (e : State) (ws : List ℕ) → Walked c b q page free blink 0 n e ws
    → (j l p : ℕ) → Played c n j l p → Seen c b q page free blink j l p (place c j l p) (get_or ws (place c j l p) 0)
seen_at c b q page free blink n e ws w j l p h =
    let z : 0 + place c j l p ≡ place c j l p = omega arith in
    let y = line_clocks_is c in
    subst (λ (t : ℕ). Seen c b q page free blink j l p t (get_or ws (place c j l p) 0)) z
    (w.at (place c j l p) h.2 j l p h.0 (let x = h.1 in omega arith) (z ∙ place_is c j l p))

freer_law :
    (c : Shape) (s : State) (page : List ℕ) (free : ℕ → Bool) (n : ℕ) (e : State) (ws : List ℕ) → Proper c → Walked c s.control.bursts s.cursor page free s.core.blink 0 n e ws
    → (s₂ : State) (es₂ : List Moment) (free₂ : ℕ → Bool) → Ready c s₂ → Equal s s₂ → ((t : ℕ) → t < (c.h + c.z) * c.l * (c.r + c.v) → free t ≡ true → free₂ t ≡ true)
    → Quiet es₂ s₂ → Found page free₂ 0 [] es₂ s₂ → clocks es₂ ≤ (c.h + c.z) * c.l * (c.r + c.v)
    → (j : ℕ) → j ≤ c.r → in_time c s.control.bursts page free j ≡ true
    → (in_time c s₂.control.bursts page free₂ j ≡ true)
    × ((line p : ℕ) → 1 ≤ j → Played c n j line p → Played c (clocks es₂) j line p
    → picture_bits (get_or ws (place c j line p) 0) ≡ picture_bits (get_or (words (answers es₂ s₂)) (place c j line p) 0))
freer_law c s page free n e ws pr w s₂ es₂ free₂ r₂ eq more h₂ f₂ room j le ok =
    let b₂ : Bursts = s₂.control.bursts in
    let u = in_time_more c s.control.bursts page free free₂ j (λ t lt. more t (let z = total_product c in omega arith)) ok in
    let u₂ : in_time c b₂ page free₂ j ≡ true = rw eq.bursts u in
    let w₂ = walk c b₂ s₂.cursor page free₂ s₂.core.blink es₂ pr 0 [] s₂ (begun_at c s₂ page free₂ pr r₂) h₂ f₂ (let z = total_product c in omega arith) in (
      u₂,
      λ line p one a a₂.
          (seen_at c s.control.bursts s.cursor page free s.core.blink n e ws w j line p a).shows one le ok
          ∙ (rw (← eq.bursts, ← eq.cursor, ← eq.blink) refl)
          ∙ sym ((seen_at c b₂ s₂.cursor page free₂ s₂.core.blink (clocks es₂) _ _ w₂ j line p a₂).shows one le u₂),
    )

pub law :
    (c : Shape) (s : State) (es : List Moment) (page : List ℕ) (free : ℕ → Bool) → Proper c → Ready c s → Quiet es s → Found page free 0 [] es s
    → clocks es ≤ (c.h + c.z) * c.l * (c.r + c.v) → Law c s page free (clocks es) (after es s) (words (answers es s))
law c s es page free pr r h f room =
    let b : Bursts = s.control.bursts in
    let e = total_product c in
    let w = walk c b s.cursor page free s.core.blink es pr 0 [] s (begun_at c s page free pr r) h f (omega arith) in
    let at = seen_at c b s.cursor page free s.core.blink (clocks es) (after es s) (words (answers es s)) w in
    record {
      lasts = λ g. w.ends (omega arith);
      not_before = λ u v. w.mids (omega arith) (omega arith);
      one_each = w.size;
      shows = λ j l p x one le ok. (at j l p x).shows one le ok;
      dark = λ j l p x le ok. (at j l p x).dark le ok;
      retrace = λ j l p x v. (at j l p x).retrace v;
      asks = λ j l p x. (at j l p x).asks;
      freer = λ h₂ es₂ free₂ r₂ eq more q₂ f₂ room₂ j le ok.
          freer_law c s page free (clocks es) (after es s) (words (answers es s)) pr w (after h₂ new) es₂ free₂ r₂ eq more q₂ f₂ room₂ j le ok;
    }

pub frame_law : FrameLaw
frame_law c h es page free r q f room = law c (after h new) es page free (history_proper h c r.composed) r q f room

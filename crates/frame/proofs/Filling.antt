-- The row that is being taken: what its clocks keep.
use Rattle.std.proofs.Common.{◌≡◌, ℕ, zero, suc, ◌+◌, ◌-◌, ◌*◌, ◌<◌, ◌≤◌, Bool, true, false, not, ◌&&◌, ◌||◌, eqb, leb, ◌⊎◌, List, [], ◌∷◌, length, drop, Some, None, Option, sym, refl, ap, ◌∙◌, inl, inr, ⊎_elim, arith, length-drop, drop-drop}
use Rattle.std.proofs.lemmas.Bool.{cases_lt, cases_Bool, le-leb, lt-leb}
use Rattle.std.proofs.lemmas.Bool.Decides.{nat_tests}
use Rattle.std.proofs.lemmas.Option.{none-some}
use Rattle.source.specs.Meaning.{handed, left}
use Rattle.video.specs.Composition.{Shape}
use Rattle.rows.specs.Page.{blank, row}
use Rattle.rows.specs.Buffer.{Buffer, Shown, Reading, full, eat, took, fresh, reads}
use Rattle.rows.specs.Stands.{Stands, Columns}
use Rattle.rows.proofs.Takes.{reads_full, reads_more, reads_none}
use Rattle.rows.proofs.Chain.{row_step, row_short, row_left, place_next}
use Rattle.frame.specs.Ports.{Bursts, Core}
use Rattle.frame.specs.Timing.{span, total, first_free, pause, opens, takes, overdue, late, asked, asked_of}
use Rattle.frame.specs.Machine.{fed}
use Rattle.frame.proofs.Takes.{first_hit, first_miss, first_from, takes_up, takes_is, opens_is, opens_up}
use Rattle.frame.proofs.Asks.{asked_past, asked_is, open_is}

-- at clock t of row time i, row i + 1 is being taken
pub record Filling (c : Shape) (b : Bursts) (page : List ℕ) (free : ℕ → Bool) (i t gap : ℕ) (fill : Buffer) (rest : List ℕ) : Type 0 where
  pub place : ℕ
  pub over : Bool
  pub above : Shown
  pub stands : Stands c b.n page i place over above
  pub same : reads c.f b.n fill rest ≡ reads c.f b.n (fresh c.h (blank c (suc i)) over above) (drop place page)
  pub count : fill.take.taken + length rest ≡ length (drop place page)
  pub opened : gap ≡ opens free (total c) b (i * span c) fill.take.taken - t
  pub due : 0 < length rest → full fill.take ≡ false → takes free (total c) b (i * span c) fill.take.taken ≡ first_free free (total c) (t + gap)
  pub past : (j : ℕ) → j < fill.take.taken → takes free (total c) b (i * span c) j < t

pub taken_eat : (f : Bool) (n : ℕ) (x : Buffer) (a : ℕ) → (eat f n x a).take.taken ≡ suc x.take.taken
unfolding eat took
taken_eat f n x a = refl

-- a clock in which the row takes nothing
wait :
    (c : Shape) (b : Bursts) (page : List ℕ) (free : ℕ → Bool) (i t gap : ℕ) (fill : Buffer) (rest : List ℕ)
    → Filling c b page free i t gap fill rest
    → (0 < length rest → full fill.take ≡ false → first_free free (total c) (t + gap) ≡ first_free free (total c) (suc t + (gap - 1)))
    → Filling c b page free i (suc t) (gap - 1) fill rest
wait c b page free i t gap fill rest h e =
    record {
      place = h.place;
      over = h.over;
      above = h.above;
      stands = h.stands;
      same = h.same;
      count = h.count;
      opened = (let g = h.opened in omega arith);
      due = λ some nf. h.due some nf ∙ e some nf;
      past = λ j lt. let g = h.past j lt in omega arith;
    }

-- one clock of the row's taking
pub step :
    (c : Shape) (b : Bursts) (page : List ℕ) (free : ℕ → Bool) (i t : ℕ) (k : Core) (w f : Bool) (rest : List ℕ)
    → Filling c b page free i t k.gap k.fill rest
    → (not (full k.fill.take) && eqb k.gap 0) ≡ w → free t ≡ f → t < total c → k.bursts ≡ b
    → Filling c b page free i (suc t) (fed c k (handed w f rest)).gap (fed c k (handed w f rest)).fill (left w f rest)
step c b page free i t k false f rest h e fr lt eb =
    wait c b page free i t k.gap k.fill rest h
    (λ some nf. ap (first_free free (total c)) (grind (arith, nat_tests)))
step c b page free i t k true false rest h e fr lt eb =
    let z : k.gap ≡ 0 = grind (arith, nat_tests) in
    wait c b page free i t k.gap k.fill rest h
    (λ some nf.
    let a : t + k.gap ≡ t = omega arith in
    let a₂ : suc t + (k.gap - 1) ≡ suc t = omega arith in
    rw (a, a₂) (first_miss free (total c) t lt fr))
step c b page free i t k true true [] h e fr lt eb =
    wait c b page free i t k.gap k.fill [] h (λ some nf. absurd (omega arith))
step c b page free i t k true true (x ∷ xs) h e fr lt eb =
    let nf : full k.fill.take ≡ false = grind (arith, nat_tests) in
    let z : t + k.gap ≡ t = grind (arith, nat_tests) in
    let n : ℕ = k.fill.take.taken in
    let more : (eat c.f k.bursts.n k.fill x).take.taken ≡ suc n = taken_eat c.f k.bursts.n k.fill x in
    let here : takes free (total c) b (i * span c) n ≡ t = h.due (omega arith) nf ∙ (rw z (first_hit free (total c) t fr)) in
    let next : opens free (total c) b (i * span c) (suc n) ≡ suc t + pause b (suc n) = opens_is free (total c) b (i * span c) n ∙ (rw here refl) in
    let same-pause : pause k.bursts (suc n) ≡ pause b (suc n) = ap (λ (u : Bursts). pause u (suc n)) eb in
    let same-eat : eat c.f k.bursts.n k.fill x ≡ eat c.f b.n k.fill x = ap (λ (u : Bursts). eat c.f u.n k.fill x) eb in
    record {
      place = h.place;
      over = h.over;
      above = h.above;
      stands = h.stands;
      same = ap (λ (u : Buffer). reads c.f b.n u xs) same-eat ∙ sym (reads_more c.f b.n k.fill x xs nf) ∙ h.same;
      count = (let q = h.count in omega arith);
      opened = rw (more, next, same-pause) (omega arith);
      due = λ some nf₂. rw (more, same-pause) (takes_is free (total c) b (i * span c) (suc n) ∙ ap (first_free free (total c)) next);
      past = λ j lt₂. ⊎_elim
          (λ (l : j < n). let g = h.past j l in omega arith)
          (λ (g : n ≤ j). let q : j ≡ n = omega arith in rw q (omega (arith, here)))
          (cases_lt j n);
    }

-- a reading is there or not
cases_reading : (o : Option Reading) → (o ≡ None) ⊎ ((r : Reading) × (o ≡ Some r))
cases_reading None = inl refl
cases_reading (Some r) = inr (r, refl)

-- what is read on from a buffer was taken behind what it had
reads_up : (f : Bool) (n : ℕ) (x : Buffer) (xs : List ℕ) (r : Reading) → reads f n x xs ≡ Some r → x.take.taken ≤ r.taken
reads_up f n x [] r e =
    ⊎_elim
    (λ (h : full x.take ≡ true). let w = sym (reads_full f n x [] h) ∙ e in let q : x.take.taken ≡ r.taken = cc in omega arith)
    (λ (h : full x.take ≡ false). absurd (none-some r (sym (reads_none f n x h) ∙ e)))
    (cases_Bool (full x.take))
reads_up f n x (a ∷ xs) r e =
    ⊎_elim
    (λ (h : full x.take ≡ true). let w = sym (reads_full f n x (a ∷ xs) h) ∙ e in let q : x.take.taken ≡ r.taken = cc in omega arith)
    (λ (h : full x.take ≡ false).
    let i = reads_up f n (eat f n x a) xs r (sym (reads_more f n x a xs h) ∙ e) in
    omega (arith, taken_eat f n x a))
    (cases_Bool (full x.take))

-- a row that is not full and finds its bytes takes one more
reads_past : (f : Bool) (n : ℕ) (x : Buffer) (xs : List ℕ) (r : Reading) → full x.take ≡ false → reads f n x xs ≡ Some r → (x.take.taken < r.taken) × (0 < length xs)
reads_past f n x [] r h e = absurd (none-some r (sym (reads_none f n x h) ∙ e))
reads_past f n x (a ∷ xs) r h e =
    let i = reads_up f n (eat f n x a) xs r (sym (reads_more f n x a xs h) ∙ e) in
    (omega (arith, taken_eat f n x a), omega arith)

overdue_not : (free : ℕ → Bool) (end : ℕ) (b : Bursts) (base stop count : ℕ) → ((j : ℕ) → j < count → takes free end b base j < stop) → overdue free end b base stop count ≡ false
overdue_not free end b base stop zero h = refl
overdue_not free end b base stop (suc k) h = lt-leb stop _ (h k (omega arith))

overdue_yes : (free : ℕ → Bool) (end : ℕ) (b : Bursts) (base stop k count : ℕ) → k < count → stop ≤ takes free end b base k → overdue free end b base stop count ≡ true
overdue_yes free end b base stop k zero lt h = absurd (omega arith)
overdue_yes free end b base stop k (suc m) lt h =
    let up = takes_up free end b base k m (omega arith) in
    le-leb stop _ (omega arith)

-- the row that was read to its end
pub record Read (c : Shape) (b : Bursts) (page : List ℕ) (i : ℕ) (fill : Buffer) (rest : List ℕ) : Type 0 where
  pub from : ℕ
  pub stands : Stands c b.n page (suc i) from fill.take.over fill.show
  pub columns : Columns c b.n page i fill.show
  pub rest_is : rest ≡ drop from page
  pub taken_is : (row c b.n page (suc i)).taken ≡ fill.take.taken

-- a buffer that is full has read the row whole
pub read :
    (c : Shape) (b : Bursts) (page : List ℕ) (free : ℕ → Bool) (i t gap : ℕ) (fill : Buffer) (rest : List ℕ)
    → Filling c b page free i t gap fill rest → full fill.take ≡ true → Read c b page i fill rest
read c b page free i t gap fill rest h y =
    let r : Reading = record { taken = fill.take.taken; over = fill.take.over; show = fill.show; left = rest } in
    let e : reads c.f b.n (fresh c.h (blank c (suc i)) h.over h.above) (drop h.place page) ≡ Some r =
    sym h.same ∙ reads_full c.f b.n fill rest y in
    let g = row_step c b.n page i h.place (blank c (suc i)) h.over h.above r h.stands refl e in
    let l = row_left c b.n (drop h.place page) (blank c (suc i)) h.over h.above r e in
    record {
      from = h.place + fill.take.taken;
      stands = g.0;
      columns = g.1;
      rest_is = l ∙ drop-drop fill.take.taken h.place page;
      taken_is = g.3;
    }

-- a row time has ended: the row is late unless its buffer is full
pub ended :
    (c : Shape) (b : Bursts) (page : List ℕ) (free : ℕ → Bool) (i t gap : ℕ) (fill : Buffer) (rest : List ℕ)
    → Filling c b page free i t gap fill rest → t ≡ suc i * span c
    → late c b page free (suc i) ≡ not (full fill.take)
unfolding late
ended c b page free i t gap fill rest h e = ⊎_elim whole short (cases_Bool (full fill.take))
  where
    base : ℕ
    base = i * span c

    k : ℕ
    k = fill.take.taken

    start : Buffer
    start = fresh c.h (blank c (suc i)) h.over h.above

    Goal : Type 0
    Goal = late c b page free (suc i) ≡ not (full fill.take)

    whole : full fill.take ≡ true → Goal
    whole y =
        let g = read c b page free i t gap fill rest h y in
        let o = overdue_not free (total c) b base (suc i * span c) k (λ j lt. let p = h.past j lt in omega arith) in
        rw (g.stands.whole, g.taken_is, o, y) refl

    there : full fill.take ≡ false → (r : Reading) × (reads c.f b.n start (drop h.place page) ≡ Some r) → Goal
    there y r =
        let g = row_step c b.n page i h.place (blank c (suc i)) h.over h.above r.0 h.stands refl r.1 in
        let p = reads_past c.f b.n fill rest r.0 y (h.same ∙ r.1) in
        let a = first_from free (total c) (t + gap) in
        let d = h.due p.1 y in
        let many : (row c b.n page (suc i)).taken ≡ r.0.taken = g.3 in
        let o = overdue_yes free (total c) b base (suc i * span c) k r.0.taken p.0 (omega arith) in
        rw (g.0.whole, many, o, y) refl

    lack : full fill.take ≡ false → reads c.f b.n start (drop h.place page) ≡ None → Goal
    lack y n = let w = row_short c b.n page i h.place (blank c (suc i)) h.over h.above h.stands refl n in rw (w, y) refl

    short : full fill.take ≡ false → Goal
    short y = ⊎_elim (lack y) (there y) (cases_reading (reads c.f b.n start (drop h.place page)))

-- a row begins
fresh_taken : (h : ℕ) (idle over : Bool) (s : Shown) → (fresh h idle over s).take.taken ≡ 0
unfolding fresh
fresh_taken h idle over s = refl

pub began :
    (c : Shape) (b : Bursts) (page : List ℕ) (free : ℕ → Bool) (i t place : ℕ) (over : Bool) (above : Shown) (rest : List ℕ)
    → t ≡ i * span c → Stands c b.n page i place over above → rest ≡ drop place page
    → Filling c b page free i t 0 (fresh c.h (blank c (suc i)) over above) rest
unfolding opens takes
began c b page free i t place over above rest e s q =
    let n = fresh_taken c.h (blank c (suc i)) over above in
    record {
      place = place;
      over = over;
      above = above;
      stands = s;
      same = rw q refl;
      count = rw (n, q) (omega arith);
      opened = rw n (omega arith);
      due = λ _ _. rw n (ap (first_free free (total c)) (omega arith));
      past = λ j lt. absurd (omega arith);
    }

-- the request line, by the rules of taking
pub asks :
    (c : Shape) (b : Bursts) (page : List ℕ) (free : ℕ → Bool) (i t gap : ℕ) (fill : Buffer) (rest : List ℕ)
    → Filling c b page free i t gap fill rest
    → (not (full fill.take) && eqb gap 0)
    ≡ asked_of free (total c) b (i * span c) t (row c b.n page (suc i)).whole (row c b.n page (suc i)).taken (length page - (row c b.n page (suc i)).place)
asks c b page free i t gap fill rest h = ⊎_elim whole short (cases_Bool (full fill.take))
  where
    base : ℕ
    base = i * span c

    k : ℕ
    k = fill.take.taken

    start : Buffer
    start = fresh c.h (blank c (suc i)) h.over h.above

    Goal : Type 0
    Goal = (not (full fill.take) && eqb gap 0)
        ≡ asked_of free (total c) b base t (row c b.n page (suc i)).whole (row c b.n page (suc i)).taken (length page - (row c b.n page (suc i)).place)

    at : (row c b.n page (suc i)).place ≡ h.place
    at = place_next c b.n page i ∙ sym h.stands.at

    there_are : length page - (row c b.n page (suc i)).place ≡ k + length rest
    there_are = rw at (sym (length-drop h.place page) ∙ sym h.count)

    reach : 0 < length rest → full fill.take ≡ false → t ≤ takes free (total c) b base k
    reach some y = let d = h.due some y in let a = first_from free (total c) (t + gap) in omega arith

    whole : full fill.take ≡ true → Goal
    whole y =
        let g = read c b page free i t gap fill rest h y in
        rw (g.stands.whole, g.taken_is, y) (sym (asked_past free (total c) b base t k h.past))

    there : full fill.take ≡ false → (r : Reading) × (reads c.f b.n start (drop h.place page) ≡ Some r) → Goal
    there y r =
        let g = row_step c b.n page i h.place (blank c (suc i)) h.over h.above r.0 h.stands refl r.1 in
        let p = reads_past c.f b.n fill rest r.0 y (h.same ∙ r.1) in
        rw (g.0.whole, g.3, y) (sym (asked_is free (total c) b base t k r.0.taken gap h.past h.opened p.0 (reach p.1 y)))

    none_left : length rest ≡ 0 → (asked free (total c) b base t (k + length rest) || leb (opens free (total c) b base (k + length rest)) t) ≡ eqb gap 0
    none_left z =
        let s : k + length rest ≡ k = omega arith in
        rw (s, asked_past free (total c) b base t k h.past) (open_is (opens free (total c) b base k) t gap h.opened)

    some_left : full fill.take ≡ false → 0 < length rest → (asked free (total c) b base t (k + length rest) || leb (opens free (total c) b base (k + length rest)) t) ≡ eqb gap 0
    some_left y some =
        let a = asked_is free (total c) b base t k (k + length rest) gap h.past h.opened (omega arith) (reach some y) in
        let u = opens_up free (total c) b base k (k + length rest) (omega arith) in
        let o = h.opened in
        ⊎_elim
        (λ (z : eqb gap 0 ≡ true). rw (a, z) refl)
        (λ (z : eqb gap 0 ≡ false). let l : leb (opens free (total c) b base (k + length rest)) t ≡ false = grind (arith, nat_tests) in rw (a, z, l) refl)
        (cases_Bool (eqb gap 0))

    lack : full fill.take ≡ false → reads c.f b.n start (drop h.place page) ≡ None → Goal
    lack y n =
        let w = row_short c b.n page i h.place (blank c (suc i)) h.over h.above h.stands refl n in
        rw (w, y, there_are) (sym (⊎_elim (λ (s : 0 < length rest). some_left y s) (λ (z : length rest ≤ 0). none_left (omega arith)) (cases_lt 0 (length rest))))

    short : full fill.take ≡ false → Goal
    short y = ⊎_elim (lack y) (there y) (cases_reading (reads c.f b.n start (drop h.place page)))

-- A frame: what each of its clocks finds.
use Rattle.std.proofs.Common.{◌≡◌, ℕ, zero, suc, ◌+◌, ◌*◌, ◌<◌, ◌≤◌, Bool, true, false, not, ◌&&◌, ◌||◌, eqb, ltb, leb, List, Option, sym, refl, ap, ◌∙◌, ⊎_elim, suc-mul, arith}
use Rattle.std.proofs.lemmas.Bool.{cases_lt, cases_Bool, lt-ltb, le-ltb, le-leb, lt-leb, not-true, not-false, false≢true}
use Rattle.std.proofs.lemmas.Bool.Decides.{nat_tests}
use Rattle.source.specs.Meaning.{handed, left}
use Rattle.video.specs.Composition.{Shape, width, line_count}
use Rattle.video.specs.Picture.{dark_word}
use Rattle.rows.specs.Page.{blank, picture}
use Rattle.rows.specs.Buffer.{Shown, full, fresh}
use Rattle.rows.specs.Stands.{Columns}
use Rattle.frame.specs.Ports.{Bursts, Core}
use Rattle.frame.specs.Timing.{line_clocks, span, total, late, in_time, requested}
use Rattle.frame.specs.Machine.{within, row_start, opening, idle, underrun, prepared, wants, vrtc, pictured, fed, Turn, in_line, new_line, new_row, new_frame, turn, moved}
use Rattle.frame.proofs.Filling.{Filling, Read, step, ended, read, began, asks}

-- clock t of a frame, with the core as the clock has prepared it and the rest as the clock finds it
pub record Good (c : Shape) (b : Bursts) (page : List ℕ) (free : ℕ → Bool) (blink t : ℕ) (k : Core) (rest : List ℕ) : Type 0 where
  pub place_is : t ≡ k.row * span c + k.line * line_clocks c + k.column
  pub column< : k.column < line_clocks c
  pub line< : k.line < c.l
  pub row< : k.row < c.r + c.v
  pub armed : k.armed ≡ true
  pub bursts_is : k.bursts ≡ b
  pub blink_is : k.blink ≡ blink
  pub dark_is : k.row ≤ c.r → k.dark ≡ not (in_time c b page free k.row)
  pub filling : k.dark ≡ false → k.row < c.r → Filling c b page free k.row t k.gap k.fill rest
  pub idles : k.dark ≡ false → c.r ≤ k.row → full k.fill.take ≡ true
  pub showing : k.dark ≡ false → (i : ℕ) → k.row ≡ suc i → i < c.r → Columns c b.n page i k.shown

pub line_clocks_is : (c : Shape) → line_clocks c ≡ c.h + c.z
unfolding line_clocks
line_clocks_is c = refl

pub span_is : (c : Shape) → span c ≡ c.l * line_clocks c
unfolding span
span_is c = refl

pub total_is : (c : Shape) → total c ≡ (c.r + c.v) * span c
unfolding total
total_is c = refl

-- where the clock stands, by where the counters go
abbrev pub Says : Shape → (row line column : ℕ) → Turn → Type 0
Says c row line column in_line = suc column < line_clocks c
Says c row line column new_line = (line_clocks c ≤ suc column) × (suc line < c.l)
Says c row line column new_row = (line_clocks c ≤ suc column) × (c.l ≤ suc line) × (suc row < c.r + c.v)
Says c row line column new_frame = (line_clocks c ≤ suc column) × (c.l ≤ suc line) × (c.r + c.v ≤ suc row)

pub turn_says : (c : Shape) (row line column : ℕ) → Says c row line column (turn c row line column)
unfolding line_clocks
turn_says c row line column =
    ⊎_elim
    (λ (a : suc column < width c). rw (lt-ltb (suc column) (width c) a) a)
    (λ (a : width c ≤ suc column). rw (le-ltb (suc column) (width c) a)
    (⊎_elim
    (λ (b : suc line < c.l). rw (lt-ltb (suc line) c.l b) (a, b))
    (λ (b : c.l ≤ suc line). rw (le-ltb (suc line) c.l b)
    (⊎_elim
    (λ (e : suc row < c.r + c.v). rw (lt-ltb (suc row) (c.r + c.v) e) (a, b, e))
    (λ (e : c.r + c.v ≤ suc row). rw (le-ltb (suc row) (c.r + c.v) e) (a, b, e))
    (cases_lt (suc row) (c.r + c.v))))
    (cases_lt (suc line) c.l)))
    (cases_lt (suc column) (width c))

-- what begins with the next clock
opening_in_line : (row line column : ℕ) → opening row line (suc column) ≡ within
opening_in_line row line column = let a : (eqb line 0 && eqb (suc column) 0) ≡ false = grind (arith, nat_tests) in rw a refl

opening_new_line : (row line : ℕ) → opening row (suc line) 0 ≡ within
opening_new_line row line = let a : (eqb (suc line) 0 && eqb 0 0) ≡ false = grind (arith, nat_tests) in rw a refl

opening_new_row : (row : ℕ) → opening (suc row) 0 0 ≡ row_start
opening_new_row row = let a : eqb (suc row) 0 ≡ false = grind (arith, nat_tests) in rw a refl

-- the request line
wants_is : (k : Core) → k.armed ≡ true → k.dark ≡ false → (not (full k.fill.take) && eqb k.gap 0) ≡ wants k
wants_is k a d = rw (a, d) refl

wants_dark : (k : Core) → k.dark ≡ true → wants k ≡ false
wants_dark k d = grind (arith, nat_tests)

wants_full : (k : Core) → full k.fill.take ≡ true → wants k ≡ false
wants_full k h = grind (arith, nat_tests)

pub requests_it :
    (c : Shape) (b : Bursts) (page : List ℕ) (free : ℕ → Bool) (blink t : ℕ) (k : Core) (rest : List ℕ) → Good c b page free blink t k rest
    → wants k ≡ requested c b page free k.row t
unfolding requested
requests_it c b page free blink t k rest g = ⊎_elim inside below (cases_lt k.row c.r)
  where
    Goal : Type 0
    Goal = wants k ≡ requested c b page free k.row t

    inside : k.row < c.r → Goal
    inside lt =
        let l = lt-ltb k.row c.r lt in
        let y = g.dark_is (omega arith) in
        ⊎_elim
        (λ (d : k.dark ≡ true). let i : in_time c b page free k.row ≡ false = not-true _ (sym y ∙ d) in wants_dark k d ∙ sym (rw (l, i) refl))
        (λ (d : k.dark ≡ false).
        let i : in_time c b page free k.row ≡ true = not-false _ (sym y ∙ d) in
        sym (wants_is k g.armed d) ∙ asks c b page free k.row t k.gap k.fill rest (g.filling d lt) ∙ sym (rw (l, i) refl))
        (cases_Bool k.dark)

    below : c.r ≤ k.row → Goal
    below ge =
        let l = le-ltb k.row c.r ge in
        ⊎_elim
        (λ (d : k.dark ≡ true). wants_dark k d ∙ sym (rw l refl))
        (λ (d : k.dark ≡ false). wants_full k (g.idles d ge) ∙ sym (rw l refl))
        (cases_Bool k.dark)

-- one more clock of the row's taking
fills :
    (c : Shape) (b : Bursts) (page : List ℕ) (free : ℕ → Bool) (blink t : ℕ) (k : Core) (rest : List ℕ) → Good c b page free blink t k rest → t < total c
    → k.dark ≡ false → k.row < c.r
    → Filling c b page free k.row (suc t) (fed c k (handed (wants k) (free t) rest)).gap (fed c k (handed (wants k) (free t) rest)).fill (left (wants k) (free t) rest)
fills c b page free blink t k rest g lt d l =
    step c b page free k.row t k (wants k) (free t) rest (g.filling d l) (wants_is k g.armed d) refl lt g.bursts_is

stays_full : (c : Shape) (k : Core) (f : Bool) (rest : List ℕ) → full k.fill.take ≡ true → full (fed c k (handed (wants k) f rest)).fill.take ≡ true
stays_full c k f rest h = rw (wants_full k h) h

in_time_is : (c : Shape) (b : Bursts) (page : List ℕ) (free : ℕ → Bool) (i : ℕ) → in_time c b page free (suc i) ≡ (in_time c b page free i && not (late c b page free (suc i)))
unfolding in_time
in_time_is c b page free i = refl

pub row_end :
    (c : Shape) (t row line column : ℕ) → t ≡ suc (row * span c + line * line_clocks c + column) → column < line_clocks c → line < c.l → line_clocks c ≤ suc column → c.l ≤ suc line
    → t ≡ suc row * span c + 0 * line_clocks c + 0
row_end c t row line column e a b d f =
    let q : suc line ≡ c.l = omega arith in
    let k : suc line * line_clocks c ≡ c.l * line_clocks c = ap (λ (m : ℕ). m * line_clocks c) q in
    omega (arith, suc-mul line (line_clocks c), suc-mul row (span c), span_is c)

idle_full : (h : ℕ) (idle over : Bool) (s : Shown) → idle ≡ true → full (fresh h idle over s).take ≡ true
unfolding fresh full
idle_full h idle over s e = rw e refl

idle_blank : (c : Shape) (j : ℕ) → j ≤ c.r → idle c j ≡ blank c j
idle_blank c j h = rw (le-ltb c.r j h) refl

idle_below : (c : Shape) (j : ℕ) → c.r < j → idle c j ≡ true
idle_below c j h = rw (lt-ltb c.r j h) refl

-- the core behind a clock, prepared for the next
abbrev pub stepped : Shape → (ve : Bool) → Bursts → Core → Bool → List ℕ → Turn → Core
stepped c ve u k f rest turn =
    prepared c ve u (opening (moved turn (fed c k (handed (wants k) f rest))).row (moved turn (fed c k (handed (wants k) f rest))).line (moved turn (fed c k (handed (wants k) f rest))).column)
    (moved turn (fed c k (handed (wants k) f rest)))

pub next :
    (c : Shape) (b : Bursts) (page : List ℕ) (free : ℕ → Bool) (blink t : ℕ) (ve : Bool) (u : Bursts) (k : Core) (rest : List ℕ) → Good c b page free blink t k rest → suc t < total c
    → Good c b page free blink (suc t) (stepped c ve u k (free t) rest (turn c k.row k.line k.column)) (left (wants k) (free t) rest)
next c b page free blink t ve u k rest g lt = go (turn c row line column) (turn_says c row line column)
  where
    row : ℕ
    row = k.row

    line : ℕ
    line = k.line

    column : ℕ
    column = k.column

    k₂ : Core
    k₂ = fed c k (handed (wants k) (free t) rest)

    rest₂ : List ℕ
    rest₂ = left (wants k) (free t) rest

    now_filling : k.dark ≡ false → row < c.r → Filling c b page free row (suc t) k₂.gap k₂.fill rest₂
    now_filling = fills c b page free blink t k rest g (omega arith)

    still_full : k.dark ≡ false → c.r ≤ row → full k₂.fill.take ≡ true
    still_full d ge = stays_full c k (free t) rest (g.idles d ge)

    at_end : Says c row line column new_row → suc t ≡ suc row * span c
    at_end h = let e = row_end c (suc t) row line column (ap suc g.place_is) g.column< g.line< h.0 h.1 in omega arith

    under : underrun k₂ ≡ (not k.dark && not (full k₂.fill.take))
    under = rw g.armed refl

    swap : (k.dark || underrun k₂) ≡ false → (k.dark ≡ false) × (full k₂.fill.take ≡ true)
    swap e = let y = under in (grind (arith, nat_tests), grind (arith, nat_tests))

    darkens : Says c row line column new_row → suc row ≤ c.r → (k.dark || underrun k₂) ≡ not (in_time c b page free (suc row))
    darkens h le =
        let y = under in
        let a = g.dark_is (omega arith) in
        let s = in_time_is c b page free row in
        ⊎_elim
        (λ (d : k.dark ≡ true). grind (arith, nat_tests))
        (λ (d : k.dark ≡ false). let l = ended c b page free row (suc t) k₂.gap k₂.fill rest₂ (now_filling d le) (at_end h) in grind (arith, nat_tests))
        (cases_Bool k.dark)

    was_read : (k.dark || underrun k₂) ≡ false → row < c.r → Read c b page row k₂.fill rest₂
    was_read e l = let s = swap e in read c b page free row (suc t) k₂.gap k₂.fill rest₂ (now_filling s.0 l) s.1

    begun : Says c row line column new_row → (k.dark || underrun k₂) ≡ false → suc row < c.r
        → Filling c b page free (suc row) (suc t) 0 (fresh c.h (idle c (suc (suc row))) k₂.fill.take.over k₂.fill.show) rest₂
    begun h e l =
        let r = was_read e (omega arith) in
        let i = idle_blank c (suc (suc row)) (omega arith) in
        rw i (began c b page free (suc row) (suc t) r.from k₂.fill.take.over k₂.fill.show rest₂ (at_end h) r.stands r.rest_is)

    go : (n : Turn) → Says c row line column n → Good c b page free blink (suc t) (stepped c ve u k (free t) rest n) rest₂
    go in_line h = rw (opening_in_line row line column)
        (record {
          place_is = (let p = g.place_is in omega arith);
          column< = h;
          line< = g.line<;
          row< = g.row<;
          armed = g.armed;
          bursts_is = g.bursts_is;
          blink_is = g.blink_is;
          dark_is = g.dark_is;
          filling = now_filling;
          idles = still_full;
          showing = g.showing;
        })
    go new_line h = rw (opening_new_line row line)
        (record {
          place_is = (let p = g.place_is in let m = suc-mul line (line_clocks c) in let q = g.column< in let s = h.0 in omega arith);
          column< = omega (arith, g.column<);
          line< = h.1;
          row< = g.row<;
          armed = g.armed;
          bursts_is = g.bursts_is;
          blink_is = g.blink_is;
          dark_is = g.dark_is;
          filling = now_filling;
          idles = still_full;
          showing = g.showing;
        })
    go new_row h = rw (opening_new_row row)
        (record {
          place_is = row_end c (suc t) row line column (ap suc g.place_is) g.column< g.line< h.0 h.1;
          column< = omega (arith, g.column<);
          line< = omega (arith, g.line<);
          row< = h.2;
          armed = g.armed;
          bursts_is = g.bursts_is;
          blink_is = g.blink_is;
          dark_is = darkens h;
          filling = λ e l. begun h e l;
          idles = λ e ge. idle_full c.h (idle c (suc (suc row))) k₂.fill.take.over k₂.fill.show (idle_below c (suc (suc row)) (omega arith));
          showing = λ e i q l. let same : i ≡ row = omega arith in rw same (was_read e (omega arith)).columns;
        })
    go new_frame h =
        let e = row_end c (suc t) row line column (ap suc g.place_is) g.column< g.line< h.0 h.1 in
        let q : suc row ≡ c.r + c.v = let a = g.row< in omega (arith, h.2) in
        let m : suc row * span c ≡ (c.r + c.v) * span c = ap (λ (z : ℕ). z * span c) q in
        absurd (omega (arith, total_is c))

-- what a clock shows
pub shows_row :
    (c : Shape) (b : Bursts) (page : List ℕ) (free : ℕ → Bool) (blink t : ℕ) (q : Option (ℕ × ℕ)) (k : Core) (rest : List ℕ) → Good c b page free blink t k rest
    → 1 ≤ k.row → k.row ≤ c.r → in_time c b page free k.row ≡ true
    → pictured c q k ≡ picture c b.n page q blink k.row k.line k.column
unfolding picture
shows_row c b page free blink t q k rest g one le ok = go k.row refl
  where
    d : k.dark ≡ false
    d = (let y = g.dark_is le in grind (arith, nat_tests))

    go : (j : ℕ) → k.row ≡ j → pictured c q k ≡ picture c b.n page q blink k.row k.line k.column
    go zero e = absurd (omega arith)
    go (suc i) e =
        let s = g.showing d i e (omega arith) k.column in
        let v : vrtc c k ≡ false = grind (arith, nat_tests) in
        ⊎_elim
        (λ (l : k.column < c.h).
        let a = lt-leb c.h k.column l in
        let x = lt-ltb k.column c.h l in
        rw (g.armed, d, v, a, x, g.blink_is, s, e) refl)
        (λ (ge : c.h ≤ k.column).
        let a = le-leb c.h k.column ge in
        let x = le-ltb k.column c.h ge in
        rw (g.armed, d, v, a, x) refl)
        (cases_lt k.column c.h)

pub shows_dark :
    (c : Shape) (b : Bursts) (page : List ℕ) (free : ℕ → Bool) (blink t : ℕ) (q : Option (ℕ × ℕ)) (k : Core) (rest : List ℕ) → Good c b page free blink t k rest
    → k.row ≤ c.r → in_time c b page free k.row ≡ false
    → pictured c q k ≡ dark_word (line_count c k.line) (leb c.h k.column) false
unfolding in_time
shows_dark c b page free blink t q k rest g le no_more = go k.row refl
  where
    d : k.dark ≡ true
    d = (let y = g.dark_is le in grind (arith, nat_tests))

    go : (j : ℕ) → k.row ≡ j → pictured c q k ≡ dark_word (line_count c k.line) (leb c.h k.column) false
    go zero e = absurd (false≢true (sym (sym (ap (in_time c b page free) e) ∙ no_more)))
    go (suc i) e = let v : vrtc c k ≡ false = grind (arith, nat_tests) in rw (g.armed, d, v) refl

pub shows_retrace :
    (c : Shape) (b : Bursts) (page : List ℕ) (free : ℕ → Bool) (blink t : ℕ) (q : Option (ℕ × ℕ)) (k : Core) (rest : List ℕ) → Good c b page free blink t k rest
    → (eqb k.row 0 || ltb c.r k.row) ≡ true
    → pictured c q k ≡ dark_word (line_count c k.line) (leb c.h k.column) true
shows_retrace c b page free blink t q k rest g v =
    ⊎_elim
    (λ (d : k.dark ≡ true). rw (g.armed, d, v) refl)
    (λ (d : k.dark ≡ false). rw (g.armed, d, v) refl)
    (cases_Bool k.dark)

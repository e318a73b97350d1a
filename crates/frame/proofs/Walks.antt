-- Moments from the first clock of an armed frame on.
use Rattle.std.proofs.Common.{◌≡◌, ℕ, zero, suc, ◌+◌, ◌*◌, ◌/◌, ◌%◌, ◌<◌, ◌≤◌, Bool, true, false, cond, ◌&&◌, ◌||◌, eqb, ltb, leb, List, [], Some, Option, sym, refl, ap, ◌∙◌, ⊎_elim, suc-mul, arith}
use lib.Arith.{digits_lt}
use Rattle.std.proofs.lemmas.Bool.{cases_lt, cases_Bool, eqb-true, and_parts}
use Rattle.std.proofs.lemmas.Bool.Decides.{nat_tests}
use Rattle.source.specs.Meaning.{Meaning, handed, left, answer}
use Rattle.video.specs.Composition.{Shape, Proper, line_count}
use Rattle.video.specs.Picture.{bit, text_signals, graphic_signals, finished, dark_word, cell_word, signals_word}
use Rattle.video.specs.declared.cell.Cell.{Cell}
use Rattle.video.specs.declared.cell.Cell.TheVariants.{Dark, Text, Symbol}
use Rattle.video.specs.declared.signals.Signals.{Signals}
use Rattle.rows.specs.Page.{blank, picture}
use Rattle.rows.specs.Buffer.{nothing}
use Rattle.rows.proofs.Chain.{at_top}
use Rattle.frame.specs.Ports.{Bursts, Core, State}
use Rattle.frame.specs.Timing.{line_clocks, span, total, in_time, requested}
use Rattle.frame.specs.Machine.{Opening, within, frame_start, row_start, opening, idle, prepared, begins, wants, pictured, word, fed, Turn, in_line, new_line, new_row, new_frame, turn, moved, requests, ready_core, ready_source, fed_core, next_core, clock_state, clock_source, clock_word}
use Rattle.frame.specs.Law.{at_start, Ready, Alike, FoundAt, picture_bits, request_bit}
use Rattle.frame.proofs.Filling.{began}
use Rattle.frame.proofs.Frames.{Good, Says, turn_says, stepped, line_clocks_is, span_is, total_is, row_end, next, requests_it, shows_row, shows_dark, shows_retrace}

-- a clock of a frame stands in one place alone
same_digit : (q p m r s : ℕ) → q * m + r ≡ p * m + s → r < m → s < m → (q ≡ p) × (r ≡ s)
same_digit q p m r s e a b =
    ⊎_elim
    (λ (lt : q < p). absurd (omega (arith, digits_lt {q = q} {m = p} {r = r} {c = m} lt a)))
    (λ (ge : p ≤ q).
    ⊎_elim
    (λ (lt : p < q). absurd (omega (arith, digits_lt {q = p} {m = q} {r = s} {c = m} lt b)))
    (λ (le : q ≤ p). let y : q ≡ p = omega arith in (y, (let k : q * m ≡ p * m = ap (λ (z : ℕ). z * m) y in omega arith)))
    (cases_lt p q))
    (cases_lt q p)

inside : (c : Shape) (l p : ℕ) → l < c.l → p < line_clocks c → l * line_clocks c + p < span c
inside c l p a b = omega (arith, span_is c, digits_lt {q = l} {m = c.l} {r = p} {c = line_clocks c} a b)

-- the number of a clock in its frame
abbrev pub number : Shape → (j l p : ℕ) → ℕ
number c j l p = j * span c + l * line_clocks c + p

same_place :
    (c : Shape) (j l p j₂ l₂ p₂ : ℕ) → number c j l p ≡ number c j₂ l₂ p₂ → l < c.l → p < line_clocks c → l₂ < c.l → p₂ < line_clocks c
    → (j ≡ j₂) × (l ≡ l₂) × (p ≡ p₂)
same_place c j l p j₂ l₂ p₂ e a b a₂ b₂ =
    let x = same_digit j j₂ (span c) (l * line_clocks c + p) (l₂ * line_clocks c + p₂) (omega arith) (inside c l p a b) (inside c l₂ p₂ a₂ b₂) in
    let y = same_digit l l₂ (line_clocks c) p p₂ x.1 b b₂ in
    (x.0, y.0, y.1)

within_frame : (c : Shape) (j l p : ℕ) → j < c.r + c.v → l < c.l → p < line_clocks c → number c j l p < total c
within_frame c j l p a b d = omega (arith, total_is c, digits_lt {q = j} {m = c.r + c.v} {r = l * line_clocks c + p} {c = span c} a (inside c l p b d))

-- the counters at the first clock
start_zero : (k : Core) → at_start k ≡ true → (k.row ≡ 0) × (k.line ≡ 0) × (k.column ≡ 0)
unfolding at_start
start_zero k h =
    let a = and_parts _ _ h in
    let b = and_parts _ _ a.1 in
    (eqb-true _ _ a.0, eqb-true _ _ b.0, eqb-true _ _ b.1)

zero_start : (k : Core) → k.row ≡ 0 → k.line ≡ 0 → k.column ≡ 0 → at_start k ≡ true
unfolding at_start
zero_start k a b d = rw (a, b, d) refl

opens_frame : (k : Core) → at_start k ≡ true → opening k.row k.line k.column ≡ frame_start
opens_frame k h = let z = start_zero k h in rw (z.0, z.1, z.2) refl

-- what is not the first clock does not begin the source
begins_not : (k : Core) (ve : Bool) (m : Meaning) → at_start k ≡ false → begins (opening k.row k.line k.column) ve m ≡ m
unfolding at_start
begins_not k ve m h =
    ⊎_elim
    (λ (a : (eqb k.line 0 && eqb k.column 0) ≡ true).
    let z : eqb k.row 0 ≡ false = grind (arith, nat_tests) in rw (a, z) refl)
    (λ (a : (eqb k.line 0 && eqb k.column 0) ≡ false). rw a refl)
    (cases_Bool (eqb k.line 0 && eqb k.column 0))

-- preparing a clock leaves its place
stays : (c : Shape) (ve : Bool) (u : Bursts) (o : Opening) (k : Core) → ((prepared c ve u o k).row ≡ k.row) × ((prepared c ve u o k).line ≡ k.line) × ((prepared c ve u o k).column ≡ k.column)
stays c ve u within k = (refl, refl, refl)
stays c ve u frame_start k = (refl, refl, refl)
stays c ve u row_start k = (refl, refl, refl)

ready_is : (c : Shape) (s : State) → ready_core c s ≡ prepared c s.control.ve s.control.bursts (opening s.core.row s.core.line s.core.column) s.core
unfolding ready_core
ready_is c s = refl

-- the rest as clock t finds it: the page where the frame begins
abbrev pub rest_at : (t : ℕ) (page rest : List ℕ) → List ℕ
rest_at zero page rest = page
rest_at (suc t) page rest = rest

-- the console s stands at clock t of an armed frame over the page and the bus
pub record At (c : Shape) (b : Bursts) (q : Option (ℕ × ℕ)) (page : List ℕ) (free : ℕ → Bool) (blink t : ℕ) (rest : List ℕ) (s : State) : Type 0 where
  pub composed : s.shape ≡ Some c
  pub cursor : s.cursor ≡ q
  pub enabled : s.control.ve ≡ true
  pub bursts : s.control.bursts ≡ b
  pub mid : t < total c → Good c b page free blink t (ready_core c s) (rest_at t page rest)
  pub first : t ≡ 0 → at_start s.core ≡ true
  pub last : t ≡ total c → at_start s.core ≡ true
  pub not_first : 0 < t → t < total c → at_start s.core ≡ false

-- the frame's first clock
pub begun_at :
    (c : Shape) (s : State) (page : List ℕ) (free : ℕ → Bool) → Proper c → Ready c s → At c s.control.bursts s.cursor page free s.core.blink 0 [] s
unfolding ready_core in_time
begun_at c s page free p r =
    let z = start_zero s.core r.first in
    let b : Bursts = s.control.bursts in
    record {
      composed = r.composed;
      cursor = refl;
      enabled = r.enabled;
      bursts = refl;
      mid = λ _. rw (opens_frame s.core r.first, r.enabled)
          (record {
            place_is =
                (let a₁ : s.core.row * span c ≡ 0 * span c = ap (λ (k : ℕ). k * span c) z.0 in
                let a₂ : s.core.line * line_clocks c ≡ 0 * line_clocks c = ap (λ (k : ℕ). k * line_clocks c) z.1 in
                omega arith);
            column< = (let h = p.h_range in omega (arith, line_clocks_is c));
            line< = (let h = p.l_range in omega arith);
            row< = (let h = p.r_range in omega arith);
            armed = refl;
            bursts_is = refl;
            blink_is = refl;
            dark_is = λ _. rw z.0 refl;
            filling = λ _ _. rw z.0
                (let one : idle c 1 ≡ blank c 1 = (let h = p.r_range in let l : ltb c.r 1 ≡ false = grind (arith, nat_tests) in rw l refl) in
                rw one (began c b page free 0 0 0 false nothing page (omega arith) (at_top c b.n page nothing refl refl) refl));
            idles = λ _ ge. absurd (let h = p.r_range in omega arith);
            showing = λ _ i e _. absurd (omega arith);
          });
      first = λ _. r.first;
      last = λ _. r.first;
      not_first = λ h _. absurd (omega arith);
    }

-- what a clock reads of its source
pub source_is :
    (c : Shape) (b : Bursts) (q : Option (ℕ × ℕ)) (page : List ℕ) (free : ℕ → Bool) (blink t : ℕ) (rest : List ℕ) (s : State) (m : Meaning)
    → At c b q page free blink t rest s → t < total c → FoundAt page free t rest m
    → ((ready_source s m).free 0 ≡ free t) × ((ready_source s m).rest ≡ rest_at t page rest)
unfolding ready_source
source_is c b q page free blink zero rest s m a lt f = rw (opens_frame s.core (a.first refl), a.enabled) (f.0, f.1)
source_is c b q page free blink (suc t) rest s m a lt f =
    let e = begins_not s.core s.control.ve m (a.not_first (omega arith) lt) in
    rw e (f.0, f.1)

-- the last clock of the frame leads to the start of the next
wraps :
    (c : Shape) (b : Bursts) (page : List ℕ) (free : ℕ → Bool) (blink t : ℕ) (k k₂ : Core) (rest : List ℕ) → Good c b page free blink t k rest → suc t ≡ total c
    → at_start (moved (turn c k.row k.line k.column) k₂) ≡ true
wraps c b page free blink t k k₂ rest g e = go (turn c row line column) (turn_says c row line column)
  where
    row : ℕ
    row = k.row

    line : ℕ
    line = k.line

    column : ℕ
    column = k.column

    go : (u : Turn) → Says c row line column u → at_start (moved u k₂) ≡ true
    go in_line h = let p = g.place_is in absurd (omega (arith, within_frame c row line (suc column) g.row< g.line< h))
    go new_line h =
        let p = g.place_is in
        let s = h.0 in
        absurd (omega (arith, suc-mul line (line_clocks c), g.column<, within_frame c row (suc line) 0 g.row< h.1 (omega (arith, g.column<))))
    go new_row h =
        let p = row_end c (suc t) row line column (ap suc g.place_is) g.column< g.line< h.0 h.1 in
        absurd (omega (arith, within_frame c (suc row) 0 0 h.2 (omega (arith, g.line<)) (omega (arith, g.column<))))
    go new_frame h = zero_start _ refl refl refl

-- a clock behind the first does not stand at the start
not_start :
    (c : Shape) (b : Bursts) (page : List ℕ) (free : ℕ → Bool) (blink t : ℕ) (ve : Bool) (u : Bursts) (o : Opening) (k : Core) (rest : List ℕ)
    → Good c b page free blink (suc t) (prepared c ve u o k) rest → at_start k ≡ false
not_start c b page free blink t ve u o k rest g =
    ⊎_elim
    (λ (h : at_start k ≡ true).
    let z = start_zero k h in
    let s = stays c ve u o k in
    let a₁ : (prepared c ve u o k).row * span c ≡ 0 * span c = ap (λ (n : ℕ). n * span c) (s.0 ∙ z.0) in
    let a₂ : (prepared c ve u o k).line * line_clocks c ≡ 0 * line_clocks c = ap (λ (n : ℕ). n * line_clocks c) (s.1 ∙ z.1) in
    let a₃ : (prepared c ve u o k).column ≡ 0 = s.2 ∙ z.2 in
    absurd (omega (arith, g.place_is)))
    (λ (h : at_start k ≡ false). h)
    (cases_Bool (at_start k))

-- one clock of the frame
pub clock_on :
    (c : Shape) (b : Bursts) (q : Option (ℕ × ℕ)) (page : List ℕ) (free : ℕ → Bool) (blink t : ℕ) (rest : List ℕ) (s : State) (m : Meaning)
    → At c b q page free blink t rest s → t < total c → FoundAt page free t rest m
    → At c b q page free blink (suc t) (clock_source c s m).rest (clock_state c s m)
unfolding clock_source clock_state next_core fed_core
clock_on c b q page free blink t rest s m a lt f =
    let k : Core = ready_core c s in
    let r : List ℕ = rest_at t page rest in
    let g = a.mid lt in
    let src = source_is c b q page free blink t rest s m a lt f in
    let came : answer (ready_source s m) (wants k) ≡ handed (wants k) (free t) r = rw (src.0, src.1) refl in
    let rest₂ : left (wants k) ((ready_source s m).free 0) (ready_source s m).rest ≡ left (wants k) (free t) r = rw (src.0, src.1) refl in
    let core₂ : Core = moved (turn c k.row k.line k.column) (fed c k (handed (wants k) (free t) r)) in
    let same : moved (turn c k.row k.line k.column) (fed c k (answer (ready_source s m) (wants k))) ≡ core₂ =
    ap (λ (x : Option ℕ). moved (turn c k.row k.line k.column) (fed c k x)) came in
    let good : suc t < total c → Good c b page free blink (suc t) (stepped c s.control.ve s.control.bursts k (free t) r (turn c k.row k.line k.column)) (left (wants k) (free t) r) =
    λ l. next c b page free blink t s.control.ve s.control.bursts k r g l in
    record {
      composed = a.composed;
      cursor = a.cursor;
      enabled = a.enabled;
      bursts = a.bursts;
      mid = λ l. rw (ready_is c (clock_state c s m), same, rest₂) (good l);
      first = λ e. absurd (omega arith);
      last = λ e. rw same (wraps c b page free blink t k _ r g e);
      not_first = λ _ l. rw same (not_start c b page free blink t s.control.ve s.control.bursts _ core₂ (left (wants k) (free t) r) (good l));
    }

-- a call that leaves all that the frame depends on
pub at_alike :
    (c : Shape) (b : Bursts) (q : Option (ℕ × ℕ)) (page : List ℕ) (free : ℕ → Bool) (blink t : ℕ) (rest : List ℕ) (s s₂ : State)
    → At c b q page free blink t rest s → Alike s s₂ → At c b q page free blink t rest s₂
at_alike c b q page free blink t rest s s₂ a e =
    let same : ready_core c s₂ ≡ ready_core c s = rw (ready_is c s₂, ready_is c s, e.core, e.video, e.bursts) refl in
    record {
      composed = e.shape ∙ a.composed;
      cursor = e.cursor ∙ a.cursor;
      enabled = e.video ∙ a.enabled;
      bursts = e.bursts ∙ a.bursts;
      mid = λ l. rw same (a.mid l);
      first = λ z. rw e.core (a.first z);
      last = λ z. rw e.core (a.last z);
      not_first = λ x y. rw e.core (a.not_first x y);
    }

-- picture bits lie below bit 22
bit_small : (v : Bool) → bit v ≤ 1
bit_small true = omega arith
bit_small false = omega arith

signals_small : (n : ℕ) (x : Signals) → n < 16 → signals_word n x < 0x400000
signals_small n x h =
    omega (arith, bit_small x.la0, bit_small x.la1, bit_small x.lten, bit_small x.rvv, bit_small x.vsp, bit_small x.hglt, bit_small x.gpa0, bit_small x.gpa1)

dark_small : (n : ℕ) (h v : Bool) → n < 16 → dark_word n h v < 0x400000
dark_small n h v e = omega (arith, bit_small h, bit_small v)

cell_small : (c : Shape) (line k : ℕ) (here : Bool) (x : Cell) → line_count c line < 16 → cell_word c line k here x < 0x400000
unfolding cell_word
cell_small c line k here Dark h = dark_small (line_count c line) false false h
cell_small c line k here (Text cc f) h = signals_small (line_count c line) (finished c line k here (text_signals c.u line k cc f)) h
cell_small c line k here (Symbol g f) h = signals_small (line_count c line) (finished c line k here (graphic_signals c.u line k g f)) h

pick_small : (b : Bool) (x y n : ℕ) → x < n → y < n → cond b x y < n
pick_small true x y n h g = h
pick_small false x y n h g = g

count_small : (c : Shape) (line : ℕ) → Proper c → line < c.l → line_count c line < 16
count_small c line p h =
    let r = p.l_range in
    pick_small c.offset _ _ 16 (pick_small (eqb line 0) _ _ 16 (omega arith) (omega arith)) (omega arith)

picture_small : (c : Shape) (q : Option (ℕ × ℕ)) (k : Core) → line_count c k.line < 16 → pictured c q k < 0x400000
picture_small c q k h = pick_small _ _ _ 0x400000 (cell_small c k.line k.blink _ _ h) (dark_small _ _ _ h)

bits_are : (p : ℕ) (w irq : Bool) → p < 0x400000 → ((p + 0x400000 * bit w + 0x800000 * bit irq) % 0x400000 ≡ p) × ((p + 0x400000 * bit w + 0x800000 * bit irq) / 0x400000 % 2 ≡ bit w)
bits_are p w irq h = (omega (arith, bit_small w, bit_small irq), omega (arith, bit_small w, bit_small irq))

-- what the word of clock t shows and asks
pub record Seen (c : Shape) (b : Bursts) (q : Option (ℕ × ℕ)) (page : List ℕ) (free : ℕ → Bool) (blink j l p t w : ℕ) : Type 0 where
  pub shows : 1 ≤ j → j ≤ c.r → in_time c b page free j ≡ true → picture_bits w ≡ picture c b.n page q blink j l p
  pub dark : j ≤ c.r → in_time c b page free j ≡ false → picture_bits w ≡ dark_word (line_count c l) (leb c.h p) false
  pub retrace : (eqb j 0 || ltb c.r j) ≡ true → picture_bits w ≡ dark_word (line_count c l) (leb c.h p) true
  pub asks : request_bit w ≡ bit (requested c b page free j t)

seen_core :
    (c : Shape) (b : Bursts) (q : Option (ℕ × ℕ)) (page : List ℕ) (free : ℕ → Bool) (blink t : ℕ) (k : Core) (rest : List ℕ) (irq : Bool)
    → Proper c → Good c b page free blink t k rest → Seen c b q page free blink k.row k.line k.column t (word c q irq k)
unfolding picture_bits request_bit
seen_core c b q page free blink t k rest irq p g =
    let s = picture_small c q k (count_small c k.line p g.line<) in
    let e = bits_are (pictured c q k) (wants k) irq s in
    record {
      shows = λ one le ok. e.0 ∙ shows_row c b page free blink t q k rest g one le ok;
      dark = λ le ok. e.0 ∙ shows_dark c b page free blink t q k rest g le ok;
      retrace = λ v. e.0 ∙ shows_retrace c b page free blink t q k rest g v;
      asks = e.1 ∙ ap bit (requests_it c b page free blink t k rest g);
    }

pub seen :
    (c : Shape) (b : Bursts) (q : Option (ℕ × ℕ)) (page : List ℕ) (free : ℕ → Bool) (blink t : ℕ) (rest : List ℕ) (s : State)
    → Proper c → At c b q page free blink t rest s → t < total c → (j l p : ℕ) → l < c.l → p < line_clocks c → t ≡ number c j l p
    → Seen c b q page free blink j l p t (clock_word c s)
unfolding clock_word ready_core
seen c b q page free blink t rest s pr a lt j l p hl hp e =
    let k : Core = ready_core c s in
    let g = a.mid lt in
    let w = same_place c k.row k.line k.column j l p (sym g.place_is ∙ e) g.line< g.column< hl hp in
    let x = seen_core c b q page free blink t k (rest_at t page rest) (s.flags.ir || requests c s) pr g in
    rw (a.cursor, ← w.0, ← w.1, ← w.2) x

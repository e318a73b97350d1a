-- The words of a still, by line and column.
use Rattle.std.proofs.Common.{◌≡◌, ℕ, zero, suc, ◌+◌, ◌*◌, ◌/◌, ◌%◌, ◌<◌, ◌≤◌, List, ◌++◌, length, get_or, take, drop, Some, sym, refl, ap, ◌∙◌, mod-lt, div-lt_iff_lt-mul, add_comm, arith}
use native.Mathlib.Nat.{mod-add-div'}
use Rattle.std.proofs.lemmas.List.{ext_get_or, take-append-le, take_all}
use Rattle.video.specs.Composition.{Shape, shape_of, width}
use Rattle.rows.specs.Page.{picture}
use Rattle.rows.specs.Laws.{Still}
use Rattle.console.specs.Answers.{StillOf}
use Rattle.console.specs.Model.{state_of}
use Rattle.frame.specs.Ports.{State}
use Rattle.listing.specs.Looks.{columns_from}
use Rattle.sheet.specs.Screens.{Composed}
use Rattle.sheet.specs.Stills.{words_of, still_words}
use Rattle.sheet.specs.declared.screen.Screen.{Screen}

length_columns : (f : ℕ → ℕ) (p n : ℕ) → length (columns_from f p n) ≡ n
length_columns f p zero = refl
length_columns f p (suc n) = ap suc (length_columns f (suc p) n)

getD_columns : (f : ℕ → ℕ) (p n i : ℕ) → i < n → get_or (columns_from f p n) i 0 ≡ f (p + i)
getD_columns f p zero i h = absurd (omega arith)
getD_columns f p (suc n) zero h = let z : p + 0 ≡ p = omega arith in rw z refl
getD_columns f p (suc n) (suc i) h =
    let z : suc p + i ≡ p + suc i = omega arith in
    getD_columns f (suc p) n i (omega arith) ∙ ap f z

-- a list of l lines of w words
by_lines : (f : ℕ → ℕ → ℕ) (l w : ℕ) (xs : List ℕ) → 0 < w → length xs ≡ l * w → ((line p : ℕ) → line < l → p < w → get_or xs (line * w + p) 0 ≡ f line p)
    → xs ≡ columns_from (λ i. f (i / w) (i % w)) 0 (l * w)
by_lines f l w xs b e h =
    ext_get_or 0 xs (columns_from (λ i. f (i / w) (i % w)) 0 (l * w)) (e ∙ sym (length_columns (λ i. f (i / w) (i % w)) 0 (l * w)))
    (λ i k.
    let m : i < l * w = omega arith in
    let q : i / w < l = (div-lt_iff_lt-mul b).1 m in
    let r : i % w < w = mod-lt i b in
    let s : i / w * w + i % w ≡ i = add_comm (i / w * w) (i % w) ∙ mod-add-div' i w in
    let z : 0 + i ≡ i = omega arith in
    sym (ap (λ (n : ℕ). get_or xs n 0) s) ∙ (h (i / w) (i % w) q r ∙ (ap (λ (n : ℕ). f (n / w) (n % w)) (sym z) ∙ sym (getD_columns (λ n. f (n / w) (n % w)) 0 (l * w) i m))))

words_are : (c : Shape) (s : State) (page : List ℕ) (j len : ℕ) (out out₂ items : List ℕ) → 0 < width c → s.shape ≡ Some c
    → StillOf s page j out out₂ → length out ≡ len → len ≡ c.l * width c → take len (out₂ ++ drop (length out₂) items) ≡ words_of c s page j
words_are c s page j len out out₂ items b e h k m =
    let t : Still c s.control.bursts.n page s.cursor s.core.blink j out out₂ = rw e at h in
    let z : length out₂ ≡ len = t.size ∙ k in
    let y : len ≤ length out₂ = omega arith in
    take-append-le len out₂ (drop (length out₂) items) y
    ∙ (take_all len out₂ (omega arith)
    ∙ by_lines (λ line p. picture c s.control.bursts.n page s.cursor s.core.blink j line p) c.l (width c) out₂ b (z ∙ m) t.words)

pub still_is : (x : Screen) (page : List ℕ) (j len : ℕ) (out out₂ items : List ℕ) → 0 < width (shape_of x.composition) → Composed x
    → StillOf (state_of x.console) page j out out₂ → length out ≡ len → len ≡ x.composition.lines * width (shape_of x.composition)
    → take len (out₂ ++ drop (length out₂) items) ≡ still_words x page j
unfolding still_words
still_is x page j len out out₂ items b e h k m = words_are (shape_of x.composition) (state_of x.console) page j len out out₂ items b e h k m

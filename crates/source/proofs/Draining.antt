-- What a run of clocks comes to.
use Rattle.std.proofs.Common.{◌≡◌, ℕ, zero, suc, ◌+◌, ◌-◌, ◌<◌, ◌≤◌, Bool, true, false, cond, List, [], ◌∷◌, ◌++◌, length, get_or, take, drop, set, None, Option, sym, refl, ap, ◌∙◌, append_assoc, append-nil, arith}
use mathlib.Core.Path.{fun_ext}
use lib.Seq.{take-nil, drop-nil}
use Rattle.std.proofs.lemmas.List.{take_more_set, take_all}
use Rattle.source.specs.Meaning.{Meaning, first_of, handed, left, answer, later, clocked}
use Rattle.source.specs.Runs.{frees, bytes_in, waited, Drained}

same_meaning : (page rest : List ℕ) (f g : ℕ → Bool) → ((k : ℕ) → f k ≡ g k)
    → ◌≡◌ {A = Meaning} (record { page = page; rest = rest; free = f }) (record { page = page; rest = rest; free = g })
same_meaning page rest f g e = ap (λ (h : ℕ → Bool). record { page = page; rest = rest; free = h }) (fun_ext e)

pub wait_none : (m : Meaning) → m ≡ waited 0 m
wait_none m = same_meaning m.page m.rest m.free (λ k. m.free (0 + k)) (λ k. let q : k ≡ 0 + k = omega arith in ap m.free q)

pub wait_more : (i : ℕ) (m : Meaning) → clocked (waited i m) false ≡ waited (i + 1) m
wait_more i m =
    same_meaning m.page m.rest (λ k. m.free (i + suc k)) (λ k. m.free (i + 1 + k))
    (λ k. let q : i + suc k ≡ i + 1 + k = omega arith in ap m.free q)

pub wait_first : (i : ℕ) (m : Meaning) → waited i (clocked m false) ≡ waited (suc i) m
wait_first i m =
    same_meaning m.page m.rest (λ k. m.free (suc (i + k))) (λ k. m.free (suc i + k))
    (λ k. let q : suc (i + k) ≡ suc i + k = omega arith in ap m.free q)

-- the answers of n clocks, all wanted, and what they lead to
abbrev pub answers : ℕ → Meaning → List (Option ℕ)
answers zero m = []
answers (suc n) m = answer m true ∷ answers n (clocked m true)

abbrev pub ending : ℕ → Meaning → Meaning
ending zero m = m
ending (suc n) m = ending n (clocked m true)

-- one more answer noted, and one fewer to come
pub one_more : (xs : List (Option ℕ)) (i n : ℕ) (o : Option ℕ) (m m' : Meaning) (all : List (Option ℕ))
    → i < n → length xs ≡ n → o ≡ answer m true → m' ≡ clocked m true
    → take i xs ++ answers (n - i) m ≡ all → take (i + 1) (set xs i o) ++ answers (n - (i + 1)) m' ≡ all
one_more xs i n o m m' all lt len eo em inv =
    let h : i < length xs = omega arith in
    let q : n - i ≡ suc (n - (i + 1)) = omega arith in
    let t = take_more_set xs i o h in
    let a = append_assoc (take i xs) (o ∷ []) (answers (n - (i + 1)) m') in
    let u : answers (n - i) m ≡ o ∷ answers (n - (i + 1)) m' = ap (λ k. answers k m) q ∙ simp (eo, em) in
    ap (λ l. l ++ answers (n - (i + 1)) m') t ∙ a ∙ sym (ap (λ l. take i xs ++ l) u) ∙ inv

pub one_less : (i n : ℕ) (m m' last : Meaning) → i < n → m' ≡ clocked m true → ending (n - i) m ≡ last → ending (n - (i + 1)) m' ≡ last
one_less i n m m' last lt em inv =
    let q : n - i ≡ suc (n - (i + 1)) = omega arith in
    ap (ending (n - (i + 1))) em ∙ sym (ap (λ k. ending k m) q) ∙ inv

-- free clocks counted from the first
frees_first : (f : ℕ → Bool) (n : ℕ) → frees f (suc n) ≡ cond (f 0) (suc (frees (later f) n)) (frees (later f) n)
frees_first f zero = refl
frees_first f (suc n) = ap (λ k. cond (f (suc n)) (suc k) k) (frees_first f n) ∙ moved (f (suc n)) (f 0) (frees (later f) n)
  where
    moved : (s t : Bool) (k : ℕ) → cond s (suc (cond t (suc k) k)) (cond t (suc k) k) ≡ cond t (suc (cond s (suc k) k)) (cond s (suc k) k)
    moved true true k = refl
    moved true false k = refl
    moved false true k = refl
    moved false false k = refl

front_more : (t : Bool) (k : ℕ) (rest : List ℕ) (os : List (Option ℕ)) → bytes_in os ≡ take k (left true t rest)
    → bytes_in (handed true t rest ∷ os) ≡ take (cond t (suc k) k) rest
front_more true k [] os e = e ∙ take-nil k
front_more true k (b ∷ bs) os e = ap (λ l. b ∷ l) e
front_more false k rest os e = e

behind_more : (t : Bool) (k : ℕ) (rest : List ℕ) → drop k (left true t rest) ≡ drop (cond t (suc k) k) rest
behind_more true k [] = drop-nil k
behind_more true k (b ∷ bs) = refl
behind_more false k rest = refl

each_more : (m : Meaning) (os : List (Option ℕ))
    → ((k : ℕ) → k < length os → get_or os k None ≡ cond (m.free (suc k)) (first_of (drop (frees (later m.free) k) (left true (m.free 0) m.rest))) None)
    → (k : ℕ) → k < suc (length os) → get_or (answer m true ∷ os) k None ≡ cond (m.free k) (first_of (drop (frees m.free k) m.rest)) None
each_more m os e zero h = refl
each_more m os e (suc k) h =
    e k (omega arith) ∙ ap (λ l. cond (m.free (suc k)) (first_of l) None)
    (behind_more (m.free 0) (frees (later m.free) k) m.rest ∙ ap (λ j. drop j m.rest) (sym (frees_first m.free k)))

pub drains : (n : ℕ) (m : Meaning) → Drained m (ending n m) (answers n m)
drains zero m = record { front = refl; each = λ k h. absurd (omega arith); busy = λ k h. absurd (omega arith); after = wait_none m }
drains (suc n) m =
    let p = drains n (clocked m true) in
    let os = answers n (clocked m true) in
    let count = sym (frees_first m.free (length os)) in
    let each = each_more m os p.each in
    record {
      front = front_more (m.free 0) (frees (later m.free) (length os)) m.rest os p.front ∙ ap (λ k. take k m.rest) count;
      each = each;
      busy = λ k h e. each k h ∙ ap (λ t. cond t (first_of (drop (frees m.free k) m.rest)) None) e;
      after = p.after
          ∙ same_meaning m.page (drop (frees (later m.free) (length os)) (left true (m.free 0) m.rest)) (λ k. m.free (suc (length os + k))) (λ k. m.free (suc (length os) + k))
          (λ k. let q : suc (length os + k) ≡ suc (length os) + k = omega arith in ap m.free q)
          ∙ ap (λ (l : List ℕ). record { page = m.page; rest = l; free = λ k. m.free (suc (length os) + k) })
          (behind_more (m.free 0) (frees (later m.free) (length os)) m.rest ∙ ap (λ k. drop k m.rest) count);
    }

-- all answers noted
pub all_noted : (xs : List (Option ℕ)) (i n : ℕ) (m start : Meaning) → n ≤ i → length xs ≡ n
    → take i xs ++ answers (n - i) m ≡ answers n start → ending (n - i) m ≡ ending n start → Drained start m xs
all_noted xs i n m start le len inv last =
    let q : n - i ≡ zero = omega arith in
    let h : length xs ≤ i = omega arith in
    let x : xs ≡ answers n start = sym (ap (λ k. take i xs ++ answers k m) q ∙ append-nil (take i xs) ∙ take_all i xs h) ∙ inv in
    let y : m ≡ ending n start = sym (ap (λ k. ending k m) q) ∙ last in
    rw (x, y) (drains n start)

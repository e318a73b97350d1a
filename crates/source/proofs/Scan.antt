-- Going through a list of spans.
use Rattle.std.proofs.Common.{◌≡◌, ℕ, ◌+◌, ◌<◌, ◌≤◌, min, Bool, true, false, not, ◌&&◌, ◌||◌, cond, List, [], ◌∷◌, length, get_or, drop, map, ltb, Some, None, Option, sym, refl, ap, ◌∙◌, ⊎_elim, arith}
use Rattle.std.specs.List.{list_all, list_any, filter, find, fold, reduce}
use Rattle.std.specs.Option.{unwrap_or, option_map}
use Rattle.std.proofs.lemmas.List.{at_drop_more, at_drop_all}
use Rattle.std.proofs.lemmas.Bool.{cases_lt}
use Rattle.std.proofs.lemmas.Bool.Decides.{nat_tests}
use Rattle.source.specs.declared.stalls.Span.{Span}
use Rattle.source.specs.Stalling.{small, all_small, covers, busy_in, outside, bad_spans}

abbrev nowhere : Span
nowhere = record { first = 0; length = 0 }

pub small_more : (xs : List Span) (i : ℕ) → i < length xs → all_small (drop i xs) ≡ (small (get_or xs i nowhere) && all_small (drop (i + 1) xs))
small_more xs i h = at_drop_more all_small xs i nowhere h

pub small_done : (xs : List Span) (i : ℕ) → length xs ≤ i → all_small (drop i xs) ≡ true
small_done xs i h = at_drop_all all_small xs i h

-- below the least of some numbers is below each of them
below_fold : (xs : List ℕ) (a t : ℕ) → t < fold min a xs → (t < a) × (list_all (ltb t) xs ≡ true)
below_fold [] a t h = (h, refl)
below_fold (x ∷ xs) a t h =
    let p = below_fold xs (min a x) t h in
    let l : t < a = omega arith in
    let m : t < x = omega arith in
    let q = p.1 in
    (l, grind (arith, nat_tests))

below_least : (xs : List ℕ) (d t : ℕ) → t < unwrap_or (reduce min xs) d → list_all (ltb t) xs ≡ true
below_least [] d t h = refl
below_least (x ∷ xs) d t h = let p = below_fold xs x t h in let l = p.0 in let q = p.1 in grind (arith, nat_tests)

-- spans that do not have a free clock have none before the next that begins behind it
free_on : (xs : List Span) (clock t : ℕ) → busy_in xs clock ≡ false → clock ≤ t → list_all (ltb t) (filter (ltb clock) (map (λ s. s.first) xs)) ≡ true
    → busy_in xs t ≡ false
free_on [] clock t e le h = refl
free_on (s ∷ ss) clock t e le h =
    let here : covers s clock ≡ false = grind (arith, nat_tests) in
    let others : busy_in ss clock ≡ false = grind (arith, nat_tests) in
    ⊎_elim
    (λ (l : clock < s.first).
    let k : ltb clock s.first ≡ true = grind (arith, nat_tests) in
    let g = rw k at h in
    let a : ltb t s.first ≡ true = grind (arith, nat_tests) in
    let b : list_all (ltb t) (filter (ltb clock) (map (λ s. s.first) ss)) ≡ true = grind (arith, nat_tests) in
    let r = free_on ss clock t others le b in
    grind (arith, nat_tests))
    (λ (l : s.first ≤ clock).
    let k : ltb clock s.first ≡ false = grind (arith, nat_tests) in
    let g : list_all (ltb t) (filter (ltb clock) (map (λ s. s.first) ss)) ≡ true = rw k at h in
    let r = free_on ss clock t others le g in
    grind (arith, nat_tests))
    (cases_lt clock s.first)

pub free_below_least : (xs : List Span) (clock d t : ℕ) → busy_in xs clock ≡ false → clock ≤ t
    → t < unwrap_or (reduce min (filter (ltb clock) (map (λ s. s.first) xs))) d → busy_in xs t ≡ false
free_below_least xs clock d t e le h = free_on xs clock t e le (below_least (filter (ltb clock) (map (λ s. s.first) xs)) d t h)

none_passes : {X : Type 0} (p : X → Bool) (xs : List X) → find p xs ≡ None → list_any p xs ≡ false
none_passes p [] n = refl
none_passes p (x ∷ xs) n =
    elim (p x) as (λ b. cond b (Some x) (find p xs) ≡ None → (b || list_any p xs) ≡ false) [ true ↦ λ m. cc | false ↦ λ m. none_passes p xs m ] n

-- where no span was found to have a clock, it is free
pub free_if_none : {A : Type 0} (at : A → Span) (xs : List Span) (clock : ℕ) (o : Option A)
    → option_map at o ≡ find (λ s. covers s clock) xs → o ≡ None → busy_in xs clock ≡ false
free_if_none at xs clock o e none = none_passes (λ s. covers s clock) xs (sym e ∙ ap (option_map at) none)

-- a small span ends before the largest count
never_covers : (s : Span) → small s ≡ true → covers s 4294967295 ≡ false
never_covers s h = grind (arith, nat_tests)

never_busy : (xs : List Span) → all_small xs ≡ true → busy_in xs 4294967295 ≡ false
never_busy [] h = refl
never_busy (s ∷ ss) h =
    let a : small s ≡ true = grind (arith, nat_tests) in
    let b : all_small ss ≡ true = grind (arith, nat_tests) in
    let p = never_covers s a in
    let q = never_busy ss b in
    simp (p, q)

pub free_at_stop : (xs : List Span) (count : ℕ) → bad_spans xs ≡ false → count ≡ 4294967295 → (n : ℕ) → outside xs count n ≡ true
free_at_stop xs count fit stop n =
    let a : all_small xs ≡ true = grind (arith, nat_tests) in
    let t : min (count + n) 4294967295 ≡ 4294967295 = omega arith in
    ap (λ k. not (busy_in xs k)) t ∙ ap not (never_busy xs a)

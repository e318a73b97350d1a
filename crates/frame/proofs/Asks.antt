-- Which of a row's bytes is asked for at a clock.
use Rattle.std.proofs.Common.{◌≡◌, ℕ, zero, suc, ◌-◌, ◌<◌, ◌≤◌, Bool, true, false, eqb, leb, refl, ⊎_elim, arith}
use Rattle.std.proofs.lemmas.Bool.{cases_lt, le-leb, lt-leb}
use Rattle.std.proofs.lemmas.Bool.Decides.{nat_tests}
use Rattle.frame.specs.Ports.{Bursts}
use Rattle.frame.specs.Timing.{opens, takes, asked}
use Rattle.frame.proofs.Takes.{opens_up}

-- bytes that were taken before the clock t are not asked for at t
pub asked_past : (free : ℕ → Bool) (end : ℕ) (b : Bursts) (base t k : ℕ) → ((j : ℕ) → j < k → takes free end b base j < t) → asked free end b base t k ≡ false
asked_past free end b base t zero h = refl
asked_past free end b base t (suc k) h =
    let i = asked_past free end b base t k (λ j lt. h j (omega arith)) in
    let l = lt-leb t (takes free end b base k) (h k (omega arith)) in
    grind (arith, nat_tests)

-- nor are bytes whose opening is still to come
pub asked_ahead : (free : ℕ → Bool) (end : ℕ) (b : Bursts) (base t k m : ℕ) → ((j : ℕ) → j < k → takes free end b base j < t) → t < opens free end b base k
    → asked free end b base t m ≡ false
asked_ahead free end b base t k zero h o = refl
asked_ahead free end b base t k (suc m) h o =
    let i = asked_ahead free end b base t k m h o in
    ⊎_elim
    (λ (lt : m < k). let l = lt-leb t (takes free end b base m) (h m lt) in grind (arith, nat_tests))
    (λ (ge : k ≤ m). let u = opens_up free end b base k m ge in let l = lt-leb (opens free end b base m) t (omega arith) in grind (arith, nat_tests))
    (cases_lt m k)

-- and one that is open and not taken yet is asked for
pub asked_now : (free : ℕ → Bool) (end : ℕ) (b : Bursts) (base t k m : ℕ) → k < m → opens free end b base k ≤ t → t ≤ takes free end b base k → asked free end b base t m ≡ true
asked_now free end b base t k zero lt o h = absurd (omega arith)
asked_now free end b base t k (suc m) lt o h =
    ⊎_elim
    (λ (l : k < m). let i = asked_now free end b base t k m l o h in grind (arith, nat_tests))
    (λ (g : m ≤ k).
    let e : m ≡ k = omega arith in
    let x : leb (opens free end b base m) t ≡ true = rw e (le-leb _ t o) in
    let y : leb t (takes free end b base m) ≡ true = rw e (le-leb t _ h) in
    grind (arith, nat_tests))
    (cases_lt k m)

-- in one: the byte behind k others is asked for as soon as the gap is over
pub asked_is : (free : ℕ → Bool) (end : ℕ) (b : Bursts) (base t k m gap : ℕ) → ((j : ℕ) → j < k → takes free end b base j < t) → gap ≡ opens free end b base k - t → k < m
    → t ≤ takes free end b base k → asked free end b base t m ≡ eqb gap 0
asked_is free end b base t k m gap past g lt h =
    ⊎_elim
    (λ (l : t < opens free end b base k). let i = asked_ahead free end b base t k m past l in let z : eqb gap 0 ≡ false = grind (arith, nat_tests) in rw z i)
    (λ (o : opens free end b base k ≤ t). let i = asked_now free end b base t k m lt o h in let z : eqb gap 0 ≡ true = grind (arith, nat_tests) in rw z i)
    (cases_lt t (opens free end b base k))

pub open_is : (o t gap : ℕ) → gap ≡ o - t → leb o t ≡ eqb gap 0
open_is o t gap e = grind (arith, nat_tests)

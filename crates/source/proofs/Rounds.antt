-- How a turn goes on.
use Rattle.std.proofs.Common.{◌≡◌, ℕ, suc, ◌+◌, ◌%◌, ◌<◌, ltb, sym, ap, ◌∙◌, add-zero, mod-eq_of_lt, arith}
use mathlib.Core.Path.{fun_ext}
use native.Mathlib.Nat.{add-mod_left, mod-add-mod}
use Rattle.source.specs.Meaning.{later}
use Rattle.source.specs.Buses.{in_turn}

pub turn_now : (a b gone : ℕ) → gone < a + b → ltb gone a ≡ in_turn a b gone 0
turn_now a b gone h = ap (λ k. ltb k a) (sym (ap (λ k. k % (a + b)) (add-zero gone) ∙ mod-eq_of_lt h))

pub turn_goes : (a b gone : ℕ) → in_turn a b (gone + 1) ≡ later (in_turn a b gone)
turn_goes a b gone = fun_ext (λ n. let q : gone + 1 + n ≡ gone + suc n = omega arith in ap (λ k. ltb (k % (a + b)) a) q)

pub turn_wraps : (a b gone : ℕ) → gone + 1 ≡ a + b → in_turn a b 0 ≡ later (in_turn a b gone)
turn_wraps a b gone e = fun_ext (λ n.
    let q : gone + suc n ≡ (a + b) + n = omega arith in
    let z : 0 + n ≡ n = omega arith in
    ap (λ k. ltb k a) (ap (λ k. k % (a + b)) z ∙ sym (ap (λ k. k % (a + b)) q ∙ add-mod_left (a + b) n)))

-- n clocks on
pub turn_waits : (a b gone n : ℕ) → in_turn a b ((gone + n) % (a + b)) ≡ (λ (k : ℕ). in_turn a b gone (n + k))
turn_waits a b gone n =
    fun_ext (λ k. let q : gone + n + k ≡ gone + (n + k) = omega arith in ap (λ t. ltb t a) (mod-add-mod (gone + n) (a + b) k ∙ ap (λ t. t % (a + b)) q))

use Rattle.std.proofs.Common.{◌≡◌, ℕ, ◌+◌, ◌<◌, ◌≤◌, cond, length, take, drop, nat_lt, Some, None, sym, ◌∙◌, ap, arith, rules, tests}
use Rattle.std.specs.Bool.{◌==◌}
use Rattle.std.specs.List.{position}
use Rattle.std.proofs.lemmas.Bool.Decides.{nat_tests}
use Rattle.std.proofs.lemmas.Iterator.{YieldsList-from_slice}
use Rattle.std.proofs.lemmas.Iterator.Search.{position_from_yields_List}
use Rattle.std.proofs.lemmas.List.{take_rest}
use Rattle.std.proofs.lemmas.List.Sums.{prefix_len-le-length}
use Rattle.arguments.proofs.numbers.parted.Goals as goal

nowhere : (n most : ℕ) → n ≤ most → None ≡ cond (nat_lt n most) (Some n) None → n ≡ most
nowhere n most h e = grind (arith, nat_tests)

somewhere : (n most k : ℕ) → Some k ≡ cond (nat_lt n most) (Some n) None → (n ≡ k) × (n < most)
somewhere n most k e = grind (arith, nat_tests)

pub returns-in_err-place : goal.returns-in_err-place
returns-in_err-place c =
    let found : c.position.result ≡ position (λ b. b == c.args.mark) c.args.text.now =
    position_from_yields_List (λ b. b == c.args.mark) _ _ c.position.result c.position.ensures.ran (YieldsList-from_slice c.args.text.now c.iter.ensures.rest) (λ x b q k. search (rules, tests)) in
    rw c.from_residual.ensures (nowhere _ _ (prefix_len-le-length _ c.args.text.now) (sym c.in_err-place.was ∙ found))

pub returns : goal.returns
returns c =
    let found : c.position.result ≡ position (λ b. b == c.args.mark) c.args.text.now =
    position_from_yields_List (λ b. b == c.args.mark) _ _ c.position.result c.position.ensures.ran (YieldsList-from_slice c.args.text.now c.iter.ensures.rest) (λ x b q k. search (rules, tests)) in
    let at = somewhere _ (length c.args.text.now) _ (sym c.in_ok-place.was ∙ found) in
    (at.1, (ap (λ (n : ℕ). take n c.args.text.now) (sym at.0), take_rest c.args.text.now (c.in_ok-place.place + 1) ∙ ap (λ (n : ℕ). drop (n + 1) c.args.text.now) (sym at.0)))

-- Lemmas on text and lists.
use Rattle.std.proofs.Common.{◌≡◌, ℕ, ◌+◌, ◌/◌, ◌%◌, ◌<◌, ◌≤◌, List, [], ◌∷◌, ◌++◌, length, take, drop, Ok, Some, None, Option, option_map, unwrap_or, is_some, position, slice_index, true≢false, sym, refl, ap, ◌∙◌, arith}
use Rattle.std.proofs.lemmas.List.{take_all}
use Rattle.std.proofs.lemmas.Bool.Decides.{nat_tests}
use Rattle.std.specs.List.{flat_map}
use Rattle.std.specs.Int.{w16, w32, to_be_bytes}
use Rattle.replay.specs.declared.faults.Fault.{Fault}
use Rattle.replay.specs.Faults.{layer, number_of, column_of}
use Rattle.replay.specs.Digits.{bad, wrong, two, eight}
use Rattle.replay.specs.Requests.{sound}
use Rattle.replay.specs.Prints.{fault_line}

none_mapped : (o : Option ℕ) → option_map (λ (i : ℕ). i + 1) o ≡ None → o ≡ None
none_mapped None e = refl
none_mapped (Some i) e = absurd (true≢false (ap (λ (x : Option ℕ). is_some x) e))

-- a line with no wrong digit, if it is not too long, has digits only
pub all_good : (l : List ℕ) → length l ≤ 66 → wrong l ≡ None → position bad l ≡ None
all_good l h e = ap (position bad) (sym (take_all 66 l h)) ∙ none_mapped (position bad (take 66 l)) e

pub good_behind : (l : List ℕ) → length l ≤ 66 → wrong l ≡ None → position bad (drop 2 l) ≡ None
good_behind l h e = let g = all_good l h e in grind (arith, nat_tests)

pub sound_good : (l : List ℕ) → Ok tt ≡ sound l → position bad (drop 2 l) ≡ None
sound_good l e = good_behind l (grind (arith, nat_tests)) (grind (arith, nat_tests))

-- a word's bytes, from the highest on
pub word_text : (w : ℕ) → w < 4294967296 → flat_map two (to_be_bytes w32 w) ≡ eight w
word_text w h =
    let a : w / 0x1000000 % 0x100 ≡ w / 0x10000 / 0x100 = omega (arith, h) in
    let c : w / 0x100 % 0x100 ≡ w % 0x10000 / 0x100 = omega (arith, h) in
    let d : w % 0x100 ≡ w % 0x10000 % 0x100 = omega (arith, h) in
    rw (← a, ← c, ← d) refl

pub fault_bytes : (f : Fault) (n l k c : ℕ) (m : List ℕ) → n < 65536 → l ≡ layer f → k ≡ number_of f → m ≡ to_be_bytes w16 n → c ≡ unwrap_or (column_of f) 0
    → flat_map two (0xFF ∷ l ∷ k ∷ slice_index m 0 ∷ slice_index m 1 ∷ c ∷ []) ++ 10 ∷ [] ≡ fault_line f n
unfolding fault_line
fault_bytes f n l k c m h e₁ e₂ e₃ e₄ =
    let a : n / 0x100 % 0x100 ≡ n / 0x100 = omega (arith, h) in
    rw (e₁, e₂, e₃, e₄, a) refl

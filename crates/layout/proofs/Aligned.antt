-- Numbers, right-aligned, as the library prints them.
use Rattle.std.proofs.Common.{◌≡◌, ℕ, zero, suc, ◌-◌, ◌^◌, ◌<◌, false, List, [], ◌∷◌, replicate, refl, ap, append-nil, arith}
use native.Mathlib.Numerals.{unary_clauses}
use Rattle.std.specs.List.{repeat}
use Rattle.std.specs.Fmt.{is_bare_number, styled_decimal, padded_integral, char_count, format_spec}
use Rattle.std.proofs.lemmas.Bool.Decides.{nat_tests}
use Rattle.std.proofs.lemmas.Str.{encode_ascii}
use Rattle.layout.specs.Numbers.{right}

pub no_width : (n : ℕ) → 0 - n ≡ 0
no_width n = omega arith

all_before : (n : ℕ) → n - n ≡ 0
all_before n = omega arith

repeated : (n c : ℕ) → repeat n (c ∷ []) ≡ replicate n c
repeated zero c = refl
repeated (suc n) c = ap (λ (x : List ℕ). c ∷ x) (repeated n c)

wide : (w : ℕ) → is_bare_number (format_spec 32 3 0 (suc w) (2 ^ 64 - 1)) ≡ false
wide w = grind (arith, nat_tests)

pub aligned : (w n : ℕ) → styled_decimal (format_spec 32 3 0 w (2 ^ 64 - 1)) n ≡ right w n
unfolding padded_integral char_count
aligned zero n = simp no_width
aligned (suc w) n =
    let l : 32 < 128 = omega arith in
    simp (wide, unary_clauses, encode_ascii 32 l, repeated, all_before, append-nil)

-- A field's code asks for that field.
use Rattle.std.proofs.Common.{◌≡◌, ℕ, ◌+◌, ◌*◌, ◌/◌, ◌%◌, ◌≤◌, Bool, true, false, eqb, arith, lit≤}
use Rattle.video.specs.Fields.{field_of}
use Rattle.std.specs.Int.{from_bool as bit}
use Rattle.video.specs.declared.field.Field.{Field}

small : (b : Bool) → bit b ≤ 1
small true = lit≤ tt
small false = lit≤ tt

flagged : (x : ℕ) (b : Bool) → x ≡ bit b → eqb x 1 ≡ b
flagged x true e = simp e
flagged x false e = simp e

pub code_back :
    (f : Field)
    → field_of (32 * bit f.underline + 16 * bit f.reverse + 8 * bit f.gpa1 + 4 * bit f.gpa0 + 2 * bit f.blink + bit f.highlight) ≡ f
code_back f =
    let u = small f.underline in
    let r = small f.reverse in
    let a = small f.gpa1 in
    let b = small f.gpa0 in
    let k = small f.blink in
    let h = small f.highlight in
    let n : ℕ = 32 * bit f.underline + 16 * bit f.reverse + 8 * bit f.gpa1 + 4 * bit f.gpa0 + 2 * bit f.blink + bit f.highlight in
    let e0 = flagged (n / 32 % 2) f.underline (omega arith) in
    let e1 = flagged (n / 16 % 2) f.reverse (omega arith) in
    let e2 = flagged (n / 8 % 2) f.gpa1 (omega arith) in
    let e3 = flagged (n / 4 % 2) f.gpa0 (omega arith) in
    let e4 = flagged (n / 2 % 2) f.blink (omega arith) in
    let e5 = flagged (n / 1 % 2) f.highlight (omega arith) in
    simp (e0, e1, e2, e3, e4, e5)

-- Words written one by one, and line by line.
use Rattle.std.proofs.Common.{◌≡◌, ℕ, ◌+◌, ◌-◌, ◌*◌, ◌<◌, ◌≤◌, List, ◌++◌, length, get_or, take, drop, set, sym, ap, ◌∙◌, ⊎_elim, mul-le-mul_right, suc-mul, arith, length-append, length-drop, get_or-set_other, get_or-set_same}
use lib.Arith.{digits_lt}
use lib.Seq.{length-take-le}
use borrow.Rule.Slice.PartMut.{put_mid}
use Rattle.std.proofs.lemmas.Bool.{cases_lt}
use Rattle.std.proofs.lemmas.List.{get_or_append_left, get_or-append_right, get_or-take, get_or-drop}
use Rattle.std.proofs.lemmas.Slice.{drop-put_mid}

pub one_more : (xs : List ℕ) (v : ℕ) (f : ℕ → ℕ) (p : ℕ) → p < length xs → v ≡ f p → ((q : ℕ) → q < p → get_or xs q 0 ≡ f q)
    → (q : ℕ) → q < p + 1 → get_or (set xs p v) q 0 ≡ f q
one_more xs v f p l e h q b =
    ⊎_elim
    (λ (s : q < p). get_or-set_other xs p q v 0 (λ z. omega arith) ∙ h q s)
    (λ (g : p ≤ q). let z : q ≡ p = omega arith in rw z (get_or-set_same xs p v 0 l ∙ e))
    (cases_lt q p)

-- a part written anew, of k words from number a on
module _ (xs ys : List ℕ) (a k : ℕ) (fits : a + k ≤ length xs) (size : length ys ≡ k) where
  front : length (take a xs) ≡ a
  front = length-take-le a xs (omega arith)

  pub part_size : length (put_mid a k xs ys) ≡ length xs
  part_size = omega (arith, length-append (take a xs) (ys ++ drop k (drop a xs)), length-append ys (drop k (drop a xs)), length-drop k (drop a xs), length-drop a xs, front)

  pub part_before : (i : ℕ) → i < a → get_or (put_mid a k xs ys) i 0 ≡ get_or xs i 0
  part_before i h = get_or_append_left (take a xs) (ys ++ drop k (drop a xs)) 0 i (omega (arith, front)) ∙ get_or-take a xs i 0 h

  pub part_new : (p : ℕ) → p < k → get_or (put_mid a k xs ys) (a + p) 0 ≡ get_or ys p 0
  part_new p h =
      let z : a + p - a ≡ p = omega arith in
      get_or-append_right (take a xs) (ys ++ drop k (drop a xs)) a (a + p) 0 front (omega arith)
      ∙ ap (λ i. get_or (ys ++ drop k (drop a xs)) i 0) z
      ∙ get_or_append_left ys (drop k (drop a xs)) 0 p (omega arith)

  pub part_after : (i : ℕ) → a + k ≤ i → get_or (put_mid a k xs ys) i 0 ≡ get_or xs i 0
  part_after i h =
      let z : a + k + (i - (a + k)) ≡ i = omega arith in
      let e = drop-put_mid a k xs ys (a + k) (omega arith) (omega arith) size in
      rw (← z) (sym (get_or-drop (a + k) (put_mid a k xs ys) (i - (a + k)) 0) ∙ ap (λ l. get_or l (i - (a + k)) 0) e ∙ get_or-drop (a + k) xs (i - (a + k)) 0)

-- a line of l + 1 fits where l + 1 lines do
pub line_fits : (l m w n : ℕ) → l < m → m * w ≤ n → l * w + w ≤ n
line_fits l m w n h b = let a = mul-le-mul_right w h in omega (arith, suc-mul l w)

-- line l of m, each of w words, written anew
module _ (xs ys : List ℕ) (a k w l m : ℕ) (at : a ≡ l * w) (many : k ≡ w) (inside : l < m) (room : m * w ≤ length xs) (size : length ys ≡ w) where
  fits : a + k ≤ length xs
  fits = omega (arith, line_fits l m w (length xs) inside room)

  pub line_size : length (put_mid a k xs ys) ≡ length xs
  line_size = part_size xs ys a k fits (omega arith)

  pub line_more : (f : ℕ → ℕ → ℕ) → ((i p : ℕ) → i < l → p < w → get_or xs (i * w + p) 0 ≡ f i p) → ((p : ℕ) → p < w → get_or ys p 0 ≡ f l p)
      → (i p : ℕ) → i < l + 1 → p < w → get_or (put_mid a k xs ys) (i * w + p) 0 ≡ f i p
  line_more f old new i p b c =
      ⊎_elim
      (λ (s : i < l). let e = digits_lt s c in part_before xs ys a k fits (omega arith) (i * w + p) (omega arith) ∙ old i p s c)
      (λ (g : l ≤ i). let z : i ≡ l = omega arith in rw (z, ← at) (part_new xs ys a k fits (omega arith) p (omega arith) ∙ new p c))
      (cases_lt i l)

  pub line_rest : (i : ℕ) → m * w ≤ i → get_or (put_mid a k xs ys) i 0 ≡ get_or xs i 0
  line_rest i h = part_after xs ys a k fits (omega arith) i (omega (arith, line_fits l m w (m * w) inside (omega arith)))

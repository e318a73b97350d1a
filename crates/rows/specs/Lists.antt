-- Lists of any kind.
use Rattle.std.specs.Prelude.{ℕ, zero, suc, Bool, false, cond, ◌||◌, List, [], ◌∷◌, Some, None, Option}

-- the element of number p, from 0
abbrev pub at : {A : Type 0} → List A → ℕ → Option A
at [] p = None
at (x ∷ xs) zero = Some x
at (x ∷ xs) (suc p) = at xs p

-- the last element, or d where there is none
abbrev pub last : {A : Type 0} → A → List A → A
last d [] = d
last d (x ∷ xs) = last x xs

-- the elements before the first of which t holds
abbrev pub before : {A : Type 0} → (A → Bool) → List A → List A
before t [] = []
before t (x ∷ xs) = cond (t x) [] (x ∷ before t xs)

-- the same, and that first one
abbrev pub upto : {A : Type 0} → (A → Bool) → List A → List A
upto t [] = []
upto t (x ∷ xs) = x ∷ cond (t x) [] (upto t xs)

-- t holds of some element
abbrev pub some : {A : Type 0} → (A → Bool) → List A → Bool
some t [] = false
some t (x ∷ xs) = t x || some t xs

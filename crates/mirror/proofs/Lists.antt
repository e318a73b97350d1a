-- An array that a closure makes from another, or of which the other is made.
use Rattle.std.proofs.Common.{◌≡◌, ℕ, ◌<◌, List, map, length, get_or, sym, ◌∙◌, arith}
use Rattle.std.proofs.lemmas.List.{ext_get_or, get_or-map, length-map}
use denote.Param.Members.{Mut}
use Rattle.std.specs.Array.{IsFromFnResult}
use Rattle.rows.proofs.Made.{Gives, made_by}

module _ {F X Y : Type 0} (g : Mut F (ℕ × Unit {0}) Y) (h : F) where
  -- each call gives what f gives of the element of xs
  pub made :
      (f : X → Y) (xs : List X) (ys : List Y) (n : ℕ) (d : X) → length xs ≡ n → IsFromFnResult g h ys n
      → Gives g h (λ i y. y ≡ f (get_or xs i d)) → ys ≡ map f xs
  made f xs ys n d long m gives =
      ext_get_or (f d) ys (map f xs) (m.long ∙ sym (length-map xs f ∙ long))
      (λ i small. let here : i < n = omega (arith, small, m.long) in
      made_by g h (λ i y. y ≡ f (get_or xs i d)) (f d) ys n gives m i here ∙ sym (get_or-map f xs i d (f d) (omega (arith, here, long))))

  -- of what each call gives, f gives the element of xs
  pub made_back :
      (f : Y → X) (xs : List X) (ys : List Y) (n : ℕ) (d : X) (e : Y) → length xs ≡ n → IsFromFnResult g h ys n
      → Gives g h (λ i y. f y ≡ get_or xs i d) → map f ys ≡ xs
  made_back f xs ys n d e long m gives =
      ext_get_or d (map f ys) xs (length-map ys f ∙ m.long ∙ sym long)
      (λ i small. let here : i < n = omega (arith, small, length-map ys f, m.long) in
      get_or-map f ys i e d (omega (arith, here, m.long)) ∙ made_by g h (λ i y. f y ≡ get_or xs i d) e ys n gives m i here)

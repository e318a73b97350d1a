-- What the clocks of a frame were answered.
use Rattle.std.proofs.Common.{◌≡◌, ℕ, List, [], ◌∷◌, refl, ap}
use Rattle.std.specs.List.{filter_map}
use Rattle.frame.specs.declared.call.Answer.{Answer}
use Rattle.frame.specs.declared.call.Answer.TheVariants.{Done, Byte, Word, Refused}
use Rattle.frame.specs.History.{words}
use Rattle.film.specs.FrameRows.{word_of}

pub words_are : (xs : List Answer) → words xs ≡ filter_map word_of xs
words_are [] = refl
words_are (Done ∷ xs) = words_are xs
words_are (Byte b ∷ xs) = words_are xs
words_are (Word w ∷ xs) = ap (λ (x : List ℕ). w ∷ x) (words_are xs)
words_are (Refused e ∷ xs) = words_are xs

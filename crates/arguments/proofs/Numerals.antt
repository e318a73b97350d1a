-- Going through a text by an index.
use Rattle.std.proofs.Common.{◌≡◌, ℕ, ◌+◌, ◌<◌, ◌≤◌, List, length, get_or, drop, Some}
use Rattle.std.proofs.lemmas.List.{at_drop_more, at_drop_all}
use Rattle.arguments.specs.Numbers.{then, grown, figure_after}

pub figure_more : (most n : ℕ) (t : List ℕ) (i : ℕ) → i < length t
    → figure_after most n (drop i t) ≡ then (grown most n (get_or t i 0)) (λ m. figure_after most m (drop (i + 1) t))
figure_more most n t i h = at_drop_more (figure_after most n) t i 0 h

pub figure_done : (most n : ℕ) (t : List ℕ) (i : ℕ) → length t ≤ i → figure_after most n (drop i t) ≡ Some n
figure_done most n t i h = at_drop_all (figure_after most n) t i h

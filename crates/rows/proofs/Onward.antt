-- Reading on in a part of the page.
use Rattle.std.proofs.Common.{◌≡◌, ℕ, ◌+◌, ◌<◌, ◌≤◌, Bool, true, false, List, length, get_or, drop, Some, None, sym, refl, ap, ◌∙◌}
use Rattle.std.proofs.lemmas.List.{at_drop_more, at_drop_all}
use Rattle.rows.specs.declared.state.RowBuffer.{RowBuffer}
use Rattle.rows.specs.Buffer.{Buffer, full, eat, reads}
use Rattle.rows.specs.Model.{buffer_of, read_of}
use Rattle.rows.proofs.Takes.{reads_full, reads_more, reads_none}

pub read_done : (f : Bool) (n : ℕ) (b : RowBuffer) (xs : List ℕ) (i : ℕ) → b.take.taken ≡ i → full (buffer_of b).take ≡ true
    → read_of (Some b) xs ≡ reads f n (buffer_of b) (drop i xs)
read_done f n b xs i e h = sym (reads_full f n (buffer_of b) (drop i xs) h ∙ (rw (← e) refl))

pub read_short : (f : Bool) (n : ℕ) (b : RowBuffer) (xs : List ℕ) (i : ℕ) → length xs ≤ i → full (buffer_of b).take ≡ false
    → None ≡ reads f n (buffer_of b) (drop i xs)
read_short f n b xs i l h = sym (at_drop_all (reads f n (buffer_of b)) xs i l ∙ reads_none f n (buffer_of b) h)

pub read_more : (f : Bool) (n : ℕ) (b b₂ : Buffer) (xs : List ℕ) (i : ℕ) → i < length xs → full b.take ≡ false → b₂ ≡ eat f n b (get_or xs i 0)
    → reads f n b₂ (drop (i + 1) xs) ≡ reads f n b (drop i xs)
read_more f n b b₂ xs i l h e =
    ap (λ (x : Buffer). reads f n x (drop (i + 1) xs)) e
    ∙ sym (at_drop_more (reads f n b) xs i 0 l ∙ reads_more f n b (get_or xs i 0) (drop (i + 1) xs) h)

-- The picture of a row that was found.
use Rattle.std.proofs.Common.{◌≡◌, ℕ, suc, ◌<◌, ◌≤◌, Bool, true, false, ltb, List, Option, refl, ◌∙◌, arith}
use Rattle.std.proofs.lemmas.Bool.Decides.{nat_tests}
use Rattle.video.specs.Composition.{Shape, line_count}
use Rattle.video.specs.Picture.{dark_word, cell_word}
use Rattle.video.specs.declared.cell.Cell.{Cell}
use Rattle.rows.specs.Buffer.{Shown, column_cell}
use Rattle.rows.specs.Page.{row_cell, cursor_in, picture}
use Rattle.rows.specs.Stands.{Columns}

-- clocks of retrace are dark
pub retrace : (c : Shape) (n : ℕ) (page : List ℕ) (q : Option (ℕ × ℕ)) (k j line p w count : ℕ) → c.h ≤ p → count ≡ line_count c line → w ≡ dark_word count true false
    → w ≡ picture c n page q k j line p
unfolding picture
retrace c n page q k j line p w count h e g = let t : ltb p c.h ≡ false = grind (arith, nat_tests) in rw t (g ∙ (rw e refl))

-- a column of a row whose columns are known
pub shows_it : (c : Shape) (n : ℕ) (page : List ℕ) (q : Option (ℕ × ℕ)) (k j line p : ℕ) (s : Shown) (here : Bool) (x : Cell) (w : ℕ) → p < c.h → Columns c n page j s
    → here ≡ cursor_in q (suc j) p → x ≡ column_cell s p → w ≡ cell_word c line k here x → w ≡ picture c n page q k (suc j) line p
unfolding picture
shows_it c n page q k j line p s here x w h f e y g =
    let t : ltb p c.h ≡ true = grind (arith, nat_tests) in
    let z : x ≡ row_cell c n page (suc j) p = y ∙ f p in
    rw t (g ∙ (rw (e, z) refl))

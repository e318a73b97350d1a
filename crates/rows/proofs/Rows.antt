-- Rows of a page, by row buffers.
use Rattle.std.proofs.Common.{◌≡◌, ℕ, suc, ◌+◌, ◌-◌, ◌<◌, ◌≤◌, Bool, false, List, length, take, drop, Option, Some, None, option_map, sym, ap, ◌∙◌, subst, add-one, arith, length-drop}
use Rattle.std.proofs.lemmas.List.{take_all}
use Rattle.video.specs.Composition.{Shape}
use Rattle.rows.specs.declared.found.Found.{Found}
use Rattle.rows.specs.declared.state.RowBuffer.{RowBuffer}
use Rattle.rows.specs.Buffer.{Shown, Buffer, fresh, reads}
use Rattle.rows.specs.Model.{bytes, buffer_of, shown_of, read_of}
use Rattle.rows.specs.Page.{blank, row}
use Rattle.rows.specs.Stands.{Behind, Next}
use Rattle.rows.proofs.Chain.{row_step, row_short, never_whole}

-- a row buffer as it begins below a row that was found, and the part of the page that it is fed from
pub record Begins (c : Shape) (page : List ℕ) (j at : ℕ) (a : Found) (s : RowBuffer) (part : List ℕ) (idle : Bool) : Type 0 where
  pub place : at ≡ a.place + a.row.take.taken
  pub idles : idle ≡ blank c (j + 1)
  pub buffer : buffer_of s ≡ fresh c.h idle a.row.take.over (shown_of a.row.show)
  pub rest : part ≡ drop at page

module _ (c : Shape) (n : ℕ) (page : List ℕ) (j at : ℕ) (idle : Bool) (a : Found) (s : RowBuffer) (part : List ℕ) (h : Behind c n page j (a.place + a.row.take.taken) a.row) (b : Begins c page j at a s part idle) where
  stands : Behind c n page j at a.row
  stands = subst (λ (p : ℕ). Behind c n page j p a.row) (sym b.place) h

  idle_is : idle ≡ blank c (suc j)
  idle_is = b.idles ∙ ap (blank c) (add-one j)

  begun : reads c.f n (fresh c.h idle a.row.take.over (shown_of a.row.show)) (drop at page) ≡ reads c.f n (buffer_of s) part
  begun = rw (b.buffer, b.rest)

  pub next_read : {T : Type 0} (fed : Option T) (x : RowBuffer) → read_of (option_map (λ _. x) fed) part ≡ reads c.f n (buffer_of s) part → bytes (option_map (λ _. x) fed) ≤ length part → at ≤ length page
      → Next c n page j (option_map (λ _. record { place = at; row = x }) fed)
  next_read None x q fits l = row_short c n page j at idle a.row.take.over (shown_of a.row.show) stands idle_is (begun ∙ sym q)
  next_read (Some u) x q fits l =
      let g = row_step c n page j at idle a.row.take.over (shown_of a.row.show) (record { taken = x.take.taken; over = x.take.over; show = shown_of x.show; left = drop x.take.taken part }) stands idle_is (begun ∙ sym q) in
      let d = length-drop at page in
      let p = ap length b.rest in
      (g.0, record { at = g.2; taken = g.3; within = omega arith; columns = g.1 })

pub started : (b : RowBuffer) (h : ℕ) (idle over : Bool) (s : Shown) → buffer_of b ≡ fresh h idle over s → b.take.taken ≡ 0
unfolding fresh
started b h idle over s e = ap (λ (x : Buffer). x.take.taken) e

-- a page that ends in row i + 1 has no whole row from there on
pub ends_early : (c : Shape) (n : ℕ) (page : List ℕ) (i j : ℕ) → i < suc j → (row c n page (suc i)).whole ≡ false → (row c n page (suc j)).whole ≡ false
ends_early c n page i j l h =
    let z : (j - i) + suc i ≡ suc j = omega arith in
    rw (← z) (never_whole c n page (suc i) (j - i) h)

pub rest_of : (i : ℕ) (xs : List ℕ) → take (length xs - i) (drop i xs) ≡ drop i xs
rest_of i xs = ap (λ (k : ℕ). take k (drop i xs)) (sym (length-drop i xs)) ∙ take_all (length (drop i xs)) (drop i xs) (omega arith)

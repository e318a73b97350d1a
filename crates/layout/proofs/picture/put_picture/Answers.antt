use Rattle.std.proofs.Common.{vec_items, ap, ◌∙◌}
use Rattle.std.proofs.lemmas.Result.{on_ok_weaker}
use Rattle.layout.specs.Lines.{trim}
use Rattle.layout.proofs.Appends.{next, appended}
use Rattle.layout.proofs.Trims.{trimmed_is}
use Rattle.layout.proofs.picture.put_picture.Goals as goal

pub returns : goal.returns
returns c =
    let t = trimmed_is _ _ c.trimmed.ensures ∙ ap trim (c.as_slice.ensures.value ∙ c.in_ok-text.ensures) in
    let m = trimmed_is _ _ c.trimmed-2.ensures ∙ ap trim (c.as_slice-2.ensures.value ∙ c.in_ok-marks.ensures) in
    on_ok_weaker c.extend_from_slice.result
    (λ e. next (vec_items c.args.out.now) _ _ c.in_ok-put_behind.ensures (next (vec_items c.put_behind.new.out) _ _ c.in_ok-put_behind-2.ensures e) ∙ simp (t, m))
    (appended c.extend_from_slice.result _ _ c.extend_from_slice.ensures.items)

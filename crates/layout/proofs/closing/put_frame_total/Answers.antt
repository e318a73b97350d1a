use Rattle.std.proofs.Common.{◌∙◌, append_assoc}
use Rattle.std.proofs.lemmas.Result.{on_ok_weaker}
use Rattle.layout.proofs.Aligned.{no_width}
use Rattle.layout.proofs.Appends.{next, appended}
use Rattle.layout.proofs.closing.put_frame_total.Goals as goal

pub returns-in-Some : goal.returns-in-Some
returns-in-Some c =
    on_ok_weaker c.put-in-Some.result
    (λ e. next c.args.out.now.items _ _ c.in_ok-put_status.ensures (next c.put_status.new.out.items _ _ c.in_ok-put.ensures e) ∙ simp (c.in-Some.is, no_width, append_assoc))
    c.put-in-Some.ensures

pub returns-in-None : goal.returns-in-None
returns-in-None c =
    on_ok_weaker c.extend_from_slice.result
    (λ e. next c.args.out.now.items _ _ c.in_ok-put_status.ensures (next c.put_status.new.out.items _ _ c.in_ok-put.ensures e) ∙ simp (c.in-None.is, no_width, append_assoc))
    (appended c.extend_from_slice.result _ _ c.extend_from_slice.ensures.items)

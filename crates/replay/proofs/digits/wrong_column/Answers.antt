use Rattle.std.proofs.Common.{ℕ, ◌+◌, position, take, ap, ◌∙◌, option_map}
use Rattle.std.proofs.lemmas.List.{take_min}
use Rattle.replay.specs.Digits.{bad}
use Rattle.replay.proofs.digits.wrong_column.Goals as goal

pub returns : goal.returns
returns c =
    ap (option_map (λ (i : ℕ). i + 1)) (c.in_ok-before.ensures.value ∙ ap (λ (n : ℕ). position bad (take n c.args.line.now)) c.min.ensures ∙ ap (position bad) (take_min 66 c.args.line.now))

pub returns-in_err-before : goal.returns-in_err-before
returns-in_err-before c =
    c.from_residual.ensures ∙ ap (option_map (λ (i : ℕ). i + 1)) (c.in_err-before.ensures.value ∙ ap (λ (n : ℕ). position bad (take n c.args.line.now)) c.min.ensures ∙ ap (position bad) (take_min 66 c.args.line.now))

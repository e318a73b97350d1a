-- Lemmas on what the lines play on.
use Rattle.std.proofs.Common.{◌≡◌, ℕ, ◌≤◌, Bool, List, [], ◌∷◌, length, take, replicate, refl, ap, ◌∙◌, arith}
use Rattle.std.proofs.lemmas.List.{length-replicate, take-replicate}
use Rattle.source.specs.Meaning.{Meaning}
use Rattle.frame.specs.declared.call.Call.{Call}
use Rattle.frame.specs.declared.call.Call.TheVariants.{Clock}
use Rattle.frame.specs.Ports.{State}
use Rattle.frame.specs.History.{answers, over, call_state, call_source}
use Rattle.replay.specs.declared.requests.Request.{Request}
use Rattle.replay.specs.declared.requests.Request.TheVariants.{Single, Clocks, Page}
use Rattle.replay.specs.Requests.{FitsRequest}
use Rattle.replay.specs.Desk.{Desk, answered}

-- each call has one answer
pub length_answers : (cs : List Call) (s : State) (m : Meaning) → length (answers (over cs s m) s) ≡ length cs
unfolding answers over
length_answers [] s m = refl
length_answers (x ∷ cs) s m = rw (length_answers cs (call_state x s m) (call_source x s m)) refl

pub some_clocks : (cs : List Call) (n : ℕ) → cs ≡ replicate 65535 Clock → n ≤ 65535 → take n cs ≡ replicate n Clock
some_clocks cs n e h = ap (λ (xs : List Call). take n xs) e ∙ take-replicate n 65535 Clock h

pub few_answers : (q : Request) (full : ℕ) (b : Bool) (d : Desk) → FitsRequest q full b → length (answered q d) ≤ 65535
few_answers (Single c) full b d f = (let e = length_answers (c ∷ []) d.console d.source in omega arith)
few_answers (Clocks n) full b d f =
    (let e = length_answers (replicate n Clock) d.console d.source in let k = length-replicate n Clock in omega arith)
few_answers (Page n) full b d f = omega arith

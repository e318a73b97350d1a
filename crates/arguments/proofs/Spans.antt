-- Spans, one after another.
use Rattle.std.proofs.Common.{◌≡◌, ℕ, zero, suc, ◌<◌, List, [], ◌∷◌, ◌++◌, length, get_or, Some, None, Option, refl, ap, ◌∙◌, arith}
use Rattle.source.specs.declared.stalls.Span.{Span}
use Rattle.arguments.specs.Buses.{span_of, span_before, spans_in}

abbrev span_behind : Option (List Span) → Option Span → Option (List Span)
span_behind None o = None
span_behind (Some ss) None = None
span_behind (Some ss) (Some s) = Some (ss ++ s ∷ [])

alone : (o : Option Span) → span_before o (Some []) ≡ span_behind (Some []) o
alone None = refl
alone (Some s) = refl

between : (o : Option Span) (m : Option (List Span)) (p : Option Span) → span_before o (span_behind m p) ≡ span_behind (span_before o m) p
between None m p = refl
between (Some s) None p = refl
between (Some s) (Some ss) None = refl
between (Some s) (Some ss) (Some t) = refl

one_more : (ps : List (List ℕ)) (p : List ℕ) → spans_in (ps ++ p ∷ []) ≡ span_behind (spans_in ps) (span_of p)
one_more [] p = alone (span_of p)
one_more (q ∷ ps) p = ap (span_before (span_of q)) (one_more ps p) ∙ between (span_of q) (spans_in ps) (span_of p)

-- one span more
pub spans_more : (ps : List (List ℕ)) (p : List ℕ) (ss : List Span) (s : Span) → spans_in ps ≡ Some ss → Some s ≡ span_of p → spans_in (ps ++ p ∷ []) ≡ Some (ss ++ s ∷ [])
spans_more ps p ss s h e = one_more ps p ∙ rw (h, ← e) refl

nothing : (o : Option Span) → span_before o None ≡ None
nothing None = refl
nothing (Some s) = refl

-- a piece that is malformed
pub spans_none : (ps : List (List ℕ)) (p : List ℕ) (n : ℕ) → n < length ps → p ≡ get_or ps n p → None ≡ span_of p → spans_in ps ≡ None
spans_none [] p n l e h = absurd (omega arith)
spans_none (q ∷ ps) p zero l e h = rw (← e, ← h) refl
spans_none (q ∷ ps) p (suc n) l e h = ap (span_before (span_of q)) (spans_none ps p n (omega arith) e h) ∙ nothing (span_of q)

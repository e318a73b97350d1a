-- The bus between the page and the console.
use Rattle.std.specs.Prelude.{ℕ, cond, List, [], ◌∷◌, length, Some, None, codes, Option, ◌==◌}
use Rattle.std.specs.List.{slice_split}
use Rattle.std.specs.Str.{bytes_eq}
use Rattle.source.specs.declared.stalls.Span.{Span}
use Rattle.arguments.specs.declared.bus.Bus.{Bus}
use Rattle.arguments.specs.declared.bus.Bus.TheVariants.{Free, Turns, Spans}
use Rattle.arguments.specs.Numbers.{before, front, behind, pair_of}

-- always free, free and busy in turn, or busy in spans, as they are written
pub data Line : Type 0 where
  free_line : Line
  turns_line : (free busy : ℕ) → Line
  spans_line : List ℕ → Line

abbrev pub line_of : Bus → Line
line_of Free = free_line
line_of (Turns a b) = turns_line a b
line_of (Spans s) = spans_line s.now

abbrev pub lined : Option Bus → Option Line
lined None = None
lined (Some b) = Some (line_of b)

abbrev pub in_turns : Option (ℕ × ℕ) → Option Line
in_turns None = None
in_turns (Some p) = Some (turns_line p.0 p.1)

-- two numbers up to 255, a colon between them
abbrev pub turns_of : List ℕ → Option Line
turns_of t = in_turns (pair_of 58 255 t)

abbrev pub by_kind : (kind figures : List ℕ) → Option Line
by_kind k t = cond (bytes_eq k (codes "turns")) (turns_of t) (cond (bytes_eq k (codes "spans")) (Some (spans_line t)) None)

-- the kind, and behind a colon its figures
abbrev pub bus_of : List ℕ → Option Line
bus_of t = cond (bytes_eq t (codes "free")) (Some free_line) (cond (before 58 t == length t) None (by_kind (front 58 t) (behind 58 t)))

-- the pieces of a text, cut at each mark
abbrev pub pieces : (mark : ℕ) → List ℕ → List (List ℕ)
pieces m t = slice_split (λ c. c == m) t

abbrev pub one_span : Option (ℕ × ℕ) → Option Span
one_span None = None
one_span (Some p) = Some (record { first = p.0; length = p.1 })

-- a first clock, a plus and a length
abbrev pub span_of : List ℕ → Option Span
span_of t = one_span (pair_of 43 4294967295 t)

abbrev pub span_before : Option Span → Option (List Span) → Option (List Span)
span_before None ss = None
span_before (Some s) None = None
span_before (Some s) (Some ss) = Some (s ∷ ss)

abbrev pub spans_in : List (List ℕ) → Option (List Span)
spans_in [] = Some []
spans_in (p ∷ ps) = span_before (span_of p) (spans_in ps)

-- spans with a comma between two of them, or none where one is malformed
abbrev pub spans_of : List ℕ → Option (List Span)
spans_of t = spans_in (pieces 44 t)

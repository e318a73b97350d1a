-- What is printed: answers, faults, lines, and whole texts.
use Rattle.std.specs.Prelude.{◌≡◌, ℕ, ◌+◌, cond, List, [], ◌∷◌, ◌++◌, length, take, unwrap_or, Ok, Err, Result, ◌==◌, nat_le}
use Rattle.frame.specs.declared.call.Answer.{Answer}
use Rattle.frame.specs.declared.call.Answer.TheVariants.{Done, Byte, Word, Refused}
use Rattle.replay.specs.declared.faults.PortFault.{PortFault}
use Rattle.replay.specs.declared.faults.Fault.{Fault}
use Rattle.replay.specs.declared.faults.Fault.TheVariants.{Port}
use Rattle.replay.specs.declared.requests.Request.{Request}
use Rattle.replay.specs.Digits.{two, four, eight}
use Rattle.replay.specs.Faults.{layer, number_of, column_of}
use Rattle.replay.specs.Requests.{requested}
use Rattle.replay.specs.Desk.{Desk, new_desk, followed, answers_to}

-- an answer, on a line of its own; a refusal is the port's fault
abbrev pub answer_text : Answer → List ℕ
answer_text Done = two 0 ++ 10 ∷ []
answer_text (Byte b) = two b ++ 10 ∷ []
answer_text (Word w) = eight w ++ 10 ∷ []
answer_text (Refused e) = []

abbrev pub refused : Answer → Result Unit PortFault
refused Done = Ok tt
refused (Byte b) = Ok tt
refused (Word w) = Ok tt
refused (Refused e) = Err (record { refusal = e })

-- answers in turn, up to the first that is refused
abbrev pub unless : Result Unit PortFault → List ℕ → List ℕ
unless (Ok x) text = text
unless (Err f) text = []

abbrev pub and_then : Result Unit PortFault → Result Unit PortFault → Result Unit PortFault
and_then (Ok x) r = r
and_then (Err f) r = Err f

unfoldable pub texts : List Answer → List ℕ
texts [] = []
texts (a ∷ rest) = answer_text a ++ unless (refused a) (texts rest)

unfoldable pub outcome : List Answer → Result Unit PortFault
outcome [] = Ok tt
outcome (a ∷ rest) = and_then (refused a) (outcome rest)

abbrev pub from_port : Result Unit PortFault → Result Unit Fault
from_port (Ok x) = Ok tt
from_port (Err f) = Err (Port f)

-- what a request that is answered so prints, and the fault that ends it, if any
abbrev pub spoken : Result Request Fault → List Answer → List ℕ
spoken (Ok q) xs = texts xs
spoken (Err f) xs = []

abbrev pub verdict : Result Request Fault → List Answer → Result Unit Fault
verdict (Ok q) xs = from_port (outcome xs)
verdict (Err f) xs = Err f

-- a fault: FF, layer, number, line and column, which is 00 where there is none
unfoldable pub fault_line : Fault → (line : ℕ) → List ℕ
fault_line f n = two 0xFF ++ (two (layer f) ++ (two (number_of f) ++ (four n ++ (two (unwrap_or (column_of f) 0) ++ 10 ∷ []))))

abbrev pub fault_text : Result Unit Fault → (line : ℕ) → List ℕ
fault_text (Ok x) n = []
fault_text (Err f) n = fault_line f n

-- what a line asks of a desk
abbrev pub asked_of : Desk → (line : List ℕ) → Result Request Fault
asked_of d l = requested d.closed (length d.page) l

-- the answers that a line prints, and its fault
abbrev pub reply : Result Request Fault → List Answer → (line : ℕ) → List ℕ
reply q xs n = spoken q xs ++ fault_text (verdict q xs) n

-- line number n has been followed
abbrev pub Followed : Desk → (line : List ℕ) → (n : ℕ) → (out : List ℕ) → Desk → (out₂ : List ℕ) → Type 0
Followed d l n out d₂ out₂ = (d₂ ≡ followed (asked_of d l) d) × (out₂ ≡ out ++ reply (asked_of d l) (answers_to (asked_of d l) d) n)

-- the desk, and how many lines there have been
pub record Stage : Type 0 where
  pub desk : Desk
  pub number : ℕ

abbrev pub new : Stage
new = record { desk = new_desk; number = 0 }

abbrev pub request_at : Stage → (line : List ℕ) → Result Request Fault
request_at s l = asked_of s.desk l

abbrev pub answers_at : Stage → (line : List ℕ) → List Answer
answers_at s l = answers_to (request_at s l) s.desk

-- what a line prints, and what stands after it; nothing after line 65,535
unfoldable pub said : Stage → (line : List ℕ) → List ℕ
said s l = cond (nat_le 65535 s.number) [] (reply (request_at s l) (answers_at s l) (s.number + 1))

unfoldable pub next : Stage → (line : List ℕ) → Stage
next s l = cond (nat_le 65535 s.number) s (record { desk = followed (request_at s l) s.desk; number = s.number + 1 })

-- a last line without its line feed
abbrev pub ended : Stage → (held : List ℕ) → List ℕ
ended s [] = []
ended s (h ∷ hs) = said s (h ∷ hs)

abbrev pub at_end : Stage → (held : List ℕ) → Stage
at_end s [] = s
at_end s (h ∷ hs) = next s (h ∷ hs)

-- what a text prints; `held` is the line so far
unfoldable pub printed_from : Stage → (held : List ℕ) → List ℕ → List ℕ
printed_from s held [] = ended s held
printed_from s held (b ∷ bs) = cond (b == 10) (said s held ++ printed_from (next s held) [] bs) (printed_from s (held ++ b ∷ []) bs)

-- bytes have been fed: whatever is still to come, what is printed and will be printed is the same as before they were fed
abbrev pub Fed : Stage → (held bytes out : List ℕ) → Stage → (held₂ out₂ : List ℕ) → Type 0
Fed s held bytes out s₂ held₂ out₂ = (rest : List ℕ) → out₂ ++ printed_from s₂ held₂ rest ≡ out ++ printed_from s held (bytes ++ rest)

-- only the first so many of the bytes have been fed
abbrev pub FedSome : Stage → (held bytes out : List ℕ) → Stage → (held₂ out₂ : List ℕ) → Type 0
FedSome s held bytes out s₂ held₂ out₂ = (k : ℕ) × Fed s held (take k bytes) out s₂ held₂ out₂

abbrev pub Untouched : Stage → (held out : List ℕ) → Stage → (held₂ out₂ : List ℕ) → Type 0
Untouched s held out s₂ held₂ out₂ = (s₂ ≡ s) × (held₂ ≡ held) × (out₂ ≡ out)

-- The words of a command line.
use Rattle.std.specs.Prelude.{ℕ, cond, ◌&&◌, List, length, codes, ◌==◌, nat_lt, slice_index}
use Rattle.std.specs.Str.{bytes_eq}
use Rattle.arguments.specs.declared.word.Word.{Word}
use Rattle.arguments.specs.declared.word.Word.TheVariants.{Help, Words, Row, Bus, Frames, Cursor, UnknownOption, Operand}

-- an option begins with a hyphen
abbrev pub other_word : List ℕ → Word
other_word t = cond (nat_lt 0 (length t) && slice_index t 0 == 45) UnknownOption Operand

-- w if the text is the option, and else v
abbrev pub one_of : List ℕ → (option : List ℕ) → Word → Word → Word
one_of t o w v = cond (bytes_eq t o) w v

abbrev pub word_of : List ℕ → Word
word_of t =
    one_of t (codes "--help") Help (one_of t (codes "--row") Row (one_of t (codes "--words") Words
    (one_of t (codes "--bus") Bus (one_of t (codes "--frames") Frames (one_of t (codes "--cursor") Cursor (other_word t))))))

-- The number of each refusal, and what it says.
use Rattle.std.specs.Prelude.{ℕ, List, codes}
use Rattle.refusal.specs.declared.Refusal.{Refusal}
use Rattle.refusal.specs.declared.Refusal.TheVariants.{NoComposition, UnknownCommand, TooManyColumns, PageTooLong, BadBus, NoSuchRow, BufferTooSmall, PageEnds, OutOfMemory}

abbrev pub number : Refusal → ℕ
number NoComposition = 1
number UnknownCommand = 2
number TooManyColumns = 3
number PageTooLong = 4
number BadBus = 5
number NoSuchRow = 6
number BufferTooSmall = 7
number PageEnds = 8
number OutOfMemory = 255

abbrev pub words : Refusal → List ℕ
words NoComposition = codes "no screen composition has been loaded"
words UnknownCommand = codes "not a command of the controller"
words TooManyColumns = codes "more than 80 characters to a row"
words PageTooLong = codes "the page has more than 16384 bytes"
words BadBus = codes "the bus figures are out of range"
words NoSuchRow = codes "no such row, or one left blank by spacing"
words BufferTooSmall = codes "the word buffer is too small for a row"
words PageEnds = codes "the page ends before the row does"
words OutOfMemory = codes "out of memory"

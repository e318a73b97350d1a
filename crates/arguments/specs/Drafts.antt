-- The arguments, one after another, and what they ask for.
use Rattle.std.specs.Prelude.{ℕ, Bool, true, false, cond, List, Some, None, Ok, Err, Option, Result}
use Rattle.std.specs.Borrow.{Bor}
use Rattle.arguments.specs.declared.fault.ArgumentFault.{ArgumentFault}
use Rattle.arguments.specs.declared.fault.ArgumentFault.TheVariants.{NoArguments, NoStart, NoPage, NoRow, NoBus, NoFrames, NoCursor, BadComposition, BadStart, BadRow, BadBus, BadFrames, BadCursor, FramesWithoutBus, UnknownOption as BadOption, TooMany}
use Rattle.video.specs.declared.parameters.ResetParameters.{ResetParameters}
use Rattle.arguments.specs.declared.request.Awaited.{Awaited}
use Rattle.arguments.specs.declared.request.Awaited.TheVariants.{RowNumber, BusKind, FrameCount, CursorPlace}
use Rattle.arguments.specs.declared.request.Playing.{Playing}
use Rattle.arguments.specs.declared.request.Asked.{Asked}
use Rattle.arguments.specs.declared.request.Asked.TheVariants.{Help as AskedHelp, Listing}
use Rattle.arguments.specs.declared.request.Draft.{Draft}
use Rattle.arguments.specs.declared.word.Word.{Word}
use Rattle.arguments.specs.declared.word.Word.TheVariants.{Help, Words, Row, Bus, Frames, Cursor, UnknownOption, Operand}
use Rattle.arguments.specs.Figures.{parameters_of, start_of, row_of, frames_of, cursor_of}
use Rattle.arguments.specs.Buses.{Line, line_of, lined, bus_of}
use Rattle.arguments.specs.Words.{word_of}

-- what has been read so far; the page by its file's name
pub record Drafted : Type 0 where
  pub parameters : Option ResetParameters
  pub start : Option ℕ
  pub page : Option (List ℕ)
  pub row : Option ℕ
  pub words : Bool
  pub cursor : Option (ℕ × ℕ)
  pub bus : Option Line
  pub frames : Option ℕ
  pub help : Bool
  pub awaited : Option Awaited

abbrev pub named : Option (Bor (List ℕ)) → Option (List ℕ)
named None = None
named (Some r) = Some r.now

abbrev pub drafted : Draft → Drafted
drafted d = record { parameters = d.parameters; start = d.start; page = named d.page; row = d.row; words = d.words; cursor = d.cursor; bus = lined d.bus; frames = d.frames; help = d.help; awaited = d.awaited }

abbrev pub blank_draft : Drafted
blank_draft = record { parameters = None; start = None; page = None; row = None; words = false; cursor = None; bus = None; frames = None; help = false; awaited = None }

-- COMPOSITION, START and PAGEFILE, each where it can be read
abbrev pub with_parameters : Drafted → Option ResetParameters → Result Drafted ArgumentFault
with_parameters s None = Err BadComposition
with_parameters s (Some p) = Ok (record { parameters = Some p; start = s.start; page = s.page; row = s.row; words = s.words; cursor = s.cursor; bus = s.bus; frames = s.frames; help = s.help; awaited = s.awaited })

abbrev pub with_start : Drafted → Option ℕ → Result Drafted ArgumentFault
with_start s None = Err BadStart
with_start s (Some b) = Ok (record { parameters = s.parameters; start = Some b; page = s.page; row = s.row; words = s.words; cursor = s.cursor; bus = s.bus; frames = s.frames; help = s.help; awaited = s.awaited })

abbrev pub with_page : Drafted → Option (List ℕ) → List ℕ → Result Drafted ArgumentFault
with_page s None t = Ok (record { parameters = s.parameters; start = s.start; page = Some t; row = s.row; words = s.words; cursor = s.cursor; bus = s.bus; frames = s.frames; help = s.help; awaited = s.awaited })
with_page s (Some p) t = Err TooMany

abbrev pub behind_start : Option ℕ → Drafted → List ℕ → Result Drafted ArgumentFault
behind_start None s t = with_start s (start_of t)
behind_start (Some b) s t = with_page s s.page t

abbrev pub behind_parameters : Option ResetParameters → Drafted → List ℕ → Result Drafted ArgumentFault
behind_parameters None s t = with_parameters s (parameters_of t)
behind_parameters (Some p) s t = behind_start s.start s t

-- a word that is no option
abbrev pub operand : Drafted → List ℕ → Result Drafted ArgumentFault
operand s t = behind_parameters s.parameters s t

-- the values of --row, --bus, --frames and --cursor
abbrev pub with_row : Drafted → Option ℕ → Result Drafted ArgumentFault
with_row s None = Err BadRow
with_row s (Some v) = Ok (record { parameters = s.parameters; start = s.start; page = s.page; row = Some v; words = s.words; cursor = s.cursor; bus = s.bus; frames = s.frames; help = s.help; awaited = None })

abbrev pub with_bus : Drafted → Option Line → Result Drafted ArgumentFault
with_bus s None = Err BadBus
with_bus s (Some v) = Ok (record { parameters = s.parameters; start = s.start; page = s.page; row = s.row; words = s.words; cursor = s.cursor; bus = Some v; frames = s.frames; help = s.help; awaited = None })

abbrev pub with_frames : Drafted → Option ℕ → Result Drafted ArgumentFault
with_frames s None = Err BadFrames
with_frames s (Some v) = Ok (record { parameters = s.parameters; start = s.start; page = s.page; row = s.row; words = s.words; cursor = s.cursor; bus = s.bus; frames = Some v; help = s.help; awaited = None })

abbrev pub with_cursor : Drafted → Option (ℕ × ℕ) → Result Drafted ArgumentFault
with_cursor s None = Err BadCursor
with_cursor s (Some v) = Ok (record { parameters = s.parameters; start = s.start; page = s.page; row = s.row; words = s.words; cursor = Some v; bus = s.bus; frames = s.frames; help = s.help; awaited = None })

-- an option whose value comes next
abbrev pub awaiting : Awaited → Drafted → Result Drafted ArgumentFault
awaiting a s = Ok (record { parameters = s.parameters; start = s.start; page = s.page; row = s.row; words = s.words; cursor = s.cursor; bus = s.bus; frames = s.frames; help = s.help; awaited = Some a })

abbrev pub by_word : Word → Drafted → List ℕ → Result Drafted ArgumentFault
by_word Help s t = Ok (record { parameters = s.parameters; start = s.start; page = s.page; row = s.row; words = s.words; cursor = s.cursor; bus = s.bus; frames = s.frames; help = true; awaited = s.awaited })
by_word Words s t = Ok (record { parameters = s.parameters; start = s.start; page = s.page; row = s.row; words = true; cursor = s.cursor; bus = s.bus; frames = s.frames; help = s.help; awaited = s.awaited })
by_word Row s t = awaiting RowNumber s
by_word Bus s t = awaiting BusKind s
by_word Frames s t = awaiting FrameCount s
by_word Cursor s t = awaiting CursorPlace s
by_word UnknownOption s t = Err BadOption
by_word Operand s t = operand s t

abbrev pub by_awaited : Option Awaited → Drafted → List ℕ → Result Drafted ArgumentFault
by_awaited None s t = by_word (word_of t) s t
by_awaited (Some RowNumber) s t = with_row s (row_of t)
by_awaited (Some BusKind) s t = with_bus s (bus_of t)
by_awaited (Some FrameCount) s t = with_frames s (frames_of t)
by_awaited (Some CursorPlace) s t = with_cursor s (cursor_of t)

-- one argument more
abbrev pub taken : Drafted → List ℕ → Result Drafted ArgumentFault
taken s t = by_awaited s.awaited s t

-- the bus and the number of frames; one frame where a bus stands alone
abbrev pub playing_of : Option Playing → Option (Line × ℕ)
playing_of None = None
playing_of (Some p) = Some (line_of p.bus, p.frames)

abbrev pub frames_on : Option Line → Option ℕ → Result (Option (Line × ℕ)) ArgumentFault
frames_on None None = Ok None
frames_on None (Some n) = Err FramesWithoutBus
frames_on (Some b) None = Ok (Some (b, 1))
frames_on (Some b) (Some n) = Ok (Some (b, n))

abbrev pub played : Drafted → Result (Option (Line × ℕ)) ArgumentFault
played s = frames_on s.bus s.frames

-- help, or a listing by four parameters, a Start command and the page of a name, of a row alone or all, of words or not, with a
-- cursor or not, of stills or of frames over a bus
pub data Wish : Type 0 where
  help_wish : Wish
  listing_wish : ResetParameters → (start : ℕ) → (page : List ℕ) → (row : Option ℕ) → (words : Bool) → (cursor : Option (ℕ × ℕ)) → (playing : Option (Line × ℕ)) → Wish

abbrev pub asked : Asked → Wish
asked AskedHelp = help_wish
asked (Listing q) = listing_wish q.parameters q.start q.page.now q.row q.words q.cursor (playing_of q.playing)

abbrev pub wished : ResetParameters → (start : ℕ) → (page : List ℕ) → Drafted → Result (Option (Line × ℕ)) ArgumentFault → Result Wish ArgumentFault
wished p b n s (Err e) = Err e
wished p b n s (Ok f) = Ok (listing_wish p b n s.row s.words s.cursor f)

abbrev pub all_there : Option ResetParameters → Option ℕ → Option (List ℕ) → Drafted → Result Wish ArgumentFault
all_there None b n s = Err NoArguments
all_there (Some p) None n s = Err NoStart
all_there (Some p) (Some b) None s = Err NoPage
all_there (Some p) (Some b) (Some n) s = wished p b n s (played s)

abbrev pub unless_awaited : Option Awaited → Drafted → Result Wish ArgumentFault
unless_awaited (Some RowNumber) s = Err NoRow
unless_awaited (Some BusKind) s = Err NoBus
unless_awaited (Some FrameCount) s = Err NoFrames
unless_awaited (Some CursorPlace) s = Err NoCursor
unless_awaited None s = all_there s.parameters s.start s.page s

-- behind the last argument
abbrev pub finished : Drafted → Result Wish ArgumentFault
finished s = cond s.help (Ok help_wish) (unless_awaited s.awaited s)

-- What a line asks for: the line layer and the event layer.
use Rattle.std.specs.Prelude.{◌≡◌, ℕ, ◌+◌, ◌*◌, ◌%◌, ◌≤◌, Bool, false, cond, not, ◌&&◌, List, length, drop, Ok, Err, Result, ◌==◌, nat_le, nat_lt, slice_index, is_none}
use Rattle.frame.specs.declared.call.Call.TheVariants.{Command, Parameter, Status, Read, Stroke}
use Rattle.replay.specs.declared.faults.LineFault.{LineFault}
use Rattle.replay.specs.declared.faults.EventFault.{EventFault}
use Rattle.replay.specs.declared.faults.EventFault.TheVariants.{PageTooLong, Malformed}
use Rattle.replay.specs.declared.faults.Fault.{Fault}
use Rattle.replay.specs.declared.faults.Fault.TheVariants.{Line, Event}
use Rattle.replay.specs.declared.requests.Request.{Request}
use Rattle.replay.specs.declared.requests.Request.TheVariants.{Single, Clocks, Page}
use Rattle.replay.specs.Digits.{wrong, first_byte, bytes_of}

-- the line layer: 1 to 33 bytes, all of digits
abbrev pub sound : List ℕ → Result Unit LineFault
sound l =
    cond (is_none (wrong l) && (nat_lt 0 (length l) && (nat_le (length l) 66 && length l % 2 == 0)))
    (Ok tt) (Err (record { column = wrong l }))

-- the event layer: a line's first byte and the others, the page having `full` bytes and being closed or not
abbrev pub asked : (closed : Bool) → (full kind : ℕ) → (rest : List ℕ) → Result Request EventFault
asked closed full kind rest =
    cond (kind == 6 && nat_lt 16384 (full + length rest)) (Err PageTooLong)
    (cond (kind == 0 && length rest == 1) (Ok (Single (Command (slice_index rest 0))))
    (cond (kind == 1 && length rest == 1) (Ok (Single (Parameter (slice_index rest 0))))
    (cond (kind == 2 && length rest == 0) (Ok (Single Status))
    (cond (kind == 3 && length rest == 0) (Ok (Single Read))
    (cond (kind == 4 && length rest == 0) (Ok (Single Stroke))
    (cond (kind == 5 && length rest == 2) (Ok (Clocks (slice_index rest 0 * 256 + slice_index rest 1)))
    (cond (kind == 6 && (nat_lt 0 (length rest) && not closed)) (Ok (Page rest))
    (Err Malformed))))))))

-- the first of the two layers that finds a fault gives it
abbrev pub first_fault : Result Unit LineFault → Result Request EventFault → Result Request Fault
first_fault (Err f) r = Err (Line f)
first_fault (Ok x) (Err f) = Err (Event f)
first_fault (Ok x) (Ok q) = Ok q

abbrev pub requested : (closed : Bool) → (full : ℕ) → List ℕ → Result Request Fault
requested closed full l = first_fault (sound l) (asked closed full (first_byte l) (bytes_of (drop 2 l)))

-- there is room for page bytes that are accepted, and they come in time
abbrev pub FitsRequest : Request → (full : ℕ) → (closed : Bool) → Type 0
FitsRequest (Single c) full closed = Unit {0}
FitsRequest (Clocks n) full closed = n ≤ 65535
FitsRequest (Page bytes) full closed = (full + length bytes ≤ 16384) × (closed ≡ false)

-- A bit, as a number.
use Rattle.std.proofs.Common.{◌≡◌, Bool, true, false, refl}
use Rattle.std.specs.Int.{from_bool}
use Rattle.video.specs.Picture.{bit}

pub bit_of : (v : Bool) → from_bool v ≡ bit v
bit_of true = refl
bit_of false = refl

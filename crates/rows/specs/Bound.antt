-- How many bytes more than two to a position may have come, by where the taking stands.
use Rattle.std.specs.Prelude.{ℕ}
use Rattle.rows.specs.declared.kinds.Phase.{Phase}
use Rattle.rows.specs.declared.kinds.Phase.TheVariants.{Ready, Second, Extra, Done}

abbrev pub ahead : Phase → ℕ
ahead Ready = 0
ahead (Second a) = 1
ahead Extra = 0
ahead Done = 1

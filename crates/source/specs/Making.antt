-- Why a source is not made.
use Rattle.std.specs.Prelude.{ℕ, Bool, cond, nat_lt}
use Rattle.refusal.specs.declared.Refusal.{Refusal}
use Rattle.refusal.specs.declared.Refusal.TheVariants.{PageTooLong, BadBus, OutOfMemory}

-- the first that applies to a page of n bytes: it is too long, the bus is bad, or memory is wanting
abbrev pub unmade : ℕ → Bool → Refusal
unmade n bad = cond (nat_lt 16384 n) PageTooLong (cond bad BadBus OutOfMemory)

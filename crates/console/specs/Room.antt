-- Room for answers.
use Rattle.std.specs.Prelude.{◌≡◌, ℕ, ◌+◌, ◌≤◌, vec_len, vec_capacity}
use Rattle.std.specs.Global.{Vec}
use Rattle.frame.specs.declared.call.Answer.{Answer}

-- there is room for n more
abbrev pub HasRoom : Vec Answer → (n : ℕ) → Type 0
HasRoom v n = vec_len v + n ≤ vec_capacity v

-- n came behind those that were there, into the room
abbrev pub Grown : (before after : Vec Answer) → (n : ℕ) → Type 0
Grown v w n = (vec_len w ≡ vec_len v + n) × (vec_capacity w ≡ vec_capacity v)

use Rattle.std.proofs.Common.{◌≡◌, ℕ, ◌+◌, ◌-◌, ◌*◌, ◌%◌, ◌≤◌, Bool, false, ◌||◌, eqb, leb, List, length, ap, ◌∙◌, arith}
use Rattle.std.proofs.lemmas.Bool.{or_parts, eqb-false}
use Rattle.rows.specs.declared.kinds.Position.{Position}
use Rattle.rows.specs.declared.kinds.Phase.{Phase}
use Rattle.std.specs.Int.{from_bool}
use Rattle.rows.specs.Takes.{burst_bytes}
use Rattle.rows.specs.Buffer.{done, full, fills, phase_after}
use Rattle.rows.specs.Bound.{ahead}
use Rattle.rows.specs.Model.{taken_of, listed}
use Rattle.rows.specs.declared.state.Taking.{Taking}
use Rattle.rows.proofs.Steps.{came_one, came_few, came_last, took_joined, steps_ahead}
use Rattle.rows.proofs.state.Taking.eat.Goals as goal

-- a row that is not full has room, and is not done
open_row : (t : Taking) → full (taken_of t) ≡ false → (done t.phase ≡ false) × (1 ≤ t.room)
unfolding full
open_row t h = let p = or_parts (done t.phase) (eqb t.room 0) h in let e = eqb-false t.room 0 p.1 in (p.0, omega arith)

-- the bound, over the parts
bound : (f last filled : Bool) (ph ph₂ : Phase) (b room rest taken : ℕ) (came : List Position) → done ph ≡ false → ph₂ ≡ phase_after f last filled ph b → came ≡ fills f ph b
    → taken + 2 * room ≤ 160 + ahead ph → rest + length came ≡ room → taken + 1 + 2 * rest ≤ 160 + ahead ph₂
bound f last filled ph ph₂ b room rest taken came d e₁ e₂ h l =
    let s = steps_ahead f last filled ph b d in
    let a : ahead ph₂ ≡ ahead (phase_after f last filled ph b) = ap ahead e₁ in
    let g : length came ≡ length (fills f ph b) = ap length e₂ in
    omega arith

pub overflow_sub-self : goal.overflow_sub-self
overflow_sub-self c =
    let o = open_row c.args.self.now c.requires in
    let one = c.from.ensures ∙ ap from_bool c.is_some.ensures ∙ came_one c.filled-came.result in
    let few = came_few c.filled-came.result in
    let room = o.1 in
    omega arith

pub invariant_of-self : goal.invariant_of-self
invariant_of-self c =
    let s = c.args.self.now in
    let o = open_row s c.requires in
    let one = c.from.ensures ∙ ap from_bool c.is_some.ensures ∙ came_one c.filled-came.result in
    let few = came_few c.filled-came.result in
    let room = o.1 in
    record { few = bound c.args.opaque (eqb ((s.taken + 1) % burst_bytes c.args.burst) 0) (leb s.room 1) s.phase _ c.args.b s.room (s.room - c.from.result) s.taken (listed c.filled-came.result) o.0 (rw (← c.bytes.ensures.is) c.next_phase.ensures) c.filled-came.ensures s.few (omega arith) }

pub returns-clause-state : goal.returns-clause-state
returns-clause-state c =
    let s = c.args.self.now in
    let one = c.from.ensures ∙ ap from_bool c.is_some.ensures ∙ came_one c.filled-came.result in
    took_joined c.args.opaque (burst_bytes c.args.burst) (taken_of s) c.args.b _ (listed c.filled-came.result) _ _ (rw (← c.bytes.ensures.is) c.next_phase.ensures) c.filled-came.ensures (ap (λ k. s.room - k) one)
    (ap (λ x. s.over || x) (came_last c.filled-came.result c.is_some_and.result c.is_some_and.ensures))

pub returns-clause-room : goal.returns-clause-room
returns-clause-room c =
    let o = open_row c.args.self.now c.requires in
    let one = c.from.ensures ∙ ap from_bool c.is_some.ensures ∙ came_one c.filled-came.result in
    let few = came_few c.filled-came.result in
    let room = o.1 in
    omega arith

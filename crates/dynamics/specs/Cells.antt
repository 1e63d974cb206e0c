-- What a step does in one cell, before particles move.
-- An open cell's state becomes the gas's outcome. A wall's particles go to their opposite channels. A fan cell is treated as
-- open; then, if the fan acts, a particle in the opposite of east moves to east if east is empty.
use Rattle.std.specs.Prelude.{ℕ, Bool, cond, not, ◌&&◌, ◌||◌, List, ◌==◌}
use Rattle.lattice.specs.States.{holds, state_of}
use Rattle.gas.specs.Model.{GasModel, outcome}
use Rattle.dynamics.specs.declared.role.Role.{Role}
use Rattle.dynamics.specs.declared.role.Role.TheVariants.{Open, Wall, Fan}

-- east is channel 0
abbrev pub east : ℕ
east = 0

-- a wall's state: what it held in a channel, it holds in the opposite one
abbrev pub bounced : GasModel → ℕ → ℕ
bounced g s = state_of g.channels (λ q. holds s (g.opposite q))

-- whether the fan can turn a particle of the state s: one comes against it, and east is empty
abbrev pub can_turn : GasModel → ℕ → Bool
can_turn g s = holds s (g.opposite east) && not (holds s east)

-- the state s with that particle in east
abbrev pub turned : GasModel → ℕ → ℕ
turned g s = state_of g.channels (λ q. (q == east) || (not (q == g.opposite east) && holds s q))

-- a fan cell's state after the collision
abbrev pub fanned : GasModel → Bool → ℕ → ℕ
fanned g acts s = cond (acts && can_turn g s) (turned g s) s

-- the state s of a cell with this role, under this twist
abbrev pub collision : GasModel → List ℕ → Bool → Bool → Role → ℕ → ℕ
collision g entries acts twist Open s = outcome g entries twist s
collision g entries acts twist (Wall n) s = bounced g s
collision g entries acts twist Fan s = fanned g acts (outcome g entries twist s)

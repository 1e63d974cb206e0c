-- After the collision a cell's state is a state of the gas, as it was before.
use Rattle.std.proofs.Common.{ℕ, ◌<◌, Bool, true, false, cond, ltb, List, get_or}
use Rattle.std.proofs.lemmas.Bool.{lt-ltb, cond-true}
use Rattle.lattice.specs.States.{holds}
use Rattle.lattice.proofs.Making.{state_of_below}
use Rattle.gas.specs.Model.{GasModel, states, outcome, entry_place}
use Rattle.gas.specs.Soundness.{SoundEntry, SoundTable}
use Rattle.dynamics.specs.declared.role.Role.{Role}
use Rattle.dynamics.specs.declared.role.Role.TheVariants.{Open, Wall, Fan}
use Rattle.dynamics.specs.Cells.{turned, collision}
use Rattle.dynamics.specs.Tunnels.{Tunnel, cells}
use Rattle.dynamics.specs.Step.{fan_acts, role_at, twist_at, collided_at}
use Rattle.dynamics.specs.Soundness.{SoundTunnel}

-- of a state, a sound table's outcome is its entry, which is sound
pub outcome_sound : (g : GasModel) (entries : List ℕ) → SoundTable g entries → (b : Bool) (s : ℕ) → s < states g → SoundEntry g s (outcome g entries b s)
outcome_sound g entries sound b s l = rw (cond-true (ltb s (states g)) (get_or entries (entry_place g b s) 0) s (lt-ltb s (states g) l)) (sound.each b s l)

turned_below : (g : GasModel) (turns : Bool) (s : ℕ) → s < states g → cond turns (turned g s) s < states g
turned_below g true s l = state_of_below g.channels _
turned_below g false s l = l

pub collision_below : (g : GasModel) (entries : List ℕ) → SoundTable g entries → (acts twist : Bool) (r : Role) (s : ℕ) → s < states g → collision g entries acts twist r s < states g
collision_below g entries sound acts twist Open s l = (outcome_sound g entries sound twist s l).below
collision_below g entries sound acts twist (Wall k) s l = state_of_below g.channels (λ q. holds s (g.opposite q))
collision_below g entries sound acts twist Fan s l = turned_below g _ (outcome g entries twist s) (outcome_sound g entries sound twist s l).below

pub collided_below : (t : Tunnel) → SoundTunnel t → (i : ℕ) → i < cells t.run → collided_at t i < states t.run.gas
collided_below t sound i l =
    collision_below t.run.gas t.run.entries sound.run.entries (fan_acts t.run.period t.run.steps) (twist_at t i) (role_at t i) (get_or t.field i 0) (sound.field i l)

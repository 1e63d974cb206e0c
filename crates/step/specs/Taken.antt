-- What k steps leave: the field, the spare and the run are those of the tunnel k steps on.
use Rattle.std.specs.Prelude.{◌≡◌, ℕ, zero, suc, List}
use Rattle.dynamics.specs.Tunnels.{RunState, Tunnel}
use Rattle.dynamics.specs.Step.{collided}
use Rattle.dynamics.specs.Pushes.{after_steps}
use Rattle.step.specs.Results.{over}

-- the spare holds the collided gas of the last step; without a step, what it held
abbrev pub spare_after : ℕ → Tunnel → List ℕ → List ℕ
spare_after zero t spare = spare
spare_after (suc k) t spare = over (collided (after_steps k t)) spare

pub record Taken (t : Tunnel) (k : ℕ) (field₀ field spare₀ spare : List ℕ) (run : RunState) : Type 0 where
  pub field_is : field ≡ over (after_steps k t).field field₀
  pub spare_is : spare ≡ spare_after k t spare₀
  pub run_is : run ≡ (after_steps k t).run

-- What a run, its map and its field can hold: a sound tunnel within the limits of period and step count.
use Rattle.std.specs.Prelude.{◌≤◌}
use Rattle.dynamics.specs.Tunnels.{Tunnel}
use Rattle.dynamics.specs.Soundness.{SoundTunnel}
use Rattle.job.specs.Grounds.{longest_period, step_limit}

pub record Storable (t : Tunnel) : Type 0 where
  pub sound : SoundTunnel t
  pub period : t.run.period ≤ longest_period
  pub steps : t.run.steps ≤ step_limit

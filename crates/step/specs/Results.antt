-- What the passes of a step leave in a buffer: its first cells are the definition's, and all behind them is as it was.
use Rattle.std.specs.Prelude.{◌≡◌, ℕ, ◌<◌, ◌≤◌, List, ◌++◌, length, drop, slice_index}
use Rattle.lattice.specs.Sums.{count_n}
use Rattle.dynamics.specs.Tunnels.{Tunnel, cells}
use Rattle.dynamics.specs.Step.{collided_at}
use Rattle.dynamics.specs.Pushes.{turns_at}

-- the first n places hold f, and the others what they held before
pub record Filled (n : ℕ) (f : ℕ → ℕ) (before after : List ℕ) : Type 0 where
  pub hold : (i : ℕ) → i < n → slice_index after i ≡ f i
  pub rest : (k : ℕ) → n ≤ k → slice_index after k ≡ slice_index before k

-- the spare holds the collided gas, and the count is that of the particles turned
pub record AllCollided (t : Tunnel) (before after : List ℕ) (count : ℕ) : Type 0 where
  pub spare : Filled (cells t.run) (collided_at t) before after
  pub turned : count ≡ count_n (cells t.run) (turns_at t)

-- bytes in the place of a buffer's first
abbrev pub over : List ℕ → List ℕ → List ℕ
over bytes buffer = bytes ++ drop (length bytes) buffer

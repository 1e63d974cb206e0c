-- What a step keeps, for every gas and every source: the particles, and the balance of momentum, walls and fan.
use Rattle.std.specs.Prelude.{◌≡◌, ℕ, ◌+◌, ◌^◌, ◌<◌, ◌≤◌, slice_index, unsigned_abs}
use Rattle.lattice.specs.declared.vector.Vector.{Vector}
use Rattle.lattice.specs.Vectors.{vec, added, negated, sum_v}
use Rattle.lattice.specs.States.{holds, field_particles, field_momentum}
use Rattle.lattice.specs.declared.vector.Vector.{Vector as Account}
use Rattle.book.specs.Accounts.{obstacles, fan_account, accounts, account_at, most_push}
use Rattle.dynamics.specs.Tunnels.{Tunnel, cells}
use Rattle.dynamics.specs.Step.{collided_at}
use Rattle.dynamics.specs.Pushes.{push_on, stepped, after_steps}
use Rattle.dynamics.specs.Soundness.{SoundTunnel}

-- the particles of a tunnel, and their momentum
abbrev pub particles_of : Tunnel → ℕ
particles_of t = field_particles t.run.gas.channels t.field

abbrev pub momentum_of : Tunnel → Vector
momentum_of t = field_momentum t.run.gas.channels t.run.gas.vector t.field

-- an account's numbers as a vector
abbrev pub taken : Account → Vector
taken a = vec a.along a.across

abbrev pub walls_taken : Tunnel → Vector
walls_taken t = sum_v obstacles (λ k. taken (account_at t.run.book (k + 1)))

-- momentum plus all wall accounts less the fan's
abbrev pub balance_of : Tunnel → Vector
balance_of t = added (added (momentum_of t) (walls_taken t)) (negated (taken (account_at t.run.book fan_account)))

-- the pushes of one step on all obstacles
abbrev pub wall_pushes : Tunnel → Vector
wall_pushes t = sum_v obstacles (λ k. push_on t (k + 1))

pub record StepKeeps (t : Tunnel) : Type 0 where
  pub particles : particles_of (stepped t) ≡ particles_of t
  -- the momentum after is that before, less the walls' pushes, plus the fan's
  pub momentum : added (momentum_of (stepped t)) (wall_pushes t) ≡ added (momentum_of t) (push_on t fan_account)
  pub balance : balance_of (stepped t) ≡ balance_of t
  -- each particle moves to the neighbour by its channel: what cell i holds in q after the collision, its neighbour by q holds in q
  pub moves : (i q : ℕ) → i < cells t.run → q < t.run.gas.channels
      → holds (slice_index (stepped t).field (t.run.gas.neighbour t.run.width t.run.height q i)) q ≡ holds (collided_at t i) q
  -- no number of an account moves further than the most
  pub small : (n : ℕ) → 1 ≤ n → n ≤ accounts → (unsigned_abs (push_on t n).along ≤ most_push) × (unsigned_abs (push_on t n).across ≤ most_push)
  pub sound : SoundTunnel (stepped t)

abbrev pub EachStepKeeps : Type 0
EachStepKeeps = (t : Tunnel) → SoundTunnel t → StepKeeps t

pub record RunKeeps (k : ℕ) (t : Tunnel) : Type 0 where
  pub particles : particles_of (after_steps k t) ≡ particles_of t
  pub balance : balance_of (after_steps k t) ≡ balance_of t
  pub sound : SoundTunnel (after_steps k t)

abbrev pub StepsKeep : Type 0
StepsKeep = (k : ℕ) (t : Tunnel) → SoundTunnel t → RunKeeps k t

-- and the moves determine the field: there is one field of states that they allow
abbrev pub MovesDecide : Type 0
MovesDecide = (t : Tunnel) → SoundTunnel t → (f : ℕ → ℕ)
    → ((i : ℕ) → i < cells t.run → f i < 2 ^ t.run.gas.channels)
    → ((i q : ℕ) → i < cells t.run → q < t.run.gas.channels → holds (f (t.run.gas.neighbour t.run.width t.run.height q i)) q ≡ holds (collided_at t i) q)
    → (i : ℕ) → i < cells t.run → f i ≡ slice_index (stepped t).field i

-- The rules that a job's payloads keep, whatever the numbers of their records: lengths, kinds, limits, a lawful mark, sound entries, bytes and numbers in their ranges.
use Rattle.std.specs.Prelude.{◌≡◌, ℕ, ◌*◌, ◌<◌, ◌≤◌, true, List, length, None, slice_index, unsigned_abs}
use Rattle.lattice.specs.Grids.{Lawful}
use Rattle.gas.specs.Model.{GasModel, states}
use Rattle.gas.specs.Soundness.{SoundTable}
use Rattle.twist.specs.Model.{TwistModel}
use Rattle.book.specs.Accounts.{accounts, most_push}
use Rattle.dynamics.specs.Roles.{highest_map_byte}
use Rattle.job.specs.declared.head.Head.{Head}
use Rattle.job.specs.Heads.{head_length}
use Rattle.job.specs.Books.{book_length, number_of}
use Rattle.job.specs.Grounds.{longest_period, step_limit}
use Rattle.job.specs.Jobs.{bytes_at, head_in, cells_in, payloads_fault}

pub record HeadKeeps (gas : GasModel) (twist : TwistModel) (h : Head) : Type 0 where
  pub gas_kind : h.gas ≡ gas.kind
  pub twist_kind : h.twist ≡ twist.kind
  pub grid : Lawful h.width h.height
  pub period : h.period ≤ longest_period
  pub steps : h.steps ≤ step_limit
  pub mark : twist.lawful h.mark ≡ true

-- so many bytes, each of which passes
pub record Stretch (n : ℕ) (P : ℕ → Type 0) (bytes : List ℕ) : Type 0 where
  pub long : length bytes ≡ n
  pub each : (i : ℕ) → i < n → P (slice_index bytes i)

pub record BookKeeps (steps : ℕ) (bytes : List ℕ) : Type 0 where
  pub long : length bytes ≡ book_length
  pub each : (i : ℕ) → i < 2 * accounts → unsigned_abs (number_of bytes i) ≤ most_push * steps

pub record Keeps (gas : GasModel) (twist : TwistModel) (ps : List (ℕ × List ℕ)) : Type 0 where
  pub head_long : length (bytes_at 0 ps) ≡ head_length
  pub head : HeadKeeps gas twist (head_in ps)
  pub rules : SoundTable gas (bytes_at 1 ps)
  pub map : Stretch (cells_in ps) (λ b. b ≤ highest_map_byte) (bytes_at 2 ps)
  pub field : Stretch (cells_in ps) (λ b. b < states gas) (bytes_at 3 ps)
  pub book : BookKeeps (head_in ps).steps (bytes_at 4 ps)
  pub end : length (bytes_at 5 ps) ≡ 0

-- no fault is found in payloads exactly if they keep the rules
abbrev pub FaultlessIfKept : Type 0
FaultlessIfKept = (gas : GasModel) (twist : TwistModel) (ps : List (ℕ × List ℕ)) → (payloads_fault gas twist ps ≡ None → Keeps gas twist ps) × (Keeps gas twist ps → payloads_fault gas twist ps ≡ None)

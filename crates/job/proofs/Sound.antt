-- The tunnel that payloads say is sound, if they keep the rules.
use Rattle.std.proofs.Common.{ℕ, List, arith}
use Rattle.gas.specs.Model.{GasModel}
use Rattle.gas.specs.Laws.{GasLaws}
use Rattle.twist.specs.Model.{TwistModel, TwistLaws}
use Rattle.book.proofs.Ranges.{fits_at}
use Rattle.dynamics.specs.Soundness.{SoundRun, SoundTunnel}
use Rattle.job.specs.Jobs.{bytes_at, head_in, run_in, tunnel_in}
use Rattle.job.specs.Books.{accounts_of}
use Rattle.job.specs.Keeps.{Keeps}
use Rattle.job.proofs.Readings.{length-accounts, book_fits_lem}

pub sound_run : (gas : GasModel) (twist : TwistModel) → GasLaws gas → TwistLaws twist → (ps : List (ℕ × List ℕ)) → Keeps gas twist ps → SoundRun (run_in gas twist ps)
sound_run gas twist lawful twisted ps k = record {
  gas = lawful;
  entries = k.rules;
  twist = twisted;
  mark = k.head.mark;
  grid = k.head.grid;
  book_long = length-accounts (bytes_at 4 ps);
  book = λ n l. fits_at (head_in ps).steps (accounts_of (bytes_at 4 ps)) (book_fits_lem (head_in ps).steps (bytes_at 4 ps) k.book) n (omega (arith, length-accounts (bytes_at 4 ps)));
}

pub sound_tunnel : (gas : GasModel) (twist : TwistModel) → GasLaws gas → TwistLaws twist → (ps : List (ℕ × List ℕ)) → Keeps gas twist ps → SoundTunnel (tunnel_in gas twist ps)
sound_tunnel gas twist lawful twisted ps k = record {
  run = sound_run gas twist lawful twisted ps k;
  map_long = k.map.long;
  map = k.map.each;
  field_long = k.field.long;
  field = k.field.each;
}

-- A tunnel that is written reads back as itself, and a file that is read writes back as itself, less its skippable records.
use Rattle.std.specs.Prelude.{◌≡◌, ℕ, List}
use Rattle.gas.specs.Model.{GasModel}
use Rattle.gas.specs.Laws.{GasLaws}
use Rattle.twist.specs.Model.{TwistModel, TwistLaws}
use Rattle.dynamics.specs.Tunnels.{Tunnel}
use Rattle.records.specs.Files.{Rec, IsFile, less}
use Rattle.records.specs.Layout.{numbered}
use Rattle.records.specs.Walk.{largest_file}
use Rattle.job.specs.Jobs.{tunnel_in}
use Rattle.job.specs.Keeps.{Keeps}
use Rattle.encode.specs.Encodings.{records_of, file_of}
use Rattle.codec.specs.Storable.{Storable}

-- the tunnel's file is its records, they keep the rules, and they say that very tunnel
pub record ReadsBack (t : Tunnel) : Type 0 where
  pub layout : IsFile largest_file (file_of t) (records_of t)
  pub rules : Keeps t.run.gas t.run.twist (numbered (records_of t))
  pub says : tunnel_in t.run.gas t.run.twist (numbered (records_of t)) ≡ t

abbrev pub WrittenReadsBack : Type 0
WrittenReadsBack = (t : Tunnel) → Storable t → ReadsBack t

-- what is read is storable, and its file is the one that was read, less its skippable records
abbrev pub ReadWritesBack : Type 0
ReadWritesBack = (gas : GasModel) (twist : TwistModel) (file : List ℕ) (rs : List Rec) → GasLaws gas → TwistLaws twist → IsFile largest_file file rs → Keeps gas twist (numbered rs)
    → Storable (tunnel_in gas twist (numbered rs)) × (file_of (tunnel_in gas twist (numbered rs)) ≡ less file)

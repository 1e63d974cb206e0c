-- A tunnel's file is six records, none of them skippable: head, rules, map, field, book, end.
use Rattle.std.specs.Prelude.{ℕ, ◌+◌, ◌*◌, List, [], ◌∷◌, ◌++◌}
use Rattle.std.specs.Int.{w64}
use Rattle.std.proofs.Common.{of_z}
use Rattle.std.specs.List.{flat_map}
use Rattle.gas.specs.Model.{GasModel, states}
use Rattle.lattice.specs.declared.vector.Vector.{Vector as Account}
use Rattle.dynamics.specs.Tunnels.{RunState, Tunnel}
use Rattle.records.specs.Format.{le}
use Rattle.records.specs.Files.{Rec, rec, laid}

-- the head's sixteen bytes: gas kind 1, twist kind 1, W 2, H 2, period 2, step count 4, twist mark 4
abbrev pub head_bytes : RunState → List ℕ
head_bytes s = (s.gas.kind ∷ s.twist.kind ∷ []) ++ (le 2 s.width ++ (le 2 s.height ++ (le 2 s.period ++ (le 4 s.steps ++ le 4 s.mark))))

-- an account: along, then across, each in eight bytes, in two's complement
abbrev pub account_bytes : Account → List ℕ
account_bytes a = le 8 (of_z w64 a.along) ++ le 8 (of_z w64 a.across)

-- account 1 first
unfoldable pub book_bytes : List Account → List ℕ
book_bytes book = flat_map account_bytes book

-- the records of a tunnel's file
abbrev pub records_of : Tunnel → List Rec
records_of t = rec 2 (head_bytes t.run) ∷ rec 3 t.run.entries ∷ rec 4 t.map ∷ rec 5 t.field ∷ rec 6 (book_bytes t.run.book) ∷ rec 1 [] ∷ []

unfoldable pub file_of : Tunnel → List ℕ
file_of t = laid (records_of t)

-- how many bytes that is: 48 of headers, 16 of the head, the entries, the cells twice, 256 of the book
abbrev pub file_length : GasModel → ℕ → ℕ
file_length gas cells = 320 + 2 * states gas + 2 * cells

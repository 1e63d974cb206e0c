-- The square gas, kind 4: channels 0 to 3 lead east, north, west and south to the next cells that way.
-- Two particles that meet head on, and no others, leave across: 5 and 10 become each other, the rest stay.
use Rattle.std.specs.Prelude.{ℕ, ◌+◌, ◌%◌, Bool, cond, pos, negsuc, ◌==◌, nat_lt}
use Rattle.lattice.specs.declared.vector.Vector.{Vector}
use Rattle.lattice.specs.Grids.{onward, backward}
use Rattle.lattice.specs.Vectors.{vec, still}
use Rattle.gas.specs.Model.{GasModel, reached, on_grid, tabulated}

abbrev pub heading : ℕ → Vector
heading q =
    cond (q == 0) (vec (pos 1) (pos 0))
    (cond (q == 1) (vec (pos 0) (pos 1))
    (cond (q == 2) (vec (negsuc 0) (pos 0))
    (cond (q == 3) (vec (pos 0) (negsuc 0)) still)))

abbrev pub across : ℕ → ℕ
across q = cond (nat_lt q 4) ((q + 2) % 4) q

-- east and west change the column
abbrev pub column_by : ℕ → ℕ → ℕ → ℕ → ℕ
column_by w q c r = cond (q == 0) (onward w c) (cond (q == 2) (backward w c) c)

-- north and south change the row
abbrev pub row_by : ℕ → ℕ → ℕ → ℕ
row_by h q r = cond (q == 1) (onward h r) (cond (q == 3) (backward h r) r)

-- under both twists
abbrev pub house_rule : Bool → ℕ → ℕ
house_rule b n = cond (n == 5) 10 (cond (n == 10) 5 n)

abbrev pub square : GasModel
square = record {
  kind = 4;
  channels = 4;
  house = tabulated 4 house_rule;
  vector = heading;
  opposite = across;
  neighbour = λ w h q i. on_grid 4 w h q i (reached w (column_by w q) (row_by h q) i);
}

-- The channels of the hexagonal lattice: 0 to 5 lead E, NE, NW, W, SW and SE, and 6 is rest.
-- E and W lead to columns c + 1 and c - 1. With e = r mod 2, NE and SE lead to column c + e, NW and SW to c + e - 1;
-- NE and NW lead to row r + 1, SE and SW to r - 1. Columns and rows wrap. Rest stays in its cell.
use Rattle.std.specs.Prelude.{ℕ, ◌+◌, ◌%◌, cond, ◌||◌, pos, negsuc, ◌==◌, nat_lt}
use Rattle.lattice.specs.declared.vector.Vector.{Vector}
use Rattle.lattice.specs.Grids.{onward, backward}
use Rattle.lattice.specs.Vectors.{vec, still}

-- negsuc n is -(n + 1)
abbrev pub heading : ℕ → Vector
heading q =
    cond (q == 0) (vec (pos 2) (pos 0))
    (cond (q == 1) (vec (pos 1) (pos 1))
    (cond (q == 2) (vec (negsuc 0) (pos 1))
    (cond (q == 3) (vec (negsuc 1) (pos 0))
    (cond (q == 4) (vec (negsuc 0) (negsuc 0))
    (cond (q == 5) (vec (pos 1) (negsuc 0)) still)))))

-- a moving channel's opposite lies three on; rest is its own
abbrev pub across : ℕ → ℕ
across q = cond (nat_lt q 6) ((q + 3) % 6) q

abbrev pub column_by : ℕ → ℕ → ℕ → ℕ → ℕ
column_by w q c r =
    cond (q == 0) (onward w c)
    (cond (q == 3) (backward w c)
    (cond (q == 1 || q == 5) ((c + r % 2) % w)
    (cond (q == 2 || q == 4) (backward w (c + r % 2)) c)))

abbrev pub row_by : ℕ → ℕ → ℕ → ℕ
row_by h q r = cond (q == 1 || q == 2) (onward h r) (cond (q == 4 || q == 5) (backward h r) r)

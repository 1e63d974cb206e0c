-- Cells by number, and by column and row.
use Rattle.std.proofs.Common.{◌≡◌, ℕ, ◌+◌, ◌*◌, ◌<◌, ◌≤◌, mul_comm, add-mul, one-mul, arith}
use Rattle.std.proofs.lemmas.Nat.{div-add-mod', div-mul-add, mod-mul-add, mod_below, div_below, mul-le}
use Rattle.lattice.specs.declared.grid.Grid.{Grid}
use Rattle.lattice.specs.Grids.{Lawful, cell_at, column_of, row_of}

-- every grid keeps the rules
pub lawful_grid : (g : Grid) → Lawful g.width g.height
lawful_grid g = record { wide = g.wide; not_too_wide = g.narrow; high = g.high; not_too_high = g.low; even = g.even; few = g.few }

pub row_next : (r w : ℕ) → (r + 1) * w ≡ r * w + w
row_next r w = rw add-mul (rw one-mul)

-- row r ends within the grid
pub row_fits_lem : (r w h : ℕ) → r < h → r * w + w ≤ w * h
row_fits_lem r w h lt = omega (arith, row_next r w, mul-le (r + 1) w h w (omega arith) (omega arith), mul_comm w h)

pub cell_below : (w h c r : ℕ) → c < w → r < h → cell_at w c r < w * h
cell_below w h c r p q = omega (arith, row_fits_lem r w h q)

pub column_of_cell : (w c r : ℕ) → c < w → column_of w (cell_at w c r) ≡ c
column_of_cell w c r p = mod-mul-add r w c p

pub row_of_cell : (w c r : ℕ) → c < w → row_of w (cell_at w c r) ≡ r
row_of_cell w c r p = div-mul-add r w c p

pub cell_of : (w i : ℕ) → cell_at w (column_of w i) (row_of w i) ≡ i
cell_of w i = div-add-mod' i w

pub column_in : (w i : ℕ) → 0 < w → column_of w i < w
column_in w i p = mod_below i w p

pub row_in : (w h i : ℕ) → 0 < w → i < w * h → row_of w i < h
row_in w h i p l = div_below i w h p (omega (arith, mul_comm w h))

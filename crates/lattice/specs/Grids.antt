-- A grid has W columns, 2 to 256, and H rows, an even number from 2 to 256, and at most 16,384 cells.
-- Cell (c, r) is number r × W + c. Columns count eastward and wrap modulo W; rows count northward and wrap modulo H.
use Rattle.std.specs.Prelude.{◌≡◌, ℕ, ◌+◌, ◌-◌, ◌*◌, ◌/◌, ◌%◌, ◌≤◌, cond, ◌&&◌, Ok, Err, Result, ◌==◌, nat_le}
use Rattle.lattice.specs.declared.fault.GridFault.{GridFault}
use Rattle.lattice.specs.declared.fault.GridFault.TheVariants.{Width, Height, Area}

abbrev pub widest : ℕ
widest = 256

abbrev pub highest : ℕ
highest = 256

abbrev pub most_cells : ℕ
most_cells = 16384

pub record Lawful (w h : ℕ) : Type 0 where
  pub wide : 2 ≤ w
  pub not_too_wide : w ≤ widest
  pub high : 2 ≤ h
  pub not_too_high : h ≤ highest
  pub even : h % 2 ≡ 0
  pub few : w * h ≤ most_cells

-- the rule that width and height break first: the width's, the height's, then that of their product
abbrev pub judged : ℕ → ℕ → Result (Unit {0}) GridFault
judged w h =
    cond (nat_le 2 w && nat_le w widest)
    (cond (nat_le 2 h && (nat_le h highest && h % 2 == 0))
    (cond (nat_le (w * h) most_cells) (Ok tt) (Err Area))
    (Err Height))
    (Err Width)

-- the number of the cell in column c and row r of a grid w wide; and the column and row of cell i
abbrev pub cell_at : ℕ → ℕ → ℕ → ℕ
cell_at w c r = r * w + c

abbrev pub column_of : ℕ → ℕ → ℕ
column_of w i = i % w

abbrev pub row_of : ℕ → ℕ → ℕ
row_of w i = i / w

-- one on and one back, on a ring of n
abbrev pub onward : ℕ → ℕ → ℕ
onward n i = (i + 1) % n

abbrev pub backward : ℕ → ℕ → ℕ
backward n i = (i + n - 1) % n

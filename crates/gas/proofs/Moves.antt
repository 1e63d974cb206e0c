-- Neighbours by column and row: if columns and rows come back, so do cells.
use Rattle.std.proofs.Common.{◌≡◌, ℕ, ◌*◌, ◌<◌, ◌≤◌, Bool, ◌&&◌, ltb, ap, ◌∙◌, ap₂, arith}
use Rattle.std.proofs.Math.Bool.{and-false}
use Rattle.std.proofs.lemmas.Bool.{lt-ltb, le-ltb, and_from, cond-true, cond-false}
use Rattle.lattice.specs.Grids.{Lawful, cell_at, column_of, row_of}
use Rattle.lattice.proofs.Cells.{cell_below, column_of_cell, row_of_cell, cell_of, column_in, row_in}
use Rattle.gas.specs.Model.{reached, on_grid}

-- column w q c r and row h q r are where channel q leads from column c and row r
pub record Moves (channels : ℕ) (opposite : ℕ → ℕ) (column : ℕ → ℕ → ℕ → ℕ → ℕ) (row : ℕ → ℕ → ℕ → ℕ) : Type 0 where
  pub opposite_in : (q : ℕ) → q < channels → opposite q < channels
  pub column_in : (w h q c r : ℕ) → Lawful w h → q < channels → c < w → r < h → column w q c r < w
  pub row_in : (w h q r : ℕ) → Lawful w h → q < channels → r < h → row h q r < h
  pub column_back : (w h q c r : ℕ) → Lawful w h → q < channels → c < w → r < h → column w (opposite q) (column w q c r) (row h q r) ≡ c
  pub row_back : (w h q r : ℕ) → Lawful w h → q < channels → r < h → row h (opposite q) (row h q r) ≡ r

module _ (channels : ℕ) (opposite : ℕ → ℕ) (column : ℕ → ℕ → ℕ → ℕ → ℕ) (row : ℕ → ℕ → ℕ → ℕ) (moves : Moves channels opposite column row) where
  abbrev neighbour : ℕ → ℕ → ℕ → ℕ → ℕ
  neighbour w h q i = on_grid channels w h q i (reached w (column w q) (row h q) i)

  on_grid_lem : (w h q i : ℕ) → q < channels → i < w * h → neighbour w h q i ≡ reached w (column w q) (row h q) i
  on_grid_lem w h q i below inside = cond-true (ltb q channels && ltb i (w * h)) (reached w (column w q) (row h q) i) i (and_from _ _ (lt-ltb q channels below) (lt-ltb i (w * h) inside))

  -- the neighbour of the cell in column c and row r
  pub moves_from : (w h q c r : ℕ) → q < channels → c < w → r < h → neighbour w h q (cell_at w c r) ≡ cell_at w (column w q c r) (row h q r)
  moves_from w h q c r below c_in r_in =
      on_grid_lem w h q (cell_at w c r) below (cell_below w h c r c_in r_in)
      ∙ ap₂ (λ (x y : ℕ). cell_at w (column w q x y) (row h q y)) (column_of_cell w c r c_in) (row_of_cell w c r c_in)

  pub moves_in : (w h q i : ℕ) → Lawful w h → q < channels → i < w * h → neighbour w h q i < w * h
  moves_in w h q i grid below inside =
      let some : 0 < w = omega (arith, grid.wide) in
      let r = row_in w h i some inside in
      rw (on_grid_lem w h q i below inside) (cell_below w h _ _ (moves.column_in w h q (column_of w i) (row_of w i) grid below (column_in w i some) r) (moves.row_in w h q (row_of w i) grid below r))

  pub moves_back : (w h q i : ℕ) → Lawful w h → q < channels → i < w * h → neighbour w h (opposite q) (neighbour w h q i) ≡ i
  moves_back w h q i grid below inside =
      let some : 0 < w = omega (arith, grid.wide) in
      let c = column_of w i in
      let r = row_of w i in
      let c_in = column_in w i some in
      let r_in = row_in w h i some inside in
      let there = column w q c r in
      let up = row h q r in
      let there_in : there < w = moves.column_in w h q c r grid below c_in r_in in
      let cs = column_of_cell w there up there_in in
      let rs = row_of_cell w there up there_in in
      let mid : neighbour w h q i ≡ cell_at w there up = on_grid_lem w h q i below inside in
      let mid_in : cell_at w there up < w * h = cell_below w h there up there_in (moves.row_in w h q r grid below r_in) in
      ap (neighbour w h (opposite q)) mid
      ∙ on_grid_lem w h (opposite q) (cell_at w there up) (moves.opposite_in q below) mid_in
      ∙ ap₂ (λ (x y : ℕ). cell_at w (column w (opposite q) x y) (row h (opposite q) y)) cs rs
      ∙ ap₂ (cell_at w) (moves.column_back w h q c r grid below c_in r_in) (moves.row_back w h q r grid below r_in)
      ∙ cell_of w i

  pub moves_channel_beyond : (w h q i : ℕ) → channels ≤ q → neighbour w h q i ≡ i
  moves_channel_beyond w h q i beyond = cond-false _ _ _ (ap (λ (x : Bool). x && ltb i (w * h)) (le-ltb q channels beyond))

  pub moves_cell_beyond : (w h q i : ℕ) → w * h ≤ i → neighbour w h q i ≡ i
  moves_cell_beyond w h q i beyond = cond-false _ _ _ (ap (λ (x : Bool). ltb q channels && x) (le-ltb i (w * h) beyond) ∙ and-false (ltb q channels))

-- A grid is made just where width and height keep their rules, and is then of that width and height.
use Rattle.std.specs.Prelude.{◌≡◌, ℕ, Ok, Err, Result}
use Rattle.lattice.specs.declared.fault.GridFault.{GridFault}
use Rattle.lattice.specs.declared.grid.Grid.{Grid}
use Rattle.lattice.specs.Grids.{judged}

abbrev pub Made : ℕ → ℕ → Result Grid GridFault → Type 0
Made w h (Ok g) = (judged w h ≡ Ok tt) × (g.width ≡ w) × (g.height ≡ h)
Made w h (Err f) = judged w h ≡ Err f

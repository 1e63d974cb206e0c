-- Where channels lead.
use Rattle.std.specs.Prelude.{ℕ, List, ℤ, pos, slice_index_or}
use Rattle.lattice.specs.declared.vector.Vector.{Vector}
use Rattle.lattice.specs.Vectors.{vec}

-- the heading of channel q in a list of parts along and across; nowhere beyond the list
abbrev pub heading_of : List (ℤ × ℤ) → ℕ → Vector
heading_of headings q = vec (slice_index_or headings q (pos 0, pos 0)).0 (slice_index_or headings q (pos 0, pos 0)).1

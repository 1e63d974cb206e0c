-- The square gas keeps the laws.
use Rattle.std.specs.Prelude.{◌≡◌, ℕ, zero, suc, ◌<◌, ◌≤◌, unsigned_abs, refl}
use Rattle.std.proofs.Common.{arith}
use Rattle.std.proofs.lemmas.Bool.Decides.{nat_tests}
use Rattle.lattice.specs.Vectors.{negated, still}
use Rattle.lattice.specs.Grids.{cell_at}
use Rattle.lattice.proofs.Rings.{onward_in, backward_in, back_on, on_back}
use Rattle.gas.specs.Laws.{GasLaws}
use Rattle.gas.proofs.Moves.{Moves, moves_from, moves_in, moves_back, moves_channel_beyond, moves_cell_beyond}
use Rattle.gas.proofs.Tables.{good_sound}
use Rattle.square.specs.Square.{square, heading, across, column_by, row_by}
use Rattle.square.specs.House.{house_good}

-- what holds of channels 0 to 3 holds below 4
pub below_four : (P : ℕ → Type 0) → P 0 → P 1 → P 2 → P 3 → (q : ℕ) → q < 4 → P q
below_four P a b c d zero h = a
below_four P a b c d (suc zero) h = b
below_four P a b c d (suc (suc zero)) h = c
below_four P a b c d (suc (suc (suc zero))) h = d
below_four P a b c d (suc (suc (suc (suc q)))) h = absurd (omega arith)

across_in : (q : ℕ) → q < 4 → across q < 4
across_in = below_four (λ q. across q < 4) (omega arith) (omega arith) (omega arith) (omega arith)

moves : Moves 4 across column_by row_by
moves = record {
  opposite_in = across_in;
  column_in = λ w h q c r grid below in_c in_r.
      below_four (λ q. column_by w q c r < w) (onward_in w c (omega (arith, grid.wide))) in_c (backward_in w c (omega (arith, grid.wide))) in_c q below;
  row_in = λ w h q r grid below in_r.
      below_four (λ q. row_by h q r < h) in_r (onward_in h r (omega (arith, grid.high))) in_r (backward_in h r (omega (arith, grid.high))) q below;
  column_back = λ w h q c r grid below in_c in_r.
      below_four (λ q. column_by w (across q) (column_by w q c r) (row_by h q r) ≡ c) (back_on w c in_c) refl (on_back w c in_c) refl q below;
  row_back = λ w h q r grid below in_r.
      below_four (λ q. row_by h (across q) (row_by h q r) ≡ r) refl (back_on h r in_r) refl (on_back h r in_r) q below;
}

-- what comes by a channel comes from the cell that lies the opposite way
pub square_comes : (w h q c r : ℕ) → q < 4 → c < w → r < h → square.neighbour w h (across q) (cell_at w c r) ≡ cell_at w (column_by w (across q) c r) (row_by h (across q) r)
square_comes w h q c r below in_c in_r = moves_from 4 across column_by row_by moves w h (across q) c r (across_in q below) in_c in_r

heading_beyond : (q : ℕ) → 4 ≤ q → heading q ≡ still
heading_beyond q h = grind (arith, nat_tests)

across_beyond : (q : ℕ) → 4 ≤ q → across q ≡ q
across_beyond q h = grind (arith, nat_tests)

pub square_laws : GasLaws square
square_laws = record {
  one_byte = omega arith;
  some = omega arith;
  few = omega arith;
  opposite_in = across_in;
  opposite_twice = below_four (λ q. across (across q) ≡ q) refl refl refl refl;
  opposite_vector = below_four (λ q. heading (across q) ≡ negated (heading q)) refl refl refl refl;
  short = below_four (λ q. (unsigned_abs (heading q).along ≤ 2) × (unsigned_abs (heading q).across ≤ 2))
      (omega arith, omega arith) (omega arith, omega arith) (omega arith, omega arith) (omega arith, omega arith);
  east = refl;
  neighbour_in = moves_in 4 across column_by row_by moves;
  there_and_back = moves_back 4 across column_by row_by moves;
  opposite_beyond = across_beyond;
  vector_beyond = heading_beyond;
  channel_beyond = moves_channel_beyond 4 across column_by row_by moves;
  cell_beyond = moves_cell_beyond 4 across column_by row_by moves;
  house_sound = good_sound square square.house house_good;
}

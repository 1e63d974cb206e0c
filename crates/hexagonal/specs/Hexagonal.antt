-- The hexagonal gas with a rest particle, kind 7.
use Rattle.gas.specs.Model.{GasModel, reached, on_grid, tabulated}
use Rattle.hexagonal.specs.Channels.{heading, across, column_by, row_by}
use Rattle.hexagonal.specs.Collisions.{house_rule}

abbrev pub hexagonal : GasModel
hexagonal = record {
  kind = 7;
  channels = 7;
  house = tabulated 7 house_rule;
  vector = heading;
  opposite = across;
  neighbour = λ w h q i. on_grid 7 w h q i (reached w (column_by w q) (row_by h q) i);
}

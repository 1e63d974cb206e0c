use Rattle.std.proofs.Common.{◌≡◌, length, sym, arith, rules}
use Rattle.gas.proofs.Tables.{table_sound}
use Rattle.hexagonal.specs.Hexagonal.{hexagonal}
use Rattle.hexagonal.proofs.HexagonalGasGas.load.Goals as goal

pub copy_from_slice-requires : goal.copy_from_slice-requires
copy_from_slice-requires c =
    let long : length c.args.self.now.entries ≡ 256 = search rules in
    let full : length c.args.list.now ≡ 256 = (table_sound hexagonal c.args.list.now (sym c.in_ok-first_unsound.ensures)).full in
    omega arith

use Rattle.std.proofs.Common.{◌≡◌, length, sym, ◌∙◌, rules}
use Rattle.gas.proofs.Tables.{table_sound}
use Rattle.square.specs.Square.{square}
use Rattle.square.proofs.SquareGasGas.load.Goals as goal

pub copy_from_slice-requires : goal.copy_from_slice-requires
copy_from_slice-requires c =
    let long : length c.args.self.now.entries ≡ 32 = search rules in
    long ∙ sym (table_sound square c.args.list.now (sym c.in_ok-first_unsound.ensures)).full

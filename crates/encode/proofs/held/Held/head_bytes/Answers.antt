use Rattle.std.proofs.Common.{◌≡◌, length, sym, ap, arith}
use Rattle.text.proofs.Sheets.{covered}
use Rattle.encode.proofs.held.Held.head_bytes.Goals as goal

pub returns : goal.returns
returns g c =
    let zeros : length c.new-sheet.result.out.now ≡ 16 = ap length c.new-sheet.ensures.bytes in
    let done = covered c.new-sheet.ensures.place (sym zeros) c.put_head.ensures in
    grind (arith, done, c.put_head.ensures.same_buffer, c.new-sheet.ensures.buffer)

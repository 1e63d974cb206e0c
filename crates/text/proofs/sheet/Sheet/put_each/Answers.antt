use Rattle.std.proofs.Common.{get_or, sym}
use Rattle.std.proofs.lemmas.List.{take_more}
use Rattle.text.proofs.Places.{puts_byte}
use Rattle.text.proofs.Sheets.{adds_none, adds_then, adds_same}
use Rattle.text.proofs.sheet.Sheet.put_each.Goals as goal

pub loop-byte-init : goal.loop-byte-init
loop-byte-init c = adds_none c.args.self.now

pub loop-byte-preserved : goal.loop-byte-preserved
loop-byte-preserved c =
    let bytes = c.args.bytes.now in
    let i = c.loop-byte.byte-index in
    adds_same (sym (take_more bytes i 0 c.loop-byte-test.true))
    (adds_then c.loop-byte.invariant record { puts = puts_byte (get_or bytes i 0) c.put_byte.ensures.end c.put_byte.ensures.out; same_buffer = c.put_byte.ensures.buffer })

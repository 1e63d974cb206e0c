use Rattle.std.proofs.Common.{◌∙◌, w64, SFits, rules}
use Rattle.text.proofs.Sheets.{adds_then, adds_same}
use Rattle.encode.proofs.LowBytes.{le_signed}
use Rattle.encode.proofs.accounts.put_account.Goals as goal

pub returns : goal.returns
returns c =
    let x : SFits w64 c.args.account.along = search rules in
    let y : SFits w64 c.args.account.across = search rules in
    adds_then (adds_same (c.to_le_bytes.ensures ∙ le_signed c.args.account.along x) c.put_bytes.ensures)
    (adds_same (c.to_le_bytes-2.ensures ∙ le_signed c.args.account.across y) c.put_bytes-2.ensures)

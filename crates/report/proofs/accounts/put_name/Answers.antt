use Rattle.std.proofs.Common.{sym}
use Rattle.std.proofs.lemmas.Bool.{cond-false, ne_eqb}
use Rattle.text.proofs.Sheets.{adds_then, adds_same}
use Rattle.report.proofs.accounts.put_name.Goals as goal

pub returns : goal.returns
returns c =
    adds_same (sym (cond-false _ _ _ (ne_eqb c.args.n 16 c.if-n-eq-ACCOUNTS.false)))
    (adds_then c.put_bytes-2.ensures c.put_number.ensures)

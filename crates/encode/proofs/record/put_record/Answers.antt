use Rattle.std.proofs.Common.{ℕ, ◌∷◌, length, ap, ◌∙◌, rules}
use Rattle.records.specs.Format.{le, record_of}
use Rattle.records.specs.Kinds.{number_of}
use Rattle.text.proofs.Sheets.{adds_then, adds_same}
use Rattle.encode.proofs.LowBytes.{le_4}
use Rattle.encode.proofs.record.put_record.Goals as goal

pub returns : goal.returns
unfolding record_of
returns c =
    adds_then {s = number_of c.args.kind ∷ le 3 (length c.args.payload.now)} (adds_same (rw c.to_le_bytes.ensures (search rules)) c.put_bytes.ensures)
    (adds_then (adds_same (c.to_le_bytes-2.ensures ∙ le_4 c.check_of.result ∙ ap (λ (n : ℕ). le 4 n) c.check_of.ensures) c.put_bytes-2.ensures) c.put_bytes-3.ensures)

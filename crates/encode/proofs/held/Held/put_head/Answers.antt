use Rattle.std.proofs.Common.{[], ◌∷◌, ap, ap₂, ◌∙◌, ℕ}
use Rattle.records.specs.Format.{le}
use Rattle.text.proofs.Sheets.{adds_then, adds_same}
use Rattle.encode.proofs.LowBytes.{le_4}
use Rattle.encode.proofs.held.Held.put_head.Goals as goal

pub returns : goal.returns
returns g c =
    adds_then (adds_same (ap₂ (λ (x y : ℕ). x ∷ y ∷ []) c.kind.ensures c.kind-2.ensures) c.put_bytes.ensures)
    (adds_then (adds_same (c.two_bytes.ensures ∙ ap (λ (n : ℕ). le 2 n) c.width.ensures.value) c.put_bytes-2.ensures)
    (adds_then (adds_same (c.two_bytes-2.ensures ∙ ap (λ (n : ℕ). le 2 n) c.height.ensures.value) c.put_bytes-3.ensures)
    (adds_then (adds_same c.two_bytes-3.ensures c.put_bytes-4.ensures)
    (adds_then (adds_same (c.to_le_bytes.ensures ∙ le_4 c.args.self.now.state.now.steps) c.put_bytes-5.ensures)
    (adds_same (c.to_le_bytes-2.ensures ∙ le_4 c.tell_mark.result ∙ ap (λ (n : ℕ). le 4 n) c.tell_mark.ensures) c.put_bytes-6.ensures)))))

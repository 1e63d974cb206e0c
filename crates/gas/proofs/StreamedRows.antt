-- A row is streamed where its first w places are written, and the rest is as before.
use Rattle.std.proofs.Common.{◌≡◌, ℕ, ◌+◌, ◌-◌, ◌*◌, ◌<◌, ◌≤◌, true, ◌&&◌, ltb, leb, List, ◌++◌, length, get_or, drop, sym, ap, ◌∙◌, arith}
use Rattle.std.proofs.lemmas.Bool.{ltb-true, leb-true, and_parts, false≢true}
use Rattle.std.proofs.lemmas.List.{get_or_append_left, get_or-drop}
use Rattle.std.proofs.Math.Seq.{get_or-append_right}
use Rattle.lattice.specs.Grids.{cell_at}
use Rattle.gas.specs.Model.{GasModel}
use Rattle.gas.specs.Streaming.{arriving, row_fits, RowStreamed}

-- what it takes that a row fits
pub row_parts : (w h r : ℕ) (from to : List ℕ) → row_fits w h r from to ≡ true → (r < h) × (w * h ≤ length from) × (w ≤ length to)
row_parts w h r from to fits =
    let outer = and_parts (ltb r h) (leb (w * h) (length from) && leb w (length to)) fits in
    let inner = and_parts (leb (w * h) (length from)) (leb w (length to)) outer.1 in
    (ltb-true _ _ outer.0, leb-true _ _ inner.0, leb-true _ _ inner.1)

pub row_streamed : (m : GasModel) (w h r n : ℕ) (from to row : List ℕ) → row_fits w h r from to ≡ true → n ≡ w → length row ≡ w
    → ((c : ℕ) → c < w → get_or row c 0 ≡ arriving m w h from (cell_at w c r)) → RowStreamed m w h r from to (row ++ drop n to)
row_streamed m w h r n from to row fits wide long each = record {
  row = λ _ c l. get_or_append_left row (drop n to) 0 c (omega arith) ∙ each c l;
  rest = λ _ k l.
      get_or-append_right row (drop n to) k 0 (omega arith)
      ∙ get_or-drop n to (k - length row) 0
      ∙ ap (λ (j : ℕ). get_or to j 0) (let back : n + (k - length row) ≡ k = omega arith in back);
  unfit = λ e. absurd (false≢true (sym e ∙ fits));
}

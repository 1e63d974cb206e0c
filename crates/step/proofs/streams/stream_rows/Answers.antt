use Rattle.std.proofs.Common.{◌≡◌, ℕ, ◌+◌, ◌-◌, ◌*◌, ◌<◌, ◌≤◌, Bool, true, ◌&&◌, ltb, leb, length, get_or, take, drop, sym, ap, ◌∙◌, subst, arith}
use borrow.Rule.Slice.PartMut.{put_mid}
use Rattle.std.proofs.lemmas.Bool.{lt-ltb, le-leb}
use Rattle.lattice.proofs.Cells.{row_fits_lem}
use Rattle.gas.specs.Streaming.{arriving, row_fits}
use Rattle.step.specs.Results.{Filled}
use Rattle.step.proofs.Stretches.{part_long, filled_more}
use Rattle.step.proofs.streams.stream_rows.Goals as goal

both : (a b : Bool) → a ≡ true → b ≡ true → (a && b) ≡ true
both a b p q = ap (λ (x : Bool). x && b) p ∙ q

pub loop-row-preserved : goal.loop-row-preserved
loop-row-preserved g c =
    let m = g.G.Gas.model c.args.gas.now in
    let from = c.args.from.now in
    let w = c.args.grid.width in
    let h = c.args.grid.height in
    let r = c.loop-row.row in
    let xs = c.loop-row.field in
    let ys = c.stream_row.new.to in
    let wide = c.width-width.ensures.value in
    let below : r < h = omega (arith, c.loop-row-test.true, c.height-height.ensures.value) in
    let f = row_fits_lem r w h below in
    let fits : r * w + w ≤ length xs = omega (arith, f, c.requires.field, c.loop-row.auto.field) in
    let start : r * c.width-width.result ≡ r * w = ap (λ (x : ℕ). r * x) wide in
    let part = take (length xs - r * c.width-width.result) (drop (r * c.width-width.result) xs) in
    let part-is : length part ≡ length xs - r * c.width-width.result = part_long xs (r * c.width-width.result) (omega arith) in
    let long : length ys ≡ length xs - r * w = c.stream_row.auto.to ∙ part-is ∙ ap (λ (v : ℕ). length xs - r * v) wide in
    let fit : row_fits w h r from part ≡ true = both (ltb r h) (leb (w * h) (length from) && leb w (length part)) (lt-ltb r h below) (both (leb (w * h) (length from)) (leb w (length part)) (le-leb (w * h) (length from) c.requires.from) (le-leb w (length part) (omega arith))) in
    let told = c.stream_row.ensures in
    subst (λ (v : ℕ). Filled ((r + 1) * w) (arriving m w h from) c.args.field.now (put_mid (r * v) (length xs - r * v) xs ys)) (sym wide)
    (filled_more (arriving m w h from) c.args.field.now xs ys r w fits long
    (told.row fit)
    (λ q l. told.rest fit q l ∙ ap (λ (v : ℕ). get_or (take (length xs - r * v) (drop (r * v) xs)) q 0) wide)
    c.loop-row.invariant)

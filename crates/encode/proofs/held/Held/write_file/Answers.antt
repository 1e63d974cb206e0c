use Rattle.std.proofs.Common.{◌≡◌, ◌≤◌, [], length, take, sym, ap, ◌∙◌, append-nil, arith}
use Rattle.std.proofs.lemmas.List.{length-take-le}
use Rattle.dynamics.specs.Tunnels.{Tunnel, cells}
use Rattle.records.specs.Format.{record_of}
use Rattle.text.specs.Sheets.{Adds}
use Rattle.text.proofs.Sheets.{adds_then, adds_same, filled}
use Rattle.encode.specs.Encodings.{file_of, file_length}
use Rattle.encode.specs.Handed.{held}
use Rattle.encode.proofs.Lengths.{length_file}
use Rattle.encode.proofs.held.Held.write_file.Goals as goal

pub returns : goal.returns
unfolding file_of
returns g c =
    let s = c.args.self.now in
    let t : Tunnel = held g.G.Gas g.S.TwistSource s in
    let puts : Adds (file_of t) c.new-sheet.result c.put_record-6.new.sheet =
    adds_then (adds_same (ap (record_of 2) c.head_bytes.ensures) c.put_record.ensures)
    (adds_then (adds_same (ap (record_of 3) c.rules_bytes.ensures) c.put_record-2.ensures)
    (adds_then (adds_same (ap (λ n. record_of 4 (take n s.map.now)) c.cells-cells.ensures.value) c.put_record-3.ensures)
    (adds_then (adds_same (ap (λ n. record_of 5 (take n s.field.now)) c.cells-cells.ensures.value) c.put_record-4.ensures)
    (adds_then (adds_same (ap (record_of 6) c.book_bytes.ensures) c.put_record-5.ensures)
    (adds_same (sym (append-nil (record_of 1 []))) c.put_record-6.ensures))))) in
    let long : length (file_of t) ≡ file_length t.run.gas (cells t.run) =
    length_file t (g.met.G.Gas.sound s.gas.now).full (length-take-le (cells t.run) s.map.now s.mapped) (length-take-le (cells t.run) s.field.now s.filled) s.state.now.book.full in
    let bytes : c.new-sheet.result.out.now ≡ c.args.out.now = c.new-sheet.ensures.bytes in
    let room : length (file_of t) ≤ length c.new-sheet.result.out.now = rw bytes (omega (arith, long, c.requires)) in
    let done = filled c.new-sheet.ensures.place room puts in
    record {
      answer = c.place.ensures ∙ done.0 ∙ long;
      written = grind (arith, done.1, bytes, puts.same_buffer, c.new-sheet.ensures.buffer);
    }

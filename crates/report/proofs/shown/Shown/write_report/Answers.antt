use Rattle.std.proofs.Common.{◌≡◌, ◌≤◌, ◌∙◌, sym, ap, length, arith, List, ℕ, Some}
use Rattle.report.specs.Reports.{told, report_text}
use Rattle.text.proofs.Sheets.{filled}
use Rattle.std.proofs.lemmas.Bool.{cond-true, le-leb}
use Rattle.report.proofs.shown.Shown.write_report.Goals as goal

pub returns : goal.returns
returns g c =
    let text : List ℕ = report_text (told g.G.Gas c.args.self.now) c.args.self.now.patch in
    let out = c.args.out.now in
    let bytes : c.new-sheet.result.out.now ≡ out = c.new-sheet.ensures.bytes in
    let fits : length text ≤ length out = omega (arith, c.measure_report-length.ensures, c.if-length-out.false) in
    let fits' : length text ≤ length c.new-sheet.result.out.now = rw bytes fits in
    let done = filled c.new-sheet.ensures.place fits' c.put_report.ensures in
    let same : c.measure_report-length.result ≡ length text = omega (arith, c.measure_report-length.ensures) in
    let test = le-leb (length text) (length out) fits in
    record {
      answer_is = ap Some same ∙ sym (cond-true _ _ _ test);
      after_is = grind (arith, done.1, bytes, test, c.put_report.ensures.same_buffer, c.new-sheet.ensures.buffer);
    }

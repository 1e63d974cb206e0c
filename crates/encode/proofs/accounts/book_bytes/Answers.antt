use Rattle.std.proofs.Common.{◌≡◌, length, ap, arith}
use Rattle.std.proofs.lemmas.List.{take_all}
use Rattle.text.proofs.Sheets.{adds_none, adds_then, adds_same, covered}
use Rattle.encode.specs.Encodings.{book_bytes}
use Rattle.encode.proofs.Lengths.{length_book}
use Rattle.encode.proofs.Books.{book_none, book_more}
use Rattle.encode.proofs.accounts.book_bytes.Goals as goal

pub loop-account-init : goal.loop-account-init
loop-account-init c = adds_same (book_none c.args.book.now.accounts) (adds_none c.new-sheet.result)

pub loop-account-preserved : goal.loop-account-preserved
loop-account-preserved c =
    let book = c.args.book.now.accounts in
    let full : length book ≡ 16 = c.args.book.now.full in
    adds_same (book_more book c.loop-account.account-index (omega (arith, full, c.loop-account-test.true))) (adds_then c.loop-account.invariant c.put_account.ensures)

pub returns : goal.returns
returns c =
    let book = c.args.book.now.accounts in
    let full : length book ≡ 16 = c.args.book.now.full in
    let all = adds_same (ap book_bytes (take_all c.loop-account.account-index book (omega (arith, full, c.loop-account-test.false)))) c.loop-account.invariant in
    let zeros : length c.new-sheet.result.out.now ≡ 256 = ap length c.new-sheet.ensures.bytes in
    let done = covered c.new-sheet.ensures.place (omega (arith, length_book book, full, zeros)) all in
    grind (arith, done, all.same_buffer, c.new-sheet.ensures.buffer)

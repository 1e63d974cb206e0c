use Rattle.std.proofs.Common.{◌≡◌, ℕ, ◌*◌, ◌/◌, List, [], length, take, drop, get_or, sym, ap, ◌∙◌, to_z-of_z, w64, to_z, arith, length-take-le, length-drop}
use borrow.Author.Rules.{sfits_of}
use Rattle.job.proofs.Numbers.{eight_bytes, get_or-chunks}
use Rattle.job.proofs.accounts.read_number.Goals as goal

pub returns : goal.returns
returns c =
    let book = c.args.book.now in
    let i = c.args.i in
    let bs = take 8 (drop (8 * i) book) in
    let here : get_or c.as_chunks.result.0.now i [] ≡ bs =
    ap (λ (ls : List (List ℕ)). get_or ls i []) c.as_chunks.ensures.front ∙ get_or-chunks 8 (length book / 8) book i (omega (arith, c.requires)) in
    let long : length bs ≡ 8 = length-take-le 8 (drop (8 * i) book) (omega (arith, c.requires, length-drop (8 * i) book)) in
    to_z-of_z {w = w64} {z = c.from_le_bytes.result} (sfits_of {w = w64} {z = c.from_le_bytes.result} c.from_le_bytes.type_inv)
    ∙ (rw here at c.from_le_bytes.ensures) ∙ ap (to_z w64) (sym (eight_bytes bs long))

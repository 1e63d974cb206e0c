use Rattle.std.proofs.Common.{◌<◌, refl, sym, ◌∙◌, arith, rules}
use Rattle.std.proofs.lemmas.List.{ext_get_or}
use Rattle.book.specs.Accounts.{accounts, none}
use Rattle.dynamics.specs.Tunnels.{listed}
use Rattle.dynamics.proofs.Lists.{length-listed, get_d_listed}
use Rattle.job.specs.Books.{account_in, accounts_of}
use Rattle.job.proofs.Made.{made_each}
use Rattle.job.proofs.accounts.read_book.Goals as goal

pub returns : goal.returns
unfolding accounts_of
returns c =
    let bytes = c.args.payload.now in
    let made = c.from_fn.ensures.items in
    ext_get_or none c.from_fn.result (listed accounts (account_in bytes)) (made.long ∙ sym (length-listed accounts (account_in bytes)))
    (λ i l.
    let within : i < accounts = omega (arith, made.long) in
    made_each _ _ (account_in bytes) (λ k y q called. search rules) 0 accounts _ _ refl made.each i none (omega arith) within
    ∙ sym (get_d_listed accounts (account_in bytes) i none within))

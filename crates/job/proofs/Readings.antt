-- What a judged file says of a run: the parts of its places, and what its payloads keep.
use Rattle.std.proofs.Common.{◌≡◌, ℕ, ◌+◌, ◌*◌, ◌<◌, true, ◌&&◌, List, length, get_or, nat_abs, None, Ok, sym, ap, ◌∙◌, subst, arith}
use Rattle.std.proofs.lemmas.Bool.{le-leb}
use Rattle.gas.specs.Model.{GasModel}
use Rattle.twist.specs.Model.{TwistModel}
use Rattle.lattice.specs.declared.vector.Vector.{Vector as Account}
use Rattle.book.specs.Accounts.{accounts, none, account_fits, book_fits, most_push}
use Rattle.book.proofs.Ranges.{fits_all}
use Rattle.dynamics.proofs.Lists.{length-listed, get_d_listed}
use Rattle.records.specs.declared.payloads.Places.{Places}
use Rattle.records.specs.Layout.{parts}
use Rattle.records.specs.Walk.{walked, largest_file}
use Rattle.job.specs.Books.{number_of, account_in, accounts_of}
use Rattle.job.specs.Jobs.{job_fault, fault_in, parts_in, parts_of}
use Rattle.job.specs.Keeps.{BookKeeps, Keeps}
use Rattle.job.proofs.Keeping.{keeps}

-- the parts of a file that was walked are those at its places
pub parts_found : (file : List ℕ) (p : Places) → walked largest_file file ≡ Ok p → parts_of file ≡ parts file p
parts_found file p e = ap (parts_in file) e

-- a file without a fault keeps the rules
pub file_keeps : (gas : GasModel) (twist : TwistModel) (file : List ℕ) (p : Places) → walked largest_file file ≡ Ok p → job_fault gas twist file ≡ None → Keeps gas twist (parts file p)
file_keeps gas twist file p walks unfaulted = keeps gas twist (parts file p) (sym (ap (fault_in gas twist file) walks) ∙ unfaulted)

-- the accounts, how many and each
pub length-accounts : (bytes : List ℕ) → length (accounts_of bytes) ≡ accounts
unfolding accounts_of
length-accounts bytes = length-listed accounts (account_in bytes)

pub account_of : (bytes : List ℕ) (k : ℕ) → k < accounts → get_or (accounts_of bytes) k none ≡ account_in bytes k
unfolding accounts_of
account_of bytes k l = get_d_listed accounts (account_in bytes) k none l

-- a book that keeps the rules fits
account_fits_lem : (steps : ℕ) (bytes : List ℕ) → BookKeeps steps bytes → (k : ℕ) → k < accounts → account_fits steps (account_in bytes k) ≡ true
account_fits_lem steps bytes b k l =
    λ j. le-leb (nat_abs (number_of bytes (2 * k))) (most_push * steps) (b.each (2 * k) (omega arith)) j && le-leb (nat_abs (number_of bytes (2 * k + 1))) (most_push * steps) (b.each (2 * k + 1) (omega arith)) j

pub book_fits_lem : (steps : ℕ) (bytes : List ℕ) → BookKeeps steps bytes → book_fits steps (accounts_of bytes) ≡ true
book_fits_lem steps bytes b =
    fits_all steps (accounts_of bytes) (λ k l.
    let within : k < accounts = omega (arith, length-accounts bytes) in
    subst (λ (a : Account). account_fits steps a ≡ true) (sym (account_of bytes k within)) (account_fits_lem steps bytes b k within))

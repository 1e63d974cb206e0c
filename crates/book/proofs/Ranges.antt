-- A book in its range, account by account.
use Rattle.std.proofs.Common.{◌≡◌, ℕ, zero, suc, ◌<◌, Bool, true, ◌&&◌, List, [], ◌∷◌, length, get_or, refl, ap, ◌∙◌, arith}
use Rattle.std.proofs.lemmas.Bool.{and_parts}
use Rattle.lattice.specs.declared.vector.Vector.{Vector as Account}
use Rattle.book.specs.Accounts.{none, account_fits, book_fits}

pub fits_at : (steps : ℕ) (book : List Account) → book_fits steps book ≡ true → (k : ℕ) → k < length book → account_fits steps (get_or book k none) ≡ true
fits_at steps [] e k l = absurd (omega arith)
fits_at steps (a ∷ more) e zero l = (and_parts (account_fits steps a) (book_fits steps more) e).0
fits_at steps (a ∷ more) e (suc k) l = fits_at steps more (and_parts (account_fits steps a) (book_fits steps more) e).1 k (omega arith)

pub fits_all : (steps : ℕ) (book : List Account) → ((k : ℕ) → k < length book → account_fits steps (get_or book k none) ≡ true) → book_fits steps book ≡ true
fits_all steps [] h = refl
fits_all steps (a ∷ more) h = ap (λ (b : Bool). b && book_fits steps more) (h 0 (omega arith)) ∙ fits_all steps more (λ k l. h (suc k) (omega arith))

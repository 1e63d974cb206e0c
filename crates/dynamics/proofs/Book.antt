-- The book after a step: what an account holds, what its range is, and what the obstacles hold together.
use Rattle.std.proofs.Common.{◌≡◌, ℕ, ◌+◌, ◌-◌, ◌*◌, ◌<◌, ◌≤◌, true, leb, List, get_or, ℤ, ◌+ℤ◌, nat_abs, sym, ap, ◌∙◌, arith}
use Rattle.std.proofs.lemmas.Int.{ints}
use Rattle.std.proofs.lemmas.Bool.{and_parts, and_from, leb-true, le-leb}
use Rattle.lattice.specs.declared.vector.Vector.{Vector}
use Rattle.lattice.specs.Sums.{sum_z}
use Rattle.lattice.proofs.Sums.{sum_same, sum_add}
use Rattle.lattice.specs.declared.vector.Vector.{Vector as Account}
use Rattle.book.specs.Accounts.{none, grown, account_at, most_push, account_fits}
use Rattle.dynamics.specs.Tunnels.{listed}
use Rattle.dynamics.proofs.Lists.{get_d_listed}

number_fits : (steps : ℕ) (a v : ℤ) → nat_abs a ≤ most_push * steps → nat_abs v ≤ most_push → nat_abs (a +ℤ v) ≤ most_push * (steps + 1)
number_fits steps a v l m = omega (arith, ints)

pub grown-fits : (steps : ℕ) (a : Account) (v : Vector) → account_fits steps a ≡ true → nat_abs v.along ≤ most_push → nat_abs v.across ≤ most_push → account_fits (steps + 1) (grown a v) ≡ true
grown-fits steps a v fits x y =
    let p = and_parts (leb (nat_abs a.along) (most_push * steps)) (leb (nat_abs a.across) (most_push * steps)) fits in
    and_from _ _
    (le-leb _ _ (number_fits steps a.along v.along (leb-true _ _ p.0) x))
    (le-leb _ _ (number_fits steps a.across v.across (leb-true _ _ p.1) y))

-- a book of n accounts, of which account k grows by the push on it
module _ (n : ℕ) (book : List Account) (push : ℕ → Vector) where
  pub account_after_lem : (k : ℕ) → k < n → get_or (listed n (λ j. grown (get_or book j none) (push (j + 1)))) k none ≡ grown (get_or book k none) (push (k + 1))
  account_after_lem k l = get_d_listed n (λ j. grown (get_or book j none) (push (j + 1))) k none l

  -- one number of the first m accounts together
  pub sum_after : (number : Account → ℤ) (part : Vector → ℤ) → ((a : Account) (v : Vector) → number (grown a v) ≡ number a +ℤ part v) → (m : ℕ) → m ≤ n
      → sum_z m (λ k. number (account_at (listed n (λ j. grown (get_or book j none) (push (j + 1)))) (k + 1)))
      ≡ sum_z m (λ k. number (account_at book (k + 1))) +ℤ sum_z m (λ k. part (push (k + 1)))
  sum_after number part adds m l =
      sum_same m _ _ (λ k h.
      let e : k + 1 - 1 ≡ k = omega arith in
      ap (λ (j : ℕ). number (get_or (listed n (λ j. grown (get_or book j none) (push (j + 1)))) j none)) e
      ∙ ap number (account_after_lem k (omega arith))
      ∙ adds (get_or book k none) (push (k + 1))
      ∙ ap (λ (j : ℕ). number (get_or book j none) +ℤ part (push (k + 1))) (sym e))
      ∙ sum_add m _ _

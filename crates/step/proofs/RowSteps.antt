-- A row's collision, one column more.
use Rattle.std.proofs.Common.{◌≡◌, ℕ, ◌+◌, ◌<◌, Bool, true, false, cond, ◌≢◌, List, length, set, refl, ◌∙◌, add-zero, arith, get_or-set_other, get_or-set_same, below_more}
use Rattle.lattice.specs.Sums.{count_n}
use Rattle.lattice.proofs.Sums.{sum_n_start, sum_n_more_yes, sum_n_more_no}
use Rattle.step.specs.declared.cell.Collided.{Collided}
use Rattle.step.specs.Rows.{RowCollided}

pub row_none : (cell : ℕ → Collided) (xs : List ℕ) → RowCollided 0 cell xs xs 0
row_none cell xs = record { row = λ c l. absurd (omega arith); rest = λ k l. refl; turned = sum_n_start _ }

count_more : (cell : ℕ → Collided) (c n m : ℕ) (b : Bool) → (cell c).turned ≡ b → n ≡ count_n c (λ k. (cell k).turned) → m ≡ n + cond b 1 0 → m ≡ count_n (c + 1) (λ k. (cell k).turned)
count_more cell c n m true e h is = is ∙ sum_n_more_yes c (λ k. (cell k).turned) (λ _. 1) n h e
count_more cell c n m false e h is = is ∙ add-zero n ∙ sum_n_more_no c (λ k. (cell k).turned) (λ _. 1) n h e

pub row_more : (cell : ℕ → Collided) (before xs : List ℕ) (c n m v : ℕ) → c < length xs → v ≡ (cell c).state → m ≡ n + cond (cell c).turned 1 0
    → RowCollided c cell before xs n → RowCollided (c + 1) cell before (set xs c v) m
row_more cell before xs c n m v lt here count old = record {
  row = below_more _ _ (λ j h. let ne : j ≢ c = omega arith in rw get_or-set_other (old.row j h)) (rw get_or-set_same here);
  rest = λ k h. let ne : k ≢ c = omega arith in rw get_or-set_other (old.rest k (omega arith));
  turned = count_more cell c n m (cell c).turned refl old.turned count;
}

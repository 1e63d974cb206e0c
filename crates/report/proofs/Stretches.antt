-- Sums over a stretch of a row and over a patch, how large they can be, and where a patch lies.
use Rattle.std.proofs.Common.{◌≡◌, ℕ, ◌+◌, ◌*◌, ◌/◌, ◌^◌, ◌<◌, ◌≤◌, List, length, get_or, take, drop, ℤ, ◌+ℤ◌, nat_abs, ap, ◌∙◌, div-mul-le_self, arith, length-drop, length-take, w64, SFits, ap₂, sym}
use Rattle.std.proofs.lemmas.Int.{ints}
use Rattle.std.proofs.lemmas.Nat.{mul-le}
use Rattle.std.proofs.lemmas.List.{get_or-take, get_or-drop}
use Rattle.lattice.specs.declared.vector.Vector.{Vector}
use Rattle.lattice.specs.Sums.{sum_n, sum_z}
use Rattle.lattice.specs.Vectors.{vec, added, sum_v}
use Rattle.lattice.proofs.Sums.{sum_more, sum_n_bound, sum_n_same, sum_nat_abs, sum_same}
use Rattle.lattice.proofs.Cells.{row_next}
use Rattle.gas.specs.Model.{GasModel}
use Rattle.gas.specs.Laws.{GasLaws}
use Rattle.gas.proofs.Bounds.{particles_small, momentum_small}
use Rattle.report.specs.Patches.{particles_at, momentum_at}

-- patch k of those that n cells hold ends within them
pub patch_fits_lem : (b n k : ℕ) → k < n / b → k * b + b ≤ n
patch_fits_lem b n k l = omega (arith, row_next k b, mul-le (k + 1) b (n / b) b (omega arith) (omega arith), div-mul-le_self n b)

-- the cells of a stretch are those of the field from its start on
stretch_cell : (xs : List ℕ) (start n k : ℕ) → k < n → get_or (take n (drop start xs)) k 0 ≡ get_or xs (start + k) 0
stretch_cell xs start n k l = get_or-take n (drop start xs) k 0 l ∙ get_or-drop start xs k 0

stretch_long : (xs : List ℕ) (start n : ℕ) → start + n ≤ length xs → length (take n (drop start xs)) ≡ n
stretch_long xs start n l = omega (arith, length-take n (drop start xs), length-drop start xs)

-- what is summed over a stretch's own cells, summed over those cells of the field
pub stretch_sum_n : (f : ℕ → ℕ) (xs : List ℕ) (start long n : ℕ) (cell : ℕ → ℕ) → long ≡ n → start + n ≤ length xs → ((k : ℕ) → start + k ≡ cell k)
    → sum_n (length (take long (drop start xs))) (λ i. f (get_or (take long (drop start xs)) i 0)) ≡ sum_n n (λ k. f (get_or xs (cell k) 0))
stretch_sum_n f xs start long n cell e l at =
    ap (λ (j : ℕ). sum_n (length (take j (drop start xs))) (λ i. f (get_or (take j (drop start xs)) i 0))) e
    ∙ ap (λ (j : ℕ). sum_n j (λ i. f (get_or (take n (drop start xs)) i 0))) (stretch_long xs start n l)
    ∙ sum_n_same n _ _ (λ k h. ap f (stretch_cell xs start n k h ∙ ap (λ (i : ℕ). get_or xs i 0) (at k)))

pub stretch_sum_z : (f : ℕ → ℤ) (xs : List ℕ) (start long n : ℕ) (cell : ℕ → ℕ) → long ≡ n → start + n ≤ length xs → ((k : ℕ) → start + k ≡ cell k)
    → sum_z (length (take long (drop start xs))) (λ i. f (get_or (take long (drop start xs)) i 0)) ≡ sum_z n (λ k. f (get_or xs (cell k) 0))
stretch_sum_z f xs start long n cell e l at =
    ap (λ (j : ℕ). sum_z (length (take j (drop start xs))) (λ i. f (get_or (take j (drop start xs)) i 0))) e
    ∙ ap (λ (j : ℕ). sum_z j (λ i. f (get_or (take n (drop start xs)) i 0))) (stretch_long xs start n l)
    ∙ sum_same n _ _ (λ k h. ap f (stretch_cell xs start n k h ∙ ap (λ (i : ℕ). get_or xs i 0) (at k)))

-- a stretch of at most 256 cells, at whatever places
pub stretch_few : (m : GasModel) → GasLaws m → (xs : List ℕ) (b : ℕ) (cell : ℕ → ℕ) → b ≤ 256 → sum_n b (λ k. particles_at m xs (cell k)) ≤ 1792
stretch_few m laws xs b cell few = omega (arith, sum_n_bound b 7 (λ k. particles_at m xs (cell k)) (λ k h. particles_small m laws (get_or xs (cell k) 0)))

pub stretch_along : (m : GasModel) → GasLaws m → (xs : List ℕ) (b : ℕ) (cell : ℕ → ℕ) → b ≤ 256 → nat_abs (sum_z b (λ k. (momentum_at m xs (cell k)).along)) ≤ 3584
stretch_along m laws xs b cell few =
    omega (arith, sum_nat_abs b 14 (λ k. (momentum_at m xs (cell k)).along) (λ k h. (momentum_small m laws (get_or xs (cell k) 0) m.channels (omega arith)).0))

pub stretch_across : (m : GasModel) → GasLaws m → (xs : List ℕ) (b : ℕ) (cell : ℕ → ℕ) → b ≤ 256 → nat_abs (sum_z b (λ k. (momentum_at m xs (cell k)).across)) ≤ 3584
stretch_across m laws xs b cell few =
    omega (arith, sum_nat_abs b 14 (λ k. (momentum_at m xs (cell k)).across) (λ k h. (momentum_small m laws (get_or xs (cell k) 0) m.channels (omega arith)).1))

-- j of them
pub particles_few : (m : GasModel) → GasLaws m → (xs : List ℕ) (j b : ℕ) (cell : ℕ → ℕ → ℕ) → b ≤ 256 → sum_n j (λ i. sum_n b (λ k. particles_at m xs (cell k i))) ≤ j * 1792
particles_few m laws xs j b cell few = sum_n_bound j 1792 (λ i. sum_n b (λ k. particles_at m xs (cell k i))) (λ i l. stretch_few m laws xs b (λ k. cell k i) few)

pub along_small : (m : GasModel) → GasLaws m → (xs : List ℕ) (j b : ℕ) (cell : ℕ → ℕ → ℕ) → b ≤ 256 → nat_abs (sum_z j (λ i. sum_z b (λ k. (momentum_at m xs (cell k i)).along))) ≤ j * 3584
along_small m laws xs j b cell few = sum_nat_abs j 3584 (λ i. sum_z b (λ k. (momentum_at m xs (cell k i)).along)) (λ i l. stretch_along m laws xs b (λ k. cell k i) few)

pub across_small : (m : GasModel) → GasLaws m → (xs : List ℕ) (j b : ℕ) (cell : ℕ → ℕ → ℕ) → b ≤ 256 → nat_abs (sum_z j (λ i. sum_z b (λ k. (momentum_at m xs (cell k i)).across))) ≤ j * 3584
across_small m laws xs j b cell few = sum_nat_abs j 3584 (λ i. sum_z b (λ k. (momentum_at m xs (cell k i)).across)) (λ i l. stretch_across m laws xs b (λ k. cell k i) few)

-- a running sum of small numbers fits
sum_fits : {x v s f : ℤ} → x ≡ s → v ≡ f → nat_abs s ≤ 2 ^ 40 → nat_abs f ≤ 2 ^ 40 → SFits w64 (x +ℤ v)
sum_fits a b p q = omega (arith, ints)

-- the momentum of j rows, and of the row behind them: together they fit, and they are that of j + 1 rows
pub momentum_fits : (m : GasModel) → GasLaws m → (xs : List ℕ) (j b : ℕ) (cell : ℕ → ℕ → ℕ) → j ≤ 256 → b ≤ 256 → {v w : Vector}
    → v ≡ sum_v j (λ i. sum_v b (λ k. momentum_at m xs (cell k i))) → w ≡ sum_v b (λ k. momentum_at m xs (cell k j))
    → SFits w64 (v.along +ℤ w.along) × SFits w64 (v.across +ℤ w.across)
momentum_fits m laws xs j b cell rows few so_far row = (
  sum_fits (ap (λ (v : Vector). v.along) so_far) (ap (λ (v : Vector). v.along) row)
      (omega (arith, along_small m laws xs j b cell few)) (omega (arith, stretch_along m laws xs b (λ k. cell k j) few)),
  sum_fits (ap (λ (v : Vector). v.across) so_far) (ap (λ (v : Vector). v.across) row)
      (omega (arith, across_small m laws xs j b cell few)) (omega (arith, stretch_across m laws xs b (λ k. cell k j) few)),
)

pub momentum_more : (j : ℕ) (f : ℕ → Vector) {v w : Vector} → v ≡ sum_v j f → w ≡ f j → added v w ≡ sum_v (j + 1) f
momentum_more j f so_far row =
    ap₂ added so_far row ∙ sym (ap₂ vec (sum_more j (λ i. (f i).along)) (sum_more j (λ i. (f i).across)))

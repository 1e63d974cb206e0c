-- A row of the collision, seen in the whole tunnel.
use Rattle.std.proofs.Common.{◌≡◌, ℕ, zero, suc, ◌+◌, ◌*◌, ◌<◌, ◌≤◌, Bool, true, false, cond, List, sym, ap, ◌∙◌, add-zero, add_assoc, add-suc, arith, get_or-take}
use Rattle.lattice.specs.Sums.{sum_n, count_n}
use Rattle.lattice.proofs.Sums.{sum_n_bound, sum_n_same}
use Rattle.lattice.proofs.Cells.{row_next, row_fits_lem, column_of_cell, row_of_cell}
use Rattle.twist.specs.Model.{TwistModel}
use Rattle.dynamics.specs.Tunnels.{RunState, cells}
use Rattle.dynamics.specs.Roles.{role_of}
use Rattle.dynamics.specs.Step.{fan_acts, mark_at, collided_at}
use Rattle.dynamics.specs.Pushes.{turns_at}
use Rattle.step.specs.declared.cell.Collided.{Collided}
use Rattle.step.specs.Rows.{cell_after, cell_in, asked}
use Rattle.step.specs.Scenes.{scene_of}

pub mark_at_add : (s : TwistModel) (m i j : ℕ) → mark_at s m (i + j) ≡ mark_at s (mark_at s m i) j
mark_at_add s m i zero = ap (mark_at s m) (add-zero i)
mark_at_add s m i (suc j) = ap (mark_at s m) (add-suc i j) ∙ ap s.next (mark_at_add s m i j)

-- a count goes on behind the first a
pub sum_n_add : (a b : ℕ) (f : ℕ → ℕ) → sum_n (a + b) f ≡ sum_n a f + sum_n b (λ i. f (a + i))
unfolding sum_n
sum_n_add a zero f = ap (λ (n : ℕ). sum_n n f) (add-zero a) ∙ sym (add-zero (sum_n a f))
sum_n_add a (suc b) f = ap (λ (n : ℕ). sum_n n f) (add-suc a b) ∙ ap (λ (n : ℕ). n + f (a + b)) (sum_n_add a b f) ∙ add_assoc (sum_n a f) (sum_n b (λ i. f (a + i))) (f (a + b))

cond_one : (b : Bool) → cond b 1 0 ≤ 1
cond_one b = elim b as (λ x. cond x 1 0 ≤ 1) [ true ↦ omega arith | false ↦ omega arith ]

pub count_few : (n : ℕ) (p : ℕ → Bool) → count_n n p ≤ n
count_few n p = omega (arith, sum_n_bound n 1 (λ i. cond (p i) 1 0) (λ i l. cond_one (p i)))

module _ (s : RunState) (map field : List ℕ) where
  -- the whole tunnel's view of cell i
  abbrev whole : ℕ → Collided
  whole i = record { state = collided_at (scene_of s map field) i; turned = turns_at (scene_of s map field) i }

  -- column c of row r is cell r * w + c
  pub in_whole : (r c : ℕ) → r < s.height → c < s.width → cell_in (asked (r * s.width) s) r map field c ≡ whole (r * s.width + c)
  in_whole r c below within =
      let w = s.width in
      let n = cells s in
      let i = r * w + c in
      let inside : i < n = omega (arith, row_fits_lem r w s.height below) in
      let mark = sym (mark_at_add s.twist s.mark (r * w) c) in
      let column = sym (column_of_cell w c r within) in
      let row = sym (row_of_cell w c r within) in
      let byte = sym (get_or-take n map i 0 inside) in
      let state = sym (get_or-take n field i 0 inside) in
      λ j. cell_after s.gas s.entries (fan_acts s.period s.steps) (s.twist.bit (mark j) s.steps (column j) (row j)) (role_of (byte j)) (state j)

  -- the particles turned in the first r + 1 rows
  pub count_rows : (r n : ℕ) → r < s.height → n ≡ count_n s.width (λ c. (cell_in (asked (r * s.width) s) r map field c).turned)
      → count_n (r * s.width) (λ i. (whole i).turned) + n ≡ count_n ((r + 1) * s.width) (λ i. (whole i).turned)
  count_rows r n below is =
      let w = s.width in
      let p : ℕ → ℕ = λ i. cond (whole i).turned 1 0 in
      ap (λ (k : ℕ). sum_n (r * w) p + k)
      (is ∙ sum_n_same w _ (λ c. p (r * w + c)) (λ c l. ap (λ (x : Collided). cond x.turned 1 0) (in_whole r c below l)))
      ∙ sym (sum_n_add (r * w) w p) ∙ ap (λ (k : ℕ). sum_n k p) (sym (row_next r w))

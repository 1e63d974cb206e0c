-- Laws of sums over the numbers below n.
use Rattle.std.proofs.Common.{◌≡◌, ℕ, zero, suc, ◌+◌, ◌*◌, ◌<◌, ◌≤◌, Bool, true, false, cond, eqb, ltb, ℤ, pos, ◌+ℤ◌, ◌*ℤ◌, neg_ℤ, nat_abs, sym, refl, ap, ◌∙◌, inl, inr, add-zero, suc-mul, add-one, arith}
use lib.IntN.{+ℤ_idl, +ℤ_idr, suc_ℤ-*ℤ, zero-*ℤ}
use Rattle.std.proofs.lemmas.Int.{ints}
use Rattle.std.proofs.lemmas.Bool.{eq-eqb, ne_eqb, cases_order, cond-true, cond-false, lt-ltb, le-ltb}
use Rattle.lattice.specs.Sums.{sum_n, sum_z, count_n}

pub sum_same : (n : ℕ) (f g : ℕ → ℤ) → ((i : ℕ) → i < n → f i ≡ g i) → sum_z n f ≡ sum_z n g
unfolding sum_z
sum_same zero f g h = refl
sum_same (suc n) f g h =
    let e = sum_same n f g (λ i l. h i (omega arith)) in
    let d = h n (omega arith) in
    cc

pub sum_add : (n : ℕ) (f g : ℕ → ℤ) → sum_z n (λ i. f i +ℤ g i) ≡ sum_z n f +ℤ sum_z n g
unfolding sum_z
sum_add zero f g = refl
sum_add (suc n) f g = let e = sum_add n f g in omega (arith, ints)

pub sum_none : (n : ℕ) → sum_z n (λ i. pos 0) ≡ pos 0
unfolding sum_z
sum_none zero = refl
sum_none (suc n) = let e = sum_none n in omega (arith, ints)

pub sum_neg : (n : ℕ) (f : ℕ → ℤ) → sum_z n (λ i. neg_ℤ (f i)) ≡ neg_ℤ (sum_z n f)
unfolding sum_z
sum_neg zero f = refl
sum_neg (suc n) f = let e = sum_neg n f in omega (arith, ints)

pub sum_twice : (n : ℕ) (f : ℕ → ℤ) → sum_z n (λ i. pos 2 *ℤ f i) ≡ pos 2 *ℤ sum_z n f
unfolding sum_z
sum_twice zero f = refl
sum_twice (suc n) f = let e = sum_twice n f in omega (arith, ints)

pub sum_swap : (n k : ℕ) (f : ℕ → ℕ → ℤ) → sum_z n (λ i. sum_z k (λ j. f i j)) ≡ sum_z k (λ j. sum_z n (λ i. f i j))
unfolding sum_z
sum_swap zero k f = sym (sum_none k)
sum_swap (suc n) k f = ap (λ (z : ℤ). z +ℤ sum_z k (f n)) (sum_swap n k f) ∙ sym (sum_add k (λ j. sum_z n (λ i. f i j)) (f n))

-- a sum of which only the term at k can be other than 0
pub sum_pick : (n k : ℕ) (f : ℕ → ℤ) → sum_z n (λ i. cond (eqb k i) (f i) (pos 0)) ≡ cond (ltb k n) (f k) (pos 0)
unfolding sum_z
sum_pick zero k f = sym (cond-false _ _ _ (le-ltb k 0 (omega arith)))
sum_pick (suc n) k f =
    let e = sum_pick n k f in
    elim (cases_order k n) [
      | inl s ↦
          let a = cond-true (eqb k n) (f n) (pos 0) (eq-eqb k n s) in
          let b = cond-false (ltb k n) (f k) (pos 0) (le-ltb k n (omega arith)) in
          let c = cond-true (ltb k (suc n)) (f k) (pos 0) (lt-ltb k (suc n) (omega arith)) in
          let d = ap f s in
          let z = +ℤ_idl (f n) in
          cc
      | inr (inl l) ↦
          let a = cond-false (eqb k n) (f n) (pos 0) (ne_eqb k n (λ x. omega arith)) in
          let b = cond-true (ltb k n) (f k) (pos 0) (lt-ltb k n l) in
          let c = cond-true (ltb k (suc n)) (f k) (pos 0) (lt-ltb k (suc n) (omega arith)) in
          omega (arith, ints)
      | inr (inr l) ↦
          let a = cond-false (eqb k n) (f n) (pos 0) (ne_eqb k n (λ x. omega arith)) in
          let b = cond-false (ltb k n) (f k) (pos 0) (le-ltb k n (omega arith)) in
          let c = cond-false (ltb k (suc n)) (f k) (pos 0) (le-ltb k (suc n) l) in
          omega (arith, ints)
    ]

pub sum_pick_at : (n k : ℕ) (f : ℕ → ℤ) → k < n → sum_z n (λ i. cond (eqb k i) (f i) (pos 0)) ≡ f k
sum_pick_at n k f h = sum_pick n k f ∙ cond-true _ _ _ (lt-ltb k n h)

-- sums of naturals, as integers
pub sum_pos : (n : ℕ) (f : ℕ → ℕ) → pos (sum_n n f) ≡ sum_z n (λ i. pos (f i))
unfolding sum_n sum_z
sum_pos zero f = refl
sum_pos (suc n) f = ap (λ (z : ℤ). z +ℤ pos (f n)) (sum_pos n f)

-- as many terms as pass, each x
count_step : (b : Bool) (k : ℕ) (x z : ℤ) → z ≡ pos k *ℤ x → z +ℤ cond b x (pos 0) ≡ pos (k + cond b 1 0) *ℤ x
count_step true k x z e = ap (λ (y : ℤ). y +ℤ x) e ∙ sym (suc_ℤ-*ℤ (pos k) x) ∙ ap (λ (j : ℕ). pos j *ℤ x) (sym (add-one k))
count_step false k x z e = +ℤ_idr z ∙ e ∙ ap (λ (j : ℕ). pos j *ℤ x) (sym (add-zero k))

pub sum_count : (n : ℕ) (p : ℕ → Bool) (x : ℤ) → sum_z n (λ i. cond (p i) x (pos 0)) ≡ pos (count_n n p) *ℤ x
unfolding sum_n sum_z
sum_count zero p x = sym (zero-*ℤ x)
sum_count (suc n) p x = count_step (p n) (count_n n p) x _ (sum_count n p x)

pub sum_nat_abs : (n c : ℕ) (f : ℕ → ℤ) → ((i : ℕ) → i < n → nat_abs (f i) ≤ c) → nat_abs (sum_z n f) ≤ n * c
unfolding sum_z
sum_nat_abs zero c f h = omega arith
sum_nat_abs (suc n) c f h =
    let e = sum_nat_abs n c f (λ i l. h i (omega arith)) in
    let d = h n (omega arith) in
    let m : suc n * c ≡ n * c + c = omega (arith, suc-mul n c) in
    omega (arith, ints)

-- a loop's start and its step
pub sum_start : (f : ℕ → ℤ) → pos 0 ≡ sum_z 0 f
unfolding sum_z
sum_start f = refl

pub sum_more : (n : ℕ) (f : ℕ → ℤ) → sum_z (n + 1) f ≡ sum_z n f +ℤ f n
unfolding sum_z
sum_more n f = ap (λ (k : ℕ). sum_z k f) (add-one n)

pub sum_n_start : (f : ℕ → ℕ) → 0 ≡ sum_n 0 f
unfolding sum_n
sum_n_start f = refl

pub sum_n_more : (n : ℕ) (f : ℕ → ℕ) → sum_n (n + 1) f ≡ sum_n n f + f n
unfolding sum_n
sum_n_more n f = ap (λ (k : ℕ). sum_n k f) (add-one n)

pub sum_n_same : (n : ℕ) (f g : ℕ → ℕ) → ((i : ℕ) → i < n → f i ≡ g i) → sum_n n f ≡ sum_n n g
unfolding sum_n
sum_n_same zero f g h = refl
sum_n_same (suc n) f g h = omega (arith, sum_n_same n f g (λ i l. h i (omega arith)), h n (omega arith))

-- of which each term is at most c
pub sum_n_bound : (n c : ℕ) (f : ℕ → ℕ) → ((i : ℕ) → i < n → f i ≤ c) → sum_n n f ≤ n * c
unfolding sum_n
sum_n_bound zero c f h = omega arith
sum_n_bound (suc n) c f h = omega (arith, sum_n_bound n c f (λ i l. h i (omega arith)), h n (omega arith), suc-mul n c)

-- a term that a test lets in, or keeps out
pub sum_n_more_yes : (n : ℕ) (p : ℕ → Bool) (f : ℕ → ℕ) (x : ℕ) → x ≡ sum_n n (λ i. cond (p i) (f i) 0) → p n ≡ true → x + f n ≡ sum_n (n + 1) (λ i. cond (p i) (f i) 0)
sum_n_more_yes n p f x e h = omega (arith, e, sum_n_more n (λ i. cond (p i) (f i) 0), cond-true (p n) (f n) 0 h)

pub sum_n_more_no : (n : ℕ) (p : ℕ → Bool) (f : ℕ → ℕ) (x : ℕ) → x ≡ sum_n n (λ i. cond (p i) (f i) 0) → p n ≡ false → x ≡ sum_n (n + 1) (λ i. cond (p i) (f i) 0)
sum_n_more_no n p f x e h = omega (arith, e, sum_n_more n (λ i. cond (p i) (f i) 0), cond-false (p n) (f n) 0 h)

pub cond_nat_abs : (b : Bool) (x : ℤ) (k : ℕ) → nat_abs x ≤ k → nat_abs (cond b x (pos 0)) ≤ k
cond_nat_abs true x k h = h
cond_nat_abs false x k h = omega arith

-- How many of a range of numbers pass a test.
use Rattle.std.proofs.Common.{◌≡◌, ℕ, zero, suc, ◌+◌, Bool, cond, List, length, filter, sym, refl, ap, ◌∙◌, zero-add, add-one}
use Rattle.std.specs.List.{count_by, range_with_len}
use Rattle.std.proofs.lemmas.List.{map-id}
use Rattle.std.proofs.lemmas.List.Sums.{length-filter}
use Rattle.std.proofs.lemmas.List.FromFn.{sum_by-map-range_with_len_more}
use Rattle.lattice.specs.Sums.{sum_n, count_n}

range_more : (n : ℕ) (p : ℕ → Bool) → count_by p (range_with_len 0 (n + 1)) ≡ count_by p (range_with_len 0 n) + cond (p n) 1 0
range_more n p =
    ap (count_by p) (sym (map-id (range_with_len 0 (n + 1))))
    ∙ sum_by-map-range_with_len_more (λ x. cond (p x) 1 0) (λ x. x) 0 n n (zero-add n)
    ∙ ap (λ (xs : List ℕ). count_by p xs + cond (p n) 1 0) (map-id (range_with_len 0 n))

pub count-range : (n : ℕ) (p : ℕ → Bool) → count_by p (range_with_len 0 n) ≡ count_n n p
unfolding sum_n
count-range zero p = refl
count-range (suc n) p = ap (λ (k : ℕ). count_by p (range_with_len 0 k)) (sym (add-one n)) ∙ range_more n p ∙ ap (λ (k : ℕ). k + cond (p n) 1 0) (count-range n p)

pub length-filter-range : (n : ℕ) (p : ℕ → Bool) → length (filter p (range_with_len 0 n)) ≡ count_n n p
length-filter-range n p = length-filter p (range_with_len 0 n) ∙ count-range n p

-- A buffer that is filled row by row, each row in the part that begins at its first cell.
use Rattle.std.proofs.Common.{◌≡◌, ℕ, ◌+◌, ◌-◌, ◌*◌, ◌<◌, ◌≤◌, List, length, get_or, take, drop, sym, refl, ap, ◌∙◌, subst, inl, inr, zero-mul, arith, length-append, length-drop, length-take, get_or-drop, get_or-take, rules}
use borrow.Rule.Slice.PartMut.{put_mid}
use Rattle.std.proofs.lemmas.List.{places, get_or_past}
use Rattle.std.proofs.lemmas.Bool.{cases_lt}
use Rattle.lattice.proofs.Cells.{row_next}
use Rattle.step.specs.Results.{Filled}

put_below : (xs ys : List ℕ) (a n k : ℕ) → k < a → a ≤ length xs → get_or (put_mid a n xs ys) k 0 ≡ get_or xs k 0
put_below xs ys a n k h le = search (rules, places)

put_at : (xs ys : List ℕ) (a n i : ℕ) → i < length ys → a ≤ length xs → get_or (put_mid a n xs ys) (a + i) 0 ≡ get_or ys i 0
put_at xs ys a n i h le = grind (arith, places)

put_long : (xs ys : List ℕ) (a : ℕ) → a ≤ length xs → length ys ≡ length xs - a → length (put_mid a (length xs - a) xs ys) ≡ length xs
put_long xs ys a le long = simp (length-append, length-take, length-drop) (omega arith)

-- the part that begins at a
pub part_long : (xs : List ℕ) (a : ℕ) → a ≤ length xs → length (take (length xs - a) (drop a xs)) ≡ length xs - a
part_long xs a le = simp (length-take, length-drop) (omega arith)

pub filled_none : (f : ℕ → ℕ) (xs : List ℕ) (w : ℕ) → Filled (0 * w) f xs xs
filled_none f xs w = record { hold = λ i l. absurd (omega (arith, zero-mul w)); rest = λ k l. refl }

-- one row more: `part` is what the buffer held from the row's first cell on, and `ys` what it holds there now
pub filled_more : (f : ℕ → ℕ) (before xs ys : List ℕ) (r w : ℕ) → r * w + w ≤ length xs → length ys ≡ length xs - r * w
    → ((c : ℕ) → c < w → get_or ys c 0 ≡ f (r * w + c))
    → ((k : ℕ) → w ≤ k → get_or ys k 0 ≡ get_or (take (length xs - r * w) (drop (r * w) xs)) k 0)
    → Filled (r * w) f before xs → Filled ((r + 1) * w) f before (put_mid (r * w) (length xs - r * w) xs ys)
filled_more f before xs ys r w fits long row rest old = record {
  hold = λ i l.
      elim (cases_lt i (r * w)) [
        | inl low ↦ put_below xs ys (r * w) (length xs - r * w) i low (omega arith) ∙ old.hold i low
        | inr high ↦
            let c = i - r * w in
            let e : r * w + c ≡ i = omega arith in
            let small : c < w = omega (arith, row_next r w) in
            subst (λ (x : ℕ). get_or (put_mid (r * w) (length xs - r * w) xs ys) x 0 ≡ f x) e (put_at xs ys (r * w) (length xs - r * w) c (omega arith) (omega arith) ∙ row c small)
      ];
  rest = λ k l.
      let a = r * w in
      let c = k - a in
      let beyond : w ≤ c = omega (arith, row_next r w) in
      let e : a + c ≡ k = omega (arith, row_next r w) in
      elim (cases_lt k (length xs)) [
        | inl inside ↦
            let lt : c < length xs - a = omega (arith, row_next r w) in
            subst (λ (x : ℕ). get_or (put_mid a (length xs - a) xs ys) x 0 ≡ get_or before k 0) e
            (put_at xs ys a (length xs - a) c (omega arith) (omega arith) ∙ rest c beyond ∙ get_or-take (length xs - a) (drop a xs) c 0 lt ∙ get_or-drop a xs c 0
            ∙ ap (λ (x : ℕ). get_or xs x 0) e ∙ old.rest k (omega (arith, row_next r w)))
        | inr outside ↦
            get_or_past (put_mid a (length xs - a) xs ys) k 0 (omega (arith, put_long xs ys a (omega arith) long)) ∙ sym (get_or_past xs k 0 outside) ∙ old.rest k (omega (arith, row_next r w))
      ];
}

-- What is put, as slices: what stands before it, as much of it as fits, and what stands behind it.
use Rattle.std.proofs.Common.{◌≡◌, ℕ, zero, suc, ◌+◌, ◌-◌, min, List, [], ◌∷◌, ◌++◌, length, take, drop, refl, ap, arith, zero-add, suc-add}
use Rattle.std.proofs.lemmas.Grind.{common_steps}
use Rattle.text.specs.Buffers.{put}

put_front : (out text : List ℕ) (count : ℕ) → count ≡ min (length text) (length out) → put out 0 text ≡ take count text ++ drop count out
unfolding put
put_front [] text count e = let z : count ≡ 0 = omega (arith, e) in rw z (search (common_steps))
put_front (x ∷ out) [] count e = let z : count ≡ 0 = omega (arith, e) in rw z refl
put_front (x ∷ out) (y ∷ text) zero e = absurd (omega (arith, e))
put_front (x ∷ out) (y ∷ text) (suc count) e = ap (λ (o : List ℕ). y ∷ o) (put_front out text count (omega (arith, e)))

pub put_slices : (out : List ℕ) (at : ℕ) (text : List ℕ) (start count : ℕ) → start ≡ min at (length out) → count ≡ min (length text) (length out - start) → put out at text ≡ take start out ++ (take count text ++ drop (start + count) out)
unfolding put
put_slices [] at text start count s e = let z : start ≡ 0 = omega (arith, s) in let k : count ≡ 0 = omega (arith, e) in rw z (rw k refl)
put_slices (x ∷ out) zero text start count s e = let z : start ≡ 0 = omega (arith, s) in rw z (rw (zero-add count) (put_front (x ∷ out) text count (omega (arith, e, z))))
put_slices (x ∷ out) (suc at) text zero count s e = absurd (omega (arith, s))
put_slices (x ∷ out) (suc at) text (suc start) count s e =
    rw suc-add (ap (λ (o : List ℕ). x ∷ o) (put_slices out at text start count (omega (arith, s)) (omega (arith, e))))

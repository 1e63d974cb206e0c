-- A file has no more records than bytes.
use Rattle.std.proofs.Common.{ℕ, ◌+◌, ◌<◌, ◌≤◌, Bool, true, false, cond, List, [], ◌∷◌, length, sym, ap, subst, arith}
use Rattle.records.specs.declared.payloads.Places.{Places}
use Rattle.records.specs.Files.{Rec}
use Rattle.records.specs.Orders.{skippable}
use Rattle.records.specs.Layout.{numbered_from, parts, Found}
use Rattle.records.specs.Walk.{largest_file}
use Rattle.records.proofs.Rows.{length-laid}
use Rattle.std.specs.List.{AllByRecursion}

-- the numbers of records are below their count
below_count : (n : ℕ) (rs : List Rec) (m : ℕ) → n + length rs ≤ m → AllByRecursion (λ (p : ℕ × List ℕ). p.0 < m) (numbered_from n rs)
below_count n [] m l = tt
below_count n (r ∷ rs) m l = by (skippable r.kind) (below_count (n + 1) rs m (omega arith))
  where
    by : (b : Bool) → AllByRecursion (λ (p : ℕ × List ℕ). p.0 < m) (numbered_from (n + 1) rs) → AllByRecursion (λ (p : ℕ × List ℕ). p.0 < m) (cond b (numbered_from (n + 1) rs) ((n, r.payload) ∷ numbered_from (n + 1) rs))
    by true h = h
    by false h = (omega arith, h)

pub end_below : (file : List ℕ) (places : Places) (rs : List Rec) → Found largest_file file places rs → places.end.«record» < 65536
end_below file places rs found =
    let few : length rs ≤ 65536 = omega (arith, length-laid rs, ap length found.is_file.joins, found.is_file.short) in
    let all : AllByRecursion (λ (p : ℕ × List ℕ). p.0 < 65536) (parts file places) = subst (AllByRecursion (λ (p : ℕ × List ℕ). p.0 < 65536)) (sym found.same_parts) (below_count 0 rs 65536 (omega arith)) in
    all.1.1.1.1.1.0

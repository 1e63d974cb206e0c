-- Buffers whose first places are filled, as lists.
use Rattle.std.proofs.Common.{◌≡◌, ℕ, ◌+◌, ◌≤◌, List, ◌++◌, length, take, drop, sym, ap, ◌∙◌, arith, length-drop, take-append-drop, length-take, get_or-drop, get_or-take, ext_get_or}
use Rattle.std.proofs.lemmas.List.FromFn.{fill_by_all}
use Rattle.std.proofs.lemmas.List.{take_at}
use Rattle.dynamics.specs.Tunnels.{listed}
use Rattle.dynamics.proofs.Lists.{length-listed}
use Rattle.step.specs.Results.{Filled, over}

-- a list whose first n are n is that long
pub take_long : (n : ℕ) (xs : List ℕ) → length (take n xs) ≡ n → n ≤ length xs
take_long n xs e = omega (arith, length-take n xs)

pub length-take_of : (n : ℕ) (xs : List ℕ) → n ≤ length xs → length (take n xs) ≡ n
length-take_of n xs l = simp length-take (omega arith)

-- filled places over what was there
pub filled_over : (n : ℕ) (f : ℕ → ℕ) (before after : List ℕ) → n ≤ length before → length after ≡ length before → Filled n f before after → after ≡ over (listed n f) before
filled_over n f before after fits long filled =
    let front : take n after ≡ listed n f =
    fill_by_all f (take n after) n 0 (length-take_of n after (omega arith)) (λ k l. get_or-take n after k 0 l ∙ filled.hold k l) in
    let back : drop n after ≡ drop n before =
    ext_get_or 0 (drop n after) (drop n before) (omega (arith, length-drop n after, length-drop n before))
    (λ k l. get_or-drop n after k 0 ∙ filled.rest (n + k) (omega arith) ∙ sym (get_or-drop n before k 0)) in
    sym (take-append-drop n after) ∙ (λ j. front j ++ back j) ∙ ap (λ (m : ℕ). listed n f ++ drop m before) (sym (length-listed n f))

-- what stands in front of an overlaid buffer
pub take-over : (n : ℕ) (f : ℕ → ℕ) (before : List ℕ) → take n (over (listed n f) before) ≡ listed n f
take-over n f before = take_at (listed n f) (drop (length (listed n f)) before) n (length-listed n f)

-- Lists made from a function of the index: their length and their elements.
use Rattle.std.proofs.Common.{◌≡◌, ℕ, ◌<◌, length, get_or, zero-add}
use Rattle.std.proofs.lemmas.List.FromFn.{length-map-range_with_len, get_or-map-range_with_len}
use Rattle.dynamics.specs.Tunnels.{listed}

pub length-listed : {X : Type 0} (n : ℕ) (f : ℕ → X) → length (listed n f) ≡ n
length-listed n f = length-map-range_with_len f 0 n

pub get_d_listed : {X : Type 0} (n : ℕ) (f : ℕ → X) (i : ℕ) (d : X) → i < n → get_or (listed n f) i d ≡ f i
get_d_listed n f i d l = get_or-map-range_with_len f 0 n i i d l (zero-add i)

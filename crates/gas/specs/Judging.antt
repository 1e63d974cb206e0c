-- How a list of entries is judged: it is taken if every place is sound, and otherwise the first unsound place is named.
-- A missing or a surplus entry is unsound.
use Rattle.std.specs.Prelude.{◌≡◌, ℕ, ◌*◌, ◌%◌, max, Bool, cond, not, ◌&&◌, List, length, ℤ, is_ok, Some, None, Ok, Err, Option, Result, ◌==◌, nat_lt, slice_index}
use Rattle.std.specs.Ordering.{int_eq}
use Rattle.lattice.specs.Firsts.{first}
use Rattle.gas.specs.declared.fault.TableFault.{TableFault}
use Rattle.gas.specs.declared.fault.TableFault.TheVariants.{Unsound}
use Rattle.gas.specs.Model.{GasModel, states, particles, momentum}
use Rattle.gas.specs.Soundness.{SoundTable}

abbrev pub same_number : ℤ → ℤ → Bool
same_number = int_eq

-- whether `outcome` is sound for `state`
abbrev pub sound_entry : GasModel → ℕ → ℕ → Bool
sound_entry m state outcome =
    nat_lt outcome (states m)
    && (particles m outcome == particles m state
    && (same_number (momentum m outcome).along (momentum m state).along
    && same_number (momentum m outcome).across (momentum m state).across))

-- whether there is an entry at place k, there should be one, and it is sound
abbrev pub sound_place : GasModel → List ℕ → ℕ → Bool
sound_place m entries k =
    nat_lt k (length entries) && (nat_lt k (2 * states m) && sound_entry m (k % states m) (slice_index entries k))

abbrev pub first_unsound : GasModel → List ℕ → Option ℕ
first_unsound m entries = first (max (length entries) (2 * states m)) (λ k. not (sound_place m entries k))

abbrev pub unless : Option ℕ → Result (Unit {0}) TableFault
unless None = Ok tt
unless (Some k) = Err (Unsound k)

abbrev pub table_judged : GasModel → List ℕ → Result (Unit {0}) TableFault
table_judged m entries = unless (first_unsound m entries)

-- the same as one test, for the type of a gas
abbrev pub good_table : GasModel → List ℕ → Bool
good_table m entries = is_ok (table_judged m entries)

-- the entries after a list was offered: the list if it was taken, and otherwise those from before
abbrev pub entries_after : GasModel → List ℕ → List ℕ → List ℕ
entries_after m old offered = cond (good_table m offered) offered old

-- a list is taken exactly if it is sound
abbrev pub TakenIfSound : Type 0
TakenIfSound = (m : GasModel) (entries : List ℕ) → (table_judged m entries ≡ Ok tt → SoundTable m entries) × (SoundTable m entries → table_judged m entries ≡ Ok tt)

-- The hexagonal gas keeps the laws.
use Rattle.std.specs.Prelude.{◌≡◌, ℕ, zero, suc, ◌+◌, ◌-◌, ◌%◌, ◌<◌, ◌≤◌, unsigned_abs, refl}
use Rattle.std.proofs.Common.{ap, ap₂, subst, ◌∙◌, inl, inr, arith, add-zero}
use Rattle.std.proofs.lemmas.Nat.{mod_below}
use Rattle.std.proofs.lemmas.Bool.{cases_eq, cases_lt}
use Rattle.std.proofs.lemmas.Bool.Decides.{nat_tests}
use Rattle.lattice.specs.Vectors.{negated, still}
use Rattle.lattice.specs.Grids.{cell_at, onward, backward}
use Rattle.lattice.proofs.Rings.{wrap_in, wrap_over, onward_in, backward_in, back_on, on_back}
use Rattle.gas.specs.Laws.{GasLaws}
use Rattle.gas.specs.Soundness.{SoundTable}
use Rattle.gas.proofs.Moves.{Moves, moves_from, moves_in, moves_back, moves_channel_beyond, moves_cell_beyond}
use Rattle.gas.proofs.Tables.{good_sound}
use Rattle.hexagonal.specs.Channels.{heading, across, column_by, row_by}
use Rattle.hexagonal.specs.Hexagonal.{hexagonal}
use Rattle.hexagonal.specs.HouseLemmas.{table, table_house, table_good}

-- what holds of channels 0 to 6 holds below 7
pub below_seven : (P : ℕ → Type 0) → P 0 → P 1 → P 2 → P 3 → P 4 → P 5 → P 6 → (q : ℕ) → q < 7 → P q
below_seven P a b c d e f g zero h = a
below_seven P a b c d e f g (suc zero) h = b
below_seven P a b c d e f g (suc (suc zero)) h = c
below_seven P a b c d e f g (suc (suc (suc zero))) h = d
below_seven P a b c d e f g (suc (suc (suc (suc zero)))) h = e
below_seven P a b c d e f g (suc (suc (suc (suc (suc zero))))) h = f
below_seven P a b c d e f g (suc (suc (suc (suc (suc (suc zero)))))) h = g
below_seven P a b c d e f g (suc (suc (suc (suc (suc (suc (suc q))))))) h = absurd (let z : ⊥ = omega arith in z)

across_in : (q : ℕ) → q < 7 → across q < 7
across_in = below_seven (λ q. across q < 7) (omega arith) (omega arith) (omega arith) (omega arith) (omega arith) (omega arith) (omega arith)

-- from row to row the shift of the columns alternates, also where the rows wrap, since their number is even
onward_shift : (h r : ℕ) → h % 2 ≡ 0 → r < h → onward h r % 2 + r % 2 ≡ 1
onward_shift h r even l =
    elim (cases_lt (r + 1) h) [
      | inl s ↦ let e = wrap_in (r + 1) h s in omega arith
      | inr s ↦ let e = wrap_over (r + 1) h s (omega arith) in omega arith
    ]

backward_shift : (h r : ℕ) → h % 2 ≡ 0 → r < h → backward h r % 2 + r % 2 ≡ 1
backward_shift h r even l =
    elim (cases_eq r 0) [
      | inl s ↦ let e = wrap_in (r + h - 1) h (omega arith) in omega arith
      | inr s ↦ let e = wrap_over (r + h - 1) h (omega arith) (omega arith) in omega arith
    ]

-- a diagonal move and the one back: the two shifts add up to one column
back_shifted : (w c e f : ℕ) → c < w → f + e ≡ 1 → backward w ((c + e) % w + f) ≡ c
back_shifted w c e f l one =
    elim (cases_eq e 0) [
      | inl z ↦
          let n : (c + e) % w ≡ c = ap (λ (x : ℕ). (c + x) % w) z ∙ ap (λ (x : ℕ). x % w) (add-zero c) ∙ wrap_in c w l in
          let s : (c + e) % w + f ≡ c + 1 = omega arith in
          ap (backward w) s ∙ wrap_over (c + 1 + w - 1) w (omega arith) (omega arith) ∙ omega arith
      | inr z ↦
          let o : e ≡ 1 = omega arith in
          let s : (c + e) % w + f ≡ onward w c = ap (λ (x : ℕ). (c + x) % w + f) o ∙ (let n : onward w c + f ≡ onward w c = omega arith in n) in
          ap (backward w) s ∙ back_on w c l
    ]

shifted_back : (w c e f : ℕ) → c < w → f + e ≡ 1 → (backward w (c + e) + f) % w ≡ c
shifted_back w c e f l one =
    elim (cases_eq e 0) [
      | inl z ↦
          let o : f ≡ 1 = omega arith in
          let s : backward w (c + e) ≡ backward w c = ap (backward w) (let n : c + e ≡ c = omega arith in n) in
          ap₂ (λ (x y : ℕ). (x + y) % w) s o ∙ on_back w c l
      | inr z ↦
          let s : backward w (c + e) ≡ c = wrap_over (c + e + w - 1) w (omega arith) (omega arith) ∙ omega arith in
          let n : backward w (c + e) + f ≡ c = omega arith in
          ap (λ (x : ℕ). x % w) n ∙ wrap_in c w l
    ]

moves : Moves 7 across column_by row_by
moves = record {
  opposite_in = across_in;
  column_in = λ w h q c r grid below in_c in_r.
      let some : 0 < w = omega (arith, grid.wide) in
      below_seven (λ q. column_by w q c r < w) (onward_in w c some) (mod_below (c + r % 2) w some) (backward_in w (c + r % 2) some) (backward_in w c some)
      (backward_in w (c + r % 2) some) (mod_below (c + r % 2) w some) in_c q below;
  row_in = λ w h q r grid below in_r.
      let some : 0 < h = omega (arith, grid.high) in
      below_seven (λ q. row_by h q r < h) in_r (onward_in h r some) (onward_in h r some) in_r (backward_in h r some) (backward_in h r some) in_r q below;
  column_back = λ w h q c r grid below in_c in_r.
      let up = onward_shift h r grid.even in_r in
      let down = backward_shift h r grid.even in_r in
      below_seven (λ q. column_by w (across q) (column_by w q c r) (row_by h q r) ≡ c)
      (back_on w c in_c) (back_shifted w c (r % 2) (onward h r % 2) in_c up) (shifted_back w c (r % 2) (onward h r % 2) in_c up) (on_back w c in_c)
      (shifted_back w c (r % 2) (backward h r % 2) in_c down) (back_shifted w c (r % 2) (backward h r % 2) in_c down) refl q below;
  row_back = λ w h q r grid below in_r.
      below_seven (λ q. row_by h (across q) (row_by h q r) ≡ r) refl (back_on h r in_r) (back_on h r in_r) refl (on_back h r in_r) (on_back h r in_r) refl q below;
}

-- what comes by a channel comes from the cell that lies the opposite way
pub hexagonal_comes : (w h q c r : ℕ) → q < 7 → c < w → r < h → hexagonal.neighbour w h (across q) (cell_at w c r) ≡ cell_at w (column_by w (across q) c r) (row_by h (across q) r)
hexagonal_comes w h q c r below in_c in_r = moves_from 7 across column_by row_by moves w h (across q) c r (across_in q below) in_c in_r

heading_beyond : (q : ℕ) → 7 ≤ q → heading q ≡ still
heading_beyond q h = grind (arith, nat_tests)

across_beyond : (q : ℕ) → 7 ≤ q → across q ≡ q
across_beyond q h = grind (arith, nat_tests)

pub hexagonal_laws : GasLaws hexagonal
hexagonal_laws = record {
  one_byte = omega arith;
  some = omega arith;
  few = omega arith;
  opposite_in = across_in;
  opposite_twice = below_seven (λ q. across (across q) ≡ q) refl refl refl refl refl refl refl;
  opposite_vector = below_seven (λ q. heading (across q) ≡ negated (heading q)) refl refl refl refl refl refl refl;
  short = below_seven (λ q. (unsigned_abs (heading q).along ≤ 2) × (unsigned_abs (heading q).across ≤ 2))
      (omega arith, omega arith) (omega arith, omega arith) (omega arith, omega arith) (omega arith, omega arith)
      (omega arith, omega arith) (omega arith, omega arith) (omega arith, omega arith);
  east = refl;
  neighbour_in = moves_in 7 across column_by row_by moves;
  there_and_back = moves_back 7 across column_by row_by moves;
  opposite_beyond = across_beyond;
  vector_beyond = heading_beyond;
  channel_beyond = moves_channel_beyond 7 across column_by row_by moves;
  cell_beyond = moves_cell_beyond 7 across column_by row_by moves;
  house_sound = subst (SoundTable hexagonal) table_house (good_sound hexagonal table table_good);
}

-- What the passes of one step make together.
use Rattle.std.proofs.Common.{◌≡◌, ℕ, ◌+◌, ◌*◌, ◌^◌, ◌<◌, ◌≤◌, Bool, true, false, cond, List, length, get_or, take, ℤ, pos, ◌*ℤ◌, nat_abs, sym, refl, ap, ◌∙◌, subst, inl, inr, arith, length-set, get_or-set_other, get_or-set_same}
use Rattle.std.proofs.lemmas.List.FromFn.{fill_by_all}
use Rattle.std.proofs.lemmas.Int.{ints}
use Rattle.std.proofs.lemmas.Bool.{and_parts, leb-true, cases_eq}
use Rattle.std.proofs.lemmas.Bool.Decides.{nat_tests}
use Rattle.lattice.specs.declared.vector.Vector.{Vector}
use Rattle.lattice.specs.Sums.{count_n}
use Rattle.lattice.specs.States.{holds}
use Rattle.lattice.specs.Vectors.{times}
use Rattle.lattice.proofs.Sums.{sum_same, sum_none}
use Rattle.lattice.proofs.Making.{state_of_same}
use Rattle.gas.specs.Model.{GasModel, momentum}
use Rattle.gas.specs.Streaming.{arriving}
use Rattle.lattice.specs.declared.vector.Vector.{Vector as Account}
use Rattle.book.specs.Accounts.{accounts, fan_account, none, grown, pushed, account_fits, most_push}
use Rattle.dynamics.specs.Roles.{role_of, is_wall_of}
use Rattle.dynamics.specs.Tunnels.{Tunnel, cells}
use Rattle.dynamics.specs.Step.{collided_at, collided, streamed}
use Rattle.dynamics.specs.Pushes.{turns_at, push_on, book_after}
use Rattle.dynamics.specs.Soundness.{SoundTunnel}
use Rattle.dynamics.proofs.Flow.{neighbours, collided_at_lem}
use Rattle.dynamics.proofs.Pushes.{push_on_wall, push_on_fan}
use Rattle.step.specs.Results.{Filled, over}
use Rattle.step.specs.Settling.{push_up_to, Settled, Modest}
use Rattle.step.proofs.Overlays.{filled_over}
use Rattle.step.proofs.Settles.{same_account}

pub filled_same : (n : ℕ) (f h : ℕ → ℕ) (before after : List ℕ) → ((i : ℕ) → i < n → f i ≡ h i) → Filled n f before after → Filled n h before after
filled_same n f h before after same filled = record { hold = λ i l. filled.hold i l ∙ same i l; rest = filled.rest }

-- the field after streaming out of the spare
pub field_after : (t : Tunnel) → SoundTunnel t → (spare₀ spare field₀ field : List ℕ) → cells t.run ≤ length field₀ → length field ≡ length field₀
    → Filled (cells t.run) (collided_at t) spare₀ spare
    → Filled (cells t.run) (arriving t.run.gas t.run.width t.run.height spare) field₀ field
    → field ≡ over (streamed t) field₀
field_after t sound spare₀ spare field₀ field fits long collision moves =
    let g = t.run.gas in
    let n = cells t.run in
    filled_over n (arriving g t.run.width t.run.height (collided t)) field₀ field fits long
    (filled_same n _ _ field₀ field
    (λ i l. state_of_same g.channels _ _ (λ q h.
    let j = g.neighbour t.run.width t.run.height (g.opposite q) i in
    let inside : j < n = (neighbours t sound q h).goes i l in
    ap (λ (s : ℕ). holds s q) (collision.hold j inside ∙ sym (collided_at_lem t sound j inside))))
    moves)

-- no map byte is a wall of the fan's account
no_wall_of_fan : (b : ℕ) → is_wall_of fan_account (role_of b) ≡ false
no_wall_of_fan b = grind (arith, nat_tests)

fan_untouched : (t : Tunnel) (i : ℕ) → ((push_up_to t.run.gas t.map t.field fan_account i).along ≡ pos 0) × ((push_up_to t.run.gas t.map t.field fan_account i).across ≡ pos 0)
fan_untouched t i =
    let m : ℕ → Vector = λ j. momentum t.run.gas (get_or t.field j 0) in
    let a = sum_same i _ (λ _. pos 0) (λ j l. ap (λ (b : Bool). cond b (m j).along (pos 0)) (no_wall_of_fan (get_or t.map j 0))) ∙ sum_none i in
    let b = sum_same i _ (λ _. pos 0) (λ j l. ap (λ (b : Bool). cond b (m j).across (pos 0)) (no_wall_of_fan (get_or t.map j 0))) ∙ sum_none i in
    (ap (λ (z : ℤ). pos 2 *ℤ z) a, ap (λ (z : ℤ). pos 2 *ℤ z) b)

-- the book after the walls' pushes and the fan's
pub book_after_lem : (t : Tunnel) (mid final : List Account) (count : ℕ) → length mid ≡ accounts
    → Settled t.run.gas t.map t.field t.run.book mid (cells t.run)
    → count ≡ count_n (cells t.run) (turns_at t)
    → final ≡ pushed mid fan_account (times (pos 2) (times (pos count) (t.run.gas.vector 0)))
    → final ≡ book_after t
book_after_lem t mid final count long walls turned is =
    let v = times (pos 2) (times (pos count) (t.run.gas.vector 0)) in
    is ∙ fill_by_all (λ k. grown (get_or t.run.book k none) (push_on t (k + 1))) (pushed mid fan_account v) accounts none (length-set mid 15 _ ∙ long)
    (λ k l.
    elim (cases_eq k 15) [
      | inl e ↦
          let z = fan_untouched t (cells t.run) in
          let w = walls 15 (omega arith) in
          let a = ap (λ (x : Account). x.along) w in
          let b = ap (λ (x : Account). x.across) w in
          let same : grown (get_or mid 15 none) v ≡ grown (get_or t.run.book 15 none) v = same_account _ _ (omega (arith, ints)) (omega (arith, ints)) in
          let fan : v ≡ push_on t fan_account = ap (λ (c : ℕ). times (pos 2) (times (pos c) (t.run.gas.vector 0))) turned ∙ sym (push_on_fan t fan_account refl) in
          subst (λ (j : ℕ). get_or (pushed mid fan_account v) j none ≡ grown (get_or t.run.book j none) (push_on t (j + 1))) (sym e)
          (get_or-set_same mid 15 _ none (omega arith) ∙ same ∙ ap (grown (get_or t.run.book 15 none)) fan)
      | inr ne ↦ get_or-set_other mid 15 k _ none ne ∙ walls k l ∙ ap (grown (get_or t.run.book k none)) (sym (push_on_wall t (k + 1) (omega arith)))
    ])

-- a book in its range is far from the ends of its numbers
pub modest : (book : List Account) (steps : ℕ) → steps ≤ 1000000000 → ((k : ℕ) → k < accounts → account_fits steps (get_or book k none) ≡ true) → Modest book
modest book steps few fits k l =
    let p = and_parts _ _ (fits k l) in
    let a = leb-true (nat_abs (get_or book k none).along) (most_push * steps) p.0 in
    let b = leb-true (nat_abs (get_or book k none).across) (most_push * steps) p.1 in
    (omega arith, omega arith)

-- the parts that are handed to the walls' pass
pub cut_long : (n c : ℕ) (xs : List ℕ) → c ≡ n → length (take n xs) ≡ n → length (take c xs) ≡ n
cut_long n c xs e long = ap (λ (k : ℕ). length (take k xs)) e ∙ long

pub settled_cut : (g : GasModel) (n c : ℕ) (map field : List ℕ) (old new : List Account) → c ≡ n → length (take n map) ≡ n
    → Settled g (take c map) (take c field) old new (length (take c map)) → Settled g (take n map) (take n field) old new n
settled_cut g n c map field old new e long settled =
    subst (λ (k : ℕ). Settled g (take n map) (take n field) old new k) long (subst (λ (k : ℕ). Settled g (take k map) (take k field) old new (length (take k map))) e settled)

-- the fan's account before its push
pub fan_far : (t : Tunnel) (mid : List Account) → Settled t.run.gas t.map t.field t.run.book mid (cells t.run) → Modest t.run.book
    → (nat_abs (get_or mid 15 none).along ≤ 2 ^ 61) × (nat_abs (get_or mid 15 none).across ≤ 2 ^ 61)
fan_far t mid walls old =
    let z = fan_untouched t (cells t.run) in
    let w = walls 15 (omega arith) in
    let a = ap (λ (x : Account). x.along) w in
    let b = ap (λ (x : Account). x.across) w in
    let o = old 15 (omega arith) in
    (omega (arith, ints), omega (arith, ints))

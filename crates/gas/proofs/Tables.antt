-- Judging a list of entries: the first unsound place, and what it means that there is none.
use Rattle.std.proofs.Common.{◌≡◌, ℕ, ◌+◌, ◌-◌, ◌*◌, ◌%◌, ◌<◌, ◌≤◌, max, Bool, true, false, not, ◌&&◌, ltb, List, length, get_or, is_ok, Some, None, Ok, Err, Option, sym, refl, ap, ◌∙◌, subst, inl, inr, mod-eq_of_lt, one-mul, zero-add, zero-mul, arith}
use native.Mathlib.Nat.{add-mod_left}
use Rattle.std.proofs.lemmas.Nat.{pow_pos}
use Rattle.std.proofs.lemmas.Bool.{eqb-true, eq-eqb, ltb-true, lt-ltb, and_parts, and_from, cases_lt}
use Rattle.std.specs.Option.{MatchOption}
use Rattle.std.proofs.lemmas.Bool.Decides.{Decides-int_eq}
use Rattle.gas.specs.declared.fault.TableFault.TheVariants.{Unsound}
use Rattle.lattice.proofs.Firsts.{first-none, first_some, none_first}
use Rattle.lattice.proofs.Vectors.{same_vector}
use Rattle.gas.specs.Model.{GasModel, states, entry_place}
use Rattle.gas.specs.Soundness.{SoundEntry, SoundTable}
use Rattle.gas.specs.Judging.{sound_entry, sound_place, first_unsound, unless, table_judged, good_table, TakenIfSound}

-- the test and the record say the same of an entry
pub entry_sound : (m : GasModel) (s e : ℕ) → sound_entry m s e ≡ true → SoundEntry m s e
entry_sound m s e good =
    let p = and_parts _ _ good in
    let q = and_parts _ _ p.1 in
    let r = and_parts _ _ q.1 in
    record {
      below = ltb-true _ _ p.0;
      counted = eqb-true _ _ q.0;
      balanced = same_vector _ _ ((Decides-int_eq _ _).0 r.0) ((Decides-int_eq _ _).0 r.1);
    }

sound_entry_lem : (m : GasModel) (s e : ℕ) → SoundEntry m s e → sound_entry m s e ≡ true
sound_entry_lem m s e sound =
    and_from _ _ (lt-ltb _ _ sound.below)
    (and_from _ _ (eq-eqb _ _ sound.counted)
    (and_from _ _ ((Decides-int_eq _ _).1 (ap (λ v. v.along) sound.balanced)) ((Decides-int_eq _ _).1 (ap (λ v. v.across) sound.balanced))))

module _ (m : GasModel) (t : List ℕ) where
  -- no place is unsound
  judged_good : ((k : ℕ) → k < max (length t) (2 * states m) → sound_place m t k ≡ true) → table_judged m t ≡ Ok tt
  judged_good each = ap unless (first-none (max (length t) (2 * states m)) (λ k. not (sound_place m t k)) (λ k l. ap not (each k l)))

  -- place k is the first unsound one
  judged_bad : (k : ℕ) → k < max (length t) (2 * states m) → sound_place m t k ≡ false → ((j : ℕ) → j < k → sound_place m t j ≡ true) → table_judged m t ≡ Err (Unsound k)
  judged_bad k l here before = ap unless (first_some (max (length t) (2 * states m)) (λ j. not (sound_place m t j)) k l (ap not here) (λ j h. ap not (before j h)))

  -- what a search for the first unsound place finds
  pub judged_found : (n : ℕ) (r : Option ℕ) → n ≡ max (length t) (2 * states m)
      → MatchOption r
      ((k : ℕ) → 0 ≤ k → k < n → sound_place m t k ≡ true)
      (λ i. (0 ≤ i) × (i < n) × (sound_place m t i ≡ false) × ((k : ℕ) → 0 ≤ k → k < i → sound_place m t k ≡ true))
      → unless r ≡ table_judged m t
  judged_found n (Some i) e found = sym (judged_bad i (omega (arith, e, found.1)) found.2 (λ j l. found.3 j (omega arith) l))
  judged_found n None e found = sym (judged_good (λ k l. found k (omega arith) (omega (arith, e))))

  by_first : (o : Option ℕ) → unless o ≡ Ok tt → o ≡ None
  by_first None e = refl
  by_first (Some k) e = absurd (let z : ◌≡◌ {A = ℕ} 0 1 = cc in omega arith)

  places_sound : table_judged m t ≡ Ok tt → (k : ℕ) → k < max (length t) (2 * states m) → sound_place m t k ≡ true
  places_sound e k l = not_false (sound_place m t k) (none_first (max (length t) (2 * states m)) (λ j. not (sound_place m t j)) (by_first (first_unsound m t) e) k l)
    where
      not_false : (b : Bool) → not b ≡ false → b ≡ true
      not_false true h = refl
      not_false false h = sym h

  place_parts : (k : ℕ) → sound_place m t k ≡ true → (k < length t) × (k < 2 * states m) × (sound_entry m (k % states m) (get_or t k 0) ≡ true)
  place_parts k e =
      let p = and_parts (ltb k (length t)) (ltb k (2 * states m) && sound_entry m (k % states m) (get_or t k 0)) e in
      let q = and_parts (ltb k (2 * states m)) (sound_entry m (k % states m) (get_or t k 0)) p.1 in
      (ltb-true _ _ p.0, ltb-true _ _ q.0, q.1)

  full_from : table_judged m t ≡ Ok tt → length t ≡ 2 * states m
  full_from e =
      elim (cases_lt (length t) (2 * states m)) [
        | inl l ↦ absurd (let h : length t < length t = (place_parts (length t) (places_sound e (length t) (omega arith))).0 in omega arith)
        | inr l ↦
            elim (cases_lt (2 * states m) (length t)) [
              | inl g ↦ absurd (let h : 2 * states m < 2 * states m = (place_parts (2 * states m) (places_sound e (2 * states m) (omega arith))).1 in omega arith)
              | inr g ↦ omega arith
            ]
      ]

  place_in : (b : Bool) (n : ℕ) → n < states m → entry_place m b n < 2 * states m
  place_in true n l = omega (arith, one-mul (states m))
  place_in false n l = omega (arith, zero-mul (states m))

  state_of_place : (b : Bool) (n : ℕ) → n < states m → entry_place m b n % states m ≡ n
  state_of_place true n l = ap (λ (x : ℕ). (x + n) % states m) (one-mul (states m)) ∙ add-mod_left _ _ ∙ mod-eq_of_lt l
  state_of_place false n l = ap (λ (x : ℕ). (x + n) % states m) (zero-mul (states m)) ∙ ap (λ (x : ℕ). x % states m) (zero-add n) ∙ mod-eq_of_lt l

  pub table_sound : table_judged m t ≡ Ok tt → SoundTable m t
  table_sound e =
      let full = full_from e in
      record {
        full = full;
        each = λ b n l.
            let k = entry_place m b n in
            let here = (place_parts k (places_sound e k (let h = place_in b n l in omega arith))).2 in
            subst (λ (s : ℕ). SoundEntry m s (get_or t k 0)) (state_of_place b n l) (entry_sound m (k % states m) (get_or t k 0) here);
      }

  -- every place is the place of a state under a twist
  place_of : (k : ℕ) → k < 2 * states m → SoundTable m t → sound_entry m (k % states m) (get_or t k 0) ≡ true
  place_of k l sound =
      let some = pow_pos m.channels in
      elim (cases_lt k (states m)) [
        | inl low ↦
            let e : entry_place m false k ≡ k = ap (λ (x : ℕ). x + k) (zero-mul (states m)) ∙ zero-add k in
            let s : k % states m ≡ k = mod-eq_of_lt low in
            sound_entry_lem m _ _ (subst (λ (j : ℕ). SoundEntry m (k % states m) (get_or t j 0)) e (subst (λ (n : ℕ). SoundEntry m n (get_or t (entry_place m false k) 0)) (sym s) (sound.each false k low)))
        | inr high ↦
            let n = k - states m in
            let small : n < states m = omega arith in
            let e : entry_place m true n ≡ k = ap (λ (x : ℕ). x + n) (one-mul (states m)) ∙ omega arith in
            let s : k % states m ≡ n = ap (λ (x : ℕ). x % states m) (sym e) ∙ state_of_place true n small in
            sound_entry_lem m _ _ (subst (λ (j : ℕ). SoundEntry m (k % states m) (get_or t j 0)) e (subst (λ (x : ℕ). SoundEntry m x (get_or t (entry_place m true n) 0)) (sym s) (sound.each true n small)))
      ]

  pub sound_judged : SoundTable m t → table_judged m t ≡ Ok tt
  sound_judged sound =
      judged_good (λ k l.
      let low : k < 2 * states m = omega (arith, sound.full) in
      and_from _ _ (lt-ltb k (length t) (omega (arith, sound.full))) (and_from _ _ (lt-ltb k (2 * states m) low) (place_of k low sound)))

pub taken_if_sound : TakenIfSound
taken_if_sound m t = (table_sound m t, sound_judged m t)

-- a table that passes the test is sound
pub good_sound : (m : GasModel) (t : List ℕ) → good_table m t ≡ true → SoundTable m t
good_sound m t good = table_sound m t (by_test (first_unsound m t) refl good)
  where
    by_test : (o : Option ℕ) → first_unsound m t ≡ o → good_table m t ≡ true → table_judged m t ≡ Ok tt
    by_test None e h = ap unless e
    by_test (Some k) e h = absurd (let z : false ≡ true = sym (ap (λ (o : Option ℕ). is_ok (unless o)) e) ∙ h in let y : ◌≡◌ {A = ℕ} 0 1 = cc in omega arith)

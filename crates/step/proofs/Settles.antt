-- The obstacles' accounts, one cell more.
use Rattle.std.proofs.Common.{◌≡◌, ℕ, zero, suc, ◌+◌, ◌-◌, ◌*◌, ◌^◌, ◌<◌, ◌≤◌, Bool, true, false, cond, List, length, get_or, ℤ, pos, ◌+ℤ◌, ◌*ℤ◌, nat_abs, sym, refl, ap, ◌∙◌, subst, ap₂, inl, inr, add-zero, arith, get_or-set_other, get_or-set_same, w64, SFits}
use Rattle.std.proofs.lemmas.Int.{ints}
use Rattle.std.proofs.lemmas.Bool.{eq-eqb, ne_eqb, cases_eq}
use Rattle.std.proofs.lemmas.Bool.Decides.{nat_tests}
use Rattle.lattice.specs.declared.vector.Vector.{Vector}
use Rattle.lattice.specs.Sums.{sum_z}
use Rattle.lattice.specs.Vectors.{times}
use Rattle.lattice.proofs.Sums.{sum_more, sum_nat_abs, cond_nat_abs}
use Rattle.gas.specs.Model.{GasModel, momentum}
use Rattle.gas.specs.Laws.{GasLaws}
use Rattle.gas.proofs.Bounds.{momentum_small}
use Rattle.lattice.specs.declared.vector.Vector.{Vector as Account}
use Rattle.book.specs.Accounts.{accounts, none, grown, pushed}
use Rattle.dynamics.specs.declared.role.Role.{Role}
use Rattle.dynamics.specs.declared.role.Role.TheVariants.{Open, Wall, Fan}
use Rattle.dynamics.specs.Roles.{role_of, is_wall_of}
use Rattle.step.specs.Settling.{push_up_to, Settled}

pub same_account : (a b : Account) → a.along ≡ b.along → a.across ≡ b.across → a ≡ b
same_account a b p q = let f : ℤ → ℤ → Account = λ x y. record { along = x; across = y } in ap₂ f p q

-- the byte of a wall is its obstacle's number
pub wall_byte : (b n : ℕ) → role_of b ≡ Wall n → (n ≡ b) × (1 ≤ n) × (n ≤ 15)
wall_byte b n e = (grind (arith, nat_tests), grind (arith, nat_tests), grind (arith, nat_tests))

pub no_wall : (r : Role) → ((n : ℕ) → r ≡ Wall n → ⊥) → (n : ℕ) → is_wall_of n r ≡ false
no_wall Open h n = refl
no_wall (Wall k) h n = absurd (h k refl)
no_wall Fan h n = refl

-- a number far from the ends stays far from them
pub sum_fits : (a o s r : ℤ) (i : ℕ) → a ≡ o +ℤ s → nat_abs o ≤ 2 ^ 60 → nat_abs s ≤ 28 * i → i ≤ 16384 → nat_abs r ≤ 28 → SFits w64 (a +ℤ r)
sum_fits a o s r i e x y l z = omega (arith, ints)

module _ (g : GasModel) (map field : List ℕ) where
  pub settled_none : (book : List Account) → Settled g map field book book 0
  unfolding sum_z
  settled_none book k l = same_account _ _ (omega (arith, ints)) (omega (arith, ints))

  -- the parts of a push after one cell more
  push_more : (n i : ℕ) (b : Bool) → is_wall_of n (role_of (get_or map i 0)) ≡ b
      → ((push_up_to g map field n (i + 1)).along ≡ (push_up_to g map field n i).along +ℤ pos 2 *ℤ cond b (momentum g (get_or field i 0)).along (pos 0))
      × ((push_up_to g map field n (i + 1)).across ≡ (push_up_to g map field n i).across +ℤ pos 2 *ℤ cond b (momentum g (get_or field i 0)).across (pos 0))
  push_more n i b e =
      let f : ℕ → ℤ = λ j. cond (is_wall_of n (role_of (get_or map j 0))) (momentum g (get_or field j 0)).along (pos 0) in
      let h : ℕ → ℤ = λ j. cond (is_wall_of n (role_of (get_or map j 0))) (momentum g (get_or field j 0)).across (pos 0) in
      let x = sum_more i f in
      let y = sum_more i h in
      let u : f i ≡ cond b (momentum g (get_or field i 0)).along (pos 0) = ap (λ (c : Bool). cond c (momentum g (get_or field i 0)).along (pos 0)) e in
      let v : h i ≡ cond b (momentum g (get_or field i 0)).across (pos 0) = ap (λ (c : Bool). cond c (momentum g (get_or field i 0)).across (pos 0)) e in
      (omega (arith, ints), omega (arith, ints))

  skip_one : (old new : List Account) (i k : ℕ) → is_wall_of (k + 1) (role_of (get_or map i 0)) ≡ false
      → get_or new k none ≡ grown (get_or old k none) (push_up_to g map field (k + 1) i) → get_or new k none ≡ grown (get_or old k none) (push_up_to g map field (k + 1) (i + 1))
  skip_one old new i k off was =
      let p = push_more (k + 1) i false off in
      let a = ap (λ (x : Account). x.along) was in
      let b = ap (λ (x : Account). x.across) was in
      same_account _ _ (omega (arith, ints)) (omega (arith, ints))

  -- a cell that is no wall
  pub settled_skip : (old new : List Account) (i : ℕ) → ((n : ℕ) → is_wall_of n (role_of (get_or map i 0)) ≡ false) → Settled g map field old new i → Settled g map field old new (i + 1)
  settled_skip old new i off was k l = skip_one old new i k (off (k + 1)) (was k l)

  -- so many cells without a wall
  pub settled_clear : (old new : List Account) (i n : ℕ) → ((j : ℕ) → j < n → (k : ℕ) → is_wall_of k (role_of (get_or map (i + j) 0)) ≡ false)
      → Settled g map field old new i → Settled g map field old new (i + n)
  settled_clear old new i zero off was = subst (Settled g map field old new) (sym (add-zero i)) was
  settled_clear old new i (suc n) off was =
      let before = settled_clear old new i n (λ j l. off j (omega arith)) was in
      let at : i + n + 1 ≡ i + suc n = omega arith in
      subst (Settled g map field old new) at (settled_skip old new (i + n) (off n (omega arith)) before)

  -- a wall of obstacle n
  pub settled_more : (old new : List Account) (i n : ℕ) (v : Vector) → length new ≡ accounts → 1 ≤ n → n ≤ 15 → role_of (get_or map i 0) ≡ Wall n
      → v ≡ times (pos 2) (momentum g (get_or field i 0)) → Settled g map field old new i → Settled g map field old (pushed new n v) (i + 1)
  settled_more old new i n v long low high role is was k l =
      elim (cases_eq k (n - 1)) [
        | inl same ↦
            let at : k + 1 ≡ n = omega arith in
            let on : is_wall_of (k + 1) (role_of (get_or map i 0)) ≡ true = ap (is_wall_of (k + 1)) role ∙ eq-eqb n (k + 1) (sym at) in
            let p = push_more (k + 1) i true on in
            let lt : n - 1 < length new = omega arith in
            let here : get_or (pushed new n v) k none ≡ grown (get_or new k none) v =
            subst (λ (j : ℕ). get_or (pushed new n v) j none ≡ grown (get_or new j none) v) (sym same) (get_or-set_same new (n - 1) _ none lt) in
            let a = ap (λ (x : Account). x.along) (was k l) in
            let b = ap (λ (x : Account). x.across) (was k l) in
            let x = ap (λ (w : Vector). w.along) is in
            let y = ap (λ (w : Vector). w.across) is in
            here ∙ same_account _ _ (omega (arith, ints)) (omega (arith, ints))
        | inr other ↦
            let off : is_wall_of (k + 1) (role_of (get_or map i 0)) ≡ false = ap (is_wall_of (k + 1)) role ∙ ne_eqb n (k + 1) (λ e. other (omega arith)) in
            get_or-set_other new (n - 1) k _ none other ∙ skip_one old new i k off (was k l)
      ]

  -- how far a push has come
  pub push_small : GasLaws g → (n i : ℕ) → (nat_abs (push_up_to g map field n i).along ≤ 28 * i) × (nat_abs (push_up_to g map field n i).across ≤ 28 * i)
  push_small laws n i =
      let f : ℕ → ℤ = λ j. cond (is_wall_of n (role_of (get_or map j 0))) (momentum g (get_or field j 0)).along (pos 0) in
      let h : ℕ → ℤ = λ j. cond (is_wall_of n (role_of (get_or map j 0))) (momentum g (get_or field j 0)).across (pos 0) in
      let a = sum_nat_abs i 14 f (λ j l. cond_nat_abs (is_wall_of n (role_of (get_or map j 0))) _ 14 (momentum_small g laws (get_or field j 0) g.channels (omega arith)).0) in
      let b = sum_nat_abs i 14 h (λ j l. cond_nat_abs (is_wall_of n (role_of (get_or map j 0))) _ 14 (momentum_small g laws (get_or field j 0) g.channels (omega arith)).1) in
      (omega (arith, ints), omega (arith, ints))

-- What a state weighs, where each channel has a weight: at a wall, at the fan, and where the weight is nothing, one or doubled.
use Rattle.std.proofs.Common.{◌≡◌, ℕ, ◌<◌, Bool, true, false, cond, not, ◌&&◌, ◌||◌, eqb, ℤ, pos, ◌+ℤ◌, ◌*ℤ◌, sym, refl, ap, ◌∙◌, arith}
use Rattle.std.proofs.lemmas.Int.{ints}
use Rattle.std.proofs.lemmas.Bool.{ne_eqb, eqb-true, true≢false}
use Rattle.lattice.specs.Sums.{sum_z}
use Rattle.lattice.specs.States.{holds, state_of, particles}
use Rattle.lattice.proofs.Sums.{sum_same, sum_add, sum_none, sum_twice, sum_swap, sum_pick_at, sum_pos}
use Rattle.lattice.proofs.Turnings.{Turning, sum_turned, eqb_same}
use Rattle.lattice.proofs.Making.{holds-state_of}

-- the weight of a state of c channels, where a particle in channel q weighs v q
abbrev pub weigh : ℕ → (ℕ → ℤ) → ℕ → ℤ
weigh c v s = sum_z c (λ q. cond (holds s q) (v q) (pos 0))

pub weigh_state_of : (c : ℕ) (v : ℕ → ℤ) (p : ℕ → Bool) → weigh c v (state_of c p) ≡ sum_z c (λ q. cond (p q) (v q) (pos 0))
weigh_state_of c v p = sum_same c _ _ (λ q l. ap (λ (b : Bool). cond b (v q) (pos 0)) (holds-state_of c p q l))

pub cond_same : (b : Bool) (x : ℤ) → cond b x x ≡ x
cond_same true x = refl
cond_same false x = refl

pub cond_twice : (b : Bool) (x : ℤ) → cond b (pos 2 *ℤ x) (pos 0) ≡ pos 2 *ℤ cond b x (pos 0)
cond_twice true x = refl
cond_twice false x = refl

cond_pos : (b : Bool) → pos (cond b 1 0) ≡ cond b (pos 1) (pos 0)
cond_pos true = refl
cond_pos false = refl

cond_add : (b : Bool) (x y z : ℤ) → x +ℤ y ≡ z → cond b x (pos 0) +ℤ cond b y (pos 0) ≡ cond b z (pos 0)
cond_add true x y z e = e
cond_add false x y z e = refl

pub weigh_nothing : (c s : ℕ) → weigh c (λ q. pos 0) s ≡ pos 0
weigh_nothing c s = sum_same c _ _ (λ q l. cond_same (holds s q) (pos 0)) ∙ sum_none c

pub weigh_ones : (c s : ℕ) → pos (particles c s) ≡ weigh c (λ q. pos 1) s
weigh_ones c s = sum_pos c _ ∙ sum_same c _ _ (λ q l. cond_pos (holds s q))

pub weigh_twice : (c : ℕ) (v : ℕ → ℤ) (s : ℕ) → weigh c (λ q. pos 2 *ℤ v q) s ≡ pos 2 *ℤ weigh c v s
weigh_twice c v s = sum_same c _ _ (λ q l. cond_twice (holds s q) (v q)) ∙ sum_twice c _

-- a field whose particles all move weighs what it did: channel q of cell j comes from cell `from q j`
pub weigh_moved : (c n : ℕ) (from to : ℕ → ℕ → ℕ) → ((q : ℕ) → q < c → Turning n (from q) (to q)) → (g : ℕ → ℕ) (v : ℕ → ℤ)
    → sum_z n (λ j. weigh c v (state_of c (λ q. holds (g (from q j)) q))) ≡ sum_z n (λ i. weigh c v (g i))
weigh_moved c n from to turn g v =
    let here : ℕ → ℕ → ℤ = λ q i. cond (holds (g i) q) (v q) (pos 0) in
    sum_same n _ _ (λ j l. weigh_state_of c v (λ q. holds (g (from q j)) q))
    ∙ sum_swap n c (λ j q. here q (from q j))
    ∙ sum_same c _ _ (λ q l. sum_turned n (from q) (to q) (turn q l) (here q))
    ∙ sum_swap c n here

-- the channel of the particle against the fan, and east: tests of one channel
fan_point : (a b h : Bool) (x : ℤ) → (a ≡ true → (b ≡ false) × (h ≡ false)) → (b ≡ true → h ≡ true)
    → cond (a || (not b && h)) x (pos 0) +ℤ cond b x (pos 0) ≡ cond h x (pos 0) +ℤ cond a x (pos 0)
fan_point true true h x f g = absurd (true≢false (f refl).0)
fan_point true false true x f g = absurd (true≢false (f refl).1)
fan_point true false false x f g = omega (arith, ints)
fan_point false true true x f g = omega (arith, ints)
fan_point false true false x f g = absurd (true≢false (sym (g refl)))
fan_point false false h x f g = refl

-- o sends each channel to its opposite; a particle in q that is sent back gives away u q
module _ (c : ℕ) (o : ℕ → ℕ) (turn : Turning c o o) (u v : ℕ → ℤ) (gives : (q : ℕ) → q < c → v (o q) +ℤ u q ≡ v q) where
  pub weigh_bounced : (s : ℕ) → weigh c v (state_of c (λ q. holds s (o q))) +ℤ weigh c u s ≡ weigh c v s
  weigh_bounced s =
      ap (λ (z : ℤ). z +ℤ weigh c u s)
      (weigh_state_of c v (λ q. holds s (o q))
      ∙ sum_same c _ _ (λ q l. ap (λ (k : ℕ). cond (holds s (o q)) (v k) (pos 0)) (sym (turn.there q l)))
      ∙ sum_turned c o o turn (λ q. cond (holds s q) (v (o q)) (pos 0)))
      ∙ sym (sum_add c _ _)
      ∙ sum_same c _ _ (λ q l. cond_add (holds s q) (v (o q)) (u q) (v q) (gives q l))

  pub weigh_turned : (e : ℕ) → 0 < c → holds e (o 0) ≡ true → holds e 0 ≡ false
      → weigh c v (state_of c (λ q. eqb q 0 || (not (eqb q (o 0)) && holds e q))) ≡ weigh c v e +ℤ u 0
  weigh_turned e some full free =
      let apart : o 0 ≡ 0 → ⊥ = λ h. true≢false (sym full ∙ ap (holds e) h ∙ free) in
      let p : ℕ → Bool = λ q. eqb q 0 || (not (eqb q (o 0)) && holds e q) in
      let point : (q : ℕ) → q < c → cond (p q) (v q) (pos 0) +ℤ cond (eqb q (o 0)) (v q) (pos 0) ≡ cond (holds e q) (v q) (pos 0) +ℤ cond (eqb q 0) (v q) (pos 0) =
      λ q l. fan_point (eqb q 0) (eqb q (o 0)) (holds e q) (v q)
      (λ h. let z : q ≡ 0 = eqb-true q 0 h in (ne_eqb q (o 0) (λ y. apart (sym y ∙ z)), ap (holds e) z ∙ free))
      (λ h. ap (holds e) (eqb-true q (o 0) h) ∙ full) in
      let at : (k : ℕ) → k < c → sum_z c (λ q. cond (eqb q k) (v q) (pos 0)) ≡ v k =
      λ k l. sum_same c _ _ (λ q h. ap (λ (b : Bool). cond b (v q) (pos 0)) (eqb_same q k k q sym sym)) ∙ sum_pick_at c k v l in
      let one = weigh_state_of c v p in
      let both : sum_z c (λ q. cond (p q) (v q) (pos 0)) +ℤ v (o 0) ≡ weigh c v e +ℤ v 0 =
      ap (λ (z : ℤ). sum_z c (λ q. cond (p q) (v q) (pos 0)) +ℤ z) (sym (at (o 0) (turn.goes 0 some)))
      ∙ sym (sum_add c _ _) ∙ sum_same c _ _ point ∙ sum_add c _ _
      ∙ ap (λ (z : ℤ). weigh c v e +ℤ z) (at 0 some) in
      let g = gives 0 some in
      one ∙ omega (arith, ints)

-- States made from their channels.
use Rattle.std.proofs.Common.{◌≡◌, ℕ, zero, suc, ◌+◌, ◌-◌, ◌*◌, ◌/◌, ◌%◌, ◌^◌, ◌<◌, ◌≤◌, Bool, true, false, cond, eqb, sym, ap, ◌∙◌, inl, inr, add-zero, mod-eq_of_lt, mul_comm, suc-add, one-mul, zero-add, zero-mul, one-add, arith}
use native.Mathlib.Nat.{mod-one, pow-succ', add-mul-div_left, add-mul-mod_self_left, div-eq_of_lt}
use lib.Bits.{bit_and, bit_or, and_high, and_mask, or_shifted, or_zero_r}
use Rattle.std.proofs.lemmas.Nat.{pow_pos, pow-add, shr_high, mod_below, mod-pow-add}
use Rattle.std.proofs.lemmas.Bool.{cases_eq, cond-true, cond-false}
use Rattle.lattice.specs.Sums.{sum_n}
use Rattle.lattice.specs.States.{holds, state_of, particles}
use Rattle.lattice.proofs.Sums.{sum_n_start, sum_n_more, sum_n_same, sum_n_bound}

cond-le : (b : Bool) (x : ℕ) → cond b x 0 ≤ x
cond-le true x = omega arith
cond-le false x = omega arith

pub state_of_below : (c : ℕ) (p : ℕ → Bool) → state_of c p < 2 ^ c
unfolding sum_n
state_of_below zero p = omega arith
state_of_below (suc c) p = omega (arith, state_of_below c p, cond-le (p c) (2 ^ c), pow-succ' 2 c)

-- a channel below the top one, and the top one
holds_low : (b : Bool) (a c q : ℕ) → q < c → holds (a + cond b (2 ^ c) 0) q ≡ holds a q
holds_low false a c q l = ap (λ (x : ℕ). holds x q) (add-zero a)
holds_low true a c q l =
    let k = c - suc q in
    let e : 2 ^ c ≡ 2 ^ q * (2 * 2 ^ k) =
    ap (λ (j : ℕ). 2 ^ j) (let h : c ≡ q + suc k = omega arith in h) ∙ pow-add 2 q (suc k) ∙ ap (λ (j : ℕ). 2 ^ q * j) (pow-succ' 2 k) in
    ap (λ (x : ℕ). eqb ((a + x) / 2 ^ q % 2) 1) e
    ∙ ap (λ (x : ℕ). eqb (x % 2) 1) (add-mul-div_left a (2 * 2 ^ k) (pow_pos q))
    ∙ ap (λ (x : ℕ). eqb x 1) (add-mul-mod_self_left (a / 2 ^ q) 2 (2 ^ k))

holds_top : (b : Bool) (a c : ℕ) → a < 2 ^ c → holds (a + cond b (2 ^ c) 0) c ≡ b
holds_top false a c l = ap (λ (x : ℕ). holds x c) (add-zero a) ∙ ap (λ (x : ℕ). eqb (x % 2) 1) (div-eq_of_lt l)
holds_top true a c l =
    let e : a + 2 ^ c ≡ 1 * 2 ^ c + a = omega arith in
    ap (λ (x : ℕ). holds x c) e ∙ ap (λ (x : ℕ). eqb (x % 2) 1) (shr_high 1 c a l)

-- what is put into a channel is what it holds
pub holds-state_of : (c : ℕ) (p : ℕ → Bool) (q : ℕ) → q < c → holds (state_of c p) q ≡ p q
unfolding sum_n
holds-state_of zero p q l = absurd (omega arith)
holds-state_of (suc c) p q l =
    elim (cases_eq q c) [
      | inl e ↦ ap (λ (x : ℕ). holds (state_of c p + cond (p c) (2 ^ c) 0) x) e ∙ holds_top (p c) (state_of c p) c (state_of_below c p) ∙ ap p (sym e)
      | inr d ↦
          let h : q < c = omega arith in
          holds_low (p c) (state_of c p) c q h ∙ holds-state_of c p q h
    ]

-- a state made channel by channel: its start, and a channel more
pub state_of-none : (p : ℕ → Bool) → 0 ≡ state_of 0 p
state_of-none p = sum_n_start (λ q. cond (p q) (2 ^ q) 0)

pub state_of_yes : (q : ℕ) (p : ℕ → Bool) → p q ≡ true → state_of q p + 2 ^ q ≡ state_of (q + 1) p
state_of_yes q p h = omega (arith, sum_n_more q (λ k. cond (p k) (2 ^ k) 0), cond-true (p q) (2 ^ q) 0 h)

pub state_of_no : (q : ℕ) (p : ℕ → Bool) → p q ≡ false → state_of q p ≡ state_of (q + 1) p
state_of_no q p h = omega (arith, sum_n_more q (λ k. cond (p k) (2 ^ k) 0), cond-false (p q) (2 ^ q) 0 h)

-- a channel has one particle at most
cond_one : (b : Bool) → cond b 1 0 ≤ 1
cond_one true = omega arith
cond_one false = omega arith

pub particles_few : (c s : ℕ) → particles c s ≤ c
particles_few c s = omega (arith, sum_n_bound c 1 (λ q. cond (holds s q) 1 0) (λ q l. cond_one (holds s q)))

-- a state is made from what its channels hold, and from nothing else
pub state_of_same : (c : ℕ) (p r : ℕ → Bool) → ((q : ℕ) → q < c → p q ≡ r q) → state_of c p ≡ state_of c r
state_of_same c p r h = sum_n_same c _ _ (λ q l. ap (λ (b : Bool). cond b (2 ^ q) 0) (h q l))

bit_cond : (b x : ℕ) → b < 2 → b * x ≡ cond (eqb b 1) x 0
bit_cond zero x l = zero-mul x
bit_cond (suc zero) x l = one-mul x
bit_cond (suc (suc b)) x l = absurd (omega arith)

-- one channel more, by its mask: channel c of the byte a above the channels below
pub state_of_masked : (c a mask low : ℕ) (p : ℕ → Bool) → mask ≡ 2 ^ c → low ≡ state_of c p → holds a c ≡ p c → bit_or (bit_and a mask) low ≡ state_of (suc c) p
unfolding sum_n
state_of_masked c a mask low p one e h =
    let bit = a / 2 ^ c % 2 in
    let alone : mask ≡ 2 ^ (1 + c) - 2 ^ c = omega (arith, pow-succ' 2 c, ap (λ (j : ℕ). 2 ^ j) (one-add c)) in
    let top : bit * 2 ^ c ≡ cond (p c) (2 ^ c) 0 = bit_cond bit (2 ^ c) (mod_below (a / 2 ^ c) 2 (omega arith)) ∙ ap (λ (b : Bool). cond b (2 ^ c) 0) h in
    ap (λ (x : ℕ). bit_or (bit_and a x) low) alone
    ∙ ap (λ (x : ℕ). bit_or x low) (and_high a 1 c)
    ∙ ap (bit_or (bit * 2 ^ c)) e
    ∙ or_shifted bit c (state_of c p) (state_of_below c p)
    ∙ omega (arith, top)

pub state_of_masked-first : (a mask : ℕ) (p : ℕ → Bool) → mask ≡ 1 → holds a 0 ≡ p 0 → bit_and a mask ≡ state_of 1 p
state_of_masked-first a mask p one h = sym (or_zero_r (bit_and a mask)) ∙ state_of_masked 0 a mask 0 p one (state_of-none p) h

-- the first n channels of a state with k more
without_more : (n k : ℕ) (p : ℕ → Bool) → state_of (k + n) p % 2 ^ n ≡ state_of n p
unfolding sum_n
without_more n zero p = ap (λ (j : ℕ). state_of j p % 2 ^ n) (zero-add n) ∙ mod-eq_of_lt (state_of_below n p)
without_more n (suc k) p = ap (λ (j : ℕ). state_of j p % 2 ^ n) (suc-add k n) ∙ without_top (p (k + n)) (state_of (k + n) p) ∙ without_more n k p
  where
    without_top : (b : Bool) (s : ℕ) → (s + cond b (2 ^ (k + n)) 0) % 2 ^ n ≡ s % 2 ^ n
    without_top false s = ap (λ (x : ℕ). x % 2 ^ n) (add-zero s)
    without_top true s = ap (λ (x : ℕ). (s + x) % 2 ^ n) (pow-add 2 k n ∙ mul_comm (2 ^ k) (2 ^ n)) ∙ add-mul-mod_self_left s (2 ^ n) (2 ^ k)

-- a mask keeps the first n channels
pub state_of-kept : (n c : ℕ) (p : ℕ → Bool) → n ≤ c → bit_and (state_of c p) (2 ^ n - 1) ≡ state_of n p
state_of-kept n c p l =
    let e : c ≡ (c - n) + n = omega arith in
    and_mask (state_of c p) n ∙ ap (λ (j : ℕ). state_of j p % 2 ^ n) e ∙ without_more n (c - n) p

-- a state is what its channels hold
state_of_low : (c s : ℕ) → state_of c (holds s) ≡ s % 2 ^ c
unfolding sum_n
state_of_low zero s = sym (mod-one s)
state_of_low (suc c) s =
    let e = state_of_low c s in
    let b = bit_cond (s / 2 ^ c % 2) (2 ^ c) (mod_below (s / 2 ^ c) 2 (omega arith)) in
    let m : s % 2 ^ suc c ≡ (s / 2 ^ c % 2) * 2 ^ c + s % 2 ^ c = ap (λ (k : ℕ). s % 2 ^ k) (sym (one-add c)) ∙ mod-pow-add s 1 c in
    omega arith

pub state_of-holds : (c s : ℕ) → s < 2 ^ c → state_of c (holds s) ≡ s
state_of-holds c s l = state_of_low c s ∙ mod-eq_of_lt l

-- so states that hold the same are the same
pub same_state : (c s t : ℕ) → s < 2 ^ c → t < 2 ^ c → ((q : ℕ) → q < c → holds s q ≡ holds t q) → s ≡ t
same_state c s t l m h = sym (state_of-holds c s l) ∙ state_of_same c (holds s) (holds t) h ∙ state_of-holds c t m

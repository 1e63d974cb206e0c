-- The obstacles 1 to 15 have every wall.
use Rattle.std.proofs.Common.{◌≡◌, ℕ, ◌+◌, ◌-◌, ◌≤◌, Bool, true, false, cond, eqb, leb, ℤ, pos, ◌*ℤ◌, refl, ap, ◌∙◌, arith}
use Rattle.std.proofs.lemmas.Bool.{eqb-false, leb-true}
use Rattle.lattice.specs.Sums.{sum_z}
use Rattle.lattice.proofs.Sums.{sum_same, sum_none, sum_twice, sum_swap, sum_pick_at}
use Rattle.lattice.proofs.Turnings.{eqb_same}
use Rattle.book.specs.Accounts.{obstacles}
use Rattle.dynamics.specs.declared.role.Role.{Role}
use Rattle.dynamics.specs.declared.role.Role.TheVariants.{Open, Wall, Fan}
use Rattle.dynamics.specs.Roles.{role_of, is_wall_of}

-- whether a role is a wall, of whichever obstacle
abbrev pub is_wall : Role → Bool
is_wall Open = false
is_wall (Wall k) = true
is_wall Fan = false

one_obstacle : (k : ℕ) (x : ℤ) → 1 ≤ k → k ≤ obstacles → sum_z obstacles (λ a. cond (eqb k (a + 1)) x (pos 0)) ≡ x
one_obstacle k x l m =
    sum_same obstacles _ _ (λ a h. ap (λ (b : Bool). cond b x (pos 0)) (eqb_same k (a + 1) (k - 1) a (λ e. omega arith) (λ e. omega arith)))
    ∙ sum_pick_at obstacles (k - 1) (λ _. x) (omega arith)

-- by the tests that make a byte's role
by_tests : (byte : ℕ) (x : ℤ) (free wall fan : Bool) → eqb byte 0 ≡ free → leb byte obstacles ≡ wall
    → sum_z obstacles (λ a. cond (is_wall_of (a + 1) (cond free Open (cond wall (Wall byte) (cond fan Fan Open)))) x (pos 0))
    ≡ cond (is_wall (cond free Open (cond wall (Wall byte) (cond fan Fan Open)))) x (pos 0)
by_tests byte x true wall fan o w = sum_none obstacles
by_tests byte x false true fan o w = one_obstacle byte x (let h = eqb-false byte 0 o in omega arith) (leb-true byte obstacles w)
by_tests byte x false false true o w = sum_none obstacles
by_tests byte x false false false o w = sum_none obstacles

each_wall : (byte : ℕ) (x : ℤ) → sum_z obstacles (λ a. cond (is_wall_of (a + 1) (role_of byte)) x (pos 0)) ≡ cond (is_wall (role_of byte)) x (pos 0)
each_wall byte x = by_tests byte x _ _ _ refl refl

-- what all obstacles take is what all walls take
pub all_walls : (n : ℕ) (byte : ℕ → ℕ) (x : ℕ → ℤ)
    → sum_z obstacles (λ a. pos 2 *ℤ sum_z n (λ i. cond (is_wall_of (a + 1) (role_of (byte i))) (x i) (pos 0)))
    ≡ pos 2 *ℤ sum_z n (λ i. cond (is_wall (role_of (byte i))) (x i) (pos 0))
all_walls n byte x =
    sum_twice obstacles _
    ∙ ap (λ (z : ℤ). pos 2 *ℤ z) (sum_swap obstacles n _ ∙ sum_same n _ _ (λ i l. each_wall (byte i) (x i)))

-- What a step keeps.
use Rattle.std.proofs.Common.{◌≡◌, ℕ, ◌+◌, ◌<◌, true, length, get_or, ℤ, ◌+ℤ◌, neg_ℤ, sym, refl, ap, ◌∙◌, subst, arith}
use Rattle.std.proofs.lemmas.Int.{ints}
use Rattle.lattice.specs.declared.vector.Vector.{Vector}
use Rattle.lattice.specs.Sums.{sum_n, sum_z}
use Rattle.lattice.specs.Vectors.{added}
use Rattle.lattice.specs.States.{particles}
use Rattle.lattice.proofs.Vectors.{same_vector}
use Rattle.gas.specs.Streaming.{arriving}
use Rattle.lattice.specs.declared.vector.Vector.{Vector as Account}
use Rattle.book.specs.Accounts.{obstacles, fan_account, accounts, none, grown, account_fits}
use Rattle.dynamics.specs.Tunnels.{Tunnel, cells}
use Rattle.dynamics.specs.Step.{collided, streamed}
use Rattle.dynamics.specs.Pushes.{push_on, book_after, stepped}
use Rattle.dynamics.specs.Soundness.{SoundTunnel}
use Rattle.dynamics.specs.Balance.{particles_of, momentum_of, balance_of, wall_pushes, EachStepKeeps}
use Rattle.dynamics.proofs.Lists.{length-listed}
use Rattle.dynamics.proofs.Marks.{mark_at_lawful}
use Rattle.dynamics.proofs.Weights.{weigh}
use Rattle.dynamics.proofs.Outcomes.{outcome_sound}
use Rattle.dynamics.proofs.Momenta.{count_kept, part-kept}
use Rattle.dynamics.proofs.Book.{grown-fits, account_after_lem, sum_after}
use Rattle.dynamics.proofs.Pushes.{wall_pushes_lem, push_small}
use Rattle.dynamics.proofs.Decide.{streamed_below, moved}

-- one number of the balance: what the gas loses the walls have, and what it gains the fan gave
one_number : (gas gas' walls walls' fan fan' pushes given : ℤ) → gas' +ℤ pushes ≡ gas +ℤ given → walls' ≡ walls +ℤ pushes → fan' ≡ fan +ℤ given
    → (gas' +ℤ walls') +ℤ neg_ℤ fan' ≡ (gas +ℤ walls) +ℤ neg_ℤ fan
one_number gas gas' walls walls' fan fan' pushes given e w f = omega (arith, ints)

module _ (t : Tunnel) (sound : SoundTunnel t) where
  streamed_long : length (streamed t) ≡ cells t.run
  streamed_long = length-listed (cells t.run) (arriving t.run.gas t.run.width t.run.height (collided t))

  particles-kept : particles_of (stepped t) ≡ particles_of t
  particles-kept =
      ap (λ (n : ℕ). sum_n n (λ i. particles t.run.gas.channels (get_or (streamed t) i 0))) streamed_long
      ∙ count_kept t sound
      ∙ sym (ap (λ (n : ℕ). sum_n n (λ i. particles t.run.gas.channels (get_or t.field i 0))) sound.field_long)

  -- one number of the momentum, where p is that of the walls' pushes
  number-kept : (v : ℕ → ℤ) (p given : ℤ)
      → sum_z (cells t.run) (λ i. weigh t.run.gas.channels v (get_or (streamed t) i 0)) +ℤ p ≡ sum_z (cells t.run) (λ i. weigh t.run.gas.channels v (get_or t.field i 0)) +ℤ given
      → sum_z (length (streamed t)) (λ i. weigh t.run.gas.channels v (get_or (streamed t) i 0)) +ℤ p ≡ sum_z (length t.field) (λ i. weigh t.run.gas.channels v (get_or t.field i 0)) +ℤ given
  number-kept v p given e =
      ap (λ (n : ℕ). sum_z n (λ i. weigh t.run.gas.channels v (get_or (streamed t) i 0)) +ℤ p) streamed_long
      ∙ e
      ∙ sym (ap (λ (n : ℕ). sum_z n (λ i. weigh t.run.gas.channels v (get_or t.field i 0)) +ℤ given) sound.field_long)

  momentum-kept : added (momentum_of (stepped t)) (wall_pushes t) ≡ added (momentum_of t) (push_on t fan_account)
  momentum-kept =
      let along : Vector → ℤ = λ v. v.along in
      let across : Vector → ℤ = λ v. v.across in
      let laws = sound.run.gas in
      let kept = outcome_sound t.run.gas t.run.entries sound.run.entries in
      ap (added (momentum_of (stepped t))) (wall_pushes_lem t)
      ∙ same_vector _ _
      (number-kept (λ q. (t.run.gas.vector q).along) _ _ (part-kept t sound (λ q. (t.run.gas.vector q).along) (λ q l. ap along (laws.opposite_vector q l)) (λ b s l. ap along (kept b s l).balanced)))
      (number-kept (λ q. (t.run.gas.vector q).across) _ _ (part-kept t sound (λ q. (t.run.gas.vector q).across) (λ q l. ap across (laws.opposite_vector q l)) (λ b s l. ap across (kept b s l).balanced)))

  balance_kept : balance_of (stepped t) ≡ balance_of t
  balance_kept =
      let fan = account_after_lem accounts t.run.book (push_on t) 15 (omega arith) in
      let walls = sum_after accounts t.run.book (push_on t) in
      same_vector _ _
      (one_number _ _ _ _ _ _ _ _ (ap (λ (v : Vector). v.along) momentum-kept) (walls (λ a. a.along) (λ v. v.along) (λ a v. refl) obstacles (omega arith)) (ap (λ (a : Account). a.along) fan))
      (one_number _ _ _ _ _ _ _ _ (ap (λ (v : Vector). v.across) momentum-kept) (walls (λ a. a.across) (λ v. v.across) (λ a v. refl) obstacles (omega arith)) (ap (λ (a : Account). a.across) fan))

  book_fits_lem : (k : ℕ) → k < accounts → account_fits (t.run.steps + 1) (get_or (book_after t) k none) ≡ true
  book_fits_lem k l =
      let small = push_small t sound (k + 1) (omega arith) in
      subst (λ (a : Account). account_fits (t.run.steps + 1) a ≡ true) (sym (account_after_lem accounts t.run.book (push_on t) k l))
      (grown-fits t.run.steps (get_or t.run.book k none) (push_on t (k + 1)) (sound.run.book k l) small.0 small.1)

  stays_sound : SoundTunnel (stepped t)
  stays_sound = record {
    run = record {
      gas = sound.run.gas;
      entries = sound.run.entries;
      twist = sound.run.twist;
      mark = mark_at_lawful t.run.twist sound.run.twist t.run.mark (cells t.run) sound.run.mark;
      grid = sound.run.grid;
      book_long = length-listed accounts (λ k. grown (get_or t.run.book k none) (push_on t (k + 1)));
      book = book_fits_lem;
    };
    map_long = sound.map_long;
    map = sound.map;
    field_long = streamed_long;
    field = streamed_below t sound;
  }

pub step_keeps : EachStepKeeps
step_keeps t sound = record {
  particles = particles-kept t sound;
  momentum = momentum-kept t sound;
  balance = balance_kept t sound;
  moves = moved t sound;
  small = λ n l m. push_small t sound n m;
  sound = stays_sound t sound;
}

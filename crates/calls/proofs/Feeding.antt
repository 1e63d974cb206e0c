-- The plain tunnel stays storable, and keeps its particles and its balance.
use Rattle.std.proofs.Common.{◌≡◌, ℕ, ◌+◌, ◌≤◌, eqb, ltb, get_or, set, Some, None, Option, sym, refl, ap, ◌∙◌, subst, inl, inr, arith, length-set, get_or-set_other, get_or-set_same}
use Rattle.std.proofs.lemmas.Bool.{cases_eq, ltb-false, leb-false}
use Rattle.lattice.specs.Grids.{cell_at}
use Rattle.lattice.proofs.Cells.{cell_below}
use Rattle.faults.specs.declared.call.CallFault.{CallFault}
use Rattle.faults.specs.declared.call.CallFault.TheVariants.{ShortMap, ShortField, ShortSpare, Argument, TooManySteps}
use Rattle.dynamics.specs.Roles.{highest_map_byte}
use Rattle.dynamics.specs.Tunnels.{Tunnel}
use Rattle.dynamics.specs.Balance.{particles_of, balance_of}
use Rattle.dynamics.specs.Pushes.{after_steps}
use Rattle.dynamics.proofs.Whole.{steps_keep}
use Rattle.step.proofs.Again.{same}
use Rattle.codec.specs.Storable.{Storable}
use Rattle.calls.specs.declared.call.Call.{Call}
use Rattle.calls.specs.declared.call.Call.TheVariants.{Advance, Paint, Fan, Report, Account, Mark}
use Rattle.calls.specs.Grounds.{or_then, fault_if, most_steps, step_limit, longest_period}
use Rattle.calls.specs.Outcomes.{leaves}
use Rattle.calls.specs.Plain.{cells_of, ground_of, repainted, refanned, moved, fed_one}
use Rattle.calls.proofs.NoFaults.{none-parts, not_if}

-- what the plain tunnel keeps at one call
pub record Feeds (t u : Tunnel) : Type 0 where
  pub storable : Storable u
  pub particles : particles_of u ≡ particles_of t
  pub balance : balance_of u ≡ balance_of t

same_feeds : (t : Tunnel) → Storable t → Feeds t t
same_feeds t s = record { storable = s; particles = refl; balance = refl }

-- steps
advance_feeds : (k m f n : ℕ) (t : Tunnel) → Storable t → ground_of t (Advance k m f n) ≡ None → Feeds t (after_steps k t)
advance_feeds k m f n t s none =
    let last = fault_if (ltb step_limit (t.run.steps + k)) TooManySteps in
    let most = fault_if (ltb most_steps k) (Argument 1) in
    let some = fault_if (eqb k 0) (Argument 1) in
    let a = none-parts (fault_if (ltb m (cells_of t)) ShortMap) _ none in
    let b = none-parts (fault_if (ltb f (cells_of t)) ShortField) _ a.1 in
    let c = none-parts (fault_if (ltb n (cells_of t)) ShortSpare) (or_then some (or_then most last)) b.1 in
    let d = none-parts some (or_then most last) c.1 in
    let few = ltb-false step_limit (t.run.steps + k) (not_if _ TooManySteps (none-parts most last d.1).1) in
    let kept = steps_keep k t s.sound in
    record {
      storable = record { sound = kept.sound; period = subst (λ (p : ℕ). p ≤ longest_period) (sym (same k t).period) s.period; steps = subst (λ (p : ℕ). p ≤ step_limit) (sym (same k t).steps) few };
      particles = kept.particles;
      balance = kept.balance;
    }

-- a byte of the map
paint_feeds : (column row kind m : ℕ) (t : Tunnel) → Storable t → ground_of t (Paint column row kind m) ≡ None → Feeds t (repainted t (cell_at t.run.width column row) kind)
paint_feeds column row kind m t s none =
    let a = none-parts _ _ none in
    let b = none-parts _ _ a.1 in
    let c = none-parts (fault_if _ (Argument 2)) (fault_if _ (Argument 3)) b.1 in
    let low = ltb-false highest_map_byte kind (not_if _ (Argument 3) c.1) in
    let i = cell_at t.run.width column row in
    let within = cell_below t.run.width t.run.height column row (leb-false _ _ (not_if _ (Argument 1) b.0)) (leb-false _ _ (not_if _ (Argument 2) c.0)) in
    record {
      storable = record {
        sound = record {
          run = s.sound.run;
          map_long = length-set t.map i kind ∙ s.sound.map_long;
          map = λ j l. elim (cases_eq j i) [
            | inl e ↦ subst (λ (b : ℕ). b ≤ highest_map_byte) (sym (ap (λ (x : ℕ). get_or (set t.map i kind) x 0) e ∙ get_or-set_same t.map i kind 0 (omega (arith, s.sound.map_long)))) low
            | inr ne ↦ subst (λ (b : ℕ). b ≤ highest_map_byte) (sym (get_or-set_other t.map i j kind 0 ne)) (s.sound.map j l)
          ];
          field_long = s.sound.field_long;
          field = s.sound.field;
        };
        period = s.period;
        steps = s.steps;
      };
      particles = refl;
      balance = refl;
    }

-- the period
fan_feeds : (period : ℕ) (t : Tunnel) → Storable t → ground_of t (Fan period) ≡ None → Feeds t (refanned t period)
fan_feeds period t s none = record {
  storable = record {
    sound = record {
      run = record {
        gas = s.sound.run.gas;
        entries = s.sound.run.entries;
        twist = s.sound.run.twist;
        mark = s.sound.run.mark;
        grid = s.sound.run.grid;
        book_long = s.sound.run.book_long;
        book = s.sound.run.book;
      };
      map_long = s.sound.map_long;
      map = s.sound.map;
      field_long = s.sound.field_long;
      field = s.sound.field;
    };
    period = ltb-false longest_period period (not_if _ (Argument 1) none);
    steps = s.steps;
  };
  particles = refl;
  balance = refl;
}

-- a call that is not refused
pub moved_feeds : (c : Call) (t : Tunnel) → Storable t → ground_of t c ≡ None → Feeds t (moved c t)
moved_feeds (Advance k m f n) t s none = advance_feeds k m f n t s none
moved_feeds (Paint column row kind m) t s none = paint_feeds column row kind m t s none
moved_feeds (Fan period) t s none = fan_feeds period t s none
moved_feeds (Report b f n) t s none = same_feeds t s
moved_feeds (Account n) t s none = same_feeds t s
moved_feeds (Mark m f n) t s none = same_feeds t s

by_ground : (c : Call) (t : Tunnel) → Storable t → (o : Option CallFault) → ground_of t c ≡ o → Feeds t (leaves o t (moved c t))
by_ground c t s None e = moved_feeds c t s e
by_ground c t s (Some f) e = same_feeds t s

-- any call
pub feeds : (c : Call) (t : Tunnel) → Storable t → Feeds t (fed_one c t)
feeds c t s = by_ground c t s (ground_of t c) refl

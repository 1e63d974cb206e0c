-- Where particles move, and that their moves determine the field.
use Rattle.std.proofs.Common.{◌≡◌, ℕ, ◌<◌, get_or, sym, ap, ◌∙◌}
use Rattle.lattice.specs.States.{holds}
use Rattle.lattice.proofs.Making.{state_of_below, holds-state_of, same_state}
use Rattle.gas.specs.Model.{states}
use Rattle.gas.specs.Streaming.{comes_by}
use Rattle.dynamics.specs.Tunnels.{Tunnel, cells}
use Rattle.dynamics.specs.Step.{collided_at, collided, streamed}
use Rattle.dynamics.specs.Soundness.{SoundTunnel}
use Rattle.dynamics.specs.Balance.{MovesDecide}
use Rattle.dynamics.proofs.Flow.{neighbours, collided_at_lem, streamed_at}

module _ (t : Tunnel) (sound : SoundTunnel t) where
  pub streamed_below : (j : ℕ) → j < cells t.run → get_or (streamed t) j 0 < states t.run.gas
  streamed_below j l = rw (streamed_at t sound j l) (state_of_below t.run.gas.channels _)

  -- what cell j holds in q, the cell that lies the opposite way held
  pub streamed-holds : (j q : ℕ) → j < cells t.run → q < t.run.gas.channels
      → holds (get_or (streamed t) j 0) q ≡ holds (collided_at t (t.run.gas.neighbour t.run.width t.run.height (t.run.gas.opposite q) j)) q
  streamed-holds j q l h =
      let from = t.run.gas.neighbour t.run.width t.run.height (t.run.gas.opposite q) j in
      ap (λ (s : ℕ). holds s q) (streamed_at t sound j l)
      ∙ holds-state_of t.run.gas.channels (comes_by t.run.gas t.run.width t.run.height (collided t) j) q h
      ∙ ap (λ (s : ℕ). holds s q) (collided_at_lem t sound from ((neighbours t sound q h).goes j l))

  pub moved : (i q : ℕ) → i < cells t.run → q < t.run.gas.channels
      → holds (get_or (streamed t) (t.run.gas.neighbour t.run.width t.run.height q i) 0) q ≡ holds (collided_at t i) q
  moved i q l h =
      streamed-holds (t.run.gas.neighbour t.run.width t.run.height q i) q ((neighbours t sound q h).comes i l) h
      ∙ ap (λ (j : ℕ). holds (collided_at t j) q) ((neighbours t sound q h).back i l)

pub moves_decide : MovesDecide
moves_decide t sound f below moves i l =
    same_state t.run.gas.channels (f i) (get_or (streamed t) i 0) (below i l) (streamed_below t sound i l) (λ q h.
    let turn = neighbours t sound q h in
    let from = t.run.gas.neighbour t.run.width t.run.height (t.run.gas.opposite q) i in
    sym (ap (λ (j : ℕ). holds (f j) q) (turn.there i l))
    ∙ moves from q (turn.goes i l) h
    ∙ sym (streamed-holds t sound i q l h))

-- A run and the cells that a call judged make a sound tunnel.
use Rattle.std.proofs.Common.{ℕ, ◌<◌, ◌≤◌, List, length, get_or, sym, subst, get_or-take}
use Rattle.gas.specs.Model.{states}
use Rattle.dynamics.specs.Roles.{highest_map_byte}
use Rattle.dynamics.specs.Tunnels.{RunState, cells}
use Rattle.dynamics.specs.Soundness.{SoundRun, SoundTunnel}
use Rattle.step.specs.Scenes.{scene_of}
use Rattle.step.proofs.Overlays.{length-take_of}

pub sound_scene : (s : RunState) → SoundRun s → (map field : List ℕ) → cells s ≤ length map → cells s ≤ length field
    → ((i : ℕ) → i < cells s → get_or map i 0 ≤ highest_map_byte) → ((i : ℕ) → i < cells s → get_or field i 0 < states s.gas) → SoundTunnel (scene_of s map field)
sound_scene s sound map field ml fl mi fi = record {
  run = sound;
  map_long = length-take_of (cells s) map ml;
  map = λ i l. subst (λ (b : ℕ). b ≤ highest_map_byte) (sym (get_or-take (cells s) map i 0 l)) (mi i l);
  field_long = length-take_of (cells s) field fl;
  field = λ i l. subst (λ (b : ℕ). b < states s.gas) (sym (get_or-take (cells s) field i 0 l)) (fi i l);
}

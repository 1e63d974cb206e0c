-- A call that is handed the first bytes of map and field of a storable tunnel judges their lengths alone.
use Rattle.std.proofs.Common.{◌≡◌, ℕ, ◌<◌, ◌≤◌, Bool, ltb, leb, List, ◌++◌, length, get_or, take, None, sym, ap, ◌∙◌, subst, inl, inr, append_assoc, arith, length-take, get_or-take, take-take}
use Rattle.std.proofs.lemmas.List.{get_or_past, take_at}
use Rattle.std.proofs.lemmas.Bool.{cases_lt, le-ltb, lt-leb, ltb-false}
use Rattle.std.proofs.lemmas.Bool.Decides.{nat_tests}
use Rattle.lattice.proofs.Firsts.{first-none}
use Rattle.gas.specs.Model.{states}
use Rattle.faults.specs.declared.call.CallFault.{CallFault}
use Rattle.faults.specs.declared.call.CallFault.TheVariants.{MapByte, FieldByte}
use Rattle.dynamics.specs.Roles.{highest_map_byte}
use Rattle.dynamics.specs.Tunnels.{RunState, cells}
use Rattle.dynamics.specs.Soundness.{SoundTunnel}
use Rattle.step.specs.Scenes.{scene_of}
use Rattle.step.proofs.Overlays.{take_long}
use Rattle.calls.specs.Grounds.{fault_if, fault_at, map_fault, field_fault}
use Rattle.calls.proofs.NoFaults.{not_if}

-- the first m bytes of a buffer of n or more are too few just if m is below n
pub handed_length : (n m : ℕ) (xs : List ℕ) (f : CallFault) → n ≤ length xs → fault_if (ltb (length (take m xs)) n) f ≡ fault_if (ltb m n) f
handed_length n m xs f room = let long = length-take m xs in let same : ltb (length (take m xs)) n ≡ ltb m n = grind (arith, nat_tests) in ap (λ (b : Bool). fault_if b f) same

pub long_enough_none : (n m : ℕ) (f : CallFault) → fault_if (ltb m n) f ≡ None → n ≤ m
long_enough_none n m f e = ltb-false m n (not_if _ f e)

-- map and field of a sound tunnel are as long as its grid
pub map_room : (s : RunState) (map field : List ℕ) → SoundTunnel (scene_of s map field) → cells s ≤ length map
map_room s map field sound = take_long (cells s) map sound.map_long

pub field_room : (s : RunState) (map field : List ℕ) → SoundTunnel (scene_of s map field) → cells s ≤ length field
field_room s map field sound = take_long (cells s) field sound.field_long

-- its bytes are in range, and so is the 0 that is read beyond what was handed over
handed_byte : (P : ℕ → Type 0) (m i : ℕ) (xs : List ℕ) → P 0 → P (get_or xs i 0) → P (get_or (take m xs) i 0)
handed_byte P m i xs none here =
    elim (cases_lt i m) [
      | inl l ↦ subst P (sym (get_or-take m xs i 0 l)) here
      | inr l ↦ subst P (sym (get_or_past (take m xs) i 0 (omega (arith, length-take m xs)))) none
    ]

pub map_handed : (s : RunState) (m : ℕ) (map field : List ℕ) → SoundTunnel (scene_of s map field) → map_fault (cells s) (take m map) ≡ None
map_handed s m map field sound =
    ap (fault_at MapByte) (first-none (cells s) (λ i. ltb highest_map_byte (get_or (take m map) i 0)) (λ i l.
    le-ltb highest_map_byte (get_or (take m map) i 0)
    (handed_byte (λ b. b ≤ highest_map_byte) m i map (omega arith) (subst (λ (b : ℕ). b ≤ highest_map_byte) (get_or-take (cells s) map i 0 l) (sound.map i l)))))

pub field_handed : (s : RunState) (f : ℕ) (map field : List ℕ) → SoundTunnel (scene_of s map field) → field_fault (cells s) (states s.gas) (take f field) ≡ None
field_handed s f map field sound =
    ap (fault_at FieldByte) (first-none (cells s) (λ i. leb (states s.gas) (get_or (take f field) i 0)) (λ i l.
    let here = subst (λ (b : ℕ). b < states s.gas) (get_or-take (cells s) field i 0 l) (sound.field i l) in
    lt-leb (states s.gas) (get_or (take f field) i 0) (handed_byte (λ b. b < states s.gas) f i field (omega arith) here)))

-- where enough was handed over, it is the same scene
pub scene_handed : (s : RunState) (m f : ℕ) (map field : List ℕ) → cells s ≤ m → cells s ≤ f → scene_of s (take m map) (take f field) ≡ scene_of s map field
scene_handed s m f map field ml fl = λ j. record { run = s; map = take-take (cells s) m map ml j; field = take-take (cells s) f field fl j }

-- what stands at the front of a buffer that was put back
pub put_back-front : (n : ℕ) (w a b : List ℕ) → length w ≡ n → take n ((w ++ a) ++ b) ≡ w
put_back-front n w a b e = ap (take n) (append_assoc w a b) ∙ take_at w (a ++ b) n e

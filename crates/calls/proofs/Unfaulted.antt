-- Over a sound tunnel in buffers that are long enough, only arguments, the step count and the output are left to judge.
use Rattle.std.proofs.Common.{◌≡◌, ℕ, ◌+◌, ◌<◌, ◌≤◌, Bool, not, ltb, leb, List, length, get_or, take, drop, None, Option, ap, ◌∙◌, subst, arith, get_or-take}
use Rattle.std.proofs.lemmas.List.{take_at}
use Rattle.std.proofs.lemmas.Bool.{le-ltb, lt-leb, ne_eqb}
use Rattle.lattice.proofs.Firsts.{first-none}
use Rattle.gas.specs.Model.{states}
use Rattle.faults.specs.declared.call.CallFault.{CallFault}
use Rattle.faults.specs.declared.call.CallFault.TheVariants.{ShortMap, ShortField, ShortSpare, MapByte, FieldByte, Argument, TooManySteps, ShortOutput}
use Rattle.dynamics.specs.Roles.{highest_map_byte}
use Rattle.dynamics.specs.Tunnels.{RunState, cells}
use Rattle.dynamics.specs.Soundness.{SoundTunnel}
use Rattle.step.specs.Scenes.{scene_of}
use Rattle.step.specs.Results.{over}
use Rattle.report.specs.Reports.{snapshot, report_text}
use Rattle.calls.specs.Grounds.{or_then, fault_if, fault_at, map_fault, field_fault, advance_fault, patch_fits, report_fault, most_steps, step_limit}

-- what stands in front of an overlaid buffer
pub take-front : (n : ℕ) (bytes buffer : List ℕ) → length bytes ≡ n → take n (over bytes buffer) ≡ bytes
take-front n bytes buffer e = take_at bytes (drop (length bytes) buffer) n e

-- a first ground that does not hold gives way
pub give : (a b : Option CallFault) → a ≡ None → or_then a b ≡ b
give a b e = ap (λ (x : Option CallFault). or_then x b) e

pub long_enough : (n : ℕ) (xs : List ℕ) (f : CallFault) → n ≤ length xs → fault_if (ltb (length xs) n) f ≡ None
long_enough n xs f l = ap (λ (b : Bool). fault_if b f) (le-ltb (length xs) n l)

pub map_unfaulted : (s : RunState) (map field : List ℕ) → SoundTunnel (scene_of s map field) → map_fault (cells s) map ≡ None
map_unfaulted s map field sound =
    ap (fault_at MapByte) (first-none (cells s) (λ i. ltb highest_map_byte (get_or map i 0)) (λ i l.
    le-ltb highest_map_byte (get_or map i 0) (subst (λ (b : ℕ). b ≤ highest_map_byte) (get_or-take (cells s) map i 0 l) (sound.map i l))))

pub field_unfaulted : (s : RunState) (map field : List ℕ) → SoundTunnel (scene_of s map field) → field_fault (cells s) (states s.gas) field ≡ None
field_unfaulted s map field sound =
    ap (fault_at FieldByte) (first-none (cells s) (λ i. leb (states s.gas) (get_or field i 0)) (λ i l.
    lt-leb (states s.gas) (get_or field i 0) (subst (λ (b : ℕ). b < states s.gas) (get_or-take (cells s) field i 0 l) (sound.field i l))))

pub advance_by_count : (s : RunState) (k : ℕ) (map field spare : List ℕ) → SoundTunnel (scene_of s map field) → cells s ≤ length map → cells s ≤ length field → cells s ≤ length spare → 1 ≤ k → k ≤ most_steps
    → advance_fault s k map field spare ≡ fault_if (ltb step_limit (s.steps + k)) TooManySteps
advance_by_count s k map field spare sound ml fl sl some few =
    give _ _ (long_enough (cells s) map ShortMap ml)
    ∙ (give _ _ (long_enough (cells s) field ShortField fl)
    ∙ (give _ _ (long_enough (cells s) spare ShortSpare sl)
    ∙ (give _ _ (map_unfaulted s map field sound)
    ∙ (give _ _ (field_unfaulted s map field sound)
    ∙ (give _ _ (ap (λ (b : Bool). fault_if b (Argument 1)) (ne_eqb k 0 (λ e. omega arith)))
    ∙ give (fault_if (ltb most_steps k) (Argument 1)) _ (ap (λ (b : Bool). fault_if b (Argument 1)) (le-ltb most_steps k few)))))))

pub report_by_text : (s : RunState) (b : ℕ) (map field out : List ℕ) → SoundTunnel (scene_of s map field) → cells s ≤ length field
    → report_fault s b field out ≡ or_then (fault_if (not (patch_fits s b)) (Argument 1)) (fault_if (ltb (length out) (length (report_text (snapshot s field) b))) ShortOutput)
report_by_text s b map field out sound fl =
    let last = fault_if (ltb (length out) (length (report_text (snapshot s field) b))) ShortOutput in
    ap (λ (x : Option CallFault). or_then x last)
    (give _ _ (long_enough (cells s) field ShortField fl) ∙ give _ _ (field_unfaulted s map field sound))

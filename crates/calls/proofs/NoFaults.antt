-- What it tells that no ground held.
use Rattle.std.proofs.Common.{◌≡◌, ℕ, ◌+◌, ◌<◌, ◌≤◌, Bool, true, false, eqb, ltb, leb, List, length, get_or, Some, None, Ok, Err, Option, refl, arith}
use Rattle.std.proofs.lemmas.Bool.{ltb-false, leb-false}
use Rattle.lattice.proofs.Firsts.{none_first}
use Rattle.gas.specs.Model.{states}
use Rattle.faults.specs.declared.call.CallFault.{CallFault}
use Rattle.faults.specs.declared.call.CallFault.TheVariants.{Argument, TooManySteps}
use Rattle.dynamics.specs.Roles.{highest_map_byte}
use Rattle.dynamics.specs.Tunnels.{RunState, cells}
use Rattle.calls.specs.Grounds.{or_then, fault_if, fault_at, map_fault, field_fault, advance_fault, most_steps, step_limit}
use Rattle.calls.specs.Outcomes.{reply, Judged}

pub none-parts : (a b : Option CallFault) → or_then a b ≡ None → (a ≡ None) × (b ≡ None)
none-parts None b e = (refl, e)
none-parts (Some f) b e = absurd (let z : ◌≡◌ {A = ℕ} 0 1 = cc in omega arith)

pub not_if : (b : Bool) (f : CallFault) → fault_if b f ≡ None → b ≡ false
not_if true f e = absurd (let z : ◌≡◌ {A = ℕ} 0 1 = cc in omega arith)
not_if false f e = refl

pub not_at : (f : ℕ → CallFault) (o : Option ℕ) → fault_at f o ≡ None → o ≡ None
not_at f None e = refl
not_at f (Some k) e = absurd (let z : ◌≡◌ {A = ℕ} 0 1 = cc in omega arith)

pub reply-none : {A : Type 0} (o : Option CallFault) (x y : A) → Ok x ≡ reply o y → o ≡ None
reply-none None x y e = refl
reply-none (Some f) x y e = absurd (let z : ◌≡◌ {A = ℕ} 0 1 = cc in omega arith)

pub reply_some : {A : Type 0} (f : CallFault) (o : Option CallFault) (y : A) → Err f ≡ reply o y → o ≡ Some f
reply_some f None y e = absurd (let z : ◌≡◌ {A = ℕ} 0 1 = cc in omega arith)
reply_some f (Some h) y e = cc

pub judged-none : {A : Type 0} (P : A → Type 0) (o : Option CallFault) (x : A) → Judged o P (Ok x) → o ≡ None
judged-none P None x h = refl
judged-none P (Some f) x h = absurd (let z : ◌≡◌ {A = ℕ} 0 1 = cc in omega arith)

pub judged_made : {A : Type 0} (P : A → Type 0) (o : Option CallFault) (x : A) → Judged o P (Ok x) → P x
judged_made P None x h = h
judged_made P (Some f) x h = absurd (let z : ◌≡◌ {A = ℕ} 0 1 = cc in omega arith)

pub judged_some : (A : Type 0) (P : A → Type 0) (o : Option CallFault) (f : CallFault) → Judged o P (Err f) → o ≡ Some f
judged_some A P None f h = absurd h
judged_some A P (Some k) f h = cc

pub map_bytes : (n : ℕ) (map : List ℕ) → map_fault n map ≡ None → (i : ℕ) → i < n → get_or map i 0 ≤ highest_map_byte
map_bytes n map e i l = ltb-false highest_map_byte (get_or map i 0) (none_first n (λ k. ltb highest_map_byte (get_or map k 0)) (not_at _ _ e) i l)

pub field_bytes : (n s : ℕ) (field : List ℕ) → field_fault n s field ≡ None → (i : ℕ) → i < n → get_or field i 0 < s
field_bytes n s field e i l = leb-false s (get_or field i 0) (none_first n (λ k. leb s (get_or field k 0)) (not_at _ _ e) i l)

-- an advance that no ground refuses
pub record Allowed (s : RunState) (k : ℕ) (map field spare : List ℕ) : Type 0 where
  pub map_long : cells s ≤ length map
  pub field_long : cells s ≤ length field
  pub spare_long : cells s ≤ length spare
  pub map_in : (i : ℕ) → i < cells s → get_or map i 0 ≤ highest_map_byte
  pub field_in : (i : ℕ) → i < cells s → get_or field i 0 < states s.gas
  pub few : s.steps + k ≤ step_limit

pub allowed : (s : RunState) (k : ℕ) (map field spare : List ℕ) → advance_fault s k map field spare ≡ None → Allowed s k map field spare
allowed s k map field spare e =
    let a = none-parts _ _ e in
    let b = none-parts _ _ a.1 in
    let c = none-parts _ _ b.1 in
    let d = none-parts _ _ c.1 in
    let f = none-parts _ _ d.1 in
    let h = none-parts (fault_if (eqb k 0) (Argument 1)) _ f.1 in
    let i = none-parts (fault_if (ltb most_steps k) (Argument 1)) (fault_if (ltb step_limit (s.steps + k)) TooManySteps) h.1 in
    record {
      map_long = ltb-false _ _ (not_if _ _ a.0);
      field_long = ltb-false _ _ (not_if _ _ b.0);
      spare_long = ltb-false _ _ (not_if _ _ c.0);
      map_in = map_bytes (cells s) map d.0;
      field_in = field_bytes (cells s) (states s.gas) field f.0;
      few = ltb-false _ _ (not_if _ TooManySteps i.1);
    }

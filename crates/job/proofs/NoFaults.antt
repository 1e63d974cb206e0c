-- What an outcome tells of the fault, and what a fault makes of an outcome.
use Rattle.std.proofs.Common.{◌≡◌, ℕ, Bool, not, List, length, IsErrAnd, Some, None, Ok, Err, Option, Result, sym, refl, ap, ◌∙◌, subst, arith}
use Rattle.std.proofs.lemmas.Bool.{eq-eqb}
use Rattle.std.proofs.lemmas.Result.{err_from_is_err_and}
use Rattle.faults.specs.declared.job.JobFault.{JobFault}
use Rattle.faults.specs.declared.job.JobFault.TheVariants.{Length}
use Rattle.job.specs.Grounds.{or_then, fault_if, length_fault}
use Rattle.job.specs.Outcomes.{Judged, judgment}

pub judgment-none : (o : Option JobFault) → Ok tt ≡ judgment o → o ≡ None
judgment-none None e = refl
judgment-none (Some f) e = absurd (let z : ◌≡◌ {A = ℕ} 0 1 = cc in omega arith)

pub judgment_some : (o : Option JobFault) (f : JobFault) → Err f ≡ judgment o → o ≡ Some f
judgment_some None f e = absurd (let z : ◌≡◌ {A = ℕ} 0 1 = cc in omega arith)
judgment_some (Some h) f e = cc

pub judged-none : {A : Type 0} (P : A → Type 0) (o : Option JobFault) (x : A) → Judged o P (Ok x) → o ≡ None
judged-none P None x h = refl
judged-none P (Some f) x h = absurd (let z : ◌≡◌ {A = ℕ} 0 1 = cc in omega arith)

pub judged_made : {A : Type 0} (P : A → Type 0) (o : Option JobFault) (x : A) → Judged o P (Ok x) → P x
judged_made P None x h = h
judged_made P (Some f) x h = absurd (let z : ◌≡◌ {A = ℕ} 0 1 = cc in omega arith)

pub judged_some : (A : Type 0) (P : A → Type 0) (o : Option JobFault) (f : JobFault) → Judged o P (Err f) → o ≡ Some f
judged_some A P None f h = absurd h
judged_some A P (Some k) f h = cc

-- what `?` hands on is the fault that was found
pub passed : {A : Type 0} (P : A → Type 0) (o : Option JobFault) (f : JobFault) (r : Result A JobFault) → o ≡ Some f → IsErrAnd r (λ y. y ≡ f) → Judged o P r
passed P o f r e h = let p = err_from_is_err_and r h in subst (λ (x : Option JobFault). Judged x P r) (sym e) (p.1 ∙ ap Err p.2)

-- a payload has its length
pub whole_none : (r n : ℕ) (bytes : List ℕ) → length bytes ≡ n → length_fault r n bytes ≡ None
whole_none r n bytes e = ap (λ (b : Bool). fault_if (not b) (Length r)) (eq-eqb (length bytes) n e)

-- a judgement of a payload is one of the same payload elsewhere
pub none_at : (fault : ℕ × List ℕ → Option JobFault) (a b : ℕ × List ℕ) → a ≡ b → Ok tt ≡ judgment (fault a) → fault b ≡ None
none_at fault a b same e = subst (λ (x : ℕ × List ℕ). fault x ≡ None) same (judgment-none _ e)

pub some_at : (fault : ℕ × List ℕ → Option JobFault) (a b : ℕ × List ℕ) (f : JobFault) → a ≡ b → Err f ≡ judgment (fault a) → fault b ≡ Some f
some_at fault a b f same e = subst (λ (x : ℕ × List ℕ). fault x ≡ Some f) same (judgment_some _ f e)

-- of two faults in turn: the first is none, or it is the one
pub pass : (a b : Option JobFault) → a ≡ None → or_then a b ≡ b
pass a b e = ap (λ (x : Option JobFault). or_then x b) e

pub stop : (a b : Option JobFault) (f : JobFault) → a ≡ Some f → or_then a b ≡ Some f
stop a b f e = ap (λ (x : Option JobFault). or_then x b) e

-- and both are none where none was found
pub both_none : (a b : Option JobFault) → or_then a b ≡ None → (a ≡ None) × (b ≡ None)
both_none None b e = (refl, e)
both_none (Some f) b e = absurd (let z : ◌≡◌ {A = ℕ} 0 1 = cc in omega arith)

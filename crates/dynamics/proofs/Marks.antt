-- The mark as the source is asked again and again.
use Rattle.std.proofs.Common.{◌≡◌, ℕ, zero, suc, ◌+◌, true, ap, ◌∙◌, add-zero, add-suc, add-one}
use Rattle.twist.specs.Model.{TwistModel, TwistLaws}
use Rattle.dynamics.specs.Step.{mark_at}

pub mark_at_more : (s : TwistModel) (m i : ℕ) → mark_at s m (i + 1) ≡ s.next (mark_at s m i)
mark_at_more s m i = ap (mark_at s m) (add-one i)

pub mark_at_add : (s : TwistModel) (m i j : ℕ) → mark_at s m (i + j) ≡ mark_at s (mark_at s m i) j
mark_at_add s m i zero = ap (mark_at s m) (add-zero i)
mark_at_add s m i (suc j) = ap (mark_at s m) (add-suc i j) ∙ ap s.next (mark_at_add s m i j)

pub mark_at_lawful : (s : TwistModel) → TwistLaws s → (m i : ℕ) → s.lawful m ≡ true → s.lawful (mark_at s m i) ≡ true
mark_at_lawful s laws m zero h = h
mark_at_lawful s laws m (suc i) h = laws.next_lawful (mark_at s m i) (mark_at_lawful s laws m i h)

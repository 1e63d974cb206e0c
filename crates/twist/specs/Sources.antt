-- Each source keeps the laws.
use Rattle.std.specs.Prelude.{◌≡◌, ℕ, ◌/◌, ◌%◌, ◌^◌, ◌<◌, ◌≤◌, Bool, true, false, cond, not, ◌&&◌, bit_xor, nat_le, refl}
use Rattle.std.proofs.Common.{sym, ap, subst, ◌∙◌, arith}
use Rattle.std.proofs.lemmas.Nat.{xor_lt, xor_shr}
use Rattle.std.specs.Int.Bits.{xor_assoc, xor_zero_r}
use Rattle.std.proofs.lemmas.Bool.{eqb-true, leb-true, le-leb, and_parts, cond-true, cond-false}
use Rattle.std.proofs.lemmas.Bool.Decides.{nat_tests}
use Rattle.twist.specs.Model.{TwistModel, TwistLaws}
use Rattle.twist.specs.Kinds.{odd, parity, shifted, register, turned}
use Rattle.twist.specs.Laws.{TurnedTwice}

pub parity_laws : TwistLaws parity
parity_laws = record {
  one_byte = omega arith;
  small = λ k e. let z = eqb-true k 0 e in omega arith;
  first_lawful = refl;
  next_lawful = λ k e. refl;
}

pub lawful_parts : (k : ℕ) → register.lawful k ≡ true → (1 ≤ k) × (k ≤ 65535)
lawful_parts k e = let p = and_parts (nat_le 1 k) (nat_le k 65535) e in (leb-true 1 k p.0, leb-true k 65535 p.1)

pub parts_lawful : (k : ℕ) → 1 ≤ k → k ≤ 65535 → register.lawful k ≡ true
parts_lawful k a b = ap (λ (x : Bool). x && nat_le k 65535) (le-leb 1 k a) ∙ le-leb k 65535 b

-- the taps set the highest of the 16 bits
pub tapped : (h : ℕ) → h < 2 ^ 15 → (1 ≤ bit_xor h 0xB400) × (bit_xor h 0xB400 ≤ 65535)
tapped h l =
    let top : bit_xor h 0xB400 / 2 ^ 15 ≡ 1 = xor_shr h 0xB400 15 ∙ ap (λ (x : ℕ). bit_xor x 1) (let z : h / 2 ^ 15 ≡ 0 = omega arith in z) in
    let low = xor_lt 16 h 0xB400 (omega arith) (omega arith) in
    (omega arith, omega arith)

pub shifted_range : (k : ℕ) → 1 ≤ k → k ≤ 65535 → (1 ≤ shifted k) × (shifted k ≤ 65535)
shifted_range k a b = by (odd k) refl
  where
    by : (o : Bool) → odd k ≡ o → (1 ≤ shifted k) × (shifted k ≤ 65535)
    by true e = subst (λ (x : ℕ). (1 ≤ x) × (x ≤ 65535)) (sym (cond-true (odd k) (bit_xor (k / 2) 0xB400) (k / 2) e)) (tapped (k / 2) (omega arith))
    by false e =
        let even : (k % 2 ≡ 1) → ⊥ = λ h. grind (arith, nat_tests) in
        subst (λ (x : ℕ). (1 ≤ x) × (x ≤ 65535)) (sym (cond-false (odd k) (bit_xor (k / 2) 0xB400) (k / 2) e)) (omega arith, omega arith)

pub register_laws : TwistLaws register
register_laws = record {
  one_byte = omega arith;
  small = λ k e. omega (arith, (lawful_parts k e).1);
  first_lawful = refl;
  next_lawful = λ k e. let p = lawful_parts k e in let s = shifted_range k p.0 p.1 in parts_lawful (shifted k) s.0 s.1;
}

pub turned_laws : (s : TwistModel) → TwistLaws s → TwistLaws (turned s)
turned_laws s laws = record {
  one_byte = xor_lt 8 s.kind 64 laws.one_byte (omega arith);
  small = laws.small;
  first_lawful = laws.first_lawful;
  next_lawful = laws.next_lawful;
}

twice_not : (b x : Bool) → cond b (not (cond b (not x) x)) (cond b (not x) x) ≡ x
twice_not true true = refl
twice_not true false = refl
twice_not false x = refl

pub turned_twice : TurnedTwice
turned_twice s =
    let kind : bit_xor (bit_xor s.kind 64) 64 ≡ s.kind = xor_assoc s.kind 64 64 ∙ xor_zero_r s.kind in
    λ i. record {
      kind = kind i;
      lawful = s.lawful;
      first = s.first;
      bit = λ m t c r. twice_not (odd t) (s.bit m t c r) i;
      next = s.next;
    }

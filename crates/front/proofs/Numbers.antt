-- The number whose decimal text a text is.
use Rattle.std.proofs.Common.{◌≡◌, ℕ, ◌+◌, ◌^◌, ◌<◌, ◌≤◌, Bool, true, false, ◌&&◌, eqb, leb, List, length, get_or, Some, None, IfSome, Ok, Err, Result, decimal, sym, refl, ap, ◌∙◌, subst, inl, inr, arith}
use lib.Pointwise.{pointwise}
use Rattle.std.specs.Cmp.Lexicographic.{same_text}
use Rattle.std.proofs.lemmas.Cmp.{nat_list_eq_equiv}
use Rattle.std.specs.Int.{IsInRange}
use Rattle.std.specs.Result.{MatchResult, result_ok}
use Rattle.std.specs.Bool.{then_some}
use Rattle.std.specs.Str.{IsUtf8}
use Rattle.std.specs.Str.Parse.{AllDigits, digits_value, ParsesUnsigned}
use Rattle.std.proofs.lemmas.Option.{none-some, same_Some}
use Rattle.std.proofs.lemmas.Bool.{le-leb, lt-leb, leb-true, and_parts, cases_lt}
use Rattle.std.proofs.lemmas.Fmt.{decimal_digit, decimal_nonempty, length-decimal-le, decimal_is_IsNumeral, first_decimal, decimal_injective, decimal-digits_value, parse-decimal, IsAscii-decimal}
use Rattle.std.proofs.lemmas.Str.{IsUtf8-from_ascii}
use Rattle.std.proofs.lemmas.Str.Parse.{IsNumeralModel, numerals_by_value, tells_digits, digit_at, parse_plain}
use Rattle.lattice.proofs.Firsts.{first-none, first_some}
use Rattle.front.specs.Numbers.{number_up_to}

by_false : (b : Bool) → (b ≡ true → ⊥) → b ≡ false
by_false true h = absurd (h refl)
by_false false h = refl

-- no number's text
pub none_up_to : (most : ℕ) (text : List ℕ) → ((k : ℕ) → 1 ≤ k → k ≤ most → text ≡ decimal k → ⊥) → number_up_to most text ≡ None
none_up_to most text never =
    first-none (most + 1) (λ k. leb 1 k && pointwise eqb text (decimal k)) (λ k l. by_false (leb 1 k && pointwise eqb text (decimal k))
    (λ e. let p = and_parts (leb 1 k) (pointwise eqb text (decimal k)) e in never k (leb-true 1 k p.0) (omega arith) (same_text text (decimal k) (sym p.1))))

-- that of v
pub some_up_to : (most : ℕ) (text : List ℕ) (v : ℕ) → most < 2 ^ 64 → 1 ≤ v → v ≤ most → text ≡ decimal v → number_up_to most text ≡ Some v
some_up_to most text v fits low high is =
    first_some (most + 1) (λ k. leb 1 k && pointwise eqb text (decimal k)) v (omega arith)
    (ap (λ (b : Bool). b && pointwise eqb text (decimal v)) (le-leb 1 v low) ∙ subst (λ (t : List ℕ). pointwise eqb text t ≡ true) is (nat_list_eq_equiv.refl text))
    (λ j l. by_false (leb 1 j && pointwise eqb text (decimal j))
    (λ e.
    let p = and_parts (leb 1 j) (pointwise eqb text (decimal j)) e in
    let s : j ≡ v = decimal_injective j v (omega arith) (omega arith) (sym (same_text text (decimal j) (sym p.1)) ∙ is) in
    omega arith))

-- a text of digits that begins with no sign and no zero
own : IsNumeralModel (AllDigits 10) (digits_value 10)
own = numerals_by_value (AllDigits 10) tells_digits

-- what is told of a result of which only the value is kept
pub if_none : {T E : Type 0} (P : T → Type 0) (Q : E → Type 0) (G : Type 0) (r : Result T E) → None ≡ result_ok r → MatchResult r P Q → ((e : E) → Q e → G) → G
if_none P Q G (Ok x) none told then = absurd (none-some x none)
if_none P Q G (Err e) none told then = then e told

pub is_kept : {T E : Type 0} (r : Result T E) (x : T) → Some x ≡ result_ok r → r ≡ Ok x
is_kept (Ok y) x some = ap Ok (same_Some y x (sym some))
is_kept (Err e) x some = absurd (none-some x (sym some))

module _ (most : ℕ) (small : most < 2 ^ 32) (text : List ℕ) where
  pub empty_none : length text ≡ 0 → number_up_to most text ≡ None
  empty_none e = none_up_to most text (λ k low high is. omega (arith, e, ap length is, decimal_nonempty k (omega (arith, high, small))))

  pub long_none : 10 < length text → number_up_to most text ≡ None
  long_none long = none_up_to most text (λ k low high is. omega (arith, long, ap length is, length-decimal-le 10 k (omega arith) (omega (arith, high, small)) (omega (arith, high, small))))

  -- a decimal text begins with a digit from 1 to 9
  pub stray_none : (IsInRange 49 57 (get_or text 0 0) → ⊥) → number_up_to most text ≡ None
  stray_none outside = none_up_to most text (λ k low high is.
      let fits : k < 2 ^ 64 = omega (arith, high, small) in
      let digit = digit_at (decimal k) 0 (decimal_is_IsNumeral k fits).0.1 (decimal_nonempty k fits) in
      let same : get_or text 0 0 ≡ get_or (decimal k) 0 0 = ap (λ (t : List ℕ). get_or t 0 0) is in
      outside (omega (arith, first_decimal k (omega (arith, low)) fits, same), omega (arith, digit.1, same)))

  pub no_text_none : (IsUtf8 text → ⊥) → number_up_to most text ≡ None
  no_text_none foreign = none_up_to most text (λ k low high is. foreign (subst IsUtf8 (sym is) (IsUtf8-from_ascii (decimal k) (IsAscii-decimal k (omega (arith, high, small))))))

  module _ (E : Type 0) where
    -- what is read of a number's text is the number
    read : (r : Result ℕ E) → ParsesUnsigned 32 10 text r → (k : ℕ) → k ≤ most → text ≡ decimal k → r ≡ Ok k
    read r parsed k high is = parse-decimal 32 k text r (omega (arith, high, small)) (omega (arith, high, small)) is parsed

    pub unread_none : (r : Result ℕ E) → None ≡ result_ok r → ParsesUnsigned 32 10 text r → number_up_to most text ≡ None
    unread_none r none parsed = none_up_to most text (λ k low high is. none-some k (none ∙ ap result_ok (read r parsed k high is)))

    module _ (v : ℕ) (parsed : ParsesUnsigned {E = E} 32 10 text (Ok v)) where
      large_none : most < v → number_up_to most text ≡ None
      large_none over = none_up_to most text (λ k low high is. let same : v ≡ k = cc (read (Ok v) parsed k high is) in omega (arith, over, high, same))

      module _ (first : IsInRange 49 57 (get_or text 0 0)) where
        written : text ≡ decimal v
        written =
            let p = parse_plain own {E = E} 32 text (Ok v) parsed (λ e. omega (arith, first.0, e)) in
            sym (ap decimal p.1 ∙ decimal-digits_value own text p.0.0 p.0.1 (λ z. absurd (omega (arith, first.0, z))) (omega (arith, p.0.2)))

        one_or_more : 1 ≤ v
        one_or_more =
            elim (cases_lt v 1) [
              | inl none ↦
                  let zero : v ≡ 0 = omega (arith, none) in
                  let z : get_or text 0 0 ≡ 48 = ap (λ (t : List ℕ). get_or t 0 0) (written ∙ ap decimal zero ∙ decimal_digit 0 (omega arith)) in
                  absurd (omega (arith, first.0, z))
              | inr some ↦ some
            ]

        some_number : v ≤ most → number_up_to most text ≡ Some v
        some_number fits = some_up_to most text v (omega (arith, small)) one_or_more fits written

        -- the number, if it is not too large
        pub limited_number : then_some (leb v most) v ≡ number_up_to most text
        limited_number =
            elim (cases_lt most v) [
              | inl over ↦ ap (λ (b : Bool). then_some b v) (lt-leb v most over) ∙ sym (large_none over)
              | inr fits ↦ ap (λ (b : Bool). then_some b v) (le-leb v most fits) ∙ sym (some_number fits)
            ]

        pub limited_range : IfSome (then_some (leb v most) v) (λ n. (1 ≤ n) × (n ≤ most))
        limited_range =
            elim (cases_lt most v) [
              | inl over ↦ subst (λ (b : Bool). IfSome (then_some b v) (λ n. (1 ≤ n) × (n ≤ most))) (sym (lt-leb v most over)) tt
              | inr fits ↦ subst (λ (b : Bool). IfSome (then_some b v) (λ n. (1 ≤ n) × (n ≤ most))) (sym (le-leb v most fits)) (one_or_more, fits)
            ]

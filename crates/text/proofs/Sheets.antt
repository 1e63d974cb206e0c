-- Texts put on a sheet one behind the other.
use Rattle.std.proofs.Common.{◌≡◌, ℕ, ◌+◌, ◌-◌, ◌^◌, ◌≤◌, min, List, [], ◌++◌, length, refl, sym, ap, ◌∙◌, add-one, append-nil, arith, ℤ, w64, SFits, to_z, of_z}
use Rattle.std.specs.Fmt.{signed_decimal}
use Rattle.std.proofs.lemmas.List.{drop_all}
use Rattle.std.proofs.lemmas.Int.{to_z-of_z}
use Rattle.text.specs.declared.sheet.Sheet.{Sheet}
use Rattle.text.specs.Buffers.{over}
use Rattle.text.specs.Sheets.{Adds}
use Rattle.text.specs.Texts.{texts}
use Rattle.text.proofs.Places as places

-- nothing
pub adds_none : (a : Sheet) → Adds [] a a
adds_none a = record { puts = places.puts_none a.out.now a.at a.counted; same_buffer = refl }

-- a second text behind a first
pub adds_then : {s t : List ℕ} {a b c : Sheet} → Adds s a b → Adds t b c → Adds (s ++ t) a c
adds_then {a = a} first second = record { puts = places.puts_then a.short first.puts second.puts; same_buffer = second.same_buffer ∙ first.same_buffer }

-- the same text in other words
pub adds_same : {s t : List ℕ} {a b : Sheet} → s ≡ t → Adds s a b → Adds t a b
adds_same is first = record { puts = places.puts_same is first.puts; same_buffer = first.same_buffer }

-- a signed number, as the machine holds it
pub adds_signed : {x : ℤ} {a b : Sheet} → SFits w64 x → Adds (signed_decimal (to_z w64 (of_z w64 x))) a b → Adds (signed_decimal x) a b
adds_signed {x = x} fits = adds_same (ap signed_decimal (to_z-of_z w64 x fits))

-- no text yet, and one text more
pub adds_start : (f : ℕ → List ℕ) (a : Sheet) → Adds (texts 0 f) a a
unfolding texts
adds_start f a = adds_none a

pub adds_more : (n : ℕ) (f : ℕ → List ℕ) {a b c : Sheet} → Adds (texts n f) a b → Adds (f n) b c → Adds (texts (n + 1) f) a c
unfolding texts
adds_more n f before last = adds_same (sym (ap (λ (k : ℕ). texts k f) (add-one n))) (adds_then before last)

-- on a new sheet: the text's length, and the buffer after a text that fits
pub measured : {text : List ℕ} {a b : Sheet} → a.at ≡ 0 → Adds text a b → b.at ≡ min (length text) (2 ^ 64 - 1)
measured {text = text} {a = a} {b = b} new text_put = places.measured (rw new at text_put.puts)

pub filled : {text : List ℕ} {a b : Sheet} → a.at ≡ 0 → length text ≤ length a.out.now → Adds text a b → (b.at ≡ length text) × (b.out.now ≡ over text a.out.now)
filled {text = text} {a = a} {b = b} new l text_put = places.filled a.short l (rw new at text_put.puts)

-- the buffer after a text as long as it
pub covered : {text : List ℕ} {a b : Sheet} → a.at ≡ 0 → length text ≡ length a.out.now → Adds text a b → b.out.now ≡ text
covered {text = text} {a = a} new full text_put =
    (filled new (omega (arith, full)) text_put).1 ∙ ap (λ (l : List ℕ). text ++ l) (drop_all (length text) a.out.now (omega (arith, full))) ∙ append-nil text

-- One record at the front of bytes: what its header says, and that nothing else looks so.
use Rattle.std.proofs.Common.{◌≡◌, ℕ, ◌+◌, ◌^◌, ◌<◌, ◌≤◌, List, [], ◌∷◌, ◌++◌, length, get_or, take, drop, sym, refl, ap, ◌∙◌, subst, arith, length-drop, take-append-drop, drop-drop}
use Rattle.std.proofs.lemmas.List.{take_at, drop_at, length-take-le}
use Rattle.std.proofs.ByRecursion.{All-get_or, All-take, All-drop, All-append}
use Rattle.std.specs.List.{AllByRecursion}
use Rattle.records.specs.Format.{Bytes, number, le, header_of, check_of, record_of}
use Rattle.records.specs.Walk.{whole_of, payload_of}
use Rattle.records.specs.Files.{Rec, rec, Fine, laid}
use Rattle.records.proofs.Numbers.{le_bytes, number-le, le-number, number_under}

-- the header of a record that was written
pub kind_of : (k : ℕ) (p rest : List ℕ) → (header_of (record_of k p ++ rest)).kind ≡ k
unfolding record_of
kind_of k p rest = refl

pub length_of_lem : (k : ℕ) (p rest : List ℕ) → length p < 2 ^ 24 → (header_of (record_of k p ++ rest)).length ≡ length p
unfolding record_of
length_of_lem k p rest short = number-le 3 (length p) short

check_of_under : (p : List ℕ) → check_of p < 2 ^ 32
check_of_under p = omega arith

pub check_of_lem : (k : ℕ) (p rest : List ℕ) → (header_of (record_of k p ++ rest)).check ≡ check_of p
unfolding record_of
check_of_lem k p rest = number-le 4 (check_of p) (check_of_under p)

pub length_record : (k : ℕ) (p : List ℕ) → length (record_of k p) ≡ 8 + length p
unfolding record_of
length_record k p = omega arith

behind : (k : ℕ) (p rest : List ℕ) → drop 8 (record_of k p ++ rest) ≡ p ++ rest
unfolding record_of
behind k p rest = refl

pub payload_of_lem : (k : ℕ) (p rest : List ℕ) → length p < 2 ^ 24 → payload_of (record_of k p ++ rest) ≡ p
payload_of_lem k p rest short = ap (take (header_of (record_of k p ++ rest)).length) (behind k p rest) ∙ take_at p rest _ (sym (length_of_lem k p rest short))

pub rest_of : (k : ℕ) (p rest : List ℕ) → length p < 2 ^ 24 → drop (whole_of (record_of k p ++ rest)) (record_of k p ++ rest) ≡ rest
rest_of k p rest short = drop_at (record_of k p) rest _ (omega (arith, length_record k p, length_of_lem k p rest short))

-- bytes that begin with two records begin with one and the same
pub same_record : (k l : ℕ) (p q x y : List ℕ) → length p < 2 ^ 24 → length q < 2 ^ 24 → record_of k p ++ x ≡ record_of l q ++ y → (k ≡ l) × (p ≡ q) × (x ≡ y)
same_record k l p q x y sp sq e = (
  sym (kind_of k p x) ∙ ap (λ bs. (header_of bs).kind) e ∙ kind_of l q y,
  sym (payload_of_lem k p x sp) ∙ ap payload_of e ∙ payload_of_lem l q y sq,
  sym (rest_of k p x sp) ∙ ap (λ bs. drop (whole_of bs) bs) e ∙ rest_of l q y sq,
)

-- eight bytes and more, in their parts
eight : (bs : List ℕ) → 8 ≤ length bs → bs ≡ get_or bs 0 0 ∷ (take 3 (drop 1 bs) ++ (take 4 (drop 4 bs) ++ drop 8 bs))
eight [] h = absurd (omega arith)
eight (_ ∷ []) h = absurd (omega arith)
eight (_ ∷ _ ∷ []) h = absurd (omega arith)
eight (_ ∷ _ ∷ _ ∷ []) h = absurd (omega arith)
eight (_ ∷ _ ∷ _ ∷ _ ∷ []) h = absurd (omega arith)
eight (_ ∷ _ ∷ _ ∷ _ ∷ _ ∷ []) h = absurd (omega arith)
eight (_ ∷ _ ∷ _ ∷ _ ∷ _ ∷ _ ∷ []) h = absurd (omega arith)
eight (_ ∷ _ ∷ _ ∷ _ ∷ _ ∷ _ ∷ _ ∷ []) h = absurd (omega arith)
eight (_ ∷ _ ∷ _ ∷ _ ∷ _ ∷ _ ∷ _ ∷ _ ∷ _) h = refl

-- the bytes at `at`, as a number and back
module _ (w at : ℕ) (bs : List ℕ) (all : Bytes bs) (long : at + w ≤ length bs) where
  width : length (take w (drop at bs)) ≡ w
  width = length-take-le w (drop at bs) (omega (arith, length-drop at bs))

  these_bytes : Bytes (take w (drop at bs))
  these_bytes = All-take (λ b. b < 256) w (drop at bs) (All-drop (λ b. b < 256) at bs all)

  written : le w (number (take w (drop at bs))) ≡ take w (drop at bs)
  written = subst (λ n. le n (number (take w (drop at bs))) ≡ take w (drop at bs)) width (le-number (take w (drop at bs)) these_bytes)

  under : number (take w (drop at bs)) < 256 ^ w
  under = subst (λ n. number (take w (drop at bs)) < 256 ^ n) width (number_under (take w (drop at bs)) these_bytes)

pub length_payload : (bs : List ℕ) → whole_of bs ≤ length bs → length (payload_of bs) ≡ (header_of bs).length
length_payload bs whole = length-take-le (header_of bs).length (drop 8 bs) (omega (arith, length-drop 8 bs))

-- bytes that begin with a whole record whose check fits begin with `record_of` its kind and payload
pub is_record : (bs : List ℕ) → Bytes bs → whole_of bs ≤ length bs → check_of (payload_of bs) ≡ (header_of bs).check → bs ≡ record_of (header_of bs).kind (payload_of bs) ++ drop (whole_of bs) bs
unfolding record_of
is_record bs all whole fits =
    let size = sym (written 3 1 bs all (omega arith)) ∙ ap (le 3) (sym (length_payload bs whole)) in
    let check = sym (written 4 4 bs all (omega arith)) ∙ ap (le 4) (sym fits) in
    let back : drop 8 bs ≡ payload_of bs ++ drop (whole_of bs) bs = sym (ap (λ l. payload_of bs ++ l) (sym (drop-drop (header_of bs).length 8 bs)) ∙ take-append-drop (header_of bs).length (drop 8 bs)) in
    eight bs (omega arith) ∙ (λ i. get_or bs 0 0 ∷ (size i ++ (check i ++ back i)))

pub is_fine : (bs : List ℕ) → Bytes bs → whole_of bs ≤ length bs → Fine (rec (header_of bs).kind (payload_of bs))
is_fine bs all whole = record {
  one_byte = All-get_or (λ b. b < 256) bs 0 0 (omega arith) all;
  short = omega (arith, length_payload bs whole, under 3 1 bs all (omega arith));
  bytes = All-take (λ b. b < 256) (header_of bs).length (drop 8 bs) (All-drop (λ b. b < 256) 8 bs all);
}

-- what is written is bytes
pub record_bytes : (r : Rec) → Fine r → Bytes (record_of r.kind r.payload)
unfolding record_of
record_bytes r fine = (fine.one_byte, All-append (λ b. b < 256) (le 3 (length r.payload)) (le 4 (check_of r.payload) ++ r.payload) (le_bytes 3 (length r.payload)) (All-append (λ b. b < 256) (le 4 (check_of r.payload)) r.payload (le_bytes 4 (check_of r.payload)) fine.bytes))

pub laid_bytes : (rs : List Rec) → AllByRecursion Fine rs → Bytes (laid rs)
laid_bytes [] fine = tt
laid_bytes (r ∷ rs) fine = All-append (λ b. b < 256) (record_of r.kind r.payload) (laid rs) (record_bytes r fine.0) (laid_bytes rs fine.1)

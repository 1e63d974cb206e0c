-- The book of a run, written and read, and read and written.
use Rattle.std.proofs.Common.{◌≡◌, ℕ, zero, suc, ◌+◌, ◌*◌, ◌/◌, ◌%◌, ◌<◌, ◌≤◌, true, leb, List, [], ◌∷◌, ◌++◌, map, length, get_or, take, drop, ℤ, nat_abs, sym, refl, ap, ◌∙◌, arith, w64, SFits, to_z, of_z}
use Rattle.std.specs.List.{range_with_len, flat_map}
use Rattle.std.proofs.lemmas.List.{ext_get_or, drop-drop, drop_all}
use Rattle.std.proofs.lemmas.Int.{to_z-of_z, ints}
use Rattle.std.proofs.lemmas.Bool.{and_parts, leb-true}
use Rattle.lattice.specs.declared.vector.Vector.{Vector as Account}
use Rattle.book.specs.Accounts.{accounts, none, account_fits, most_push}
use Rattle.records.specs.Format.{Bytes, number, le}
use Rattle.records.proofs.Numbers.{number-le}
use Rattle.job.specs.Books.{book_length, number_of, account_in, accounts_of}
use Rattle.job.specs.Grounds.{step_limit}
use Rattle.job.specs.Keeps.{BookKeeps}
use Rattle.job.proofs.Readings.{length-accounts, account_of}
use Rattle.encode.specs.Encodings.{account_bytes, book_bytes}
use Rattle.encode.proofs.Lengths.{length_book}
use Rattle.codec.proofs.Numbers.{signed_again, of_z_under}

-- from account k on
book_from : (book : List Account) (k : ℕ) → k < length book → drop (16 * k) (book_bytes book) ≡ account_bytes (get_or book k none) ++ book_bytes (drop (suc k) book)
unfolding book_bytes
book_from [] k l = absurd (omega arith)
book_from (a ∷ more) zero l = refl
book_from (a ∷ more) (suc k) l =
    let more_of : 16 * suc k ≡ 16 + 16 * k = omega arith in
    ap (λ n. drop n (account_bytes a ++ flat_map account_bytes more)) more_of ∙ sym (drop-drop (16 * k) 16 (account_bytes a ++ flat_map account_bytes more)) ∙ book_from more k (omega arith)

-- the numbers of account k
word : (z : ℤ) → SFits w64 z → to_z w64 (number (le 8 (of_z w64 z))) ≡ z
word z fits = ap (to_z w64) (number-le 8 (of_z w64 z) (of_z_under z fits)) ∙ to_z-of_z w64 z fits

module _ (book : List Account) (k : ℕ) (l : k < length book) where
  pub along_read : SFits w64 (get_or book k none).along → number_of (book_bytes book) (2 * k) ≡ (get_or book k none).along
  along_read fits =
      let place : 8 * (2 * k) ≡ 16 * k = omega arith in
      ap (λ n. to_z w64 (number (take 8 (drop n (book_bytes book))))) place ∙ ap (λ l. to_z w64 (number (take 8 l))) (book_from book k l) ∙ word (get_or book k none).along fits

  pub across_read : SFits w64 (get_or book k none).across → number_of (book_bytes book) (2 * k + 1) ≡ (get_or book k none).across
  across_read fits =
      let place : 8 * (2 * k + 1) ≡ 16 * k + 8 = omega arith in
      ap (λ n. to_z w64 (number (take 8 (drop n (book_bytes book))))) place ∙ ap (λ l. to_z w64 (number (take 8 l))) (sym (drop-drop 8 (16 * k) (book_bytes book)) ∙ ap (drop 8) (book_from book k l)) ∙ word (get_or book k none).across fits

-- numbers within the range fit their eight bytes
in_range : (z : ℤ) (steps : ℕ) → steps ≤ step_limit → nat_abs z ≤ most_push * steps → SFits w64 z
in_range z steps few small = omega (arith, ints)

pub record Fits (steps : ℕ) (a : Account) : Type 0 where
  pub along_small : nat_abs a.along ≤ most_push * steps
  pub across_small : nat_abs a.across ≤ most_push * steps
  pub along_fits : SFits w64 a.along
  pub across-fits : SFits w64 a.across

pub fits : (steps : ℕ) (a : Account) → steps ≤ step_limit → account_fits steps a ≡ true → Fits steps a
fits steps a few e =
    let p = and_parts (leb (nat_abs a.along) (most_push * steps)) (leb (nat_abs a.across) (most_push * steps)) e in
    let x = leb-true _ _ p.0 in
    let y = leb-true _ _ p.1 in
    record { along_small = x; across_small = y; along_fits = in_range a.along steps few x; across-fits = in_range a.across steps few y }

module _ (steps : ℕ) (few : steps ≤ step_limit) (book : List Account) (long : length book ≡ accounts) (fit : (k : ℕ) → k < accounts → account_fits steps (get_or book k none) ≡ true) where
  pub book_read : accounts_of (book_bytes book) ≡ book
  book_read =
      ext_get_or none (accounts_of (book_bytes book)) book (length-accounts (book_bytes book) ∙ sym long) (λ k l.
      let within : k < accounts = omega (arith, length-accounts (book_bytes book)) in
      let f = fits steps (get_or book k none) few (fit k within) in
      account_of (book_bytes book) k within ∙ (λ i. record { along = along_read book k (omega arith) f.along_fits i; across = across_read book k (omega arith) f.across-fits i }))

  number_small : (k : ℕ) → k < accounts → (nat_abs (number_of (book_bytes book) (2 * k)) ≤ most_push * steps) × (nat_abs (number_of (book_bytes book) (2 * k + 1)) ≤ most_push * steps)
  number_small k l =
      let f = fits steps (get_or book k none) few (fit k l) in
      (omega (arith, ap nat_abs (along_read book k (omega arith) f.along_fits), f.along_small), omega (arith, ap nat_abs (across_read book k (omega arith) f.across-fits), f.across_small))

  pub book_keeps : BookKeeps steps (book_bytes book)
  book_keeps = record {
    long = omega (arith, length_book book);
    each = λ i l. by i (i / 2) (i % 2) (omega arith) (omega arith) (omega arith);
  }
    where
      by : (i k b : ℕ) → i ≡ 2 * k + b → b < 2 → k < accounts → nat_abs (number_of (book_bytes book) i) ≤ most_push * steps
      by i k zero e s l = let same : i ≡ 2 * k = omega arith in omega (arith, (number_small k l).0, ap (λ n. nat_abs (number_of (book_bytes book) n)) same)
      by i k (suc zero) e s l = omega (arith, (number_small k l).1, ap (λ n. nat_abs (number_of (book_bytes book) n)) e)
      by i k (suc (suc b)) e s l = absurd (omega arith)

-- bytes of a book, read and written
module _ (bs : List ℕ) (all : Bytes bs) where
  account_written : (k : ℕ) → 16 * k + 16 ≤ length bs → account_bytes (account_in bs k) ++ drop (16 * (k + 1)) bs ≡ drop (16 * k) bs
  account_written k long =
      let first : 8 * (2 * k) ≡ 16 * k = omega arith in
      let second : 8 * (2 * k) + 8 ≡ 8 * (2 * k + 1) = omega arith in
      let third : 16 * (k + 1) ≡ 8 * (2 * k + 1) + 8 = omega arith in
      ap (λ n. account_bytes (account_in bs k) ++ drop n bs) third
      ∙ ap (λ l. le 8 (of_z w64 (number_of bs (2 * k))) ++ l) (signed_again bs all (8 * (2 * k + 1)) (omega arith) ∙ ap (λ n. drop n bs) (sym second))
      ∙ signed_again bs all (8 * (2 * k)) (omega arith) ∙ ap (λ n. drop n bs) first

  from : (n k : ℕ) → 16 * (k + n) ≡ length bs → flat_map account_bytes (map (account_in bs) (range_with_len k n)) ≡ drop (16 * k) bs
  from zero k long = sym (drop_all (16 * k) bs (omega arith))
  from (suc n) k long = ap (λ l. account_bytes (account_in bs k) ++ l) (from n (k + 1) (omega arith)) ∙ account_written k (omega arith)

  pub book_written : length bs ≡ book_length → book_bytes (accounts_of bs) ≡ bs
  unfolding book_bytes accounts_of
  book_written long = from 16 0 (omega arith)

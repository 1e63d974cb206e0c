-- A file that is read writes back, less its skippable records.
use Rattle.std.proofs.Common.{◌≡◌, ℕ, ◌<◌, List, [], ◌∷◌, map, length, sym, refl, ap, ◌∙◌, subst, arith}
use lib.ListN.{length-map}
use Rattle.std.specs.List.{AllByRecursion}
use Rattle.std.proofs.lemmas.List.{nil_from_length, get_or-map}
use Rattle.std.proofs.ByRecursion.{All-weaker, All-map, all_kept_by, All-get_or}
use Rattle.gas.specs.Model.{GasModel}
use Rattle.gas.specs.Laws.{GasLaws}
use Rattle.twist.specs.Model.{TwistModel, TwistLaws}
use Rattle.records.specs.Format.{Bytes}
use Rattle.records.specs.Files.{Rec, rec, Fine, laid, kept, in_order, IsFile, less}
use Rattle.records.specs.Layout.{numbered}
use Rattle.records.specs.Walk.{largest_file}
use Rattle.records.proofs.Rows.{numbered_payloads, paired, kept_paired}
use Rattle.records.proofs.Sifts.{sifts}
use Rattle.job.specs.Jobs.{bytes_at, tunnel_in}
use Rattle.job.specs.Keeps.{Keeps}
use Rattle.job.proofs.Sound.{sound_tunnel}
use Rattle.encode.specs.Encodings.{file_of}
use Rattle.codec.specs.Storable.{Storable}
use Rattle.codec.specs.Trips.{ReadWritesBack}
use Rattle.codec.proofs.Heads.{head_written}
use Rattle.codec.proofs.Books.{book_written}

-- six payloads, under the kinds in order
six : (ps : List (ℕ × List ℕ)) → length ps ≡ 6
    → paired in_order (map (λ p. p.1) ps) ≡ rec 2 (bytes_at 0 ps) ∷ rec 3 (bytes_at 1 ps) ∷ rec 4 (bytes_at 2 ps) ∷ rec 5 (bytes_at 3 ps) ∷ rec 6 (bytes_at 4 ps) ∷ rec 1 (bytes_at 5 ps) ∷ []
six [] l = absurd (omega arith)
six (_ ∷ []) l = absurd (omega arith)
six (_ ∷ _ ∷ []) l = absurd (omega arith)
six (_ ∷ _ ∷ _ ∷ []) l = absurd (omega arith)
six (_ ∷ _ ∷ _ ∷ _ ∷ []) l = absurd (omega arith)
six (_ ∷ _ ∷ _ ∷ _ ∷ _ ∷ []) l = absurd (omega arith)
six (_ ∷ _ ∷ _ ∷ _ ∷ _ ∷ _ ∷ []) l = refl
six (_ ∷ _ ∷ _ ∷ _ ∷ _ ∷ _ ∷ _ ∷ _) l = absurd (omega arith)

-- what is read is storable
storable : (gas : GasModel) (twist : TwistModel) (ps : List (ℕ × List ℕ)) → GasLaws gas → TwistLaws twist → Keeps gas twist ps → Storable (tunnel_in gas twist ps)
storable gas twist ps lawful twisted k = record { sound = sound_tunnel gas twist lawful twisted ps k; period = k.head.period; steps = k.head.steps }

module _ (file : List ℕ) (rs : List Rec) (is : IsFile largest_file file rs) where
  long : length (numbered rs) ≡ 6
  long =
      sym (length-map (numbered rs) (λ p. p.1)) ∙ ap length (numbered_payloads 0 rs) ∙ length-map (kept rs) (λ r. r.payload)
      ∙ sym (length-map (kept rs) (λ r. r.kind)) ∙ ap length is.order

  -- all payloads are bytes
  all : AllByRecursion Bytes (map (λ p. p.1) (numbered rs))
  all = subst (AllByRecursion Bytes) (sym (numbered_payloads 0 rs)) (All-map Bytes (λ r. r.payload) (kept rs) (All-weaker Fine (λ r. Bytes r.payload) (λ r f. f.bytes) (kept rs) (all_kept_by _ Fine rs is.fine)))

  pub payload_bytes : (k : ℕ) → k < 6 → Bytes (bytes_at k (numbered rs))
  payload_bytes k l =
      subst Bytes (get_or-map (λ p. p.1) (numbered rs) k (0, []) [] (omega (arith, long))) (All-get_or Bytes (map (λ p. p.1) (numbered rs)) k [] (omega (arith, long, length-map (numbered rs) (λ p. p.1))) all)

  pub kept_is : kept rs ≡ rec 2 (bytes_at 0 (numbered rs)) ∷ rec 3 (bytes_at 1 (numbered rs)) ∷ rec 4 (bytes_at 2 (numbered rs)) ∷ rec 5 (bytes_at 3 (numbered rs)) ∷ rec 6 (bytes_at 4 (numbered rs)) ∷ rec 1 (bytes_at 5 (numbered rs)) ∷ []
  kept_is = kept_paired rs (map (λ p. p.1) (numbered rs)) is.order refl ∙ six (numbered rs) long

pub read_writes_back : ReadWritesBack
unfolding file_of
read_writes_back gas twist file rs g t is k =
    let ps = numbered rs in
    let head = head_written gas twist ps k.head_long (payload_bytes file rs is 0 (omega arith)) k.head.gas_kind k.head.twist_kind in
    let book = book_written (bytes_at 4 ps) (payload_bytes file rs is 4 (omega arith)) k.book.long in
    let end = nil_from_length (bytes_at 5 ps) k.end in (
      storable gas twist ps g t k,
      (λ i. laid (rec 2 (head i) ∷ rec 3 (bytes_at 1 ps) ∷ rec 4 (bytes_at 2 ps) ∷ rec 5 (bytes_at 3 ps) ∷ rec 6 (book i) ∷ rec 1 (sym end i) ∷ []))
          ∙ ap laid (sym (kept_is file rs is)) ∙ sym (sifts rs is.fine) ∙ ap less (sym is.joins),
    )

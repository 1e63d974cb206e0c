-- A tunnel that is written reads back.
use Rattle.std.proofs.Common.{◌≡◌, ℕ, ◌+◌, ◌-◌, ◌*◌, ◌<◌, ◌≤◌, true, false, List, [], ◌∷◌, ◌++◌, length, get_or, sym, refl, ap, subst, ⊎_elim, arith, w64, of_z}
use Rattle.std.proofs.lemmas.Bool.{cases_lt}
use Rattle.dynamics.specs.Roles.{highest_map_byte}
use Rattle.std.specs.List.{flat_map, AllByRecursion}
use Rattle.std.proofs.ByRecursion.{All-append, All-from_get_or}
use Rattle.gas.specs.Model.{GasModel, states}
use Rattle.gas.specs.Laws.{GasLaws}
use Rattle.gas.specs.Soundness.{SoundTable}
use Rattle.lattice.specs.declared.vector.Vector.{Vector as Account}
use Rattle.dynamics.specs.Tunnels.{RunState, Tunnel, cells}
use Rattle.dynamics.specs.Soundness.{SoundRun, SoundTunnel}
use Rattle.records.specs.Format.{Bytes, le}
use Rattle.records.specs.Files.{laid, IsFile}
use Rattle.records.specs.Layout.{numbered}
use Rattle.records.specs.Walk.{largest_file}
use Rattle.records.proofs.Numbers.{le_bytes}
use Rattle.records.proofs.Rows.{fine_laid}
use Rattle.job.specs.Heads.{head_of}
use Rattle.job.specs.Jobs.{tunnel_in}
use Rattle.job.specs.Keeps.{HeadKeeps, Stretch, BookKeeps, Keeps}
use Rattle.encode.specs.Encodings.{head_bytes, account_bytes, book_bytes, records_of, file_of, file_length}
use Rattle.encode.proofs.Lengths.{few_states, length_file}
use Rattle.codec.specs.Storable.{Storable}
use Rattle.codec.specs.Trips.{WrittenReadsBack}
use Rattle.codec.proofs.Heads.{head_is, head_read}
use Rattle.codec.proofs.Books.{book_read, book_keeps}

-- what is written is bytes
then_bytes : (w x : ℕ) (more : List ℕ) → Bytes more → Bytes (le w x ++ more)
then_bytes w x more b = All-append (λ b. b < 256) (le w x) more (le_bytes w x) b

head_bytes_lem : (s : RunState) → SoundRun s → Bytes (head_bytes s)
head_bytes_lem s sound =
    let late = le 4 s.steps ++ le 4 s.mark in
    let sizes = then_bytes 2 s.height (le 2 s.period ++ late) (then_bytes 2 s.period late (then_bytes 4 s.steps (le 4 s.mark) (le_bytes 4 s.mark))) in
    (sound.gas.one_byte, (sound.twist.one_byte, then_bytes 2 s.width (le 2 s.height ++ (le 2 s.period ++ late)) sizes))

account_bytes_lem : (a : Account) → Bytes (account_bytes a)
account_bytes_lem a = then_bytes 8 (of_z w64 a.along) (le 8 (of_z w64 a.across)) (le_bytes 8 (of_z w64 a.across))

book_bytes_lem : (book : List Account) → Bytes (book_bytes book)
unfolding book_bytes
book_bytes_lem [] = tt
book_bytes_lem (a ∷ more) = All-append (λ b. b < 256) (account_bytes a) (flat_map account_bytes more) (account_bytes_lem a) (book_bytes_lem more)

-- each entry of a sound table is a byte
entries_bytes : (gas : GasModel) (entries : List ℕ) → GasLaws gas → SoundTable gas entries → Bytes entries
entries_bytes gas entries laws sound =
    All-from_get_or (λ b. b < 256) entries 0 (λ i l.
    let few = few_states gas laws in
    let full = sound.full in
    ⊎_elim
    (λ low. let place : 0 * states gas + i ≡ i = omega arith in omega (arith, (sound.each false i low).below, ap (λ k. get_or entries k 0) place))
    (λ high. let place : 1 * states gas + (i - states gas) ≡ i = omega arith in omega (arith, (sound.each true (i - states gas) (omega arith)).below, ap (λ k. get_or entries k 0) place))
    (cases_lt i (states gas)))

file_is : (t : Tunnel) → file_of t ≡ laid (records_of t)
unfolding file_of
file_is t = refl

module _ (t : Tunnel) (st : Storable t) where
  sound : SoundTunnel t
  sound = st.sound

  run : SoundRun t.run
  run = st.sound.run

  head : head_of (head_bytes t.run) ≡ head_is t.run
  head = head_read t.run run st.period st.steps

  long : length (file_of t) ≡ file_length t.run.gas (cells t.run)
  long = length_file t run.entries.full sound.map_long sound.field_long run.book_long

  short : length (file_of t) ≤ largest_file
  short = omega (arith, long, few_states t.run.gas run.gas, run.grid.few)

  bytes : AllByRecursion (λ r. (r.kind < 256) × Bytes r.payload) (records_of t)
  bytes =
      let few = few_states t.run.gas run.gas in
      let map_bytes = All-from_get_or (λ b. b < 256) t.map 0 (λ i l. omega (arith, sound.map i (omega (arith, sound.map_long)))) in
      let field_bytes = All-from_get_or (λ b. b < 256) t.field 0 (λ i l. omega (arith, few, sound.field i (omega (arith, sound.field_long)))) in
      let rules-bytes = entries_bytes t.run.gas t.run.entries run.gas run.entries in
      ((omega arith, head_bytes_lem t.run run), ((omega arith, rules-bytes), ((omega arith, map_bytes), ((omega arith, field_bytes), ((omega arith, book_bytes_lem t.run.book), ((omega arith, tt), tt))))))

  layout : IsFile largest_file (file_of t) (records_of t)
  layout = record {
    joins = file_is t;
    fine = fine_laid (records_of t) bytes (omega (arith, ap length (file_is t), short));
    order = refl;
    last = refl;
    short = short;
  }

  rules : Keeps t.run.gas t.run.twist (numbered (records_of t))
  rules = record {
    head_long = refl;
    head = subst (HeadKeeps t.run.gas t.run.twist) (sym head) (record { gas_kind = refl; twist_kind = refl; grid = run.grid; period = st.period; steps = st.steps; mark = run.mark });
    rules = run.entries;
    map = subst (λ h. Stretch (h.width * h.height) (λ b. b ≤ highest_map_byte) t.map) (sym head) (record { long = sound.map_long; each = sound.map });
    field = subst (λ h. Stretch (h.width * h.height) (λ b. b < states t.run.gas) t.field) (sym head) (record { long = sound.field_long; each = sound.field });
    book = subst (λ h. BookKeeps h.steps (book_bytes t.run.book)) (sym head) (book_keeps t.run.steps st.steps t.run.book run.book_long run.book);
    end = refl;
  }

  says : tunnel_in t.run.gas t.run.twist (numbered (records_of t)) ≡ t
  says =
      let book = book_read t.run.steps st.steps t.run.book run.book_long run.book in
      λ i. record {
        run = record {
          gas = t.run.gas;
          entries = t.run.entries;
          twist = t.run.twist;
          mark = (head i).mark;
          width = (head i).width;
          height = (head i).height;
          period = (head i).period;
          steps = (head i).steps;
          book = book i;
        };
        map = t.map;
        field = t.field;
      }

pub written_reads_back : WrittenReadsBack
written_reads_back t st = record { layout = layout t st; rules = rules t st; says = says t st }

-- No fault is found in payloads exactly if they keep the rules.
use Rattle.std.proofs.Common.{◌≡◌, ℕ, ◌*◌, Bool, true, false, not, ltb, leb, List, length, nat_abs, position, Some, None, Ok, Err, Option, Result, sym, refl, ap, ◌∙◌, arith}
use Rattle.std.proofs.lemmas.Bool.{ltb-false, leb-false, eqb-true, eq-eqb, le-ltb, lt-leb}
use Rattle.std.proofs.lemmas.Bool.Decides.{nat_tests}
use Rattle.lattice.specs.declared.fault.GridFault.{GridFault}
use Rattle.lattice.specs.declared.fault.GridFault.TheVariants.{Width, Height, Area}
use Rattle.lattice.specs.Grids.{Lawful, judged}
use Rattle.lattice.proofs.Firsts.{first-none, none_first}
use Rattle.gas.specs.Model.{GasModel, states}
use Rattle.gas.specs.Soundness.{SoundTable}
use Rattle.gas.specs.Judging.{unless}
use Rattle.gas.proofs.Tables.{taken_if_sound}
use Rattle.twist.specs.Model.{TwistModel}
use Rattle.book.specs.Accounts.{accounts, most_push}
use Rattle.dynamics.specs.Roles.{highest_map_byte}
use Rattle.faults.specs.declared.job.JobFault.{JobFault}
use Rattle.faults.specs.declared.job.JobFault.TheVariants as jobs
use Rattle.job.specs.declared.head.Head.{Head}
use Rattle.job.specs.Heads.{head_length, head_of}
use Rattle.job.specs.Books.{book_length, number_of}
use Rattle.job.specs.Grounds.{or_then, fault_if, fault_at, length_fault, kinds_fault, grid_fault, limits_fault, mark_fault, head_fault, rules_fault, book_fault, longest_period, step_limit}
use Rattle.job.specs.Jobs.{bytes_at, head_in, cells_in, payloads_fault}
use Rattle.job.specs.Keeps.{HeadKeeps, Stretch, BookKeeps, Keeps}
use Rattle.job.proofs.Positions.{none_passes, passes_none}
use Rattle.job.proofs.NoFaults.{pass, both_none, whole_none}

none_if : (b : Bool) (f : JobFault) → fault_if b f ≡ None → b ≡ false
none_if true f e = absurd (let z : ◌≡◌ {A = ℕ} 0 1 = cc in omega arith)
none_if false f e = refl

none_at_all : (f : ℕ → JobFault) (o : Option ℕ) → fault_at f o ≡ None → o ≡ None
none_at_all f None e = refl
none_at_all f (Some k) e = absurd (let z : ◌≡◌ {A = ℕ} 0 1 = cc in omega arith)

not_false : (b : Bool) → not b ≡ false → b ≡ true
not_false true e = refl
not_false false e = sym e

-- a length that is not refused is right
whole : (r n : ℕ) (bytes : List ℕ) → length_fault r n bytes ≡ None → length bytes ≡ n
whole r n bytes e = eqb-true (length bytes) n (not_false _ (none_if _ _ e))

-- a grid that is not refused is lawful
grid_fine : (r : ℕ) (j : Result (Unit {0}) GridFault) → grid_fault r j ≡ None → j ≡ Ok tt
grid_fine r (Ok tt) e = refl
grid_fine r (Err Width) e = absurd (let z : ◌≡◌ {A = ℕ} 0 1 = cc in omega arith)
grid_fine r (Err Height) e = absurd (let z : ◌≡◌ {A = ℕ} 0 1 = cc in omega arith)
grid_fine r (Err Area) e = absurd (let z : ◌≡◌ {A = ℕ} 0 1 = cc in omega arith)

pub judged_lawful : (w h : ℕ) → judged w h ≡ Ok tt → Lawful w h
judged_lawful w h e = record {
  wide = grind (arith, nat_tests);
  not_too_wide = grind (arith, nat_tests);
  high = grind (arith, nat_tests);
  not_too_high = grind (arith, nat_tests);
  even = grind (arith, nat_tests);
  few = grind (arith, nat_tests);
}

pub lawful_judged : (w h : ℕ) → Lawful w h → judged w h ≡ Ok tt
lawful_judged w h l = grind (arith, nat_tests)

-- a head, both ways
head_keeps : (gas : GasModel) (twist : TwistModel) (r : ℕ) (h : Head)
    → kinds_fault gas twist r h ≡ None → limits_fault r h ≡ None → mark_fault twist r h ≡ None → HeadKeeps gas twist h
head_keeps gas twist r h kinds limits mark =
    let k = both_none _ _ kinds in
    let l = both_none _ _ limits in
    let m = both_none (fault_if (ltb longest_period h.period) (jobs.Period r)) _ l.1 in
    record {
      gas_kind = eqb-true _ _ (not_false _ (none_if _ _ k.0));
      twist_kind = eqb-true _ _ (not_false _ (none_if _ _ k.1));
      grid = judged_lawful _ _ (grid_fine r _ l.0);
      period = ltb-false _ _ (none_if _ _ m.0);
      steps = ltb-false _ _ (none_if _ (jobs.Steps r) m.1);
      mark = not_false _ (none_if _ _ mark);
    }

-- stretches of bytes, both ways: each byte passes where none is found that does not
found_none : (r n : ℕ) (f : ℕ → JobFault) (p : ℕ → Bool) (bytes : List ℕ) → or_then (length_fault r n bytes) (fault_at f (position p bytes)) ≡ None → Stretch n (λ b. p b ≡ false) bytes
found_none r n f p bytes e =
    let parts = both_none _ _ e in
    let long = whole r n bytes parts.0 in
    record { long = long; each = λ i l. none_passes p bytes (none_at_all f _ parts.1) i (omega arith) }

none_found : (r n : ℕ) (f : ℕ → JobFault) (p : ℕ → Bool) (bytes : List ℕ) → Stretch n (λ b. p b ≡ false) bytes → or_then (length_fault r n bytes) (fault_at f (position p bytes)) ≡ None
none_found r n f p bytes s =
    pass _ _ (whole_none r n bytes s.long) ∙ ap (fault_at f) (passes_none p bytes (λ i l. s.each i (omega (arith, s.long))))

-- rules, both ways
unless-none : (o : Option ℕ) → o ≡ None → unless o ≡ Ok tt
unless-none o e = ap unless e

none-unless : (o : Option ℕ) → unless o ≡ Ok tt → o ≡ None
none-unless None e = refl
none-unless (Some k) e = absurd (let z : ◌≡◌ {A = ℕ} 0 1 = cc in omega arith)

rules_keep : (gas : GasModel) (r : ℕ) (bytes : List ℕ) → rules_fault gas r bytes ≡ None → SoundTable gas bytes
rules_keep gas r bytes e =
    (taken_if_sound gas bytes).0 (unless-none _ (none_at_all (jobs.Entry r) _ (both_none _ _ e).1))

keep_rules : (gas : GasModel) (r : ℕ) (bytes : List ℕ) → SoundTable gas bytes → rules_fault gas r bytes ≡ None
keep_rules gas r bytes s =
    pass _ _ (whole_none r _ bytes s.full) ∙ ap (fault_at (jobs.Entry r)) (none-unless _ ((taken_if_sound gas bytes).1 s))

-- the book, both ways
book_keeps : (steps r : ℕ) (bytes : List ℕ) → book_fault steps r bytes ≡ None → BookKeeps steps bytes
book_keeps steps r bytes e =
    let p = both_none _ _ e in
    record {
      long = whole r book_length bytes p.0;
      each = λ i l. ltb-false _ _ (none_first (2 * accounts) (λ k. ltb (most_push * steps) (nat_abs (number_of bytes k))) (none_at_all (λ k. jobs.Account r (8 * k)) _ p.1) i l);
    }

keep_book : (steps r : ℕ) (bytes : List ℕ) → BookKeeps steps bytes → book_fault steps r bytes ≡ None
keep_book steps r bytes b =
    pass _ _ (whole_none r book_length bytes b.long)
    ∙ ap (fault_at (λ k. jobs.Account r (8 * k))) (first-none (2 * accounts) (λ k. ltb (most_push * steps) (nat_abs (number_of bytes k))) (λ i l. le-ltb _ _ (b.each i l)))

-- payloads in which no fault is found keep the rules
pub keeps : (gas : GasModel) (twist : TwistModel) (ps : List (ℕ × List ℕ)) → payloads_fault gas twist ps ≡ None → Keeps gas twist ps
keeps gas twist ps e =
    let a = both_none _ _ e in
    let b = both_none _ _ a.1 in
    let c = both_none _ _ b.1 in
    let d = both_none _ _ c.1 in
    let f = both_none _ _ d.1 in
    let h = both_none _ _ a.0 in
    let i = both_none _ _ h.1 in
    let j = both_none _ _ i.1 in
    record {
      head_long = whole _ head_length _ h.0;
      head = head_keeps gas twist _ (head_in ps) i.0 j.0 j.1;
      rules = rules_keep gas _ _ b.0;
      map = let s = found_none _ (cells_in ps) _ (λ b. ltb highest_map_byte b) (bytes_at 2 ps) c.0 in record { long = s.long; each = λ i l. ltb-false _ _ (s.each i l) };
      field = let s = found_none _ (cells_in ps) _ (λ b. leb (states gas) b) (bytes_at 3 ps) d.0 in record { long = s.long; each = λ i l. leb-false _ _ (s.each i l) };
      book = book_keeps (head_in ps).steps _ (bytes_at 4 ps) f.0;
      end = whole _ 0 _ f.1;
    }

head_none : (gas : GasModel) (twist : TwistModel) (r : ℕ) (bytes : List ℕ) → length bytes ≡ head_length → HeadKeeps gas twist (head_of bytes) → head_fault gas twist r bytes ≡ None
head_none gas twist r bytes long k =
    let h = head_of bytes in
    pass _ _ (whole_none r head_length bytes long)
    ∙ (λ j. or_then (or_then (fault_if (not (eq-eqb _ _ k.gas_kind j)) (jobs.GasKind r)) (fault_if (not (eq-eqb _ _ k.twist_kind j)) (jobs.TwistKind r)))
    (or_then (or_then (grid_fault r (lawful_judged h.width h.height k.grid j))
    (or_then (fault_if (le-ltb longest_period h.period k.period j) (jobs.Period r)) (fault_if (le-ltb step_limit h.steps k.steps j) (jobs.Steps r))))
    (fault_if (not (k.mark j)) (jobs.Mark r))))

-- and in payloads that keep the rules no fault is found
pub keeps_none : (gas : GasModel) (twist : TwistModel) (ps : List (ℕ × List ℕ)) → Keeps gas twist ps → payloads_fault gas twist ps ≡ None
keeps_none gas twist ps k =
    pass _ _ (head_none gas twist _ (bytes_at 0 ps) k.head_long k.head)
    ∙ (pass _ _ (keep_rules gas _ (bytes_at 1 ps) k.rules)
    ∙ (pass _ _ (none_found _ (cells_in ps) _ (λ b. ltb highest_map_byte b) (bytes_at 2 ps) (record { long = k.map.long; each = λ i l. le-ltb _ _ (k.map.each i l) }))
    ∙ (pass _ _ (none_found _ (cells_in ps) _ (λ b. leb (states gas) b) (bytes_at 3 ps) (record { long = k.field.long; each = λ i l. lt-leb _ _ (k.field.each i l) }))
    ∙ (pass _ _ (keep_book (head_in ps).steps _ (bytes_at 4 ps) k.book)
    ∙ whole_none _ 0 (bytes_at 5 ps) k.end))))

-- Rows of records over the same bytes are the same records, as far as both go.
use Rattle.std.proofs.Common.{◌≡◌, ℕ, List, [], ◌∷◌, ◌++◌, length, sym, refl, ap, ◌∙◌, append_assoc, append-nil, arith, length-append}
use Rattle.std.specs.List.{AllByRecursion}
use Rattle.std.proofs.lemmas.List.{nil_from_length}
use Rattle.records.specs.Format.{record_of}
use Rattle.records.specs.Files.{Rec, rec, Fine, laid}
use Rattle.records.proofs.Headers.{length_record, same_record}
use Rattle.records.proofs.Rows.{length-laid}

-- bytes that begin with records, and are records, are those records and others
pub laid-front : (fs rs : List Rec) (x : List ℕ) → AllByRecursion Fine fs → AllByRecursion Fine rs → laid fs ++ x ≡ laid rs → (gs : List Rec) × (rs ≡ fs ++ gs) × (x ≡ laid gs) × AllByRecursion Fine gs
laid-front [] rs x ff fr e = (rs, refl, e, fr)
laid-front (f ∷ fs) [] x ff fr e = absurd (omega (arith, ap length e, length-append (laid (f ∷ fs)) x, length-append (record_of f.kind f.payload) (laid fs), length_record f.kind f.payload))
laid-front (f ∷ fs) (r ∷ rs) x ff fr e =
    let s = same_record f.kind r.kind f.payload r.payload (laid fs ++ x) (laid rs) ff.0.short fr.0.short (sym (append_assoc (record_of f.kind f.payload) (laid fs) x) ∙ e) in
    let g = laid-front fs rs x ff.1 fr.1 s.2 in
    (g.0, (λ i. rec (sym s.0 i) (sym s.1 i) ∷ g.1 i), g.2, g.3)

-- two rows of records over the same bytes: the same so far, or one goes on where the other stops
pub data Meet : List Rec → List Rec → List ℕ → List ℕ → Type 0 where
  even : {fs gs : List Rec} {x y : List ℕ} → fs ≡ gs → x ≡ y → Meet fs gs x y
  ahead : {fs gs : List Rec} {x y : List ℕ} (f : Rec) (hs : List Rec) → fs ≡ gs ++ f ∷ hs → y ≡ laid (f ∷ hs) ++ x → Meet fs gs x y
  behind : {fs gs : List Rec} {x y : List ℕ} (g : Rec) (hs : List Rec) → gs ≡ fs ++ g ∷ hs → x ≡ laid (g ∷ hs) ++ y → Meet fs gs x y

meet_more : (f g : Rec) (fs gs : List Rec) (x y : List ℕ) → f ≡ g → Meet fs gs x y → Meet (f ∷ fs) (g ∷ gs) x y
meet_more f g fs gs x y is (even e s) = even (λ i. is i ∷ e i) s
meet_more f g fs gs x y is (ahead h hs e s) = ahead h hs (λ i. is i ∷ e i) s
meet_more f g fs gs x y is (behind h hs e s) = behind h hs (λ i. sym is i ∷ e i) s

pub laid_meet : (fs gs : List Rec) (x y : List ℕ) → AllByRecursion Fine fs → AllByRecursion Fine gs → laid fs ++ x ≡ laid gs ++ y → Meet fs gs x y
laid_meet [] [] x y ff fg e = even refl e
laid_meet [] (g ∷ gs) x y ff fg e = behind g gs refl e
laid_meet (f ∷ fs) [] x y ff fg e = ahead f fs refl (sym e)
laid_meet (f ∷ fs) (g ∷ gs) x y ff fg e =
    let s = same_record f.kind g.kind f.payload g.payload (laid fs ++ x) (laid gs ++ y) ff.0.short fg.0.short (sym (append_assoc (record_of f.kind f.payload) (laid fs) x) ∙ e ∙ append_assoc (record_of g.kind g.payload) (laid gs) y) in
    meet_more f g fs gs x y (λ i. rec (s.0 i) (s.1 i)) (laid_meet fs gs x y ff.1 fg.1 s.2)

pub all_behind : {X : Type 0} (P : X → Type 0) (fs gs : List X) → AllByRecursion P (fs ++ gs) → AllByRecursion P gs
all_behind P [] gs all = all
all_behind P (f ∷ fs) gs all = all_behind P fs gs all.1

-- bytes are records in one way only
pub one_way : (rs qs : List Rec) → AllByRecursion Fine rs → AllByRecursion Fine qs → laid rs ≡ laid qs → rs ≡ qs
one_way rs qs fr fq e =
    let g = laid-front qs rs [] fq fr (append-nil (laid qs) ∙ sym e) in
    g.1 ∙ ap (λ l. qs ++ l) (nil_from_length g.0 (omega (arith, length-laid g.0, ap length g.2))) ∙ append-nil qs

-- The order of the known kinds, from any point on.
use Rattle.std.proofs.Common.{◌≡◌, ℕ, ◌≤◌, List, [], ◌∷◌, ◌++◌, Ok, refl, arith, Some, None, Option}
use Rattle.std.proofs.lemmas.Bool.Decides.{nat_tests}
use Rattle.records.specs.declared.kinds.Kind.{Kind as KnownKind}
use Rattle.records.specs.declared.kinds.Kind.TheVariants.{End, Head, Rules, Map, Field, Book}
use Rattle.records.specs.declared.payloads.Place.{Place}
use Rattle.records.specs.declared.payloads.Places.{Places}
use Rattle.records.specs.Kinds.{number_of}
use Rattle.records.specs.Orders.{awaited, following, answer, moved}
use Rattle.records.specs.Walk.{noted}
use Rattle.records.specs.Layout.{listed}

-- the kinds that have yet to come
abbrev pub kinds_from : Option KnownKind → List ℕ
kinds_from (Some Head) = 2 ∷ 3 ∷ 4 ∷ 5 ∷ 6 ∷ 1 ∷ []
kinds_from (Some Rules) = 3 ∷ 4 ∷ 5 ∷ 6 ∷ 1 ∷ []
kinds_from (Some Map) = 4 ∷ 5 ∷ 6 ∷ 1 ∷ []
kinds_from (Some Field) = 5 ∷ 6 ∷ 1 ∷ []
kinds_from (Some Book) = 6 ∷ 1 ∷ []
kinds_from (Some End) = 1 ∷ []
kinds_from None = []

-- the places that are noted already
abbrev pub filled : Option KnownKind → Places → List Place
filled (Some Head) p = []
filled (Some Rules) p = p.head ∷ []
filled (Some Map) p = p.head ∷ p.rules ∷ []
filled (Some Field) p = p.head ∷ p.rules ∷ p.map ∷ []
filled (Some Book) p = p.head ∷ p.rules ∷ p.map ∷ p.field ∷ []
filled (Some End) p = p.head ∷ p.rules ∷ p.map ∷ p.field ∷ p.book ∷ []
filled None p = listed p

pub kinds_more : (e : Option KnownKind) → 1 ≤ awaited e → kinds_from e ≡ awaited e ∷ kinds_from (following e)
kinds_more (Some Head) h = refl
kinds_more (Some Rules) h = refl
kinds_more (Some Map) h = refl
kinds_more (Some Field) h = refl
kinds_more (Some Book) h = refl
kinds_more (Some End) h = refl
kinds_more None h = absurd (omega arith)

pub filled_more : (e : Option KnownKind) (p : Places) (x : Place) → 1 ≤ awaited e → filled (following e) (noted p (awaited e) x) ≡ filled e p ++ (x ∷ [])
filled_more (Some Head) p x h = refl
filled_more (Some Rules) p x h = refl
filled_more (Some Map) p x h = refl
filled_more (Some Field) p x h = refl
filled_more (Some Book) p x h = refl
filled_more (Some End) p x h = refl
filled_more None p x h = absurd (omega arith)

-- the end is awaited last
pub is_end : (e : Option KnownKind) → awaited e ≡ 1 → e ≡ Some End
is_end (Some Head) h = absurd (omega arith)
is_end (Some Rules) h = absurd (omega arith)
is_end (Some Map) h = absurd (omega arith)
is_end (Some Field) h = absurd (omega arith)
is_end (Some Book) h = absurd (omega arith)
is_end (Some End) h = refl
is_end None h = absurd (omega arith)

-- the kind in front of those that have yet to come is the one that is awaited
pub first-awaited : (e : Option KnownKind) (k : ℕ) (ks : List ℕ) → k ∷ ks ≡ kinds_from e → (k ≡ awaited e) × (ks ≡ kinds_from (following e)) × (1 ≤ awaited e) × (awaited e ≤ 6)
first-awaited (Some Head) k ks is = (cc, cc, omega arith, omega arith)
first-awaited (Some Rules) k ks is = (cc, cc, omega arith, omega arith)
first-awaited (Some Map) k ks is = (cc, cc, omega arith, omega arith)
first-awaited (Some Field) k ks is = (cc, cc, omega arith, omega arith)
first-awaited (Some Book) k ks is = (cc, cc, omega arith, omega arith)
first-awaited (Some End) k ks is = (cc, cc, omega arith, omega arith)
first-awaited None k ks is = absurd (let z : ◌≡◌ {A = ℕ} 0 1 = cc in omega arith)

pub answers_skipped : (e : Option KnownKind) (k : ℕ) → 128 ≤ k → (answer e k ≡ Ok None) × (moved e k ≡ e)
answers_skipped e k h = (grind (arith, nat_tests), grind (arith, nat_tests))

pub answers_known : (e : Option KnownKind) (k : ℕ) → k ≡ awaited e → 1 ≤ k → k ≤ 6 → (kind : KnownKind) × (answer e k ≡ Ok (Some kind)) × (moved e k ≡ following e)
answers_known (Some kind) k is low high = (kind, grind (arith, nat_tests), grind (arith, nat_tests))
answers_known None k is low high = absurd (omega arith)

-- the kind that is answered has the number that was asked for
pub answered : (e : Option KnownKind) (k : ℕ) (kind : KnownKind) → Ok (Some kind) ≡ answer e k → k ≡ number_of kind
answered e k kind says = grind (arith, nat_tests)

-- the end alone has number 1
pub ends_at_one : (kind : KnownKind) → number_of kind ≡ 1 → kind ≡ End
ends_at_one End h = refl
ends_at_one Head h = absurd (omega arith)
ends_at_one Rules h = absurd (omega arith)
ends_at_one Map h = absurd (omega arith)
ends_at_one Field h = absurd (omega arith)
ends_at_one Book h = absurd (omega arith)

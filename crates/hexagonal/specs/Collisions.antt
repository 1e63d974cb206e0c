-- The house rules of the hexagonal gas. Channels are counted modulo 6; a state that no rule names stays as it is.
use Rattle.std.specs.Prelude.{ℕ, ◌+◌, ◌%◌, ◌^◌, Bool, cond, List, [], ◌∷◌, ◌==◌}
use Rattle.std.specs.List.{range_with_len, flat_map}

-- the state with a moving particle in just these channels
abbrev pub moving : List ℕ → ℕ
moving [] = 0
moving (i ∷ is) = 2 ^ (i % 6) + moving is

-- the state with a rest particle alone
abbrev pub rest : ℕ
rest = 64

-- A rule is a state and what becomes of it.
-- Particles in i and i + 3 meet head on and turn by a sixth, to the left under twist 0 and to the right under twist 1; rest stays
abbrev pub head_on : Bool → ℕ → ℕ → ℕ × ℕ
head_on b i r =
    (moving (i ∷ (i + 3) ∷ []) + r, cond b (moving ((i + 5) ∷ (i + 2) ∷ [])) (moving ((i + 1) ∷ (i + 4) ∷ [])) + r)

-- particles in i, i + 2 and i + 4 meet and go into the channels between; rest stays
abbrev pub three_way : ℕ → ℕ → ℕ × ℕ
three_way i r = (moving (i ∷ (i + 2) ∷ (i + 4) ∷ []) + r, moving ((i + 1) ∷ (i + 3) ∷ (i + 5) ∷ []) + r)

-- a rest particle that is hit by one in i leaves with it by i - 1 and i + 1
abbrev pub set_off : ℕ → ℕ × ℕ
set_off i = (rest + moving (i ∷ []), moving ((i + 5) ∷ (i + 1) ∷ []))

-- particles in i - 1 and i + 1 with none at rest leave one at rest and one in i
abbrev pub come_to_rest : ℕ → ℕ × ℕ
come_to_rest i = (moving ((i + 5) ∷ (i + 1) ∷ []), rest + moving (i ∷ []))

-- the rules at i under twist b, and those at every i
abbrev pub rules_at : Bool → ℕ → List (ℕ × ℕ)
rules_at b i = head_on b i 0 ∷ head_on b i rest ∷ three_way i 0 ∷ three_way i rest ∷ set_off i ∷ come_to_rest i ∷ []

abbrev pub rules : Bool → List (ℕ × ℕ)
rules b = flat_map (rules_at b) (range_with_len 0 6)

-- what the rules make of state n
abbrev pub applied : List (ℕ × ℕ) → ℕ → ℕ
applied [] n = n
applied (rule ∷ more) n = cond (n == rule.0) rule.1 (applied more n)

abbrev pub house_rule : Bool → ℕ → ℕ
house_rule b n = applied (rules b) n

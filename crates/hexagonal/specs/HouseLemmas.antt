-- The table of the house rules: one test computed over all 256 entries shows that it is what the rules say, and one that it is sound.
use Rattle.std.specs.Prelude.{◌≡◌, ℕ, true, List, [], ◌∷◌, refl}
use Rattle.lattice.specs.Sums.{sum_n, sum_z}
use Rattle.lattice.specs.Firsts.{first}
use Rattle.gas.specs.Judging.{good_table}
use Rattle.hexagonal.specs.Hexagonal.{hexagonal}

abbrev pub table : List ℕ
table =
    0 ∷ 1 ∷ 2 ∷ 3 ∷ 4 ∷ 66 ∷ 6 ∷ 7 ∷ 8 ∷ 18 ∷ 68 ∷ 11 ∷ 12 ∷ 13 ∷ 14 ∷ 15 ∷
    16 ∷ 96 ∷ 36 ∷ 19 ∷ 72 ∷ 42 ∷ 22 ∷ 23 ∷ 24 ∷ 25 ∷ 26 ∷ 27 ∷ 28 ∷ 29 ∷ 30 ∷ 31 ∷
    32 ∷ 33 ∷ 65 ∷ 35 ∷ 9 ∷ 37 ∷ 38 ∷ 39 ∷ 80 ∷ 41 ∷ 21 ∷ 43 ∷ 44 ∷ 45 ∷ 46 ∷ 47 ∷
    48 ∷ 49 ∷ 50 ∷ 51 ∷ 52 ∷ 53 ∷ 54 ∷ 55 ∷ 56 ∷ 57 ∷ 58 ∷ 59 ∷ 60 ∷ 61 ∷ 62 ∷ 63 ∷
    64 ∷ 34 ∷ 5 ∷ 67 ∷ 10 ∷ 69 ∷ 70 ∷ 71 ∷ 20 ∷ 82 ∷ 74 ∷ 75 ∷ 76 ∷ 77 ∷ 78 ∷ 79 ∷
    40 ∷ 81 ∷ 100 ∷ 83 ∷ 84 ∷ 106 ∷ 86 ∷ 87 ∷ 88 ∷ 89 ∷ 90 ∷ 91 ∷ 92 ∷ 93 ∷ 94 ∷ 95 ∷
    17 ∷ 97 ∷ 98 ∷ 99 ∷ 73 ∷ 101 ∷ 102 ∷ 103 ∷ 104 ∷ 105 ∷ 85 ∷ 107 ∷ 108 ∷ 109 ∷ 110 ∷ 111 ∷
    112 ∷ 113 ∷ 114 ∷ 115 ∷ 116 ∷ 117 ∷ 118 ∷ 119 ∷ 120 ∷ 121 ∷ 122 ∷ 123 ∷ 124 ∷ 125 ∷ 126 ∷ 127 ∷
    0 ∷ 1 ∷ 2 ∷ 3 ∷ 4 ∷ 66 ∷ 6 ∷ 7 ∷ 8 ∷ 36 ∷ 68 ∷ 11 ∷ 12 ∷ 13 ∷ 14 ∷ 15 ∷
    16 ∷ 96 ∷ 9 ∷ 19 ∷ 72 ∷ 42 ∷ 22 ∷ 23 ∷ 24 ∷ 25 ∷ 26 ∷ 27 ∷ 28 ∷ 29 ∷ 30 ∷ 31 ∷
    32 ∷ 33 ∷ 65 ∷ 35 ∷ 18 ∷ 37 ∷ 38 ∷ 39 ∷ 80 ∷ 41 ∷ 21 ∷ 43 ∷ 44 ∷ 45 ∷ 46 ∷ 47 ∷
    48 ∷ 49 ∷ 50 ∷ 51 ∷ 52 ∷ 53 ∷ 54 ∷ 55 ∷ 56 ∷ 57 ∷ 58 ∷ 59 ∷ 60 ∷ 61 ∷ 62 ∷ 63 ∷
    64 ∷ 34 ∷ 5 ∷ 67 ∷ 10 ∷ 69 ∷ 70 ∷ 71 ∷ 20 ∷ 100 ∷ 74 ∷ 75 ∷ 76 ∷ 77 ∷ 78 ∷ 79 ∷
    40 ∷ 81 ∷ 73 ∷ 83 ∷ 84 ∷ 106 ∷ 86 ∷ 87 ∷ 88 ∷ 89 ∷ 90 ∷ 91 ∷ 92 ∷ 93 ∷ 94 ∷ 95 ∷
    17 ∷ 97 ∷ 98 ∷ 99 ∷ 82 ∷ 101 ∷ 102 ∷ 103 ∷ 104 ∷ 105 ∷ 85 ∷ 107 ∷ 108 ∷ 109 ∷ 110 ∷ 111 ∷
    112 ∷ 113 ∷ 114 ∷ 115 ∷ 116 ∷ 117 ∷ 118 ∷ 119 ∷ 120 ∷ 121 ∷ 122 ∷ 123 ∷ 124 ∷ 125 ∷ 126 ∷ 127 ∷ []

pub table_house : table ≡ hexagonal.house
table_house = refl

pub table_good : good_table hexagonal table ≡ true
unfolding sum_n sum_z first
table_good = refl

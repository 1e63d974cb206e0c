use Rattle.std.proofs.Common.{◌≡◌, true, false, refl}
use Rattle.lattice.specs.Sums as sums
use Rattle.square.specs.Square.{square}
use Rattle.dynamics.specs.declared.role.Role.TheVariants.{Fan}
use Rattle.figures.specs.Figures.{becomes, collides}
use Rattle.figures.proofs.figures_hold.Goals as goal

pub returns : goal.returns
unfolding sums.sum_n sums.sum_z
returns c = record {
  head_on_left = refl;
  head_on_right = refl;
  three_way = λ b. elim b as (λ x. becomes x 85 ≡ 106) [ true ↦ refl | false ↦ refl ];
  set_off = λ b. elim b as (λ x. becomes x 65 ≡ 34) [ true ↦ refl | false ↦ refl ];
  come_to_rest = λ b. elim b as (λ x. becomes x 34 ≡ 65) [ true ↦ refl | false ↦ refl ];
  square_wall = λ _ _. refl;
  square_push = λ _. refl;
  hexagonal_wall = λ _ _. refl;
  hexagonal_push = λ _. refl;
  square_fan = λ b. elim b as (λ x. collides square true x Fan 4 ≡ 1) [ true ↦ refl | false ↦ refl ];
  fan_push = λ _. refl;
  north_east = refl;
  first_bit = refl;
  second_mark = refl;
}

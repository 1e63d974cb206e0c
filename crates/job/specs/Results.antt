-- What a judged file is: its head, its grid, and where its payloads lie.
use Rattle.std.specs.Prelude.{◌≡◌, ℕ, List, Ok}
use Rattle.std.specs.List.{AllByRecursion}
use Rattle.lattice.specs.declared.grid.Grid.{Grid}
use Rattle.records.specs.Layout.{Inside, listed, parts}
use Rattle.records.specs.Walk.{walked, largest_file}
use Rattle.job.specs.declared.head.Head.{Head}
use Rattle.job.specs.declared.judging.Settings.{Settings}
use Rattle.job.specs.declared.jobs.Job.{Job}
use Rattle.job.specs.Heads.{head_of}
use Rattle.job.specs.Jobs.{head_in}

-- the grid is of the head's width and height
pub record GridOf (h : Head) (grid : Grid) : Type 0 where
  pub width : grid.width ≡ h.width
  pub height : grid.height ≡ h.height

pub record SettingsOf (bytes : List ℕ) (s : Settings) : Type 0 where
  pub head : s.head ≡ head_of bytes
  pub grid : GridOf (head_of bytes) s.grid

pub record IsJob (file : List ℕ) (j : Job) : Type 0 where
  pub places : walked largest_file file ≡ Ok j.places
  pub inside : AllByRecursion (Inside file) (listed j.places)
  pub head : j.head ≡ head_in (parts file j.places)
  pub grid : GridOf (head_in (parts file j.places)) j.grid

-- The report: the step count; each patch of b × b cells, by rows; each account that is not (0, 0), in order; and the total of all cells.
use Rattle.std.specs.Prelude.{ℕ, ◌+◌, ◌*◌, ◌/◌, List, ◌++◌, take}
use Rattle.lattice.specs.declared.grid.Grid.{Grid}
use Rattle.gas.specs.declared.Gas as Gas
use Rattle.gas.specs.Model.{GasModel}
use Rattle.lattice.specs.declared.vector.Vector.{Vector as Account}
use Rattle.book.specs.Accounts.{accounts, account_at}
use Rattle.dynamics.specs.Tunnels.{RunState, cells}
use Rattle.text.specs.Texts.{texts}
use Rattle.report.specs.declared.shown.Shown.{Shown}
use Rattle.report.specs.Patches.{patch_at, field_totals}
use Rattle.report.specs.Lines.{step_line, patch_line, account_line, total_line}

-- what a report is made of; the field has a state for each cell, and no more
pub record Snapshot : Type 0 where
  pub gas : GasModel
  pub width : ℕ
  pub height : ℕ
  pub steps : ℕ
  pub book : List Account
  pub field : List ℕ

-- patch row 0 first, and in it patch column 0 first
abbrev pub patch_lines : GasModel → ℕ → ℕ → List ℕ → ℕ → List ℕ
patch_lines gas w h field b = texts (h / b) (λ r. texts (w / b) (λ c. patch_line (patch_at gas w field b c r)))

-- account 1 first
abbrev pub account_lines : List Account → List ℕ
account_lines book = texts accounts (λ k. account_line (k + 1) (account_at book (k + 1)))

unfoldable pub report_text : Snapshot → ℕ → List ℕ
report_text s b =
    step_line s.steps
    ++ (patch_lines s.gas s.width s.height s.field b
    ++ (account_lines s.book
    ++ total_line (field_totals s.gas s.field)))

-- from its parts; the first bytes of the field are the cells'
abbrev pub shown : GasModel → Grid → ℕ → List Account → List ℕ → Snapshot
shown gas grid steps book field = record {
  gas = gas;
  width = grid.width;
  height = grid.height;
  steps = steps;
  book = book;
  field = take (grid.width * grid.height) field;
}

-- what the program shows, as such a snapshot
abbrev pub told : {G : Type 0} → (g : Gas.Ghosts G) → Shown G g → Snapshot
told g s = shown (g.model s.gas.now) s.grid s.steps s.book.now.accounts s.field.now

-- the same of a run and its field
abbrev pub snapshot : RunState → List ℕ → Snapshot
snapshot run field = record {
  gas = run.gas;
  width = run.width;
  height = run.height;
  steps = run.steps;
  book = run.book;
  field = take (cells run) field;
}

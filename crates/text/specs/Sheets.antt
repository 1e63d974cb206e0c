-- A sheet is a lent buffer that is being filled, and the place reached in it.
use Rattle.std.specs.Prelude.{◌≡◌, ℕ, List}
use Rattle.text.specs.declared.sheet.Sheet.{Sheet}
use Rattle.text.specs.Buffers.{Puts}

-- the text is put where the sheet was, and the sheet goes on behind it, in the same buffer
pub record Adds (text : List ℕ) (before after : Sheet) : Type 0 where
  pub puts : Puts text before.out.now before.at after.at after.out.now
  pub same_buffer : after.out.ghost_name ≡ before.out.ghost_name

-- What a pen leaves in its slice. Definitions only.
use Rattle.std.specs.Prelude.{ℕ, ◌+◌, ◌≤◌, ◌≡◌, List, length}
use Rattle.lists.specs.Stores.{Wrote}
use Rattle.texts.specs.declared.Pen.{Pen}

-- n bytes lie from the pen's place to the end of its slice
abbrev pub HasRoom : Pen → ℕ → Type 0
HasRoom pen n = pen.at + n ≤ length pen.out.now

-- the pen wrote `text` from its place on, and nothing else; it has the same slice, and stands past the text
pub record Writes (old : Pen) (text : List ℕ) (new : Pen) : Type 0 where
  pub same_slice : new.out.ghost_name ≡ old.out.ghost_name
  pub wrote : Wrote old.out.now old.at text new.out.now new.at

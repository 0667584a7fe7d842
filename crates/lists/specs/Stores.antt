-- What a writer of bytes leaves in a lent slice, and what it answers. Definitions only.
use Rattle.std.specs.Prelude.{ℕ, ◌+◌, ◌≡◌, List, ◌++◌, length, drop}
use Rattle.std.proofs.lemmas.List.Edits.{sets}

-- `text` was stored from index `at` on, and nothing else; `next` is the place past it
pub record Wrote (old : List ℕ) (at : ℕ) (text new : List ℕ) (next : ℕ) : Type 0 where
  pub bytes : new ≡ sets old at text
  pub place : next ≡ at + length text

-- `text` stands at the front, the rest is as it was, and `count` is the text's length
pub record Printed (old text new : List ℕ) (count : ℕ) : Type 0 where
  pub bytes : new ≡ text ++ drop (length text) old
  pub size : count ≡ length text

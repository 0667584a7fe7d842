-- A blank changes neither the largest so far nor its index, nor the competitor. Assumes nothing.
use Rattle.std.proofs.Common.{◌≡◌, ℕ}
use mathlib.Core.Bool.{and-false}
use lib.Ieee.{Float, inf}
use Rattle.std.specs.Prelude.{true}
use Rattle.numbers.proofs.Plainly.{none_below}
use Rattle.choices.specs.Leading.{far, larger, larger_at, rivalled}

pub larger-kept : (most : Float) → larger most (inf true) ≡ most
larger-kept most = rw (none_below most)

pub at-kept : (k : ℕ) (most at : Float) → larger_at k most at (inf true) ≡ at
at-kept k most at = rw (none_below most)

pub rival-kept : (k : ℕ) (at most : Float) → rivalled k at most (inf true) ≡ most
rival-kept k at most = rw (none_below most, and-false (far at k))

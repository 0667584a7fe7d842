-- What the calls that read answer, and what they leave in the lent output. A refusal changes nothing
-- (docs/SPECIFICATION.md, "PGM", "PFM"). Definitions only.
use Rattle.std.specs.Prelude.{ℕ, ◌*◌, ◌≡◌, List, length, eqb, Result}
use Rattle.refusals.specs.Steps.{Or, is, refused, and_then, given}
use Rattle.refusals.specs.Given.{given_back, value_after}
use Rattle.netpbm.specs.declared.raster.Size.{Size}
use Rattle.refusals.specs.declared.Refusal.{Refusal}
use Rattle.netpbm.specs.Raster.{Raster}

-- a raster for an output of m cells: 45 where that is not its length
abbrev pub cells_for : {A : Type 0} → ℕ → Or (Raster A) → Or (Raster A)
cells_for m raster = and_then raster (λ r. given (eqb m (r.width * r.height)) 45 r)

-- the answer: width and height
abbrev pub size_of : {A : Type 0} → Or (Raster A) → Or Size
size_of (is r) = is (record { width = r.width; height = r.height })
size_of (refused n) = refused n

-- the output afterwards: the cells
abbrev pub cells_after : {A : Type 0} → Or (Raster A) → List A → List A
cells_after raster out = value_after (and_then raster (λ r. is r.cells)) out

-- what a call that reads does, for what the bytes say or their refusal
pub record ReadOutcome {A : Type 0} (answer : Result Size Refusal) (raster : Or (Raster A)) (out out' : List A) : Type 0 where
  pub answers : given_back answer ≡ size_of (cells_for (length out) raster)
  pub outs : out' ≡ cells_after (cells_for (length out) raster) out

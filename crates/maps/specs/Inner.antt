-- What the inner functions of a map ask of their callers. Definitions only.
use Rattle.std.specs.Prelude.{ℕ, ◌*◌, ◌<◌, ◌≤◌, ◌≡◌}
use Rattle.options.specs.Limits.{side_most}

-- a map of n cells that has a frame of r pixels, and a pixel inside it
pub record Framed (w h r n : ℕ) : Type 0 where
  pub narrow : w ≤ side_most
  pub low : h ≤ side_most
  pub across : 2 * r < w
  pub down : 2 * r < h
  pub long : n ≡ w * h

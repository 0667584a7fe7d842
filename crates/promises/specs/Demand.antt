-- Demand 3, of the maps of two pairs of pictures (docs/SPECIFICATION.md, "The three demands"). Definitions only.
use Rattle.std.specs.Prelude.{ℕ, ◌<◌, ◌≡◌, ◌⊎◌, List, replicate}
use Rattle.std.specs.Float.{nan}
use Rattle.lists.specs.Rows.{row_of}
use Rattle.options.specs.declared.BlockMatchOptions.{BlockMatchOptions}
use Rattle.options.specs.declared.Mode.TheVariants.{Block}
use Rattle.matching.specs.Maps.{half, map_of}
use Rattle.promises.specs.Changes.{Misses, Inside, NoRows, OneLevel}

-- block mode
abbrev pub BlockMode : BlockMatchOptions → Type 0
BlockMode o = o.mode ≡ Block

-- DEMAND 3: what holds of the maps of the first and of the second pair, whatever the gates, with left-right and sub-pixel on or off
pub record Kept (w h : ℕ) (o : BlockMatchOptions) (p q : ℕ) (left right left' right' : List ℕ) : Type 0 where
  -- in block mode each row whose window rows miss p to q is equal bit for bit
  pub rows : BlockMode o → (y : ℕ) → Misses h p q (half o) y → row_of w (map_of w h o left right) y ≡ row_of w (map_of w h o left' right') y
  -- in block mode, if rows p to q of either second picture hold one level throughout, each row of the second map with window rows inside them is all blank
  pub blank : BlockMode o → OneLevel w h p q left' ⊎ OneLevel w h p q right' → (y : ℕ) → y < h → Inside h p q (half o) y → row_of w (map_of w h o left' right') y ≡ replicate w nan
  -- with no rows left out the whole maps are equal, semi-global ones too
  pub whole : NoRows h p q → map_of w h o left right ≡ map_of w h o left' right'

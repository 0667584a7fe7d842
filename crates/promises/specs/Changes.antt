-- Demand 3's two pairs of pictures: outside rows p to q each level v becomes m·v + s (docs/SPECIFICATION.md, "The three demands"). Definitions only.
use Rattle.std.specs.Prelude.{ℕ, ◌+◌, ◌*◌, ◌^◌, ◌≤◌, ◌<◌, ◌≡◌, ◌⊎◌, List, ℤ, pos, ◌+ℤ◌}
use Rattle.lists.specs.Rows.{level_at}
use Rattle.options.specs.declared.BlockMatchOptions.{BlockMatchOptions}
use Rattle.matching.specs.Accepted.{AcceptedPair}

-- row i lies outside rows p to q
abbrev pub Outside : ℕ → ℕ → ℕ → Type 0
Outside p q i = (i < p) ⊎ (q < i)

-- row i lies in rows p to q
abbrev pub Among : ℕ → ℕ → ℕ → Type 0
Among p q i = (p ≤ i) × (i ≤ q)

-- row i is a window row of row y, a row of the windows centred in it: y - r ≤ i ≤ y + r
abbrev pub WindowRow : ℕ → ℕ → ℕ → Type 0
WindowRow r y i = (y ≤ i + r) × (i ≤ y + r)

-- in a picture h high, the window rows of row y miss rows p to q
abbrev pub Misses : ℕ → ℕ → ℕ → ℕ → ℕ → Type 0
Misses h p q r y = (i : ℕ) → i < h → WindowRow r y i → Outside p q i

-- in a picture h high, the window rows of row y lie inside rows p to q
abbrev pub Inside : ℕ → ℕ → ℕ → ℕ → ℕ → Type 0
Inside h p q r y = (i : ℕ) → i < h → WindowRow r y i → Among p q i

-- no row of a picture h high is left out
abbrev pub NoRows : ℕ → ℕ → ℕ → Type 0
NoRows h p q = (i : ℕ) → i < h → Outside p q i

-- outside rows p to q of a w by h picture each level v becomes m·v + s: m = 2^j is 1 to 128, s is whole and may be negative
pub record Relevelled (w h p q : ℕ) (first second : List ℕ) : Type 0 where
  pub j : ℕ
  pub m-most : j ≤ 7
  pub s : ℤ
  pub levels : (x y : ℕ) → x < w → y < h → Outside p q y → pos (level_at w second x y) ≡ pos (2 ^ j * level_at w first x y) +ℤ s

-- rows p to q of a w by h picture hold one single level throughout
pub record OneLevel (w h p q : ℕ) (picture : List ℕ) : Type 0 where
  pub level : ℕ
  pub only : (x y : ℕ) → x < w → y < h → Among p q y → level_at w picture x y ≡ level

-- DEMAND 3's HYPOTHESES: two accepted pairs of one size, with the same options; outside rows p to q each picture of the second pair is the first pair's with its levels changed
pub record Changed (w h : ℕ) (o : BlockMatchOptions) (p q : ℕ) (left right left' right' : List ℕ) : Type 0 where
  pub first : AcceptedPair w h o left right
  pub second : AcceptedPair w h o left' right'
  pub left-change : Relevelled w h p q left left'
  pub right-change : Relevelled w h p q right right'

-- What bytes say as a PGM picture: the Netpbm page's list of what an image consists of, in its order
-- (docs/SPECIFICATION.md, "PGM"). Definitions only.
use Rattle.std.specs.Prelude.{ℕ, List, [], ◌∷◌, eqb}
use Rattle.refusals.specs.Steps.{Or, is, and_then, given}
use Rattle.netpbm.specs.Header.{take_word, take_white, take_spaced}
use Rattle.netpbm.specs.Raster.{Raster, sized}

-- the magic number, the two characters `P5`
abbrev pub pgm_magic : List ℕ
pgm_magic = 80 ∷ 53 ∷ []

-- width, height and maximum, and the bytes after the header
pub record PgmHead : Type 0 where
  pub width : ℕ
  pub height : ℕ
  pub maximum : ℕ
  pub rest : List ℕ

-- the magic number; white space and a width; white space and a height; white space and the maximum; a single white-space character
unfoldable pub take_pgm_head : List ℕ → Or PgmHead
take_pgm_head s =
    and_then (take_word pgm_magic s) (λ a.
    and_then (take_spaced a) (λ width.
    and_then (take_spaced width.rest) (λ height.
    and_then (take_spaced height.rest) (λ maximum.
    and_then (take_white maximum.rest) (λ rest.
    is (record { width = width.number; height = height.number; maximum = maximum.number; rest = rest }))))))

-- what some bytes say: 41, then 42 where the maximum is not 255, then 43 and 44; a level is a byte
unfoldable pub read_pgm : List ℕ → Or (Raster ℕ)
read_pgm s =
    and_then (take_pgm_head s) (λ head.
    and_then (given (eqb head.maximum 255) 42 head) (λ head.
    and_then (sized 1 head.width head.height head.rest) (λ levels.
    is (record { width = head.width; height = head.height; cells = levels }))))

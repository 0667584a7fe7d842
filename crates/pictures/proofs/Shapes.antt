-- What a picture, and a pixel, that are not refused have, and a pixel's byte. Assumes nothing.
use Rattle.std.proofs.Common.{◌≡◌, ℕ, ◌+◌, ◌*◌, ◌<◌, ◌≤◌, true, not, ◌&&◌, eqb, ltb, List, [], ◌∷◌, length, take, drop, sym, ⊎_elim, mul-le-mul, arith, lit<, length-take, ltb-true, eqb-true}
use lib.ListN.{get_or-eq_default}
use borrow.Author.Tests.{not-false}
use Rattle.lists.specs.Rows.{level_at}
use Rattle.lists.proofs.Tests.{and_both, lt-or-le}
use Rattle.lists.proofs.Rows.{pixel-in, row_at}
use Rattle.options.specs.Limits.{side_most, is_side}
use Rattle.options.proofs.Sides.{side-fits}
use Rattle.refusals.specs.Answered.{row, first_of, Numbered, NoneApplies}
use Rattle.refusals.proofs.Answering.{none_of}
use Rattle.refusals.proofs.Groups.{none-of-both}
use Rattle.pictures.specs.Picture.{Bytes, shape_rows, level_rows}

pub shape-numbered : (bytes w h : ℕ) → Numbered (shape_rows bytes w h)
shape-numbered bytes w h = (lit< tt, (lit< tt, tt))

-- the picture's rows, which a caller has asked and found none
pub shape_passed : (bytes w h : ℕ) → 0 ≡ first_of (shape_rows bytes w h) → NoneApplies (shape_rows bytes w h)
shape_passed bytes w h none = none_of (shape_rows bytes w h) (shape-numbered bytes w h) (sym none)

-- a picture that is not refused
pub record Whole (bytes w h : ℕ) : Type 0 where
  pub wide : is_side w ≡ true
  pub high : is_side h ≡ true
  pub full : bytes ≡ w * h

pub whole : (bytes w h : ℕ) → first_of (shape_rows bytes w h) ≡ 0 → Whole bytes w h
whole bytes w h none =
    let tests = none_of (shape_rows bytes w h) (shape-numbered bytes w h) none in
    let sides = and_both (is_side w) (is_side h) (not-false (is_side w && is_side h) tests.0) in
    record { wide = sides.0; high = sides.1; full = eqb-true bytes (w * h) (not-false (eqb bytes (w * h)) tests.1.0) }

-- so its sides are in their range
pub is_wide : (bytes w h : ℕ) → first_of (shape_rows bytes w h) ≡ 0 → is_side w ≡ true
is_wide bytes w h none = (whole bytes w h none).wide

pub is_high : (bytes w h : ℕ) → first_of (shape_rows bytes w h) ≡ 0 → is_side h ≡ true
is_high bytes w h none = (whole bytes w h none).high

-- both, for the search
pub ruleset sides = (is_wide, is_high)

-- a pixel that is not refused
pub record Inside (bytes w h x y : ℕ) : Type 0 where
  pub good : first_of (shape_rows bytes w h) ≡ 0
  pub x-in : x < w
  pub y-in : y < h

pub inside : (bytes w h x y : ℕ) → first_of (level_rows bytes w h x y) ≡ 0 → Inside bytes w h x y
inside bytes w h x y none =
    let groups = none-of-both (shape_rows bytes w h) (row 26 (not (ltb x w && ltb y h)) ∷ []) (shape-numbered bytes w h) none in
    let within = none_of (row 26 (not (ltb x w && ltb y h)) ∷ []) (lit< tt, tt) groups.1 in
    let both = and_both (ltb x w) (ltb y h) (not-false (ltb x w && ltb y h) within.0) in
    record { good = groups.0; x-in = ltb-true x w both.0; y-in = ltb-true y h both.1 }

-- there are few enough pixels to count
pub few : (pic : List ℕ) (w h : ℕ) → first_of (shape_rows (length pic) w h) ≡ 0 → length pic ≤ side_most * side_most
few pic w h good =
    let s = whole (length pic) w h good in
    omega (arith, s.full, mul-le-mul (side-fits w s.wide).most (side-fits h s.high).most)

-- ---- a pixel's byte

-- a pixel inside has its byte in the picture
pub byte-in : (pic : List ℕ) (w h x y : ℕ) → first_of (shape_rows (length pic) w h) ≡ 0 → x < w → y < h → y * w + x < length pic
byte-in pic w h x y g a b = omega (arith, pixel-in w h x y a b, (whole (length pic) w h g).full)

-- a level is a byte; past the end of its row it is 0
pub level-small : (pic : List ℕ) (w x y : ℕ) → Bytes pic → level_at w pic x y < 256
level-small pic w x y b =
    ⊎_elim (λ (l : x < w). rw (row_at w pic y x 0 l) (b (y * w + x))) (λ (l : w ≤ x). rw (get_or-eq_default (take w (drop (y * w) pic)) 0 (short l)) (omega arith)) (lt-or-le x w)
  where
    short : w ≤ x → length (take w (drop (y * w) pic)) ≤ x
    short l = rw length-take (omega arith)

-- Why a PGM picture is refused, by its header; a PFM map's file by the place of its rows. Assumes nothing.
use Prim.Native.Nat.{ℕ, ◌*◌}
use mathlib.Core.Path.{◌≡◌, refl, sym, ap, ◌∙◌}
use mathlib.Core.Bool.{Bool, true, false, ◌&&◌}
use mathlib.Core.List.{List, [], ◌∷◌}
use mathlib.Core.Logic.{◌↔◌}
use native.Mathlib.Omega.{arith}
use borrow.Author.Tests.{ne_eqb, eqb-true, eqb-false}
use lib.Dec.{leb, ltb, eqb, lit<}
use lib.ListN.{length, drop}
use lib.Ieee.{Float}
use Rattle.lists.proofs.Tests.{and_both}
use Rattle.options.specs.Limits.{is_side}
use Rattle.maps.specs.Map.{size_rows}
use Rattle.refusals.specs.Answered.{first_of, Numbered, ByPlace}
use Rattle.refusals.specs.Steps.{Or, is, refused, and_then, given}
use Rattle.refusals.specs.Given.{number_back}
use Rattle.refusals.specs.Writes.{room_for, write_rows, byte_count}
use Rattle.refusals.proofs.Outcomes.{answer-number}
use Rattle.refusals.proofs.Stepwise.{not-refused, same-refusal}
use Rattle.refusals.proofs.Writes.{length-by-place, write-by-place}
use Rattle.netpbm.specs.Header.{starts_with, take_word, is_white, take_white, after_blanks, take_blanks, digits_of, take_number, take_spaced}
use Rattle.netpbm.specs.Raster.{Raster, sized}
use Rattle.netpbm.specs.Pgm.{PgmHead, pgm_magic, take_pgm_head, read_pgm}
use Rattle.netpbm.specs.Pfm.{pfm_of}
use Rattle.netpbm.specs.Grammar.{PgmHeader, NoHeader, OtherMaximum, SideOut, DataOff}
use Rattle.netpbm.proofs.PgmHeaders.{pgm-head-read, pgm-head-only, pgm-read}
use Rattle.netpbm.proofs.PfmWritings.{file_bytes}

-- ---- what a header's parts are refused with

-- a step that has no other refusal than 41
abbrev Only41 : {A : Type 0} → Or A → Type 0
Only41 o = (n : ℕ) → o ≡ refused n → n ≡ 41

then-41 : {A B : Type 0} (o : Or A) (next : A → Or B) → Only41 o → ((a : A) → Only41 (next a)) → Only41 (and_then o next)
then-41 (is a) next first second n e = second a n e
then-41 (refused m) next first second n e = first n (ap refused (same-refusal e))

given-41 : {A : Type 0} (t : Bool) (a : A) → Only41 (given t 41 a)
given-41 true a n e = not-refused e
given-41 false a n e = sym (same-refusal e)

is-41 : {A : Type 0} (a : A) → Only41 (is a)
is-41 a n e = not-refused e

white-41 : (s : List ℕ) → Only41 (take_white s)
unfolding take_white
white-41 [] n e = sym (same-refusal e)
white-41 (b ∷ s) n e = given-41 (is_white b) s n e

spaced-41 : (s : List ℕ) → Only41 (take_spaced s)
unfolding take_spaced take_blanks take_number
spaced-41 s = then-41 (take_blanks s) take_number (given-41 (ltb (length (after_blanks s)) (length s)) (after_blanks s)) (λ a. given-41 (leb 1 (length (digits_of a))) _)

head-41 : (s : List ℕ) → Only41 (take_pgm_head s)
unfolding take_pgm_head take_word
head-41 s =
    then-41 (take_word pgm_magic s) _ (given-41 (starts_with pgm_magic s) (drop 2 s)) (λ a.
    then-41 (take_spaced a) _ (spaced-41 a) (λ width.
    then-41 (take_spaced width.rest) _ (spaced-41 width.rest) (λ height.
    then-41 (take_spaced height.rest) _ (spaced-41 height.rest) (λ maximum.
    then-41 (take_white maximum.rest) _ (white-41 maximum.rest) (λ rest. is-41 _)))))

-- ---- a picture's refusals, by what its bytes are

module _ (s : List ℕ) where
  of-41 : NoHeader s → read_pgm s ≡ refused 41
  unfolding read_pgm
  of-41 none = go (take_pgm_head s) refl
    where
      go : (o : Or PgmHead) → take_pgm_head s ≡ o → read_pgm s ≡ refused 41
      go (is head) e = absurd (none _ _ _ _ (pgm-head-only s head e))
      go (refused n) e = rw (e, head-41 s n e)

  of-42 : OtherMaximum s → read_pgm s ≡ refused 42
  unfolding read_pgm
  of-42 p = rw (pgm-head-read s p.width p.height p.maximum p.rest p.header, ne_eqb p.maximum 255 p.other)

  of-43 : SideOut s → read_pgm s ≡ refused 43
  unfolding read_pgm sized
  of-43 p = rw (pgm-head-read s p.width p.height 255 p.rest p.header, p.out)

  of-44 : DataOff s → read_pgm s ≡ refused 44
  unfolding read_pgm sized
  of-44 p =
      rw (
        pgm-head-read s p.width p.height 255 p.rest p.header,
        p.sides,
        ne_eqb (length p.rest) (1 * (p.width * p.height)) (λ e. p.off (omega (arith, e))),
      )

  -- bytes are one of these, or a picture
  module _ {A : Type 0} (none : NoHeader s → A) (maximum : OtherMaximum s → A) (side : SideOut s → A) (off : DataOff s → A) (picture : (r : Raster ℕ) → read_pgm s ≡ is r → A) where
    by_length : (w h : ℕ) (rest : List ℕ) → PgmHeader s w h 255 rest → is_side w && is_side h ≡ true → (t : Bool) → eqb (length rest) (w * h) ≡ t → A
    by_length w h rest p in-range true e =
        let sides = and_both (is_side w) (is_side h) in-range in
        picture (record { width = w; height = h; cells = rest }) (pgm-read s rest w h (record { header = p; wide = sides.0; high = sides.1; long = eqb-true _ _ e }))
    by_length w h rest p in-range false e = off (record { width = w; height = h; rest = rest; header = p; sides = in-range; off = eqb-false _ _ e })

    by-sides : (w h : ℕ) (rest : List ℕ) → PgmHeader s w h 255 rest → (t : Bool) → is_side w && is_side h ≡ t → A
    by-sides w h rest p true e = by_length w h rest p e (eqb (length rest) (w * h)) refl
    by-sides w h rest p false e = side (record { width = w; height = h; rest = rest; header = p; out = e })

    by-maximum : (w h m : ℕ) (rest : List ℕ) → PgmHeader s w h m rest → (t : Bool) → eqb m 255 ≡ t → A
    by-maximum w h m rest p true e = by-sides w h rest (rw (eqb-true m 255 e) at p) (is_side w && is_side h) refl
    by-maximum w h m rest p false e = maximum (record { width = w; height = h; maximum = m; rest = rest; header = p; other = eqb-false m 255 e })

    by_bytes : A
    by_bytes = go (take_pgm_head s) refl
      where
        go : (o : Or PgmHead) → take_pgm_head s ≡ o → A
        go (is head) e = by-maximum head.width head.height head.maximum head.rest (pgm-head-only s head e) (eqb head.maximum 255) refl
        go (refused n) e = none (λ w h m rest p. not-refused (sym (pgm-head-read s w h m rest p) ∙ e))

  -- they are refused with one number
  module _ {A : Type 0} {n : ℕ} (e : read_pgm s ≡ refused n) where
    other : {m : ℕ} → read_pgm s ≡ refused m → (m ≡ n → ⊥) → A
    other f far = absurd (far (same-refusal (sym f ∙ e)))

    no-picture : (r : Raster ℕ) → read_pgm s ≡ is r → A
    no-picture r f = not-refused (sym f ∙ e)

  -- THEOREM: 41 exactly when there is no header
  pub pgm-41 : (read_pgm s ≡ refused 41) ↔ NoHeader s
  pgm-41 = (
    λ e. by_bytes (λ p. p) (λ p. other e (of-42 p) (λ z. omega arith)) (λ p. other e (of-43 p) (λ z. omega arith)) (λ p. other e (of-44 p) (λ z. omega arith)) (no-picture e),
    of-41,
  )

  -- THEOREM: 42 exactly when there is one and its maximum is not 255
  pub pgm-42 : (read_pgm s ≡ refused 42) ↔ OtherMaximum s
  pgm-42 = (
    λ e. by_bytes (λ p. other e (of-41 p) (λ z. omega arith)) (λ p. p) (λ p. other e (of-43 p) (λ z. omega arith)) (λ p. other e (of-44 p) (λ z. omega arith)) (no-picture e),
    of-42,
  )

  -- THEOREM: 43 exactly when there is one with that maximum and a side is out of its range
  pub pgm-43 : (read_pgm s ≡ refused 43) ↔ SideOut s
  pgm-43 = (
    λ e. by_bytes (λ p. other e (of-41 p) (λ z. omega arith)) (λ p. other e (of-42 p) (λ z. omega arith)) (λ p. p) (λ p. other e (of-44 p) (λ z. omega arith)) (no-picture e),
    of-43,
  )

  -- THEOREM: 44 exactly when there is one with that maximum and sides in range, and the bytes after it are not as many as pixels
  pub pgm-44 : (read_pgm s ≡ refused 44) ↔ DataOff s
  pgm-44 = (
    λ e. by_bytes (λ p. other e (of-41 p) (λ z. omega arith)) (λ p. other e (of-42 p) (λ z. omega arith)) (λ p. other e (of-43 p) (λ z. omega arith)) (λ p. p) (no-picture e),
    of-44,
  )

-- ---- a map's file

module _ (w h : ℕ) (cells : List Float) where
  numbered : Numbered (size_rows w h (length cells))
  numbered = (lit< tt, tt)

  pfm-number : number_back (pfm_of w h cells) ≡ first_of (size_rows w h (length cells))
  unfolding pfm_of
  pfm-number = answer-number (file_bytes w h cells) (first_of (size_rows w h (length cells)))

  -- THEOREM: its length is answered by the place of its rows
  pub pfm-length-by-place : ByPlace (size_rows w h (length cells)) (number_back (byte_count (pfm_of w h cells)))
  pfm-length-by-place = length-by-place numbered (pfm_of w h cells) pfm-number

  -- THEOREM: and so is what is written into an output of m bytes, whose length comes last
  pub write-pfm-by-place : (m : ℕ) → ByPlace (write_rows (size_rows w h (length cells)) 45 m (pfm_of w h cells)) (number_back (byte_count (room_for 45 m (pfm_of w h cells))))
  write-pfm-by-place m = write-by-place (size_rows w h (length cells)) numbered 45 m (lit< tt) (pfm_of w h cells) pfm-number

-- `sheets::code::whole_cell` meets its contract: even numbers are the folded ones from 0 up, odd ones those below. Assumes nothing.
use Rattle.std.proofs.Common.{◌≡◌, ℕ, suc, ◌+◌, ◌*◌, ◌/◌, ◌%◌, ◌^◌, ◌<◌, ◌≤◌, Bool, true, false, cond, eqb, pos, negsuc, nat_abs, refl, ap, add-one, arith, le→leb, eq-eqb, ne_eqb, eqb-true, le-leb}
use lib.Ieee.{binary32, of_int, in_float}
use borrow.Author.Tests.{lt-leb, eqb-false}
use Rattle.numbers.proofs.Patterns.{neg-round}
use Rattle.refusals.specs.Steps.{is}
use Rattle.sheets.specs.Code.{unfolded, sheet_cell}
use Rattle.sheets.proofs.code.whole_cell.Goals as goal

-- a folded number is at most twice the most where its number is at most that
module _ (m most : ℕ) where
  too_far : most * 2 < m → most < nat_abs (unfolded m)
  too_far h = go (eqb (m % 2) 0) refl
    where
      go : (b : Bool) → eqb (m % 2) 0 ≡ b → most < nat_abs (cond b (pos (m / 2)) (negsuc (m / 2)))
      go true e = omega (arith, eqb-true (m % 2) 0 e)
      go false e = omega arith

  near : m ≤ most * 2 → nat_abs (unfolded m) ≤ most
  near h = go (eqb (m % 2) 0) refl
    where
      go : (b : Bool) → eqb (m % 2) 0 ≡ b → nat_abs (cond b (pos (m / 2)) (negsuc (m / 2))) ≤ most
      go true e = omega arith
      go false e = let odd = eqb-false (m % 2) 0 e in omega arith

pub returns-then-folded : goal.returns-then-folded
unfolding sheet_cell
returns-then-folded c = rw (lt-leb _ _ (too_far c.args.folded _ c.if-folded.true))

pub int_to_float-above : goal.int_to_float-above
unfolding in_float
int_to_float-above c = le→leb (c.args.folded / 2) (2 ^ 24) (omega arith)

pub int_to_float-below : goal.int_to_float-below
unfolding in_float
int_to_float-below c = le→leb (c.args.folded / 2 + 1) (2 ^ 24) (omega arith)

pub returns-then-folded-eq0 : goal.returns-then-folded-eq0
unfolding sheet_cell
returns-then-folded-eq0 c =
    let m = c.args.folded in
    rw (le-leb _ _ (near m _ c.if-folded.false), eq-eqb (m % 2) 0 c.if-folded-eq0.true)

pub returns : goal.returns
unfolding sheet_cell of_int
returns c =
    let m = c.args.folded in
    rw (le-leb _ _ (near m _ c.if-folded.false), ne_eqb (m % 2) 0 c.if-folded-eq0.false, add-one)
    (ap is (neg-round binary32 false (suc (m / 2)) 1))

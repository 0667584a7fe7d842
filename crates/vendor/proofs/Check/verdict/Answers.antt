-- `Check::verdict` meets its contract: the pictures' tables are put into the room, and after the sweep it is cleared. Assumes nothing.
use Prim.Native.Nat.{◌*◌, ◌-◌}
use mathlib.Core.Path.{◌≡◌, sym, ◌∙◌}
use borrow.Rule.Slice.PartMut.{put_mid}
use Rattle.lists.specs.Lists.{cleared}
use Rattle.vendor.proofs.Outcomes.{judged-yes, judged-no}
use Rattle.vendor.proofs.Check.verdict.Goals.{After-fill}
use native.Mathlib.Omega.{arith}
use borrow.Author.Rules.{rules}
use Rattle.windows.specs.Window.{cells}
use Rattle.costs.proofs.Volumes.{both-size, both_rest, cleared-is}
use Rattle.vendor.proofs.Check.verdict.Goals as goal

-- the room's cells that were needed are zero, and the others are as they were
zeroed : (c : After-fill) → put_mid 0 (5 * cells c.args.self.frame.w c.args.self.frame.h - 0) c.sweep-bad.new.room c.fill.new.self ≡ cleared 0 (5 * cells c.args.self.frame.w c.args.self.frame.h) c.args.room.now
zeroed c =
    let p = c.fill_picture.ensures in
    let q = c.fill_picture-2.ensures in
    let d = c.sweep-bad in
    let long = both-size _ _ _ _ _ c.args.room.now _ _ p q (omega (arith, c.requires.room-cells)) in
    cleared-is (5 * cells c.args.self.frame.w c.args.self.frame.h) c.args.room.now d.new.room c.fill.new.self (search rules) (omega (arith, c.requires.room-cells, long, d.auto.room))
    (d.ensures.1 ∙ both_rest _ _ _ _ _ c.args.room.now _ _ p q)

pub returns-then-bad-map : goal.returns-then-bad-map
returns-then-bad-map c =
    (judged-yes c.args.self _ _ _ _ c.sweep-bad.ensures.0 (c.if-bad-map.true ∙ c.requires.map-cells), zeroed (goal.at.returns-then-bad-map c).After-fill)

pub returns : goal.returns
returns c =
    (judged-no c.args.self _ _ _ _ c.sweep-bad.ensures.0 (λ e. c.if-bad-map.false (e ∙ sym c.requires.map-cells)), zeroed (goal.at.returns c).After-fill)

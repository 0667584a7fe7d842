-- `Plan::make_volume` meets its contract. Assumes nothing.
use mathlib.Core.Path.{◌∙◌}
use native.Mathlib.Omega.{arith}
use borrow.Author.Rules.{rules}
use Prim.Native.Nat.{◌*◌}
use Rattle.windows.specs.Window.{cells}
use Rattle.costs.proofs.Volumes.{both-tables, both-size, both_rest, cleared-is}
use Rattle.costs.proofs.volume.Plan.make_volume.Goals as goal

pub fill_planes-requires : goal.fill_planes-requires
fill_planes-requires c =
    let p = c.fill_picture.ensures in
    let q = c.fill_picture-2.ensures in
    record {
      sizes = record {
        frame = c.requires.frame;
        a-bytes = c.requires.a-bytes;
        b-bytes = c.requires.b-bytes;
        first-most = c.requires.first-most;
        count_most = c.requires.count_most;
        out-cells = c.requires.out-cells;
        room-cells = omega (arith, c.requires.room-cells, both-size _ _ _ _ _ c.args.room.now _ _ p q (omega (arith, c.requires.room-cells)));
      };
      tables = both-tables _ _ _ _ _ c.args.room.now _ _ p q;
    }

pub returns : goal.returns
returns c =
    let p = c.fill_picture.ensures in
    let q = c.fill_picture-2.ensures in
    let d = c.fill_planes in
    let long = both-size _ _ _ _ _ c.args.room.now _ _ p q (omega (arith, c.requires.room-cells)) in (
      d.ensures.0,
      cleared-is (5 * cells c.args.self.frame.w c.args.self.frame.h) c.args.room.now d.new.room c.fill.new.self (search rules) (omega (arith, c.requires.room-cells, long, d.auto.room))
          (d.ensures.1 ∙ both_rest _ _ _ _ _ c.args.room.now _ _ p q),
    )

-- `heap_print::match_pictures` meets its contract: the pictures are the input's parts.
use Prim.Native.Nat.{◌*◌}
use Rattle.std.proofs.Common.{take, drop, ap, ◌∙◌}
use lib.Seq.{drop-drop}
use Rattle.heap_text.proofs.Fields.{rest-is}
use Rattle.heap_print.proofs.Outcome.{answered, matched}
use Rattle.heap_print.proofs.match_pictures.Goals as goal

pub returns : goal.returns
returns c =
    let s = c.split_at.ensures in
    let n = c.args.q.width * c.args.q.height in
    let behind = rest-is c.args.input.now c.args.q.start in
    matched _ _ _ _ (answered c.args.input.now c.args.q c.options_of-opts.ensures (s.front ∙ ap (take n) behind)
    (ap (take n) (s.back ∙ ap (drop n) behind ∙ drop-drop n c.args.q.start c.args.input.now))
    c.requires.pixels c.requires.rooms.0 c.requires.rooms.1 c.match_block.ensures)

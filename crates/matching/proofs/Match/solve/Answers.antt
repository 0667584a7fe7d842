-- `Match::solve` meets its contract. Assumes nothing.
use mathlib.Core.Path.{◌≡◌, ap, ◌∙◌}
use mathlib.Core.Bool.{false}
use mathlib.Core.List.{◌++◌}
use native.Mathlib.Omega.{arith}
use lib.IntN.{pos}
use lib.Ieee.{fin, of_bits}
use lib.ListN.{length, replicate, length-append}
use Rattle.matching.proofs.Match.solve.Goals as goal

pub make_map-requires : goal.make_map-requires
make_map-requires c =
    let s = c.split_at_mut-work.ensures in
    record {
      side_room = record { fits = c.requires.fits; cells = omega (arith, s.front_len, c.requires.cells) };
      map_len = omega (arith, s.back_len, c.requires.cells, c.requires.fits.out-cells);
    }

pub returns : goal.returns
unfolding of_bits
returns c =
    let s = c.split_at_mut-work.ensures in
    let m = c.make_map in
    let whole : length (m.new.work ++ m.new.map) ≡ length c.args.room.now = omega (arith, length-append m.new.work m.new.map, m.auto.work, m.auto.map, s.front_len, s.back_len) in
    let filled : c.fill.new.self ≡ replicate (length (m.new.work ++ m.new.map)) (fin false 0 (pos 0)) = c.fill.ensures.after (λ y e. e) in
    record { map = m.ensures.made; wholes = m.ensures.wholes; rooms = filled ∙ ap (λ n. replicate n (fin false 0 (pos 0))) whole }

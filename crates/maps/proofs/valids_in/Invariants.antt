-- `maps::valids_in` meets its contract: at each turn the valid cells so far are counted. Assumes nothing.
use Rattle.std.proofs.Common.{◌≡◌, count_by, take}
use Rattle.std.specs.Float.Ieee.Scale.{finite}
use Rattle.maps.proofs.valids_in.Given as goal

abbrev pub invariant-loop-x : goal.invariant-loop-x
invariant-loop-x l = l.n ≡ count_by finite (take l.x-index l.cells)

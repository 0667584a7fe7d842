-- `paths::cost::fill_pixels` meets its contract: after k turns the costs with an index below k are filled. Assumes nothing.
use Prim.Native.Nat.{ℕ, ◌+◌, ◌*◌}
use mathlib.Core.Path.{ap, ◌∙◌}
use mathlib.Core.List.{List}
use native.Mathlib.Omega.{arith}
use lib.ListN.{length}
use lib.Ieee.{Float}
use Rattle.paths.specs.Room.{run, spread}
use Rattle.paths.proofs.Parts.{length_run}
use Rattle.paths.proofs.Blocks.{same-part}
use Rattle.paths.proofs.Costed.{cost_at, plane-end, pixels-turn, pixels-done}
use Rattle.paths.proofs.cost.fill_pixels.Goals as goal

pub loop-k-preserved : goal.loop-k-preserved
loop-k-preserved c =
    let a = c.args in
    let l = c.loop-k in
    let from = l.k * a.area + a.p in
    let raw = a.raw.now in
    pixels-turn a.area a.count a.p a.n c.requires.inside raw c.requires.lengths.0 l.costs l.k c.loop-k-test.true l.invariant c.fill_index.new.costs
    (c.fill_index.ensures
    ∙ ap (λ (s : List Float). spread (length s) a.count l.k (cost_at s) l.costs) (same-part from a.n raw)
    ∙ ap (λ (j : ℕ). spread j a.count l.k (cost_at (run a.n from raw)) l.costs) (length_run a.n from raw (omega (arith, c.requires.lengths.0, plane-end a.area a.count a.p a.n c.requires.inside raw c.requires.lengths.0 l.k c.loop-k-test.true))))

pub returns : goal.returns
returns c =
    let a = c.args in
    pixels-done a.area a.count a.p a.n c.requires.inside a.raw.now c.requires.lengths.0 c.loop-k.costs c.loop-k.k (omega arith) c.loop-k.invariant

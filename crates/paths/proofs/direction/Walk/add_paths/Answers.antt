-- `paths::direction::Walk::add_paths` meets its contract: before the visit of turn i of line j the pixels of the turns before are done. Assumes nothing.
use Prim.Native.Nat.{ℕ, ◌+◌, ◌-◌, ◌*◌}
use mathlib.Core.Path.{◌≡◌, refl, ap, ap₂, ◌∙◌}
use mathlib.Core.Bool.{cond}
use mathlib.Core.List.{List, [], ◌∷◌}
use native.Mathlib.Nat.{mul_comm, zero-mul}
use native.Mathlib.Omega.{arith}
use borrow.Author.Rules.{rules}
use lib.Ieee.{Float}
use lib.ListN.{length}
use Rattle.lists.specs.Lists.{list_of}
use Rattle.lists.proofs.Rows.{pixel-in}
use Rattle.paths.specs.Path.{add_vec}
use Rattle.paths.specs.Walk.{is_forward, pixels_in}
use Rattle.paths.proofs.Places.{turn-pixel}
use Rattle.paths.proofs.Walks.{visited-more, all-summed}
use Rattle.paths.proofs.Ready.{visit-ready}
use Rattle.paths.proofs.direction.Walk.add_paths.Goals.{After-visited-y}
use Rattle.paths.proofs.direction.Walk.add_paths.Goals as goal

-- without columns there are no sums
no-sums : (sums paths : List Float) → length sums ≡ 0 → sums ≡ add_vec sums paths
unfolding add_vec list_of
no-sums [] paths h = refl
no-sums (s ∷ sums) paths h = absurd (omega arith)

pub returns-then-self-eq0 : goal.returns-then-self-eq0
returns-then-self-eq0 c =
    let k = c.args.self in
    let none : k.w * k.h * k.count ≡ 0 = rw (c.if-self-eq0.true, zero-mul, zero-mul) refl in
    no-sums _ _ (c.requires.lengths.2 ∙ none)

-- the pixel of a turn
abbrev pixel : After-visited-y → ℕ
pixel c = c.visited-y.result * c.args.self.w + c.visited-x.result

turn : (c : After-visited-y) → let k = c.args.self in
    let t = c.loop-j.j * k.w + c.loop-i.i in pixel c ≡ cond (is_forward k.dx k.dy) t (pixels_in k - 1 - t)
turn c =
    let k = c.args.self in
    ap₂ (λ (y x : ℕ). y * k.w + x) (rw (← c.is_forward-forward.ensures) c.visited-y.ensures) (rw (← c.is_forward-forward.ensures) c.visited-x.ensures)
    ∙ turn-pixel (is_forward k.dx k.dy) k.w k.h c.loop-i.i c.loop-j.j c.loop-i-test.true c.loop-j-test.true

pub visit-requires-clause-ready : goal.visit-requires-clause-ready
visit-requires-clause-ready c =
    let k = c.args.self in
    let d = (goal.at.visit-requires-clause-ready c).After-visited-y in
    visit-ready k c.requires.direction c.requires.some c.requires.lengths.0 c.requires.bounded (search rules) (search rules) c.loop-i.invariant
    (pixel-in k.w k.h c.loop-i.i c.loop-j.j c.loop-i-test.true c.loop-j-test.true) (pixel d) (turn d)

pub loop-i-preserved : goal.loop-i-preserved
loop-i-preserved c =
    let k = c.args.self in
    let d = (goal.at.loop-i-preserved c).After-visited-y in
    let next : c.loop-j.j * k.w + c.loop-i.i + 1 ≡ c.loop-j.j * k.w + (c.loop-i.i + 1) = omega arith in
    rw (c.visit.ensures.path, c.visit.ensures.sum, ← next)
    (visited-more c.requires.direction c.requires.lengths.0 c.loop-i.invariant (pixel-in k.w k.h c.loop-i.i c.loop-j.j c.loop-i-test.true c.loop-j-test.true) (pixel d) (turn d))

pub returns : goal.returns
returns c =
    let k = c.args.self in
    let last : c.loop-j.j ≡ k.h = omega (arith, c.loop-j-test.false) in
    let all : c.loop-j.j * k.w ≡ pixels_in k = ap (λ (j : ℕ). j * k.w) last ∙ mul_comm k.h k.w in
    all-summed c.requires.lengths.0 c.requires.lengths.2 (rw all at c.loop-j.invariant)

-- `options::is_within` meets its contract: x < n - r is x + r < n where r is at most n. Assumes nothing.
use Prim.Native.Nat.{ℕ, ◌+◌, ◌-◌, ◌≤◌}
use mathlib.Core.Path.{◌≡◌, sym, ◌∙◌}
use native.Mathlib.Decide.{dec_lt}
use native.Mathlib.Omega.{arith}
use borrow.Author.Tests.{lt-leb, le-leb, lt-ltb, le-ltb}
use lib.Dec.{ltb}
use Rattle.options.proofs.is_within.Goals as goal

-- the two ways to say the right edge
same-edge : (n r x : ℕ) → r ≤ n → ltb x (n - r) ≡ ltb (x + r) n
same-edge n r x l =
    elim (dec_lt (x + r) n) [ yes h ↦ lt-ltb x (n - r) (omega arith) ∙ sym (lt-ltb (x + r) n h) | no h ↦ le-ltb x (n - r) (omega arith) ∙ sym (le-ltb (x + r) n (omega arith)) ]

pub returns-then-x-r : goal.returns-then-x-r
returns-then-x-r c = rw (lt-leb c.args.r c.args.x c.if-x-r.true)

pub returns-then-n-r : goal.returns-then-n-r
returns-then-n-r c =
    let z = c.args in
    let far : z.n ≤ z.x + z.r = omega (arith, c.if-n-r.true) in
    rw (le-leb z.r z.x c.if-x-r.false, le-ltb (z.x + z.r) z.n far)

pub returns : goal.returns
returns c = let z = c.args in same-edge z.n z.r z.x c.if-n-r.false ∙ rw (le-leb z.r z.x c.if-x-r.false)

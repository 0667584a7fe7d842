-- `numbers::first_roots::entries` meets its contract: the rule by squares is two tests at each of the 768 entries, which antt computes. Assumes nothing.
use Rattle.std.proofs.Common.{◌≡◌, ℕ, ◌+◌, ◌-◌, ◌*◌, Bool, ◌&&◌, T, ltb, leb, List, length, get_or, refl, subst, arith, ltb→lt, leb→le}
use lib.Ieee.Fits.{and_l, and_r}
use borrow.Fn.Function.{res_v}
use Rattle.numbers.specs.Root.{FirstRoot, FirstRoots}
use Rattle.numbers.proofs.EveryEntry.{every, at}
use Rattle.numbers.proofs.first_roots.entries.Reads as reads
use Rattle.numbers.proofs.first_roots.entries.Lts as lts
use Rattle.numbers.proofs.first_roots.entries.Goals.{Start}
use Rattle.numbers.proofs.first_roots.entries.Goals as goal

-- the program's own table, so that no copy of it stands here: what the function returns
table : Start → List ℕ
table c = res_v lts.r tt (lts.m2 reads.Pre reads.Post c.args).0

-- the two tests of an entry x of the number i
abbrev square-fits : ℕ → ℕ → Bool
square-fits i x = leb (x * x) (64 * i)

abbrev next-too-large : ℕ → ℕ → Bool
next-too-large i x = ltb (64 * i) ((x + 1) * (x + 1))

abbrev right : ℕ → ℕ → Bool
right i x = square-fits i x && next-too-large i x

rule : (i x : ℕ) → T (right i x) → FirstRoot i x
rule i x t = record {
  fits = leb→le (x * x) (64 * i) (and_l (square-fits i x) (next-too-large i x) t);
  most = ltb→lt (64 * i) ((x + 1) * (x + 1)) (and_r (square-fits i x) (next-too-large i x) t);
}

-- of any list of 768 numbers that pass the tests
rule-at : (xs : List ℕ) → 768 ≡ length xs → T (every right 256 xs) → FirstRoots xs
rule-at xs e t i least below =
    let place : 256 + (i - 256) ≡ i = omega arith in
    let x = get_or xs (i - 256) 0 in
    subst (λ (n : ℕ). FirstRoot n x) place (rule (256 + (i - 256)) x (at right 256 xs t (i - 256) (omega arith)))

-- here antt runs through the table: `refl` counts its entries, and `tt` says that each passed
pub returns : goal.returns
unfolding table
returns c = rule-at (table c) refl tt

-- Which bit patterns of an f32 are a finite float's. Assumes nothing.
use Rattle.std.proofs.Common.{◌≡◌, ℕ, zero, suc, ◌+◌, ◌/◌, ◌%◌, ◌^◌, Bool, true, false, cond, not, T, eqb, leb, refl, ap, ◌∙◌, arith}
use mathlib.Core.Bool.{false≢true}
use lib.Ieee.{Float, nan, inf, fin, binary32, odd, is_nan, of_bits, of_fields}
use lib.Ieee.Scale.{finite}

odd-finite : (d : ℕ) (s : Bool) (q k l : ℕ) → finite (odd d s q k l) ≡ true
unfolding odd
odd-finite d s zero k l = refl
odd-finite d s (suc q) k l = refl

fields-finite : (s : Bool) (x t : ℕ) → finite (of_fields binary32 s x t) ≡ not (eqb x 255)
unfolding of_fields
fields-finite s zero t = odd-finite 24 s t 0 149
fields-finite s (suc x) t = go (eqb (suc x) 255) (eqb t 0)
  where
    go : (a b : Bool) → finite (cond a (cond b (inf s) nan) (odd 24 s (2 ^ 23 + t) x 149)) ≡ not a
    go true true = refl
    go true false = refl
    go false b = odd-finite 24 s (2 ^ 23 + t) x 149

-- a pattern is a finite float's where the exponent's field is not all ones
pub pattern-finite : (b : ℕ) → finite (of_bits binary32 b) ≡ not (eqb (b / 2 ^ 23 % 256) 255)
unfolding of_bits
pattern-finite b =
    let field : b % 2 ^ 31 / 2 ^ 23 ≡ b / 2 ^ 23 % 256 = omega arith in
    fields-finite (leb (2 ^ 31) b) (b % 2 ^ 31 / 2 ^ 23) (b % 2 ^ 23) ∙ ap (λ (x : ℕ). not (eqb x 255)) field

-- a finite float is no NaN
pub finite_number : (x : Float) → finite x ≡ true → T (not (is_nan x))
unfolding is_nan
finite_number nan f = absurd (false≢true f)
finite_number (inf s) f = tt
finite_number (fin s m e) f = tt

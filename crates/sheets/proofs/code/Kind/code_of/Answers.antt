-- `sheets::code::Kind::code_of` meets its contract: a NaN, an infinity, and then by the kind. Assumes nothing.
use Rattle.std.proofs.Common.{◌≡◌, ℕ, ◌^◌, ◌<◌, true, false, T, sym, refl, ◌∙◌, subst, true≢false, add-one, arith, lit<, rules}
use lib.Ieee.{Float, nan, inf, fin, binary32, ne, fits, to_bits}
use lib.Ieee.Bits.{to_bits-lt}
use lib.Ieee.Compare.{differs_from_itself, nan_differs}
use lib.Ieee.Scale.{finite}
use Rattle.sheets.specs.declared.code.Kind.{Kind}
use Rattle.refusals.specs.Steps.{is, refused}
use Rattle.sheets.specs.Code.{code_of}
use Rattle.std.specs.Prelude.{Result, Ok, Err, IfOk}
use Rattle.refusals.specs.declared.Refusal.{Refusal}
use Rattle.refusals.specs.Given.{given_back}
use Rattle.numbers.proofs.FinitePatterns.{finite_number}
use Rattle.sheets.proofs.Codes.{code-exact, code-small}
use Rattle.sheets.proofs.code.Kind.code_of.Goals.{Else-not-is_finite}
use Rattle.sheets.proofs.code.Kind.code_of.Goals as goal

-- the test for a NaN, and what is neither that nor finite
marked : (k : Kind) (x : Float) → ne x x ≡ true → code_of k x ≡ is 0
unfolding code_of
marked k x h = rw (differs_from_itself x (subst T (sym h) tt))

endless : (k : Kind) (x : Float) → ne x x ≡ false → finite x ≡ false → code_of k x ≡ refused 31
unfolding code_of
endless k nan h f = absurd (true≢false (sym nan_differs ∙ h))
endless k (inf s) h f = refl
endless k (fin s m e) h f = absurd (true≢false f)

small : (k : Kind) (x : Float) → T (fits binary32 x) → (r : Result ℕ Refusal) → given_back r ≡ code_of k x → IfOk r (λ n. n < 2 ^ 35)
small k x p (Ok n) e = code-small k x n p (sym e)
small k x p (Err d) e = tt

pub returns-then-x : goal.returns-then-x
returns-then-x c = record { is = rw (marked c.args.self c.args.x c.if-x.true); small = lit< tt }

pub returns-then-not-is_finite : goal.returns-then-not-is_finite
returns-then-not-is_finite c = record { is = rw (endless c.args.self c.args.x c.if-x.false (sym c.is_finite.ensures ∙ c.if-not-is_finite.true)); small = tt }

-- past both tests the cell is finite
found : (c : Else-not-is_finite) → finite c.args.x ≡ true
found c = sym c.is_finite.ensures ∙ c.if-not-is_finite.false

pub whole_code-requires : goal.whole_code-requires
whole_code-requires c = found (goal.at.whole_code-requires c).Else-not-is_finite

pattern : (c : Else-not-is_finite) → to_bits binary32 c.args.x < 2 ^ 32
pattern c = to_bits-lt binary32 c.args.x (search rules)

pub float_to_bits-result : goal.float_to_bits-result
float_to_bits-result c = finite_number _ (found (goal.at.float_to_bits-result c).Else-not-is_finite)

pub overflow_cast-result : goal.overflow_cast-result
overflow_cast-result c = omega (arith, pattern (goal.at.overflow_cast-result c).Else-not-is_finite)

pub overflow_add-result : goal.overflow_add-result
overflow_add-result c = omega (arith, pattern (goal.at.overflow_add-result c).Else-not-is_finite)

pub returns-in-Whole : goal.returns-in-Whole
returns-in-Whole c =
    rw c.in-Whole.is (record { is = c.whole_code.ensures; small = small _ c.args.x (search rules) _ c.whole_code.ensures })

pub returns-in-Exact : goal.returns-in-Exact
returns-in-Exact c =
    let k = (goal.at.returns-in-Exact c).Else-not-is_finite in
    rw (c.in-Exact.is, code-exact _ (found k), add-one) (record { is = refl; small = omega (arith, pattern k) })

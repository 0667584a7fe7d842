-- What the verdict says, without the tests that it is made of. Assumes nothing.
use Prim.Native.Nat.{ℕ, ◌+◌, ◌*◌, ◌/◌, ◌%◌, ◌<◌, ◌≤◌}
use mathlib.Core.Path.{◌≡◌, refl, sym, ap₂, ◌∙◌, subst}
use mathlib.Core.Bool.{Bool, true, false, cond, not, ◌||◌, true≢false}
use mathlib.Core.Logic.{⊎_elim}
use mathlib.Core.List.{List}
use native.Mathlib.Nat.{mod-lt, div-add-mod'}
use native.Mathlib.Omega.{arith}
use borrow.Author.Tests.{ne_eqb}
use lib.ListN.{get_or}
use lib.Ieee.{Float, nan}
use lib.Ieee.Scale.{finite}
use Rattle.lists.specs.Lists.{all_below}
use Rattle.lists.proofs.Tests.{all_of, of-all}
use Rattle.lists.proofs.Rows.{in-column, in-row, pixel-in, row_below}
use Rattle.vendor.specs.declared.Check.{Check}
use Rattle.vendor.specs.declared.Verdict.TheVariants.{Yes, No}
use Rattle.vendor.specs.Verdict.{is_choice, passes, first_bad, verdict_of}
use Rattle.vendor.specs.Meaning.{Good}
use Rattle.lists.proofs.Firsts.{Fails, first-here, first-or, all_first}
use Rattle.vendor.proofs.Choices.{choice-of, of-choice}

-- a yes is no no
yes-no : (x y : ℕ) → Yes ≡ No x y → ⊥
yes-no x y e = let z : ◌≡◌ {A = ℕ} 0 1 = cc in omega arith

module _ (q : Check) (left right : List ℕ) (map : List Float) where
  -- a pixel passes exactly where its cell, if valid, is a choice
  pub passes-means : (p : ℕ) → passes q left right map p ≡ true → Good q left right map p
  unfolding passes
  passes-means p e valid = choice-of q left right (p % q.frame.w) (p / q.frame.w) (get_or map p nan) (rw valid at e)

  pub means-passes : (p : ℕ) → Good q left right map p → passes q left right map p ≡ true
  unfolding passes
  means-passes p g = go (finite (get_or map p nan)) refl
    where
      go : (t : Bool) → finite (get_or map p nan) ≡ t → not t || is_choice q left right (p % q.frame.w) (p / q.frame.w) (get_or map p nan) ≡ true
      go true valid = of-choice q left right (p % q.frame.w) (p / q.frame.w) (get_or map p nan) (g valid)
      go false valid = refl

  -- THEOREM: yes exactly when every valid cell is a choice
  pub yes-means : verdict_of q left right map ≡ Yes → (p : ℕ) → p < q.frame.w * q.frame.h → Good q left right map p
  unfolding verdict_of
  yes-means e p l = passes-means p (all_of (q.frame.w * q.frame.h) (passes q left right map) (go (all_below (q.frame.w * q.frame.h) (passes q left right map)) e) p l)
    where
      go : (t : Bool) → cond t Yes (No (first_bad q left right map % q.frame.w) (first_bad q left right map / q.frame.w)) ≡ Yes → t ≡ true
      go true e = refl
      go false e = absurd (yes-no _ _ (sym e))

  pub means-yes : ((p : ℕ) → p < q.frame.w * q.frame.h → Good q left right map p) → verdict_of q left right map ≡ Yes
  unfolding verdict_of
  means-yes g = rw (of-all (q.frame.w * q.frame.h) (passes q left right map) (λ p l. means-passes p (g p l)))

  -- THEOREM: a no names the first bad cell by rows: the cells before it are good, and it is not
  pub record FirstBad (x y : ℕ) : Type 0 where
    pub column : x < q.frame.w
    pub row : y < q.frame.h
    pub before : (p : ℕ) → p < y * q.frame.w + x → Good q left right map p
    pub bad : Good q left right map (y * q.frame.w + x) → ⊥

  -- a pixel that is the first not to pass is the first bad cell
  first-bad : 1 ≤ q.frame.w → (i : ℕ) → Fails (q.frame.w * q.frame.h) (passes q left right map) i → FirstBad (i % q.frame.w) (i / q.frame.w)
  first-bad some i f =
      let back : i / q.frame.w * q.frame.w + i % q.frame.w ≡ i = div-add-mod' i q.frame.w in
      record {
        column = mod-lt i some;
        row = row_below q.frame.w q.frame.h i f.inside;
        before = λ p l. passes-means p (f.before p (omega arith));
        bad = λ g. true≢false (sym (means-passes i (subst (Good q left right map) back g)) ∙ f.fails);
      }

  -- and is what a no names
  first-named : (i : ℕ) → Fails (q.frame.w * q.frame.h) (passes q left right map) i → verdict_of q left right map ≡ No (i % q.frame.w) (i / q.frame.w)
  unfolding verdict_of
  first-named i f =
      let first : first_bad q left right map ≡ i = first-here (q.frame.w * q.frame.h) i (passes q left right map) f.inside f.before f.fails in
      let other : first_bad q left right map ≡ q.frame.w * q.frame.h → ⊥ = λ e. omega (arith, f.inside) in
      rw (all_first (q.frame.w * q.frame.h) (passes q left right map), ne_eqb (first_bad q left right map) (q.frame.w * q.frame.h) other, first)

  pub no-means : 1 ≤ q.frame.w → (x y : ℕ) → verdict_of q left right map ≡ No x y → FirstBad x y
  no-means some x y e =
      ⊎_elim (λ (all : (p : ℕ) → p < q.frame.w * q.frame.h → passes q left right map p ≡ true).
      absurd (yes-no x y (sym (means-yes (λ p l. passes-means p (all p l))) ∙ e)))
      (λ (f : Fails (q.frame.w * q.frame.h) (passes q left right map) (first_bad q left right map)). named f (sym (first-named (first_bad q left right map) f) ∙ e))
      (first-or (q.frame.w * q.frame.h) (passes q left right map))
    where
      named : {i : ℕ} → Fails (q.frame.w * q.frame.h) (passes q left right map) i → No (i % q.frame.w) (i / q.frame.w) ≡ No x y → FirstBad x y
      named {i} f e =
          let at : i % q.frame.w ≡ x = cc in
          let on : i / q.frame.w ≡ y = cc in
          rw (← at, ← on) (first-bad some i f)

  pub means-no : (x y : ℕ) → FirstBad x y → verdict_of q left right map ≡ No x y
  means-no x y f =
      first-named (y * q.frame.w + x) (record {
        inside = pixel-in q.frame.w q.frame.h x y f.column f.row;
        fails = fails (passes q left right map (y * q.frame.w + x)) refl;
        before = λ p l. means-passes p (f.before p l);
      })
      ∙ ap₂ No (in-column q.frame.w x y f.column) (in-row q.frame.w x y f.column)
    where
      fails : (t : Bool) → passes q left right map (y * q.frame.w + x) ≡ t → passes q left right map (y * q.frame.w + x) ≡ false
      fails true e = absurd (f.bad (passes-means (y * q.frame.w + x) e))
      fails false e = e

-- A window shows one level exactly when its variance is 0. Assumes nothing.
use Prim.Native.Nat.{ℕ, ◌+◌, ◌*◌, ◌-◌, ◌<◌}
use mathlib.Core.Path.{◌≡◌, refl, sym, ap, ◌∙◌}
use mathlib.Core.Bool.{Bool, true, false}
use mathlib.Core.List.{List}
use native.Mathlib.Nat.{add-zero}
use native.Mathlib.Omega.{arith}
use borrow.Author.Tests.{eq-eqb, eqb-true}
use lib.Dec.{eqb}
use Rattle.lists.specs.Rows.{level_at}
use Rattle.windows.specs.Moments.{var_of}
use Rattle.windows.proofs.Laws.{var-zero-flat, flat-var-zero}
use Rattle.windows.proofs.Flat.{pixel, count, window-var, shows-one, pixels-one}
use Rattle.lists.proofs.Tests.{all_of, of-all}
use Rattle.costs.specs.Raw.{window_var, one_level}

module _ (w : ℕ) (a : List ℕ) (x y r : ℕ) where
  var-is : window_var w a x y r ≡ var_of (count r) (pixel (level_at w a) x y r)
  unfolding window_var
  var-is = window-var w a a x x y r

  -- a window that shows one level has variance 0
  pub one-flat : one_level w a x y r ≡ true → window_var w a x y r ≡ 0
  unfolding one_level
  one-flat e =
      let level : (i j : ℕ) → i < 2 * r + 1 → j < 2 * r + 1 → level_at w a (x - r + i) (y - r + j) ≡ level_at w a (x - r) (y - r) =
      λ i j li lj. eqb-true _ _ (all_of (2 * r + 1) _ (all_of (2 * r + 1) _ e j lj) i li) in
      var-is
      ∙ flat-var-zero (count r) (pixel (level_at w a) x y r)
      (pixels-one (level_at w a) x y r (λ i j i' j' li lj li' lj'. level i j li lj ∙ sym (level i' j' li' lj')))

  -- and one of variance 0 shows one level
  pub flat-one : window_var w a x y r ≡ 0 → one_level w a x y r ≡ true
  unfolding one_level
  flat-one e =
      of-all (2 * r + 1) _
      (λ j lj.
      of-all (2 * r + 1) _
      (λ i li.
      eq-eqb _ _
      (shows-one (level_at w a) x y r (var-zero-flat (count r) (pixel (level_at w a) x y r) (sym var-is ∙ e)) i j 0 0 li lj (omega arith) (omega arith)
      ∙ ap (λ k. level_at w a k (y - r + 0)) (add-zero (x - r))
      ∙ ap (λ k. level_at w a (x - r) k) (add-zero (y - r)))))

  -- THEOREM: one level is the same as variance 0
  pub one-level : one_level w a x y r ≡ eqb (window_var w a x y r) 0
  one-level = decided (one_level w a x y r) refl
    where
      decided : (t : Bool) → one_level w a x y r ≡ t → t ≡ eqb (window_var w a x y r) 0
      decided true e = sym (eq-eqb (window_var w a x y r) 0 (one-flat e))
      decided false e = other (eqb (window_var w a x y r) 0) refl
        where
          other : (u : Bool) → eqb (window_var w a x y r) 0 ≡ u → false ≡ u
          other true f = sym e ∙ flat-one (eqb-true _ _ f)
          other false f = refl

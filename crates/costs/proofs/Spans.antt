-- The cells of a row by where both windows lie in it. Assumes nothing.
use Prim.Native.Nat.{ℕ, suc, ◌+◌, ◌-◌, ◌*◌, ◌≤◌, ◌<◌}
use mathlib.Core.Path.{◌≡◌, refl, sym, ap, ◌∙◌, subst}
use mathlib.Core.Bool.{true, false, true≢false}
use mathlib.Core.List.{List, ◌++◌}
use mathlib.Core.Logic.{⊎_elim}
use native.Mathlib.Nat.{add-sub_cancel_left}
use native.Mathlib.Omega.{arith}
use borrow.Author.Tests.{lt-ltb, le-ltb, ltb-true}
use borrow.Rule.Slice.PartMut.{put_mid, mid_of, mid_len}
use lib.IntN.{ℤ, pos, negsuc, nat_abs, ◌+ℤ◌, pos-ne-negsuc}
use lib.Ieee.{Float, inf}
use lib.ListN.{length, drop}
use lib.Signed.{lt_z}
use lib.Seq.{drop_at}
use Rattle.lists.specs.Lists.{list_of}
use Rattle.lists.proofs.Lists.{list_of-length, list_of-same, list_of-split, part-next}
use Rattle.lists.proofs.Tests.{lt-or-le}
use Rattle.options.specs.Costs.{stored}
use Rattle.options.specs.Frame.{within}
use Rattle.options.proofs.Frames.{within-not}
use Rattle.costs.specs.Raw.{pair_cost, shifted_cost}
use Rattle.costs.specs.Rooms.{RoomReady, Pair, WindowsInLine}
use Rattle.costs.specs.declared.plane.Span.{Span}
use Rattle.costs.specs.Span.{window_span}
use Rattle.costs.specs.Volume.{row_cells}
use Rattle.costs.proofs.Frames.{blank-unless, target_found}

-- how far two columns that lie s apart are from each other
abbrev pub Apart : ℕ → ℤ → ℕ → Type 0
Apart x (pos d) x' = x + d ≡ x'
Apart x (negsuc d) x' = x ≡ x' + suc d

pub apart-says : (x x' : ℕ) (s : ℤ) → pos x +ℤ s ≡ pos x' → Apart x s x'
apart-says x x' (pos d) e = ap nat_abs e
apart-says x x' (negsuc d) e =
    ⊎_elim
    (λ (l : x < suc d). absurd (pos-ne-negsuc x' (suc d - suc x) (sym e ∙ rw (lt-ltb x (suc d) l))))
    (λ (l : suc d ≤ x). let n : x - suc d ≡ x' = ap nat_abs (rw (le-ltb x (suc d) l) at e) in omega arith)
    (lt-or-le x (suc d))

pub apart-is : (x x' : ℕ) (s : ℤ) → Apart x s x' → pos x +ℤ s ≡ pos x'
apart-is x x' (pos d) e = ap pos e
apart-is x x' (negsuc d) e = rw (le-ltb x (suc d) (omega arith)) (ap pos (omega arith))

-- and so are the columns i further on
pub further : (x x' i : ℕ) (s : ℤ) → pos x +ℤ s ≡ pos x' → pos (x + i) +ℤ s ≡ pos (x' + i)
further x x' i s e = apart-is (x + i) (x' + i) s (go s (apart-says x x' s e))
  where
    go : (s : ℤ) → Apart x s x' → Apart (x + i) s (x' + i)
    go (pos d) e = omega arith
    go (negsuc d) e = omega arith

-- one of the columns of a line
pub lined-pair : {room : List ℕ} {w h r x x' y n : ℕ} → WindowsInLine room w h r x x' y n → (i : ℕ) → i < n → Pair room w h r (x + i) (x' + i) y
lined-pair p i l = record {
  s = p.s;
  a = p.a;
  b = p.b;
  held = p.held;
  first = record { left = omega (arith, p.left); right = omega (arith, p.right); top = p.top; bottom = p.bottom };
  second = record { left = omega (arith, p.left'); right = omega (arith, p.right'); top = p.top; bottom = p.bottom };
  apart = further _ _ i p.s p.apart;
}

-- ---- the span

-- as it is worked out, by the shift's sign
pub span_left : (w r : ℕ) (s : ℤ) → lt_z s (pos 0) ≡ true → (d n : ℕ) → d ≡ nat_abs s → n ≡ w - (2 * r + d) → record { first = r + d; other = r; count = n } ≡ window_span w r s
unfolding window_span
span_left w r (pos d) e k n ek en = absurd (omega (arith, ltb-true d 0 e))
span_left w r (negsuc d) e k n ek en = rw (en, ek)

pub span_right : (w r : ℕ) (s : ℤ) → lt_z s (pos 0) ≡ false → (d n : ℕ) → d ≡ nat_abs s → n ≡ w - (2 * r + d) → record { first = r; other = r + d; count = n } ≡ window_span w r s
unfolding window_span
span_right w r (pos d) e k n ek en = rw (en, ek)
span_right w r (negsuc d) e k n ek en = absurd (true≢false e)

-- where the span begins its target's columns do
pub span-apart : (w r : ℕ) (s : ℤ) → pos (window_span w r s).first +ℤ s ≡ pos (window_span w r s).other
unfolding window_span
span-apart w r (pos d) = refl
span-apart w r (negsuc d) = apart-is (r + suc d) r (negsuc d) refl

-- the sizes of the span
pub record Spanned (w r first other count : ℕ) : Type 0 where
  pub left : r ≤ first
  pub left' : r ≤ other
  pub right : 0 < count → first + count + r ≤ w
  pub right' : 0 < count → other + count + r ≤ w

pub spanned : (w r : ℕ) (s : ℤ) → Spanned w r (window_span w r s).first (window_span w r s).other (window_span w r s).count
unfolding window_span
spanned w r (pos d) = record { left = omega arith; left' = omega arith; right = λ p. omega arith; right' = λ p. omega arith }
spanned w r (negsuc d) = record { left = omega arith; left' = omega arith; right = λ p. omega arith; right' = λ p. omega arith }

-- a column that has two windows lies in it
on-span : (w r x x' : ℕ) (s : ℤ) → Apart x s x' → r ≤ x → x + r < w → r ≤ x' → x' + r < w → ((window_span w r s).first ≤ x) × (x < (window_span w r s).first + (window_span w r s).count)
unfolding window_span
on-span w r x x' (pos d) e l m l' m' = (omega arith, omega arith)
on-span w r x x' (negsuc d) e l m l' m' = (omega arith, omega arith)

-- ---- the row

-- a list of n cells by one rule, and from there on by another that agrees with it
mixed : {A : Type 0} (n w : ℕ) (f g : ℕ → A) → n ≤ w → ((i : ℕ) → n ≤ i → i < w → g i ≡ f i) → list_of n f ++ drop n (list_of w g) ≡ list_of w f
mixed n w f g l same =
    let split : n + (w - n) ≡ w = omega arith in
    ap (λ k. list_of n f ++ drop n (list_of k g)) (sym split)
    ∙ ap (λ k. list_of n f ++ drop n k) (list_of-split n (w - n) g)
    ∙ ap (λ k. list_of n f ++ k) (drop_at (list_of n g) (list_of (w - n) (λ i. g (n + i))) n (list_of-length n g) ∙ list_of-same (w - n) _ _ (λ i k. same (n + i) (omega arith) (omega arith)))
    ∙ sym (list_of-split n (w - n) f)
    ∙ ap (λ k. list_of k f) split

module _ (w h r : ℕ) (a b : List ℕ) (s : ℤ) (y : ℕ) where
  abbrev cell : ℕ → Float
  cell x = stored (shifted_cost w h r a b s x y)

  abbrev first : ℕ
  first = (window_span w r s).first

  abbrev other : ℕ
  other = (window_span w r s).other

  abbrev count : ℕ
  count = (window_span w r s).count

  outside-span : (x : ℕ) → ((first ≤ x) × (x < first + count) → ⊥) → cell x ≡ inf true
  outside-span x off =
      ap stored (sym (blank-unless w h r a b s x y (λ i x' f. off (on-span w r x x' s (apart-says x x' s f.column) i.left i.right f.left f.right))))

  blank-there : (x : ℕ) → ((first ≤ x) × (x < first + count) → ⊥) → inf true ≡ cell x
  blank-there x off = sym (outside-span x off)

  -- a row where no column has two windows
  blank-row : ((x : ℕ) → (first ≤ x) × (x < first + count) → ⊥) → list_of w (λ _. inf true) ≡ row_cells w h r a b s y
  unfolding row_cells
  blank-row off = list_of-same w _ _ (λ x _. blank-there x (off x))

  -- a row of the frame
  pub frame_row : within h r y ≡ false → list_of w (λ _. inf true) ≡ row_cells w h r a b s y
  unfolding row_cells
  frame_row out = list_of-same w _ _ (λ x _. ap stored (blank-unless w h r a b s x y (λ i x' f. omega (arith, i.bottom, within-not h r y out i.top))))

  module _ (top : r ≤ y) (bottom : y + r < h) (some : 0 < count) where
    in_span : (i : ℕ) → i < count → stored (pair_cost w r a b s (first + i) (other + i) y) ≡ cell (first + i)
    in_span i l =
        let z = spanned w r s in
        ap stored
        (target_found w h r a b s (first + i) y (record { left = omega (arith, z.left); right = omega (arith, z.right some); top = top; bottom = bottom }) (other + i)
        (record { column = further first other i s (span-apart w r s); left = omega (arith, z.left'); right = omega (arith, z.right' some) }))

    span-row : (part : List Float) → part ≡ list_of (first + count - first) (λ i. stored (pair_cost w r a b s (first + i) (other + i) y))
        → put_mid first (first + count - first) (list_of w (λ _. inf true)) part ≡ row_cells w h r a b s y
    unfolding row_cells
    span-row part made =
        let z = spanned w r s in
        let fits : first + count ≤ w = omega (arith, z.right some) in
        part-next first (first + count) cell (list_of w (λ _. inf true)) (list_of w (λ _. inf true)) part (omega arith)
        (sym (mixed first w (λ _. inf true) (λ _. inf true) (omega arith) (λ i _ _. refl)) ∙ ap (λ k. k ++ drop first (list_of w (λ _. inf true))) (list_of-same first _ _ (λ x l. blank-there x (λ o. omega (arith, o.0)))))
        (made ∙ list_of-same (first + count - first) _ _ (λ i l. in_span i (omega arith)))
        ∙ mixed (first + count) w cell (λ _. inf true) fits (λ x l _. blank-there x (λ o. omega (arith, o.1)))

-- ---- the same of a span that was worked out
pub span_small : (w r : ℕ) (s : ℤ) (sp : Span) → sp ≡ window_span w r s → sp.first + sp.count ≤ r + nat_abs s + w
unfolding window_span
span_small w r s sp e = subst (λ (k : Span). k.first + k.count ≤ r + nat_abs s + w) (sym e) (go s)
  where
    go : (s : ℤ) → (window_span w r s).first + (window_span w r s).count ≤ r + nat_abs s + w
    go (pos d) = omega arith
    go (negsuc d) = omega arith

module _ (w h r : ℕ) (s : ℤ) (y : ℕ) (top : r ≤ y) (bottom : y + r < h) where
  -- the part of a row that it is
  abbrev in_row : Span → List Float → List Float
  in_row sp row = mid_of sp.first (sp.first + sp.count - sp.first) row

  abbrev Within : Span → Type 0
  Within sp = sp.first < sp.first + sp.count → sp.first + sp.count + r ≤ w

  pub span-within : (sp : Span) → sp ≡ window_span w r s → Within sp
  span-within sp e = subst Within (sym e) (λ some. (spanned w r s).right (omega arith))

  part-size : (sp : Span) → Within sp → sp.first < sp.first + sp.count → (row : List Float) → length row ≡ w → length (in_row sp row) ≡ sp.count
  part-size sp z some row long = mid_len sp.first (sp.first + sp.count) row (omega (arith, z some)) ∙ add-sub_cancel_left sp.first sp.count

  module _ {room : List ℕ} (o : RoomReady room w h r s) where
    abbrev Line : Span → Type 0
    Line sp = sp.first < sp.first + sp.count → WindowsInLine room w h r sp.first sp.other y sp.count

    line : Line (window_span w r s)
    line some =
        let z = spanned w r s in
        record {
          s = s;
          a = o.a;
          b = o.b;
          held = o.held;
          apart = span-apart w r s;
          left = z.left;
          left' = z.left';
          right = z.right (omega arith);
          right' = z.right' (omega arith);
          top = top;
          bottom = bottom;
        }

    pub span-lined : (sp : Span) → sp ≡ window_span w r s → sp.first < sp.first + sp.count → (row : List Float) → length row ≡ w
        → WindowsInLine room w h r sp.first sp.other y (length (in_row sp row))
    span-lined sp e some row long = rw (part-size sp (span-within sp e) some row long) (subst Line (sym e) line some)

  module _ (a b : List ℕ) where
    abbrev Made : Span → Type 0
    Made sp = sp.first < sp.first + sp.count → (part : List Float) → part ≡ list_of sp.count (λ i. stored (pair_cost w r a b s (sp.first + i) (sp.other + i) y))
        → put_mid sp.first (sp.first + sp.count - sp.first) (list_of w (λ _. inf true)) part ≡ row_cells w h r a b s y

    made : Made (window_span w r s)
    made some part e = span-row w h r a b s y top bottom (omega arith) part (e ∙ ap (λ n. list_of n (λ i. stored (pair_cost w r a b s ((window_span w r s).first + i) ((window_span w r s).other + i) y))) (sym (add-sub_cancel_left (window_span w r s).first (window_span w r s).count)))

    pub span-made : (sp : Span) → sp ≡ window_span w r s → sp.first < sp.first + sp.count → (row part : List Float) → row ≡ list_of w (λ _. inf true)
        → part ≡ list_of (length (in_row sp row)) (λ i. stored (pair_cost w r a b s (sp.first + i) (sp.other + i) y))
        → put_mid sp.first (sp.first + sp.count - sp.first) row part ≡ row_cells w h r a b s y
    span-made sp e some row part blank is =
        ap (λ k. put_mid sp.first (sp.first + sp.count - sp.first) k part) blank
        ∙ subst Made (sym e) made some part (is ∙ ap (λ n. list_of n (λ i. stored (pair_cost w r a b s (sp.first + i) (sp.other + i) y))) (part-size sp (span-within sp e) some row (ap length blank ∙ list_of-length w _)))

    -- a span of no column
    pub span_none : (sp : Span) → sp ≡ window_span w r s → sp.first + sp.count ≤ sp.first → list_of w (λ _. inf true) ≡ row_cells w h r a b s y
    span_none sp e none = blank-row w h r a b s y (λ x o. omega (arith, subst (λ (k : Span). k.first + k.count ≤ k.first) e none, o))

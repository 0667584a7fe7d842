-- What the proofs of writing a PFM map share: the byte counts of its header and of its file. Assumes nothing.
use Prim.Native.Nat.{ℕ, zero, suc, ◌+◌, ◌*◌, ◌≤◌}
use native.Mathlib.Nat.{mul_comm}
use native.Mathlib.Omega.{arith}
use mathlib.Core.Path.{◌≡◌, refl, sym, ap, ◌∙◌}
use mathlib.Core.Bool.{true}
use mathlib.Core.List.{List, ◌++◌}
use lib.ListN.{length, length-append}
use lib.Ieee.{Float}
use Rattle.options.specs.Limits.{side_most}
use Rattle.lists.specs.Rows.{bottom_up}
use Rattle.refusals.specs.Answered.{first_of}
use Rattle.refusals.specs.Outcome.{answer_for}
use Rattle.refusals.specs.Steps.{is, list_in}
use Rattle.lists.proofs.Rows.{bottom_up-length}
use Rattle.refusals.proofs.Stepwise.{not-refused, same-result}
use Rattle.refusals.proofs.Writes.{Measured}
use Rattle.maps.specs.Map.{good_size, size_rows}
use Rattle.maps.proofs.Facts.{good, size-tested, pixels-small}
use Rattle.texts.specs.Digits.{decimal_text}
use Rattle.texts.specs.declared.Pen.{Pen}
use Rattle.texts.specs.Pen.{HasRoom, Writes}
use Rattle.texts.proofs.Digits.{decimal-most}
use Rattle.texts.proofs.Pens.{writes_length}
use Rattle.netpbm.specs.declared.order.Order.TheVariants.{Little}
use Rattle.netpbm.specs.Pfm.{cells_bytes, pfm_head, pfm_of}
use Rattle.netpbm.proofs.Orders.{cells-length}

-- ---- the header

-- the header takes ten bytes beside its two numbers
pub head_sum : (w h : ℕ) → length (pfm_head w h) ≡ length (decimal_text w) + length (decimal_text h) + 10
unfolding pfm_head
head_sum w h = simp length-append (omega arith)

-- so it takes at most 18 bytes
pub head_most : (w h : ℕ) → length (pfm_head w h) ≤ 18
head_most w h = omega (arith, head_sum w h, decimal-most w, decimal-most h)

-- the room that is left past a text
pub room_left : {a b : Pen} {t : List ℕ} (m n : ℕ) → Writes a t b → HasRoom a m → length t + n ≤ m → HasRoom b n
room_left m n f room fits = omega (arith, f.wrote.place, writes_length f)

-- ---- the file

-- the header, and the rows from the bottom up
abbrev pub file_bytes : ℕ → ℕ → List Float → List ℕ
file_bytes w h cells = pfm_head w h ++ cells_bytes Little (bottom_up w h cells)

-- a map that has a file of n bytes
pub record PfmFile (w h : ℕ) (cells : List Float) (n : ℕ) : Type 0 where
  pub whole : pfm_of w h cells ≡ is (file_bytes w h cells)
  pub count : length (file_bytes w h cells) ≡ n
  pub sum : n ≡ length (pfm_head w h) + 4 * (w * h)
  pub long : length cells ≡ w * h
  pub few : w * h ≤ side_most * side_most

module _ (w h : ℕ) (cells : List Float) where
  -- a map of a good size has one
  pub pfm-file : good_size w h (length cells) ≡ true → PfmFile w h cells (length (pfm_head w h) + 4 * (w * h))
  unfolding pfm_of first_of
  pfm-file t =
      let g = good w h (length cells) t in
      let rows = bottom_up w h cells in
      record {
        whole = rw t;
        count = omega (arith, length-append (pfm_head w h) (cells_bytes Little rows), cells-length Little rows, bottom_up-length w h cells (omega (arith, g.long, mul_comm w h)));
        sum = omega arith;
        long = g.long;
        few = pixels-small w h g.narrow g.low;
      }

  -- a map whose size is not refused has one
  pub pfm_counted : 0 ≡ first_of (size_rows w h (length cells)) → PfmFile w h cells (length (pfm_head w h) + 4 * (w * h))
  pfm_counted none = pfm-file (size-tested w h (length cells) (sym none))

  -- what a map that has a file says
  pub pfm-good : {s : List ℕ} → pfm_of w h cells ≡ is s → (good_size w h (length cells) ≡ true) × (file_bytes w h cells ≡ s)
  unfolding pfm_of
  pfm-good {s} = go (first_of (size_rows w h (length cells))) refl
    where
      go : (n : ℕ) → first_of (size_rows w h (length cells)) ≡ n → answer_for n (file_bytes w h cells) ≡ is s → (good_size w h (length cells) ≡ true) × (file_bytes w h cells ≡ s)
      go zero none e = (size-tested w h (length cells) none, same-result e)
      go (suc n) some e = not-refused (sym e)

  -- a file that was measured
  pub pfm-measured : {n : ℕ} → Measured (pfm_of w h cells) n → PfmFile w h cells n
  pfm-measured {n} m =
      let f = pfm-file (pfm-good m.there).0 in
      let same : length (pfm_head w h) + 4 * (w * h) ≡ n = sym f.count ∙ ap (λ o. length (list_in o)) (sym f.whole) ∙ m.count in
      rw (← same) f

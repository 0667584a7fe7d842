-- A row, index by index. Assumes nothing.
use Rattle.std.proofs.Common.{◌≡◌, ℕ, zero, suc, ◌+◌, ◌<◌, ◌≤◌, Bool, true, false, cond, ◌&&◌, List, replicate, pos, sym, refl, ap, ◌∙◌, add-one, arith}
use lib.Ieee.{Float, nan, inf, fin, lt, of_int}
use Rattle.lists.proofs.Lists.{list_of-length, list_of-at, list_of-same, list_of-const}
use Rattle.options.specs.Limits.{most_count}
use Rattle.choices.specs.declared.block.Row.{Row}
use Rattle.choices.specs.declared.subpixel.Search.{Search}
use Rattle.choices.specs.Block.{away}
use Rattle.choices.specs.Seen.{cell_in}
use Rattle.choices.specs.Leading.{index_float, most_of, index_of, rival_of, far, led_most, led_at, rivalled_by}
use Rattle.choices.specs.RowChoice.{led_index, most_row, at_row, rival_in, rival_row}
use Rattle.choices.proofs.IndexFloats.{far-away}

-- an index of the best is no more than the number of those seen
either : (t : Bool) (a b n : ℕ) → a ≤ n → b ≤ n → cond t a b ≤ n
either true a b n p q = p
either false a b n p q = q

pub index-most : (v : ℕ → Float) (n : ℕ) → index_of v n ≤ n
unfolding index_of
index-most v zero = omega arith
index-most v (suc n) = either (lt (most_of v n) (v n)) n (index_of v n) (suc n) (omega arith) (omega (arith, index-most v n))

-- zero as an index
zero-index : fin false 0 (pos 0) ≡ index_float 0
unfolding of_int
zero-index = refl

push : (t : Bool) (k a b : ℕ) → cond t (index_float a) (index_float b) ≡ index_float (cond t a b)
push true k a b = refl
push false k a b = refl

module _ (row : Row) (search : Search) (raw : List Float) where
  -- one index more, where u has the columns' numbers
  module _ (k : ℕ) (u : ℕ → Float) (reads : (x : ℕ) → x < row.w → u x ≡ cell_in row search raw x k) where
    pub most-next : led_most u (most_row row search raw k) ≡ most_row row search raw (k + 1)
    unfolding led_most most_of
    most-next =
        rw (list_of-length row.w (λ x. most_of (cell_in row search raw x) k), add-one k)
        (list_of-same row.w _ _ (λ x l. rw (list_of-at row.w (λ x. most_of (cell_in row search raw x) k) x nan l, reads x l)))

    pub at-next : led_at k u (most_row row search raw k) (at_row row search raw k) ≡ at_row row search raw (k + 1)
    unfolding led_at most_of index_of
    at-next =
        rw (list_of-length row.w (λ x. index_float (led_index row search raw k x)), add-one k)
        (list_of-same row.w _ _ (λ x l.
        rw (list_of-at row.w (λ x. most_of (cell_in row search raw x) k) x nan l, list_of-at row.w (λ x. index_float (led_index row search raw k x)) x nan l, reads x l)
        (push (lt (most_of (cell_in row search raw x) k) (cell_in row search raw x k)) k k (led_index row search raw k x))))

    pub rival-next : search.count ≤ most_count → k < search.count → rivalled_by k u (at_row row search raw search.count) (rival_row row search raw k) ≡ rival_row row search raw (k + 1)
    unfolding rivalled_by rival_of
    rival-next few more =
        rw (list_of-length row.w (rival_in row search raw k))
        (list_of-same row.w _ (rival_in row search raw (suc k)) (λ x l.
        rw (list_of-at row.w (rival_in row search raw k) x nan l, list_of-at row.w (λ x. index_float (led_index row search raw search.count x)) x nan l, reads x l)
        (ap (λ t. cond (t && lt (rival_in row search raw k x) (cell_in row search raw x k)) (cell_in row search raw x k) (rival_in row search raw k x)) (apart x)))
        ∙ ap (λ n. rival_row row search raw n) (sym (add-one k)))
      where
        apart : (x : ℕ) → far (index_float (led_index row search raw search.count x)) k ≡ away (led_index row search raw search.count x) k
        apart x = far-away (led_index row search raw search.count x) k (omega (arith, index-most (cell_in row search raw x) search.count)) (omega arith)

  -- the start of either: the row is blank
  pub most-start : (blank : Float) → blank ≡ inf true → replicate row.w blank ≡ most_row row search raw 0
  unfolding most_of
  most-start blank dark = rw dark (sym (list_of-const row.w (inf true)))

  pub at-start : replicate row.w (fin false 0 (pos 0)) ≡ at_row row search raw 0
  unfolding index_of
  at-start = rw zero-index (sym (list_of-const row.w (index_float 0)))

  pub rival-start : (blank : Float) → blank ≡ inf true → replicate row.w blank ≡ rival_row row search raw 0
  unfolding rival_of
  rival-start blank dark = rw dark (sym (list_of-const row.w (inf true)))

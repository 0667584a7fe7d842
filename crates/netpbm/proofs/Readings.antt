-- What was read in turn makes what the definitions take from the bytes. Assumes nothing.
use Prim.Native.Nat.{ℕ, ◌*◌, ◌≤◌, ◌<◌, min}
use mathlib.Core.Path.{◌≡◌, refl, sym, ap, ◌∙◌}
use mathlib.Core.Bool.{Bool, true, false}
use mathlib.Core.List.{List}
use mathlib.Core.Logic.{⊎_elim}
use native.Mathlib.Omega.{arith}
use borrow.Author.Tests.{le-leb, lt-leb, eq-eqb, ne_eqb}
use lib.ListN.{length}
use lib.Dec.{eqb}
use lib.Ieee.{Float}
use Rattle.std.specs.Prelude.{Result, Ok, Err}
use Rattle.options.specs.Limits.{side_most, is_side}
use Rattle.options.proofs.Sides.{side-fits}
use Rattle.lists.specs.Rows.{bottom_up}
use Rattle.lists.proofs.Tests.{lt-or-le}
use Rattle.refusals.specs.declared.Refusal.{Refusal}
use Rattle.refusals.specs.declared.Refusal.TheVariants as refusal
use Rattle.refusals.specs.Numbers.{number_of}
use Rattle.refusals.specs.Steps.{Or, is, refused}
use Rattle.refusals.proofs.Stepwise.{same-result}
use Rattle.netpbm.specs.declared.order.Order.{Order}
use Rattle.netpbm.specs.declared.raster.Size.{Size}
use Rattle.netpbm.specs.Raster.{Raster, sized}
use Rattle.netpbm.specs.Pgm.{PgmHead, take_pgm_head, read_pgm}
use Rattle.netpbm.specs.Pfm.{PfmHead, take_pfm_head, file_cells, read_pfm}
use Rattle.netpbm.specs.Outcome.{ReadOutcome}
use Rattle.netpbm.specs.Inner.{number_most, held, held_pgm, held_pfm, Fits, SizedAs}

-- ---- a raster's size

-- a number is a side where what is held of it is one
side-held : (n : ℕ) → is_side n ≡ is_side (held n)
side-held n =
    ⊎_elim (λ (h : n < number_most). let e : min n number_most ≡ n = omega arith in rw e)
    (λ (h : number_most ≤ n). let e : min n number_most ≡ number_most = omega arith in rw (e, le-leb 1 n (omega arith), lt-leb n side_most (omega arith)))
    (lt-or-le n number_most)

-- and then it is held as it is
side-is : (x n : ℕ) → x ≡ held n → is_side x ≡ true → n ≡ x
side-is x n p e = omega (arith, (side-fits x e).most)

-- the size, by its tests
module _ (each x y : ℕ) (bytes : List ℕ) (a : is_side x ≡ true) (b : is_side y ≡ true) where
  -- bytes are cut or left over
  pub judged_long : (length bytes ≡ each * (x * y) → ⊥) → SizedAs each x y bytes (Err refusal.FileData)
  unfolding sized
  judged_long far = rw (a, b, ne_eqb (length bytes) (each * (x * y)) far)

  -- the size goes with the bytes
  pub judged_is : length bytes ≡ each * (x * y) → SizedAs each x y bytes (Ok (record { width = x; height = y }))
  unfolding sized
  judged_is long = (
    rw (a, b, eq-eqb (length bytes) (each * (x * y)) long),
    refl,
    refl,
    record { narrow = (side-fits x a).most; low = (side-fits y b).most; long = long },
  )

-- a width and a height are judged as what is held of them
held-sized : (each w h : ℕ) (bytes : List ℕ) → sized each (held w) (held h) bytes ≡ sized each w h bytes
unfolding sized
held-sized each w h bytes = go (is_side (held w)) refl (is_side (held h)) refl
  where
    go : (s : Bool) → is_side (held w) ≡ s → (t : Bool) → is_side (held h) ≡ t → sized each (held w) (held h) bytes ≡ sized each w h bytes
    go true e true f = ap (λ (a : ℕ). sized each a (held h) bytes) (sym (side-is (held w) w refl e)) ∙ ap (λ (b : ℕ). sized each w b bytes) (sym (side-is (held h) h refl f))
    go true e false f = rw (side-held w, side-held h, e, f)
    go false e t f = rw (side-held w, e)

-- what is judged of the numbers that are held is so of those that were read
held_as : (each w h : ℕ) (bytes : List ℕ) (r : Result Size Refusal) (x y : ℕ) → x ≡ held w → y ≡ held h → SizedAs each x y bytes r → SizedAs each w h bytes r
held_as each w h bytes (Err d) x y p q j = sym (held-sized each w h bytes) ∙ rw (p, q) at j
held_as each w h bytes (Ok z) x y p q j =
    let e : w ≡ x = omega (arith, j.3.narrow) in
    let f : h ≡ y = omega (arith, j.3.low) in
    rw (e, f) j

-- ---- a picture, by what was read and judged in turn

-- a header that was read is what is held of one that was taken
record PgmHeld (o : Or PgmHead) (w h m : ℕ) (rest : List ℕ) : Type 0 where
  pub head : PgmHead
  pub taken : o ≡ is head
  pub wide : w ≡ held head.width
  pub high : h ≡ held head.height
  pub most : m ≡ held head.maximum
  pub past : rest ≡ head.rest

pgm_is : (o : Or PgmHead) (w h m : ℕ) (rest : List ℕ) → is (record { width = w; height = h; maximum = m; rest = rest }) ≡ held_pgm o → PgmHeld o w h m rest
pgm_is (is d) w h m rest e =
    let same = same-result e in
    record {
      head = d;
      taken = refl;
      wide = ap (λ (u : PgmHead). u.width) same;
      high = ap (λ (u : PgmHead). u.height) same;
      most = ap (λ (u : PgmHead). u.maximum) same;
      past = ap (λ (u : PgmHead). u.rest) same;
    }
pgm_is (refused n) w h m rest e = cc

pgm_refused : (o : Or PgmHead) (n : ℕ) → refused n ≡ held_pgm o → o ≡ refused n
pgm_refused (is d) n e = cc
pgm_refused (refused k) n e = cc

module _ (s : List ℕ) where
  -- its header is refused
  pub picture_none : (n : ℕ) → refused n ≡ held_pgm (take_pgm_head s) → read_pgm s ≡ refused n
  unfolding read_pgm
  picture_none n e = rw (pgm_refused (take_pgm_head s) n e)

  module _ (w h m : ℕ) (rest : List ℕ) (e : is (record { width = w; height = h; maximum = m; rest = rest }) ≡ held_pgm (take_pgm_head s)) where
    read_head : PgmHeld (take_pgm_head s) w h m rest
    read_head = pgm_is (take_pgm_head s) w h m rest e

    -- its maximum is another
    pub picture_maximum : (m ≡ 255 → ⊥) → read_pgm s ≡ refused 42
    unfolding read_pgm
    picture_maximum far = let f = read_head in rw (f.taken, ne_eqb f.head.maximum 255 (λ z. far (f.most ∙ ap held z)))

    module _ (top : m ≡ 255) where
      -- as the maximum is held, so it is
      full : eqb read_head.head.maximum 255 ≡ true
      full = let f = read_head in eq-eqb f.head.maximum 255 (omega (arith, f.most))

      -- its size is refused
      pub picture_refused : (d : Refusal) → SizedAs 1 w h rest (Err d) → read_pgm s ≡ refused (number_of d)
      unfolding read_pgm
      picture_refused d j =
          let f = read_head in
          rw (f.taken, full, ← f.past, held_as 1 f.head.width f.head.height rest (Err d) w h f.wide f.high j)

      -- all of it was judged
      pub picture_is : (z : Size) → SizedAs 1 w h rest (Ok z) → (read_pgm s ≡ is (record { width = z.width; height = z.height; cells = rest })) × Fits 1 z.width z.height rest
      unfolding read_pgm
      picture_is z j =
          let f = read_head in
          let g = held_as 1 f.head.width f.head.height rest (Ok z) w h f.wide f.high j in
          (rw (f.taken, full, ← f.past, g.0, g.1, g.2), rw (g.1, g.2) g.3)

-- ---- a map, by what was read and judged in turn

record PfmHeld (o : Or PfmHead) (order : Order) (w h : ℕ) (rest : List ℕ) : Type 0 where
  pub head : PfmHead
  pub taken : o ≡ is head
  pub ordered : order ≡ head.order
  pub wide : w ≡ held head.width
  pub high : h ≡ held head.height
  pub past : rest ≡ head.rest

pfm_is : (o : Or PfmHead) (order : Order) (w h : ℕ) (rest : List ℕ) → is (record { order = order; width = w; height = h; rest = rest }) ≡ held_pfm o → PfmHeld o order w h rest
pfm_is (is d) order w h rest e =
    let same = same-result e in
    record {
      head = d;
      taken = refl;
      ordered = ap (λ (u : PfmHead). u.order) same;
      wide = ap (λ (u : PfmHead). u.width) same;
      high = ap (λ (u : PfmHead). u.height) same;
      past = ap (λ (u : PfmHead). u.rest) same;
    }
pfm_is (refused n) order w h rest e = cc

pfm_refused : (o : Or PfmHead) (n : ℕ) → refused n ≡ held_pfm o → o ≡ refused n
pfm_refused (is d) n e = cc
pfm_refused (refused k) n e = cc

-- maps of the same bytes and the same order
map_same : {o o' : Order} {w h : ℕ} (rest : List ℕ) → o ≡ o'
    → ◌≡◌ {A = Or (Raster Float)} (is (record { width = w; height = h; cells = bottom_up w h (file_cells o (w * h) rest) })) (is (record { width = w; height = h; cells = bottom_up w h (file_cells o' (w * h) rest) }))
map_same rest p = rw p

module _ (s : List ℕ) where
  -- its header is refused
  pub map_none : (n : ℕ) → refused n ≡ held_pfm (take_pfm_head s) → read_pfm s ≡ refused n
  unfolding read_pfm
  map_none n e = rw (pfm_refused (take_pfm_head s) n e)

  module _ (o : Order) (w h : ℕ) (rest : List ℕ) (e : is (record { order = o; width = w; height = h; rest = rest }) ≡ held_pfm (take_pfm_head s)) where
    -- its size is refused
    pub map_refused : (d : Refusal) → SizedAs 4 w h rest (Err d) → read_pfm s ≡ refused (number_of d)
    unfolding read_pfm
    map_refused d j =
        let f = pfm_is (take_pfm_head s) o w h rest e in
        rw (f.taken, ← f.past, held_as 4 f.head.width f.head.height rest (Err d) w h f.wide f.high j)

    -- all of it was judged
    pub map_is : (z : Size) → SizedAs 4 w h rest (Ok z)
        → (read_pfm s ≡ is (record { width = z.width; height = z.height; cells = bottom_up z.width z.height (file_cells o (z.width * z.height) rest) })) × Fits 4 z.width z.height rest
    unfolding read_pfm
    map_is z j =
        let f = pfm_is (take_pfm_head s) o w h rest e in
        let g = held_as 4 f.head.width f.head.height rest (Ok z) w h f.wide f.high j in
        (rw (f.taken, ← f.past, g.0, g.1, g.2) (map_same rest (sym f.ordered)), rw (g.1, g.2) g.3)

-- ---- what the calls that read do, by their tests
module _ {A : Type 0} {raster : Or (Raster A)} (out : List A) where
  -- the bytes are refused
  pub read_refused : (d : Refusal) → raster ≡ refused (number_of d) → ReadOutcome (Err d) raster out out
  read_refused d e = rw e (record { answers = refl; outs = refl })

  module _ (z : Size) {cells : List A} (e : raster ≡ is (record { width = z.width; height = z.height; cells = cells })) where
    -- the output has another length
    pub read_unfit : (length out ≡ z.width * z.height → ⊥) → ReadOutcome (Err refusal.FileOutput) raster out out
    read_unfit far = let t = ne_eqb (length out) (z.width * z.height) far in rw e (record { answers = rw t; outs = rw t })

    -- the cells were written
    pub read_done : length out ≡ z.width * z.height → {out' : List A} → out' ≡ cells → ReadOutcome (Ok z) raster out out'
    read_done fit q = let t = eq-eqb (length out) (z.width * z.height) fit in rw (e, q) (record { answers = rw t; outs = rw t })

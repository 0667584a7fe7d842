-- Every PGM file of the grammar is read, and no other. Assumes nothing.
use Prim.Native.Nat.{ℕ, ◌*◌, ◌≤◌, ◌<◌}
use mathlib.Core.Path.{◌≡◌, refl, sym, ap, ◌∙◌, subst}
use mathlib.Core.Bool.{Bool, true, false, cond, ◌&&◌, ◌||◌}
use mathlib.Core.List.{List, [], ◌∷◌, ◌++◌, append_assoc}
use native.Mathlib.Omega.{arith}
use borrow.Author.Tests.{lt-ltb, ltb-true, eq-eqb, le-leb, lt-leb, ne_eqb, eqb-true, leb-true}
use lib.Dec.{leb, ltb, eqb}
use lib.ListN.{length, length-append}
use Rattle.refusals.specs.Steps.{is, Taken}
use Rattle.refusals.proofs.Stepwise.{not-refused, same-result, then_is, given_is, given-then}
use Rattle.lists.proofs.Tests.{and_both}
use Rattle.netpbm.specs.Header.{is_white, take_word, ends_line, take_white, after_blanks, after_comment, take_blanks, digits_of, take_number, take_spaced}
use Rattle.texts.specs.Digits.{Numeral}
use Rattle.netpbm.specs.Grammar.{InLine, Blanks, white, comment, more, Spaced, spaced, PgmHeader, PgmText}
use Rattle.netpbm.specs.Raster.{Raster, sized}
use Rattle.netpbm.specs.Pgm.{PgmHead, pgm_magic, take_pgm_head, read_pgm}
use Rattle.netpbm.proofs.Takes.{word-taken, number-taken, first-digit, straight, joined, word-only, number-only, sized-then}

-- ---- white space and comments

-- a white-space character is below the digits
white_low : (b : ℕ) → is_white b ≡ true → b ≤ 32
white_low b = go (eqb b 32) refl
  where
    go : (t : Bool) → eqb b 32 ≡ t → t || (leb 9 b && leb b 13) ≡ true → b ≤ 32
    go true e h = omega (arith, eqb-true b 32 e)
    go false e h = omega (arith, leb-true b 13 (and_both (leb 9 b) (leb b 13) h).1)

-- a byte below them is none
no_digit : (b : ℕ) (s : List ℕ) → b < 48 → digits_of (b ∷ s) ≡ []
unfolding digits_of
no_digit b s l = rw (lt-leb 48 b l)

-- no digit stands where blanks begin
blanks-end : {a : List ℕ} (s : List ℕ) → Blanks a → digits_of (a ++ s) ≡ []
blanks-end s (white {b} e) = no_digit b s (omega (arith, white_low b e))
blanks-end s (comment text e inside end) = no_digit 35 _ (omega arith)
blanks-end s (more {a} {b} p q) = rw append_assoc (blanks-end (b ++ s) p)

-- there is a byte of them
blanks-some : {a : List ℕ} → Blanks a → 1 ≤ length a
blanks-some (white e) = omega arith
blanks-some (comment text e inside end) = omega arith
blanks-some (more {a} {b} p q) = omega (arith, blanks-some p, length-append a b)

-- a comment is passed once it has begun
comment-passed : (text : List ℕ) (e : ℕ) (s : List ℕ) → InLine text → ends_line e ≡ true → after_comment (text ++ (e ∷ []) ++ s) ≡ after_blanks s
unfolding after_comment
comment-passed [] e s inside end = rw end
comment-passed (b ∷ text) e s inside end = rw inside.0 (comment-passed text e s inside.1 end)

-- blanks are passed
blanks-passed : {a : List ℕ} (s : List ℕ) → Blanks a → after_blanks (a ++ s) ≡ after_blanks s
unfolding after_blanks
blanks-passed s (white e) = rw e
blanks-passed s (comment text e inside end) = comment-passed text e s inside end
blanks-passed s (more {a} {b} p q) = rw append_assoc (blanks-passed (b ++ s) p ∙ blanks-passed s q)

-- a number is no blank
number-stays : {word : List ℕ} {n : ℕ} (s : List ℕ) → Numeral word n → after_blanks (word ++ s) ≡ word ++ s
unfolding after_blanks
number-stays {word = []} s w = absurd (omega (arith, w.some))
number-stays {word = b ∷ word} s w =
    let low = first-digit w in
    rw (ne_eqb b 32 (omega arith), le-leb 9 b (omega arith), lt-leb b 13 (omega arith), ne_eqb b 35 (omega arith))

-- blanks and a number after them
spaced-taken : {x : List ℕ} {n : ℕ} (s : List ℕ) → Spaced x n → digits_of s ≡ [] → take_spaced (x ++ s) ≡ is (record { number = n; rest = s })
unfolding take_spaced take_blanks
spaced-taken s (spaced {gap} {word} p w) none =
    let some : length (word ++ s) < length (gap ++ (word ++ s)) = omega (arith, length-append gap (word ++ s), blanks-some p) in
    rw (append_assoc, blanks-passed (word ++ s) p, number-stays s w, lt-ltb _ _ some, number-taken s w none)

-- no digit stands where they begin
spaced-end : {x : List ℕ} {n : ℕ} (s : List ℕ) → Spaced x n → digits_of (x ++ s) ≡ []
spaced-end s (spaced {gap} {word} p w) = rw append_assoc (blanks-end (word ++ s) p)

-- ---- and the same of what was taken

-- bytes that begin with white space and comments, or with none, and go on with others
data Past : List ℕ → List ℕ → Type 0 where
  none : {s : List ℕ} → Past s s
  some : {a s : List ℕ} → Blanks a → Past (a ++ s) s

-- bytes that begin within a comment, and go on after it in the same way
data PastComment : List ℕ → List ℕ → Type 0 where
  closed : {s r : List ℕ} (text : List ℕ) (e : ℕ) → InLine text → ends_line e ≡ true → Past s r → PastComment (text ++ (e ∷ []) ++ s) r

-- blanks before that
past_more : {a s r : List ℕ} → Blanks a → Past s r → Past (a ++ s) r
past_more p none = some p
past_more {a} p (some {a = b} {s} q) = rw append_assoc at (some {s = s} (more p q))

-- a comment's sign before it
past-sign : {s r : List ℕ} → PastComment s r → Past (35 ∷ s) r
past-sign (closed text e inside end p) = past_more (comment text e inside end) p

-- a byte of the comment before it
past-byte : {s r : List ℕ} (b : ℕ) → ends_line b ≡ false → PastComment s r → PastComment (b ∷ s) r
past-byte b not (closed text e inside end p) = closed (b ∷ text) e (not, inside) end p

-- what is left of some bytes, if anything, goes on after blanks, and within a comment after its end
abbrev Left : List ℕ → Type 0
Left s = (1 ≤ length (after_blanks s) → Past s (after_blanks s)) × (1 ≤ length (after_comment s) → PastComment s (after_comment s))

-- it is so of all bytes
left-all : (s : List ℕ) → Left s
unfolding after_blanks after_comment
left-all [] = (λ l. none, λ l. absurd (omega arith))
left-all (b ∷ s) = (blank (left-all s) (is_white b) (eqb b 35) refl refl, inside (left-all s) (ends_line b) refl)
  where
    blank : Left s → (t u : Bool) → is_white b ≡ t → eqb b 35 ≡ u → let r = cond t (after_blanks s) (cond u (after_comment s) (b ∷ s)) in 1 ≤ length r → Past (b ∷ s) r
    blank i true u e f l = past_more (white e) (i.0 l)
    blank i false true e f l = rw (eqb-true b 35 f) (past-sign (i.1 l))
    blank i false false e f l = none

    inside : Left s → (t : Bool) → ends_line b ≡ t → let r = cond t (after_blanks s) (after_comment s) in 1 ≤ length r → PastComment (b ∷ s) r
    inside i true e l = closed [] b tt e (i.0 l)
    inside i false e l = past-byte b e (i.1 l)

-- fewer bytes are left only after blanks
past-some : {s r : List ℕ} → Past s r → length r < length s → (a : List ℕ) × (s ≡ a ++ r) × Blanks a
past-some none l = absurd (omega arith)
past-some (some {a} p) l = (a, refl, p)

-- white space and a number that were taken
spaced-only : (s : List ℕ) (t : Taken) → take_spaced s ≡ is t → (x : List ℕ) × (s ≡ x ++ t.rest) × Spaced x t.number
unfolding take_spaced take_blanks
spaced-only s t e =
    let g = given-then (ltb (length (after_blanks s)) (length s)) 41 (after_blanks s) take_number t e in
    let n = number-only (after_blanks s) t g.1 in
    let long : 1 ≤ length (after_blanks s) = omega (arith, n.2.some, length-append n.0 t.rest, ap length n.1) in
    let a = past-some ((left-all s).0 long) (ltb-true _ _ g.0) in
    (a.0 ++ n.0, a.1 ∙ ap (λ r. a.0 ++ r) n.1 ∙ sym (append_assoc a.0 n.0 t.rest), spaced a.2 n.2)

-- a white-space character that was taken
white-only : (s r : List ℕ) → take_white s ≡ is r → (b : ℕ) × (s ≡ b ∷ r) × (is_white b ≡ true)
unfolding take_white
white-only [] r e = not-refused (sym e)
white-only (b ∷ s) r e =
    let g = given_is (is_white b) 41 s r e in
    (b, ap (λ r. b ∷ r) g.1, g.0)

-- ---- the header

-- THEOREM: every such header is read
pub pgm-head-read : (s : List ℕ) (w h m : ℕ) (rest : List ℕ) → PgmHeader s w h m rest → take_pgm_head s ≡ is (record { width = w; height = h; maximum = m; rest = rest })
unfolding take_pgm_head take_white
pgm-head-read s w h m rest p =
    let last = p.last ∷ rest in
    let maximum = p.maximum ++ last in
    let height = p.height ++ maximum in
    rw (
      p.text,
      straight pgm_magic p.width p.height p.maximum last,
      word-taken pgm_magic (p.width ++ height),
      spaced-taken height p.wide (spaced-end maximum p.high),
      spaced-taken maximum p.high (spaced-end last p.most),
      spaced-taken last p.most (no_digit p.last rest (omega (arith, white_low p.last p.white))),
      p.white,
    )

-- THEOREM: and what is read is such a header
pub pgm-head-only : (s : List ℕ) (head : PgmHead) → take_pgm_head s ≡ is head → PgmHeader s head.width head.height head.maximum head.rest
unfolding take_pgm_head
pgm-head-only s head e =
    let magic = then_is (take_word pgm_magic s) _ head e in
    let width = then_is (take_spaced magic.0) _ head magic.2 in
    let height = then_is (take_spaced width.0.rest) _ head width.2 in
    let maximum = then_is (take_spaced height.0.rest) _ head height.2 in
    let white = then_is (take_white maximum.0.rest) _ head maximum.2 in
    let a = spaced-only magic.0 width.0 width.1 in
    let b = spaced-only width.0.rest height.0 height.1 in
    let c = spaced-only height.0.rest maximum.0 maximum.1 in
    let d = white-only maximum.0.rest white.0 white.1 in
    subst (λ (head : PgmHead). PgmHeader s head.width head.height head.maximum head.rest) (same-result white.2) (record {
      width = a.0;
      height = b.0;
      maximum = c.0;
      last = d.0;
      text = joined pgm_magic a.0 b.0 c.0 (d.0 ∷ white.0) (word-only pgm_magic s magic.0 magic.1) a.1 b.1 (rw d.1 at c.1);
      wide = a.2;
      high = b.2;
      most = c.2;
      white = d.2;
    })

-- ---- the whole

-- THEOREM: every such file is read
pub pgm-read : (s levels : List ℕ) (w h : ℕ) → PgmText s w h levels → read_pgm s ≡ is (record { width = w; height = h; cells = levels })
unfolding read_pgm sized
pgm-read s levels w h p = rw (pgm-head-read s w h 255 levels p.header, p.wide, p.high, eq-eqb (length levels) (1 * (w * h)) (omega (arith, p.long)))

-- THEOREM: and what is read is such a file
pub pgm-only : (s levels : List ℕ) (w h : ℕ) → read_pgm s ≡ is (record { width = w; height = h; cells = levels }) → PgmText s w h levels
unfolding read_pgm
pgm-only s levels w h e =
    let raster : Raster ℕ = record { width = w; height = h; cells = levels } in
    let taken = then_is (take_pgm_head s) _ raster e in
    let head = taken.0 in
    let top = given-then (eqb head.maximum 255) 42 head _ raster taken.2 in
    let size = sized-then 1 head.width head.height head.rest _ raster top.1 in
    subst (λ (r : Raster ℕ). PgmText s r.width r.height r.cells) (same-result size.3) (record {
      header = rw (eqb-true head.maximum 255 top.0) at (pgm-head-only s head taken.1);
      wide = size.0;
      high = size.1;
      long = omega (arith, size.2);
    })

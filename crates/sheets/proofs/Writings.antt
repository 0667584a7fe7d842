-- What the proofs of writing a sheet share: the cells that a loop has passed, and what the calls answer. Assumes nothing.
use Rattle.std.proofs.Common.{◌≡◌, ℕ, ◌+◌, ◌*◌, ◌^◌, ◌<◌, ◌≤◌, Bool, true, false, not, cond, List, [], ◌∷◌, ◌++◌, length, get_or, drop, sym, refl, ap, ◌∙◌, append_assoc, append-nil, add-one, arith, length-append, drop_of_length-le, drop-cons}
use lib.Ieee.{Float, nan}
use Rattle.options.specs.Limits.{side_most}
use Rattle.maps.specs.Map.{good_size, size_rows}
use Rattle.maps.proofs.Facts.{good, size-tested, pixels-small}
use Rattle.sheets.specs.declared.code.Kind.{Kind}
use Rattle.sheets.specs.Limits.{version}
use Rattle.refusals.specs.declared.Refusal.{Refusal}
use Rattle.refusals.specs.Numbers.{number_of}
use Rattle.refusals.specs.Answered.{first_of}
use Rattle.refusals.proofs.Numbers.{some}
use Rattle.refusals.specs.Steps.{Or, is, refused, and_then, list_in, NotRefused}
use Rattle.sheets.specs.Number.{number_bytes}
use Rattle.sheets.specs.Code.{kind_number, kind_of, code_of}
use Rattle.sheets.specs.Sheet.{head_bytes, cells_bytes, kind_sheet, sheet_of}
use Rattle.refusals.specs.Writes.{byte_count}
use Rattle.refusals.proofs.Stepwise.{list-not-refused}
use Rattle.refusals.proofs.Writes.{Measured}
use Rattle.sheets.proofs.Numbers.{number-most}
use Rattle.sheets.proofs.Codes.{kind-small}

-- ---- bytes in front of others

-- some bytes in front of those of a list that may be refused
abbrev pub behind : List ℕ → Or (List ℕ) → Or (List ℕ)
behind front list = and_then list (λ bytes. is (front ++ bytes))

behind-nil : (list : Or (List ℕ)) → list ≡ behind [] list
behind-nil (is bytes) = refl
behind-nil (refused n) = refl

behind-append : (a b : List ℕ) (list : Or (List ℕ)) → behind a (behind b list) ≡ behind (a ++ b) list
behind-append a b (is bytes) = ap is (sym (append_assoc a b bytes))
behind-append a b (refused n) = refl

-- ---- the cells that a loop has passed

-- the first i cells have the bytes `done`, and none of them is refused
pub record Passed (k : Kind) (cells : List Float) (i : ℕ) (done : List ℕ) : Type 0 where
  pub within : i ≤ length cells
  pub most : length done ≤ 5 * i
  pub whole : cells_bytes k cells ≡ behind done (cells_bytes k (drop i cells))

module _ (k : Kind) (cells : List Float) where
  pub passed_none : Passed k cells 0 []
  passed_none = record { within = omega arith; most = omega arith; whole = behind-nil (cells_bytes k cells) }

  module _ (i : ℕ) (done : List ℕ) (p : Passed k cells i done) where
    pub passed-all : length cells ≤ i → cells_bytes k cells ≡ is done
    unfolding cells_bytes
    passed-all b = p.whole ∙ rw (drop_of_length-le cells b, append-nil)

    -- what was passed is a part of the whole
    pub passed-fits : NotRefused (cells_bytes k cells) → length done ≤ length (list_in (cells_bytes k cells))
    passed-fits a = go (cells_bytes k (drop i cells)) (cells_bytes k cells) p.whole a
      where
        go : (rest all : Or (List ℕ)) → all ≡ behind done rest → NotRefused all → length done ≤ length (list_in all)
        go (is bytes) all e h = rw e (omega (arith, length-append done bytes))
        go (refused n) all e h = list-not-refused all e h

    module _ (n : ℕ) (b : i < length cells) where
      pub passed-more : code_of k (get_or cells i nan) ≡ is n → Passed k cells (i + 1) (done ++ number_bytes n)
      unfolding cells_bytes
      passed-more e =
          let next : cells_bytes k (drop i cells) ≡ behind (number_bytes n) (cells_bytes k (drop (i + 1) cells)) = rw (add-one, drop-cons cells i nan, e) in
          record {
            within = omega arith;
            most = omega (arith, p.most, number-most n, length-append done (number_bytes n));
            whole = p.whole ∙ ap (behind done) next ∙ behind-append done (number_bytes n) (cells_bytes k (drop (i + 1) cells));
          }

      pub passed-refused : code_of k (get_or cells i nan) ≡ refused n → cells_bytes k cells ≡ refused n
      unfolding cells_bytes
      passed-refused e = p.whole ∙ rw (drop-cons cells i nan, e)

-- a cell takes at most five bytes
cells-most : (k : Kind) (cells : List Float) → length (list_in (cells_bytes k cells)) ≤ 5 * length cells
unfolding cells_bytes
cells-most k [] = omega arith
cells-most k (x ∷ xs) = go (code_of k x) (cells_bytes k xs) (cells-most k xs)
  where
    go : (o : Or ℕ) (rest : Or (List ℕ)) → length (list_in rest) ≤ 5 * length xs → length (list_in (and_then o (λ n. behind (number_bytes n) rest))) ≤ 5 * length (x ∷ xs)
    go (is n) (is bytes) h = omega (arith, number-most n, length-append (number_bytes n) bytes)
    go (is n) (refused m) h = omega arith
    go (refused m) rest h = omega arith

-- ---- the head

-- n is the kind's number
module _ (k : Kind) (n : ℕ) (e : n ≡ kind_number k) where
  pub number_small : n < 2 ^ 35
  number_small = omega (arith, kind-small k)

  pub head-sum : (w h : ℕ) → length (head_bytes k w h) ≡ length (number_bytes version) + length (number_bytes n) + length (number_bytes w) + length (number_bytes h)
  unfolding head_bytes
  head-sum w h = rw (e, length-append, length-append, length-append)

pub four-most : (a b c d : ℕ) → length (number_bytes a) + length (number_bytes b) + length (number_bytes c) + length (number_bytes d) ≤ 20
four-most a b c d = omega (arith, number-most a, number-most b, number-most c, number-most d)

-- ---- a sheet's byte count

-- a sheet of n bytes: its head, and its cells, none of which is refused
pub record SheetBytes (k : Kind) (w h : ℕ) (cells : List Float) (n : ℕ) : Type 0 where
  pub there : NotRefused (cells_bytes k cells)
  pub whole : kind_sheet k w h cells ≡ is (head_bytes k w h ++ list_in (cells_bytes k cells))
  pub size : n ≡ length (head_bytes k w h) + length (list_in (cells_bytes k cells))

module _ (k : Kind) (w h : ℕ) (cells : List Float) where
  pub sheet-counted : {n : ℕ} → is n ≡ byte_count (kind_sheet k w h cells) → SheetBytes k w h cells n
  unfolding kind_sheet
  sheet-counted {n} e = go (cells_bytes k cells) refl e
    where
      go : (list : Or (List ℕ)) → cells_bytes k cells ≡ list → is n ≡ byte_count (behind (head_bytes k w h) list) → SheetBytes k w h cells n
      go (is bytes) l f =
          let count : n ≡ length (head_bytes k w h ++ bytes) = cc in
          record { there = rw l; whole = rw l; size = rw l (count ∙ length-append (head_bytes k w h) bytes) }
      go (refused m) l f = cc

  pub sheet-count : {m n : ℕ} → m ≡ length (head_bytes k w h) → Measured (cells_bytes k cells) n → is (m + n) ≡ byte_count (kind_sheet k w h cells)
  unfolding kind_sheet
  sheet-count {m} {n} e c =
      let bytes = list_in (cells_bytes k cells) in
      let sum : m + n ≡ length (head_bytes k w h ++ bytes) = omega (arith, c.count, length-append (head_bytes k w h) bytes) in
      ap is sum ∙ sym (ap (λ (list : Or (List ℕ)). byte_count (behind (head_bytes k w h) list)) c.there)

  pub sheet-refused : (n : ℕ) → cells_bytes k cells ≡ refused n → kind_sheet k w h cells ≡ refused n
  unfolding kind_sheet
  sheet-refused n e = ap (behind (head_bytes k w h)) e

  module _ (g : good_size w h (length cells) ≡ true) where
    pub cells-few : length cells ≤ side_most * side_most
    cells-few = let d = good w h (length cells) g in omega (arith, d.long, pixels-small w h d.narrow d.low)

    -- few enough bytes that their count fits
    pub sheet-small : {m n : ℕ} → m ≡ length (head_bytes k w h) → Measured (cells_bytes k cells) n → m + n ≤ 20 + 5 * (side_most * side_most)
    sheet-small e c = omega (arith, cells-few, c.count, cells-most k cells, head-sum k (kind_number k) refl w h, four-most version (kind_number k) w h)

-- the sheet of a kind's number, by the tests of its size and of that number
module _ (kind w h : ℕ) (cells : List Float) where
  pub sheet-23 : (e : Refusal) → number_of e ≡ first_of (size_rows w h (length cells)) → sheet_of kind w h cells ≡ refused (number_of e)
  unfolding sheet_of first_of
  sheet-23 e q = go (good_size w h (length cells)) refl q
    where
      go : (t : Bool) → good_size w h (length cells) ≡ t → number_of e ≡ cond (not t) 23 0 → sheet_of kind w h cells ≡ refused (number_of e)
      go true t f = absurd (omega (arith, some e))
      go false t f = rw (t, f)

  module _ (q : 0 ≡ first_of (size_rows w h (length cells))) where
    pub sheet-of : (k : Kind) → is k ≡ kind_of kind → sheet_of kind w h cells ≡ kind_sheet k w h cells
    unfolding sheet_of
    sheet-of k s = rw (size-tested w h (length cells) (sym q), ← s)

    pub sheet-35 : (n : ℕ) → refused n ≡ kind_of kind → sheet_of kind w h cells ≡ refused n
    unfolding sheet_of
    sheet-35 n s = rw (size-tested w h (length cells) (sym q), ← s)

-- a sheet's bytes fit where their count does
pub sheet-fits : {k : Kind} {w h : ℕ} {cells : List Float} {n m : ℕ} → SheetBytes k w h cells n → n ≤ m → length (head_bytes k w h ++ list_in (cells_bytes k cells)) ≤ m
sheet-fits {k} {w} {h} {cells} sheet b = omega (arith, sheet.size, length-append (head_bytes k w h) (list_in (cells_bytes k cells)))

-- What calls that write a text answer and leave, by the text or its refusal; `short` refuses an output that is too short. Assumes nothing.
use Prim.Native.Nat.{ℕ, zero, suc, ◌≤◌, ◌<◌, zero-le}
use native.Mathlib.Nat.{zero-add}
use native.Mathlib.Omega.{arith}
use mathlib.Core.Path.{◌≡◌, refl, sym, ◌∙◌}
use mathlib.Core.Bool.{Bool, true, false, cond}
use mathlib.Core.List.{List, [], ◌∷◌}
use mathlib.Core.Logic.{⊎_elim}
use borrow.Author.Tests.{le-leb, lt-leb, le-ltb, lt-ltb}
use lib.Dec.{leb, ltb}
use lib.ListN.{length, take, drop}
use lib.Seq.{take_at}
use Rattle.lists.specs.Stores.{Wrote}
use Rattle.lists.proofs.Stores.{wrote-front}
use Rattle.lists.proofs.Tests.{lt-or-le}
use Rattle.std.specs.Prelude.{Ok, Err}
use Rattle.refusals.specs.declared.Refusal.{Refusal}
use Rattle.refusals.specs.Numbers.{number_of}
use Rattle.refusals.specs.Answered.{Row, row, first_of, Numbered, ByPlace}
use Rattle.refusals.specs.Steps.{Or, is, refused, given, list_in, NotRefused}
use Rattle.refusals.specs.Given.{number_back}
use Rattle.refusals.specs.Writes.{room_for, write_rows, byte_count, out_after, WriteOutcome}
use Rattle.refusals.proofs.Answering.{answers-by-place}
use Rattle.refusals.proofs.Groups.{by_first, by-rest, both-numbered}

-- bytes that were measured: they are not refused, and n is their count
pub record Measured (list : Or (List ℕ)) (n : ℕ) : Type 0 where
  pub there : NotRefused list
  pub count : length (list_in list) ≡ n

pub measured : {n : ℕ} (list : Or (List ℕ)) → is n ≡ byte_count list → Measured list n
measured (is bytes) e = record { there = refl; count = cc }
measured (refused m) e = record { there = cc; count = cc }

pub count-refused : {n : ℕ} (list : Or (List ℕ)) → refused n ≡ byte_count list → list ≡ refused n
count-refused (is bytes) e = cc
count-refused (refused m) e = cc

-- a refusal leaves the output as it was
refused-leaves : (n : ℕ) (out : List ℕ) → out ≡ out_after (refused n) out
refused-leaves zero out = refl
refused-leaves (suc n) out = refl

module _ {short : ℕ} where
  pub done_refused : {d : Refusal} {text : Or (List ℕ)} (out : List ℕ) → text ≡ refused (number_of d) → WriteOutcome short (Err d) text out out
  done_refused {d} out e = rw e (record { answers = refl; outs = refused-leaves (number_of d) out })

  pub done-short : {n : ℕ} {d : Refusal} {text : Or (List ℕ)} (out : List ℕ) → number_of d ≡ short → Measured text n → length out < n → WriteOutcome short (Err d) text out out
  done-short {n} {d} {text} out named c b = go text c
    where
      go : (s : Or (List ℕ)) → Measured s n → WriteOutcome short (Err d) s out out
      go (is bytes) m =
          let less = lt-leb (length bytes) (length out) (omega (arith, m.count)) in
          record { answers = rw (less, named); outs = rw less (refused-leaves short out) }
      go (refused k) m = record { answers = cc; outs = refused-leaves k out }

  -- the bytes fit, and were stored from the front on
  pub done-wrote : {text : Or (List ℕ)} {bytes out out' : List ℕ} {past : ℕ} → text ≡ is bytes → length bytes ≤ length out → Wrote out 0 bytes out' past → WriteOutcome short (Ok past) text out out'
  done-wrote {text} {bytes} {out} e fits f =
      let enough = le-leb (length bytes) (length out) fits in
      rw e (record { answers = rw (enough, f.place, zero-add); outs = rw enough (wrote-front fits f) })

  -- what an answered byte count says
  pub written_is : (text : Or (List ℕ)) (n : ℕ) (out out' : List ℕ) → WriteOutcome short (Ok n) text out out' → text ≡ is (take n out')
  written_is (refused m) n out out' d = let e = d.answers in cc
  written_is (is bytes) n out out' d = go (leb (length bytes) (length out)) d.answers d.outs
    where
      go : (t : Bool) → is n ≡ byte_count (cond t (is bytes) (refused short)) → out' ≡ out_after (cond t (is bytes) (refused short)) out → is bytes ≡ is (take n out')
      go true e o = let count : n ≡ length bytes = cc in rw (o, count, take_at bytes (drop (length bytes) out) (length bytes) refl)
      go false e o = cc

-- ---- the number that is given back

-- of a byte count: the text's
pub counted-number : (text : Or (List ℕ)) → number_back (byte_count text) ≡ number_back text
counted-number (is bytes) = refl
counted-number (refused n) = refl

-- THEOREM: a text's byte count is answered by the place of the text's rows
pub length-by-place : {rows : List Row} → Numbered rows → (text : Or (List ℕ)) → number_back text ≡ first_of rows → ByPlace rows (number_back (byte_count text))
length-by-place i text e = answers-by-place i (counted-number text ∙ e)

-- of bytes for an output of m
in-room : (short m : ℕ) (bytes : List ℕ) → number_back (byte_count (given (leb (length bytes) m) short bytes)) ≡ cond (ltb m (length bytes)) short 0
in-room short m bytes =
    ⊎_elim (λ (l : m < length bytes). rw (lt-ltb m (length bytes) l, lt-leb (length bytes) m l))
    (λ (l : length bytes ≤ m). rw (le-ltb m (length bytes) l, le-leb (length bytes) m l)) (lt-or-le m (length bytes))

module _ (rows : List Row) (i : Numbered rows) (short m : ℕ) where
  -- where the text's number is that of its rows, so is the number with the output's length
  pub room-number : (text : Or (List ℕ)) → number_back text ≡ first_of rows → number_back (byte_count (room_for short m text)) ≡ first_of (write_rows rows short m text)
  unfolding first_of
  room-number (is bytes) e = in-room short m bytes ∙ sym (by-rest rows (row short (ltb m (length bytes)) ∷ []) i (sym e))
  room-number (refused zero) e = sym (by-rest rows (row short (ltb m 0) ∷ []) i (sym e) ∙ rw (le-ltb m 0 zero-le))
  room-number (refused (suc n)) e = by_first rows (row short (ltb m 0) ∷ []) i (suc n) e (λ z. omega arith)

  -- THEOREM: so a writer answers by the place of the text's rows, and the output's length comes last
  pub write-by-place : 0 < short → (text : Or (List ℕ)) → number_back text ≡ first_of rows → ByPlace (write_rows rows short m text) (number_back (byte_count (room_for short m text)))
  write-by-place some text e = answers-by-place (both-numbered rows (row short (ltb m (length (list_in text))) ∷ []) i (some, tt)) (room-number text e)

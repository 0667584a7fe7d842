-- A pen that wrote one text and then another.
use Rattle.std.proofs.Common.{ℕ, ◌+◌, ◌≤◌, ◌≡◌, List, ◌++◌, length, ◌∙◌, arith}
use Rattle.lists.proofs.Stores.{wrote_then, wrote-length}
use Rattle.texts.specs.declared.Pen.{Pen}
use Rattle.texts.specs.Pen.{HasRoom, Writes}

pub writes_then : {a b c : Pen} {t u : List ℕ} → Writes a t b → Writes b u c → Writes a (t ++ u) c
writes_then f g = record { same_slice = g.same_slice ∙ f.same_slice; wrote = wrote_then f.wrote g.wrote }

-- it keeps the slice's length
pub writes_length : {a b : Pen} {t : List ℕ} → Writes a t b → length b.out.now ≡ length a.out.now
writes_length f = wrote-length f.wrote

-- the room that is left after a text of at most k bytes
pub room_after : {a b : Pen} {t : List ℕ} (k n : ℕ) → Writes a t b → length t ≤ k → HasRoom a (k + n) → HasRoom b n
room_after {a} {b} {t} k n f short room = omega (arith, f.wrote.place, writes_length f)

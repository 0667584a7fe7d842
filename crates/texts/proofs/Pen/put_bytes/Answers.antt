-- `texts::Pen::put_bytes` meets its contract: the text stands where the part was.
use Rattle.std.proofs.Common.{◌≡◌, ℕ, ◌+◌, ◌-◌, ◌≤◌, ◌++◌, List, length, take, drop, refl, ap, ◌∙◌, append_assoc, arith}
use lib.Seq.{drop-drop}
use Rattle.std.proofs.lemmas.List.Edits.{sets, sets-eq}
use borrow.Rule.Slice.PartMut.{put_mid}
use Rattle.texts.proofs.Pen.put_bytes.Goals as goal

put-text : (l text : List ℕ) (at : ℕ) → at + length text ≤ length l → put_mid at (at + length text - at) l text ≡ sets l at text
put-text l text at h =
    let past : at + (at + length text - at) ≡ at + length text = omega arith in
    ap (λ (rest : List ℕ). take at l ++ (text ++ rest)) (drop-drop (at + length text - at) at l ∙ ap (λ (k : ℕ). drop k l) past)
    ∙ rw (sets-eq text l at h, append_assoc)

pub returns : goal.returns
returns c =
    let pen = c.args.self.now in
    record {
      same_slice = refl;
      wrote = record {
        bytes = rw c.copy_from_slice.ensures.after (put-text pen.out.now c.args.text.now pen.at c.requires);
        place = refl;
      };
    }

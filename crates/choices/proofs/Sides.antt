-- What it says that an index has two neighbours. Assumes nothing.
use Rattle.std.proofs.Common.{◌≡◌, ℕ, ◌+◌, ◌<◌, true, ◌&&◌, ltb, ltb-true}
use Rattle.lists.proofs.Tests.{and_both}
use Rattle.choices.specs.declared.subpixel.Search.{Search}
use Rattle.choices.specs.Subpixel.{has_sides}

pub record Sides (search : Search) (k : ℕ) : Type 0 where
  pub some : 0 < k
  pub above : k + 1 < search.count

pub sides : (search : Search) (k : ℕ) → has_sides search k ≡ true → Sides search k
sides search k h =
    let all = and_both (search.subpixel && ltb 0 k) (ltb (k + 1) search.count) h in
    record {
      some = ltb-true 0 k (and_both search.subpixel (ltb 0 k) all.0).1;
      above = ltb-true (k + 1) search.count all.1;
    }

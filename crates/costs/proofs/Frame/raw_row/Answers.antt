-- `Frame::raw_row` meets its contract: the row is blank but for the columns where both windows lie in it. Assumes nothing.
use Prim.Native.Nat.{ℕ, ◌+◌, ◌/◌, ◌≤◌, ◌<◌}
use mathlib.Core.Path.{◌≡◌, sym, ap, ◌∙◌}
use mathlib.Core.Bool.{true}
use native.Mathlib.Omega.{arith}
use lib.IntN.{ℤ, nat_abs}
use lib.Ieee.{Float, inf}
use lib.ListN.{length, replicate}
use mir.Syntax.{w64}
use mir.Val.{to_z, of_z}
use mir.ValLaws.{to_z-of_z}
use Rattle.options.specs.Limits.{side_most, block_most, shift_most}
use Rattle.options.proofs.Frames.{within-says}
use Rattle.lists.specs.Lists.{list_of}
use borrow.Author.Rules.{rules}
use Rattle.lists.proofs.Lists.{list_of-length, list_of-const}
use Rattle.costs.specs.Span.{window_span}
use Rattle.costs.proofs.Spans.{frame_row, span_small, span-within, span-lined, span-made, span_none}
use Rattle.costs.proofs.Frame.raw_row.Goals.{After-is_within, After-span_of-span, Else-not-is_within, Start, Then-first-end}
use Rattle.costs.proofs.Frame.raw_row.Goals as goal

-- the shift is read back from its bits
back : (z : Start) → to_z w64 (of_z w64 z.args.shift) ≡ z.args.shift
back z = to_z-of_z w64 z.args.shift z.ranges.shift

-- the row after it was made blank
blanked : (c : After-is_within) → c.fill.new.self ≡ list_of c.args.self.w (λ _. inf true)
blanked c =
    let n = length c.args.row.now in
    let filled : c.fill.new.self ≡ replicate n c.from.result = search rules in
    filled ∙ ap (λ (v : Float). replicate n v) c.from.ensures ∙ sym (list_of-const n (inf true)) ∙ ap (λ (k : ℕ). list_of k (λ _. inf true)) c.requires.3

-- a row inside the frame
inside : (c : Else-not-is_within) → let a = c.args in (a.self.r ≤ a.y) × (a.y + a.self.r < a.self.h)
inside c = within-says _ _ _ (sym c.is_within.ensures ∙ c.if-not-is_within.false)

-- the span, of the shift itself
told : (c : After-span_of-span) → let a = c.args in c.span_of-span.result ≡ window_span a.self.w a.self.r a.shift
told c = c.span_of-span.ensures ∙ ap (λ (k : ℤ). window_span c.args.self.w c.args.self.r k) (back (goal.at.After-span_of-span c).Start)

small : (c : After-span_of-span) → let a = c.args in
    (c.span_of-span.result.first + c.span_of-span.result.count ≤ a.self.r + nat_abs a.shift + a.self.w) × (a.self.w ≤ side_most) × (a.self.r ≤ block_most / 2) × (nat_abs a.shift ≤ shift_most)
small c = (span_small _ _ _ _ (told c), c.requires.0.held.frame.w-most, c.requires.0.held.frame.r-most, c.requires.1)

-- its windows lie in the row
lies : (c : Then-first-end) → let a = c.args in c.span_of-span.result.first + c.span_of-span.result.count + a.self.r ≤ a.self.w
lies c =
    let a = c.args in
    span-within _ a.self.h _ _ a.y (inside (goal.at.Then-first-end c).Else-not-is_within).0 (inside (goal.at.Then-first-end c).Else-not-is_within).1 _ (told (goal.at.Then-first-end c).After-span_of-span) c.if-first-end.true

pub returns-then-not-is_within : goal.returns-then-not-is_within
returns-then-not-is_within c = λ a b o. blanked (goal.at.returns-then-not-is_within c).After-is_within ∙ frame_row _ _ _ a b _ _ (sym c.is_within.ensures ∙ c.if-not-is_within.true)

pub span_of-span-requires : goal.span_of-span-requires
span_of-span-requires c = rw (back (goal.at.span_of-span-requires c).Start) (c.requires.0.held.frame.w-most, c.requires.0.held.frame.r-most, c.requires.1)

pub overflow_add-end : goal.overflow_add-end
overflow_add-end c = omega (arith, small (goal.at.overflow_add-end c).After-span_of-span)

pub offset_bounds-row-first : goal.offset_bounds-row-first
offset_bounds-row-first c = omega (arith, small (goal.at.offset_bounds-row-first c).After-span_of-span)

pub slice_bounds-raw_span-end : goal.slice_bounds-raw_span-end
slice_bounds-raw_span-end c =
    omega (arith, lies c, ap length (blanked (goal.at.slice_bounds-raw_span-end c).After-is_within) ∙ list_of-length c.args.self.w (λ _. inf true))

pub raw_span-requires : goal.raw_span-requires
raw_span-requires c =
    span-lined _ _ _ _ _ (inside (goal.at.raw_span-requires c).Else-not-is_within).0 (inside (goal.at.raw_span-requires c).Else-not-is_within).1 c.requires.0 _ (told (goal.at.raw_span-requires c).After-span_of-span) c.if-first-end.true _ (ap length (blanked (goal.at.raw_span-requires c).After-is_within) ∙ list_of-length _ _)

pub returns-then-first-end : goal.returns-then-first-end
returns-then-first-end c =
    λ a b o. span-made _ _ _ _ _ (inside (goal.at.returns-then-first-end c).Else-not-is_within).0 (inside (goal.at.returns-then-first-end c).Else-not-is_within).1 a b _ (told (goal.at.returns-then-first-end c).After-span_of-span) c.if-first-end.true _ _ (blanked (goal.at.returns-then-first-end c).After-is_within) (c.raw_span.ensures _ a b o)

pub returns-else-first-end : goal.returns-else-first-end
returns-else-first-end c =
    λ a b o. blanked (goal.at.returns-else-first-end c).After-is_within ∙ span_none _ _ _ _ _ (inside (goal.at.returns-else-first-end c).Else-not-is_within).0 (inside (goal.at.returns-else-first-end c).Else-not-is_within).1 a b _ (told (goal.at.returns-else-first-end c).After-span_of-span) c.if-first-end.false

-- `costs::volume::volume_of` meets its contract: the signed numbers read back as they are, and either side has its reference first. Assumes nothing.
use Prim.Native.Nat.{◌/◌}
use mathlib.Core.Path.{◌≡◌, sym, ap, ◌∙◌, subst}
use mathlib.Core.List.{List}
use native.Mathlib.Omega.{arith}
use lib.Dec.{T}
use lib.IntN.{ℤ, nat_abs}
use lib.Ieee.{Float}
use lib.Signed.{non_neg}
use mir.Syntax.{w32, w64}
use mir.Val.{SFits, to_z, of_z}
use mir.ValLaws.{to_z-of_z}
use Rattle.costs.specs.Raw.{reference_of, target_of}
use Rattle.costs.specs.Volume.{planes_of, raw_volume}
use Rattle.lists.proofs.Sizes.{small-fits}
use Rattle.costs.proofs.Outcomes.{planes-volume, swapped}
use borrow.Author.Rules.{rules}
use Rattle.costs.proofs.volume.volume_of.Goals.{Start}
use Rattle.costs.proofs.volume.volume_of.Goals as goal

-- the two signed numbers, as the machine reads them back from their bits
back-first : (z : Start) → to_z w32 (of_z w32 z.args.opts.min_disparity) ≡ z.args.opts.min_disparity
back-first z = to_z-of_z w32 z.args.opts.min_disparity (search (rules, z.well_formed))

back_count : (z : Start) → to_z w32 (of_z w32 z.args.opts.num_disparities) ≡ z.args.opts.num_disparities
back_count z = to_z-of_z w32 z.args.opts.num_disparities (search (rules, z.well_formed))

wide-first : (z : Start) → SFits w64 z.args.opts.min_disparity
wide-first z = small-fits _ (omega (arith, z.requires.sizes.first-most))

back-wide : (z : Start) → to_z w64 (of_z w64 (to_z w32 (of_z w32 z.args.opts.min_disparity))) ≡ z.args.opts.min_disparity
back-wide z = ap (λ (k : ℤ). to_z w64 (of_z w64 k)) (back-first z) ∙ to_z-of_z w64 _ (wide-first z)

-- the planes that were made are the volume from the side that was asked for
volume-is : (z : Start) (out : List Float)
    → out ≡ planes_of z.args.side z.args.pictures.w z.args.pictures.h (z.args.opts.block_size / 2) (to_z w64 (of_z w64 (to_z w32 (of_z w32 z.args.opts.min_disparity)))) (nat_abs (to_z w32 (of_z w32 z.args.opts.num_disparities)))
    (reference_of z.args.side z.args.pictures.left.now z.args.pictures.right.now) (target_of z.args.side z.args.pictures.left.now z.args.pictures.right.now)
    → out ≡ raw_volume z.args.side z.args.pictures.w z.args.pictures.h (z.args.opts.block_size / 2) z.args.opts.min_disparity (nat_abs z.args.opts.num_disparities) z.args.pictures.left.now z.args.pictures.right.now
volume-is z out made = rw (back-wide z, back_count z) at made ∙ planes-volume z.args.side _ _ _ _ _ z.args.pictures.left.now z.args.pictures.right.now

pub overflow_cast-plan : goal.overflow_cast-plan
overflow_cast-plan c = rw (back-first (goal.at.overflow_cast-plan c).Start) (wide-first (goal.at.overflow_cast-plan c).Start)

pub overflow_cast-plan-2 : goal.overflow_cast-plan-2
overflow_cast-plan-2 c =
    rw (back_count (goal.at.overflow_cast-plan-2 c).Start) (subst (λ (k : ℤ). T (non_neg k)) (sym c.requires.whole) tt, omega (arith, c.requires.sizes.count_most))

pub make_volume-requires : goal.make_volume-requires
make_volume-requires c = rw (back-wide (goal.at.make_volume-requires c).Start, back_count (goal.at.make_volume-requires c).Start) c.requires.sizes

pub make_volume-requires-in-Right : goal.make_volume-requires-in-Right
make_volume-requires-in-Right c = rw (back-wide (goal.at.make_volume-requires-in-Right c).Start, back_count (goal.at.make_volume-requires-in-Right c).Start) (swapped c.requires.sizes)

pub returns-in-Left : goal.returns-in-Left
returns-in-Left c =
    let m = c.make_volume in
    (volume-is (goal.at.returns-in-Left c).Start m.new.out (rw c.in-Left.is (rw c.in-Left.is at m.ensures.0)), m.ensures.1)

pub returns-in-Right : goal.returns-in-Right
returns-in-Right c =
    let m = c.make_volume-in-Right in
    (volume-is (goal.at.returns-in-Right c).Start m.new.out (rw c.in-Right.is (rw c.in-Right.is at m.ensures.0)), m.ensures.1)

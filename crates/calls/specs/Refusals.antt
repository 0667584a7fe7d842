-- The numbers given back: one table, tested in its order (docs/SPECIFICATION.md, "Numbers given back", "Rooms"). Definitions only.
use Rattle.std.specs.Prelude.{ℕ, ◌+◌, ◌*◌, Bool, false, cond, not, ◌&&◌, ◌||◌, List, [], ◌∷◌, ◌++◌, ltb, eqb, pos, neg_ℤ, nat_abs}
use Rattle.std.specs.Int.Signed.{lt_z}
use Rattle.std.specs.Float.Ieee.{lt}
use Rattle.refusals.specs.Answered.{Row, row, first_of}
use Rattle.options.specs.declared.Mode.{Mode}
use Rattle.options.specs.Options.{uses_paths}
use Rattle.options.specs.Limits.{is_side, block_even, block_large, too_small, most_count, first_most, is_penalty}
use Rattle.calls.specs.declared.Call.{Call}
use Rattle.calls.specs.declared.Output.{Output}
use Rattle.calls.specs.declared.Output.TheVariants.{Volume, Map}

-- width and height in their range
abbrev pub in_range : ℕ → ℕ → Bool
in_range w h = is_side w && is_side h

-- 1 a width or height outside its range, either picture; 2 a picture's byte count is not w·h; 3 the two sizes differ
unfoldable pub picture_rows : Call → List Row
picture_rows q =
    row 1 (not (in_range q.left_w q.left_h && in_range q.right_w q.right_h))
    ∷ row 2 (not (eqb q.left_bytes (q.left_w * q.left_h) && eqb q.right_bytes (q.right_w * q.right_h)))
    ∷ row 3 (not (eqb q.left_w q.right_w && eqb q.left_h q.right_h))
    ∷ []

-- 4 block side zero or even; 5 odd block side over 31; 6 count zero or negative; 7 count over 256;
-- 8 picture narrower or lower than the block; 9 first disparity outside its range
unfoldable pub search_rows : Call → List Row
search_rows q =
    row 4 (block_even q.block)
    ∷ row 5 (block_large q.block)
    ∷ row 6 (lt_z q.count (pos 1))
    ∷ row 7 (lt_z (pos most_count) q.count)
    ∷ row 8 (too_small q.left_w q.left_h q.block)
    ∷ row 9 (lt_z q.first (neg_ℤ (pos first_most)) || lt_z (pos first_most) q.first)
    ∷ []

-- 1 to 9: the pair and what is searched in it
abbrev pub pair_rows : Call → List Row
pair_rows q = picture_rows q ++ search_rows q

-- whether the call makes a map along paths: a raw volume has no mode
abbrev pub by_paths : Output → Mode → Bool
by_paths Volume mode = false
by_paths Map mode = uses_paths mode

-- 10 semi-global, and a penalty is not finite or outside its range; 13 semi-global, and p2 is below p1
unfoldable pub penalty_rows : Call → List Row
penalty_rows q =
    row 10 (by_paths q.output q.mode && not (is_penalty q.p1 && is_penalty q.p2))
    ∷ row 13 (by_paths q.output q.mode && lt q.p2 q.p1)
    ∷ []

-- w·h
abbrev pub area : Call → ℕ
area q = q.left_w * q.left_h

-- V = count·w·h
abbrev pub volume : Call → ℕ
volume q = nat_abs q.count * area q

-- the cells of the output: V for the raw volume, w·h for a map
abbrev pub out_cells_of : Call → Output → ℕ
out_cells_of q Volume = volume q
out_cells_of q Map = area q

-- the cells of the whole-number room: 5(w+1)(h+1)
abbrev pub whole_cells_of : Call → ℕ
whole_cells_of q = 5 * ((q.left_w + 1) * (q.left_h + 1))

-- the cells of the float room: none for the raw volume, V + w·h for a block map, 3V + w·h for a semi-global one
abbrev pub float_cells : Call → Output → ℕ
float_cells q Volume = 0
float_cells q Map = cond (uses_paths q.mode) (3 * volume q + area q) (volume q + area q)

-- 11 output length is not w·h (raw volume: not V)
unfoldable pub out_rows : Call → List Row
out_rows q = row 11 (not (eqb q.out_len (out_cells_of q q.output))) ∷ []

-- 12 a room is too short
unfoldable pub room_rows : Call → List Row
room_rows q = row 12 (ltb q.whole_len (whole_cells_of q) || ltb q.float_len (float_cells q q.output)) ∷ []

-- THE TABLE, in its order, with 13 straight after 10
unfoldable pub table : Call → List Row
table q = pair_rows q ++ penalty_rows q ++ out_rows q ++ room_rows q

-- THE REFUSAL of a call: the number of the first row that applies, 0 for none
unfoldable pub refusal : Call → ℕ
refusal q = first_of (table q)

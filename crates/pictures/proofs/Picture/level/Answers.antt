-- `pictures::Picture::level` meets its contract: a pixel of a row is a byte of the list. Assumes nothing.
use Rattle.std.proofs.Common.{◌+◌, ◌*◌, ◌<◌, ◌≤◌, length, sym, arith}
use Rattle.lists.proofs.Rows.{row_at}
use Rattle.options.specs.Limits.{side_most}
use Rattle.pictures.proofs.Shapes.{byte-in, few}
use Rattle.pictures.proofs.Picture.level.Goals.{Start}
use Rattle.pictures.proofs.Picture.level.Goals as goal

within : (c : Start) → c.args.y * c.args.self.width + c.args.x < length c.args.self.bytes.now
within c = let p = c.args.self in byte-in p.bytes.now p.width p.height c.args.x c.args.y p.good c.requires.x_in c.requires.y_in

counted : (c : Start) → length c.args.self.bytes.now ≤ side_most * side_most
counted c = let p = c.args.self in few p.bytes.now p.width p.height p.good

pub overflow_mul-result : goal.overflow_mul-result
overflow_mul-result c = record { fits = omega (arith, within c, counted c) }

pub overflow_add-result : goal.overflow_add-result
overflow_add-result c = record { fits = omega (arith, within c, counted c) }

pub bounds-self-y : goal.bounds-self-y
bounds-self-y c = within c

pub returns : goal.returns
returns c = let p = c.args.self in sym (row_at p.width p.bytes.now c.args.y c.args.x 0 c.requires.x_in)

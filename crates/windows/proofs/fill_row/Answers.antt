-- `windows::fill_row` meets its contract: what the call left stands below the upper row. Assumes nothing.
use Rattle.std.proofs.Common.{refl, rules}
use Rattle.windows.proofs.fill_row.Goals as goal

pub returns : goal.returns
returns g c = (
  c.add_row.new.arg3,
  record {
    row = _;
    row-is = c.split_at_mut-above.ensures.back;
    upper = _;
    upper-is = c.split_at_mut-above.ensures.front;
    left = _;
    call = c.add_row.ensures;
    left-is = refl;
  },
  search rules,
)

use Rattle.lane_kernels.proofs.Imports.{◌≡◌, Some, int_min, int_max, slice_get, option_or}
use Rattle.lane_kernels.proofs.Reductions.{extreme_given, same_min, same_max}
use Rattle.lane_kernels.proofs.reduce.Reduction.with_more.Goals as goal

pub returns-in_ok-begin-in-Least : goal.returns-in_ok-begin-in-Least
returns-in_ok-begin-in-Least g c =
    let start = c.in_ok-begin-in-Least.field-0 in
    let begun : Some start ≡ option_or c.args.number (slice_get c.args.more.now 0) = cc (c.in_ok-begin-in-Least.was, c.begin.ensures) in
    rw c.in-Least.is (extreme_given int_min g.T.Number.value c.args.number c.args.more.now start (g.T.Number.value c.least.result) same_min begun c.least.ensures)

pub returns-in_ok-begin-in-Greatest : goal.returns-in_ok-begin-in-Greatest
returns-in_ok-begin-in-Greatest g c =
    let start = c.in_ok-begin-in-Greatest.field-0 in
    let begun : Some start ≡ option_or c.args.number (slice_get c.args.more.now 0) = cc (c.in_ok-begin-in-Greatest.was, c.begin-in-Greatest.ensures) in
    rw c.in-Greatest.is (extreme_given int_max g.T.Number.value c.args.number c.args.more.now start (g.T.Number.value c.greatest.result) same_max begun c.greatest.ensures)

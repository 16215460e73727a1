-- `sweep::windows::scores_at` meets its contract: on the line, free, not dead, and so many stones. Assumes nothing.
use native.Mathlib.Omega.{arith}
use Rattle.sweep.specs.Marks.{is_marked}
use Rattle.sweep.proofs.Marks.{as-marked}
use Rattle.sweep.proofs.Starts.{room_row, alive-row, scored-row}
use borrow.Author.Rules.{rules}
use Rattle.sweep.proofs.windows.scores_at.Goals as goal

pub ahead-requires : goal.ahead-requires
ahead-requires c = (as-marked _ c.requires.2, search rules, search rules, search rules, search rules)

pub returns : goal.returns
returns c =
    let after = c.ahead-2 in
    let behind = c.back in
    let clear = c.none_of in
    let last = c.ahead in
    let b = is_marked c.args.blacks.now in
    let w = is_marked c.args.whites.now in
    let d = c.args.d in
    let i = c.args.i in
    let room =
    room_row w d i c.requires.3 c.requires.2 (omega arith) last.type_inv clear.type_inv last.ensures clear.ensures in
    let alive = alive-row b w d i room behind.type_inv after.type_inv behind.ensures after.ensures in
    scored-row b w d i c.ahead-3.ensures c.ahead-4.ensures c.ahead-5.ensures c.ahead-6.ensures c.ahead-7.ensures room
    alive c.tally-n.ensures

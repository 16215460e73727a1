-- `replay_boards::views::sent` is safe: a store keeps the length. Assumes nothing.
use Rattle.std.proofs.Common.{◌≡◌, length}
use Rattle.replay_boards.proofs.views.sent.Given as goal

abbrev pub invariant-loop-code : goal.invariant-loop-code
invariant-loop-code l = 226 ≡ length l.page

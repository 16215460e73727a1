-- `renju::games::game_out` meets its contract: the report's bytes, handed out, or the refusal. Assumes nothing.
use mathlib.Core.Path.{sym, ap, ◌∙◌}
use mathlib.Core.List.{List}
use Prim.Native.Nat.{ℕ}
use borrow.Author.Rules.{rules}
use Rattle.rules.specs.Answers.{answer}
use Rattle.rules.proofs.Refusals.{answered}
use Rattle.cells.specs.Cells.{codes_refusal, moves_refusal, moves_cells}
use Rattle.game.specs.Game.{report_of}
use Rattle.game.specs.Answers.{game_report, reported}
use Rattle.renju.specs.Games.{standing, game_bytes}
use Rattle.renju.proofs.Handed.{never-refused, number-given, bytes-given, refused-out, unwritten, written_out}
use Rattle.renju.proofs.games.game_out.Goals as goal

pub returns-in_err-report : goal.returns-in_err-report
unfolding game_report
returns-in_err-report c =
    let s = c.args.moves.now in
    refused-out (moves_refusal s) c.args.out.now (game_bytes s) _ (reported (report_of s)) (sym c.referee_game.ensures ∙ c.in_err-report.was)
    (search rules)

pub returns-in_err-cells : goal.returns-in_err-cells
unfolding game_report
returns-in_err-cells c =
    let s = c.args.moves.now in
    let (none, is) = answered (moves_refusal s) (reported (report_of s)) c.referee_game.ensures c.in_ok-report.was in
    absurd (never-refused s c.fault_number-number.result none
    (c.moves_cells.ensures ∙ ap (λ (x : List ℕ). answer (codes_refusal x) (moves_cells x)) c.before_fault.ensures) c.in_err-cells.was)

pub returns-in_err-write_out : goal.returns-in_err-write_out
unfolding game_report
returns-in_err-write_out c =
    let s = c.args.moves.now in
    let (none, is) = answered (moves_refusal s) (reported (report_of s)) c.referee_game.ensures c.in_ok-report.was in
    let played = (answered _ _ c.moves_cells.ensures c.in_ok-cells.was).1
    ∙ ap moves_cells (c.before_fault.ensures ∙ ap (λ (n : ℕ). standing n s) c.fault_number-number.ensures) in
    unwritten s c.args.out.now none (c.as_slice.ensures.value ∙ c.report_bytes.ensures ∙ bytes-given s is played) c.write_out.ensures _
    c.in_err-write_out.was (search rules)

pub returns : goal.returns
unfolding game_report reported
returns c =
    let s = c.args.moves.now in
    let (none, is) = answered (moves_refusal s) (reported (report_of s)) c.referee_game.ensures c.in_ok-report.was in
    let played = (answered _ _ c.moves_cells.ensures c.in_ok-cells.was).1
    ∙ ap moves_cells (c.before_fault.ensures ∙ ap (λ (n : ℕ). standing n s) c.fault_number-number.ensures) in
    written_out s c.args.out.now none (c.as_slice.ensures.value ∙ c.report_bytes.ensures ∙ bytes-given s is played) c.write_out.ensures _
    c.in_ok-write_out.was (c.fault_number-number.ensures ∙ number-given s is)

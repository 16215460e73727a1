-- `game::game::read_game` meets its contract: what is left to read, from the present board, gives the report of the whole. Assumes nothing.
use mathlib.Core.Path.{◌≡◌, refl, sym, ap, ◌∙◌}
use mathlib.Core.Bool.{true, false}
use mathlib.Core.List.{List}
use Prim.Native.Nat.{ℕ, ◌+◌, ◌<◌}
use native.Mathlib.Omega.{arith}
use lib.ListN.{length, get_or}
use borrow.Author.Tests.{lt-ltb}
use Rattle.std.specs.Prelude.{Some, None}
use Rattle.std.proofs.lemmas.Option.{cond_some}
use Rattle.rules.specs.declared.Player.TheVariants.{Black}
use Rattle.lent.specs.Lists.{zeros}
use Rattle.cells.proofs.Given.{moves-in}
use Rattle.grid.specs.Lines.{add_on}
use Rattle.grid.proofs.Lines.{sound-zeros, cells-lines-zeros}
use Rattle.board.specs.Boards.{board_from}
use Rattle.game.specs.Game.{is_fault, report_from, report_of}
use Rattle.game.specs.Answers.{fault_of, report_with}
use Rattle.game.proofs.Read.{lines-kept, lines-moved, stone-sound, won-told, report-fault, report-more, report-end}
use Rattle.game.proofs.game.read_game.Goals as goal

pub loop-i-init : goal.loop-i-init
unfolding zeros report_of
loop-i-init c =
    (sound-zeros, ap (λ (x : List ℕ). report_from 1 Black None x c.args.moves.now) cells-lines-zeros)

pub overflow_cast-number : goal.overflow_cast-number
overflow_cast-number c =
    omega (arith, (moves-in c.args.moves.now c.requires).0)

pub unwrap-code-requires : goal.unwrap-code-requires
unwrap-code-requires c =
    let moves = c.args.moves.now in
    let i = c.loop-i.i in
    rw (c.new.ensures, lt-ltb (get_or moves i 0) 225 ((moves-in moves c.requires).1 i (omega arith))) refl

pub returns-in-Some : goal.returns-in-Some
returns-in-Some c =
    let moves = c.args.moves.now in
    let l = c.loop-i.lines in
    let r = c.loop-i.player in
    let i = c.loop-i.i in
    let code : c.unwrap-code.result ≡ get_or moves i 0 = sym (cond_some _ _ _ (sym c.new.ensures ∙ c.unwrap-code.ensures)).1 in
    let said = rw code at c.said_on-said.ensures.0 in
    let put = rw code at c.put_unless.ensures in
    let on : c.is_some-fault.result ≡ true = c.is_some-fault.ensures ∙ ap is_fault c.in-Some.is in
    c.with.ensures
    ∙ ap (λ (x : List ℕ). report_with (fault_of (i + 1) (Some c.in-Some.reason)) None (board_from x))
    (lines-kept l (add_on l (get_or moves i 0) r) on put)
    ∙ report-fault moves l i r c.loop-i.won c.loop-i.invariant.0 c.loop-i.invariant.1 (omega arith) (sym c.in-Some.is ∙ said)

pub loop-i-preserved : goal.loop-i-preserved
loop-i-preserved c =
    let moves = c.args.moves.now in
    let l = c.loop-i.lines in
    let r = c.loop-i.player in
    let won = c.loop-i.won in
    let p = get_or moves c.loop-i.i 0 in
    let h : c.loop-i.i < length moves = omega arith in
    let hp = (moves-in moves c.requires).1 c.loop-i.i h in
    let code : c.unwrap-code.result ≡ p = sym (cond_some _ _ _ (sym c.new.ensures ∙ c.unwrap-code.ensures)).1 in
    let said = rw code at c.said_on-said.ensures in
    let put = rw code at c.put_unless.ensures in
    let none : c.said_on-said.result.reason ≡ None = c.in_default.is in
    let good : is_fault c.said_on-said.result.reason ≡ false = ap is_fault none in
    let clear = ap is_fault (sym said.0) ∙ good in
    let stone = lines-moved l (add_on l p r) (c.is_some-fault.ensures ∙ good) put in (
      stone-sound r won l p c.loop-i.invariant.0 hp clear stone,
      report-more moves l c.loop-i.i r won c.loop-i.invariant.0 c.loop-i.invariant.1 h hp clear stone (said.1 good)
          (c.then_some-won.ensures ∙ won-told c.said_on-said.result.five r) c.opponent-player.ensures,
    )

pub returns : goal.returns
returns c =
    c.with-2.ensures
    ∙ report-end c.args.moves.now c.loop-i.lines c.loop-i.i c.loop-i.player c.loop-i.won c.loop-i.invariant.0 c.loop-i.invariant.1
    c.loop-i-test.false

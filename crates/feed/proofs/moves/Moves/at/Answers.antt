-- `feed::moves::Moves::at` meets its contract: a place below the size, or none. Assumes nothing.
use mathlib.Core.Path.{◌≡◌, sym, ap, ◌∙◌}
use mathlib.Core.List.{List}
use Prim.Native.Nat.{ℕ}
use native.Mathlib.Omega.{arith}
use lib.ListN.{length, get_or, get_or-eq_default}
use lib.Seq.{get_or-take}
use borrow.Author.Rules.{rules}
use Rattle.feed.specs.Feed.{list_of, size_of}
use Rattle.feed.proofs.Lists.{size-least, list-size}
use Rattle.feed.proofs.moves.Moves.at.Goals as goal

pub bounds-self-place : goal.bounds-self-place
bounds-self-place c =
    let l = c.args.self in
    let e : length l.codes ≡ 225 = search rules in
    omega (arith, c.size.ensures, size-least l, c.if-place-size.true)

pub returns-then-place-size : goal.returns-then-place-size
returns-then-place-size c =
    let a = c.args in
    let l = a.self in
    sym (ap (λ (s : List ℕ). get_or s a.place 0) (list-size l)
    ∙ get_or-take (size_of l) l.codes a.place 0 (omega (arith, c.size.ensures, c.if-place-size.true)))

pub returns-else-place-size : goal.returns-else-place-size
unfolding size_of
returns-else-place-size c = sym (get_or-eq_default (list_of c.args.self) 0 (omega (arith, c.size.ensures, c.if-place-size.false)))

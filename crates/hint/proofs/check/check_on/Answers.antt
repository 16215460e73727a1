-- `hint::check::check_on` meets its contract: what is left of the list, from the present lines, decides. Assumes nothing.
use mathlib.Core.Path.{sym, ap, ◌∙◌}
use mathlib.Core.List.{List}
use Prim.Native.Nat.{ℕ}
use mathlib.Core.Bool.{true}
use lib.ListN.{get_or}
use Rattle.grid.specs.Lines.{cells_of, mark_by}
use Rattle.hint.specs.Hint.{reaches_end}
use Rattle.hint.proofs.Bounded.{made, not_made}
use Rattle.hint.proofs.Checked.{parted, at-no, at-ends, at-forced, forced-nil, forced-other, forced-goes, no-point, none_left}
use Rattle.hint.proofs.Checked.{both-sound, both-cells, both-quiet}
use Rattle.hint.proofs.check.check_on.Goals as goal

pub returns-in_default-new : goal.returns-in_default-new
returns-in_default-new c =
    let i = c.loop-left.invariant in
    no-point c.args.side (cells_of c.loop-left.lines) _ (not_made 225 _ c.new.ensures c.in_default-new.is) _ _
    (parted c.loop-left.left.now c.in-len1-up.len_at_least)
    ∙ sym i.2

pub returns-in-No : goal.returns-in-No
returns-in-No c =
    let is = made 225 _ c.new.ensures c.in-Some.is in
    let e = rw is at c.attack_at.ensures.0 in
    let i = c.loop-left.invariant in
    at-no c.args.side (cells_of c.loop-left.lines) _ e c.in-No.is _
    ∙ ap (reaches_end c.args.side (cells_of c.loop-left.lines)) (sym (parted c.loop-left.left.now c.in-len1-up.len_at_least)) ∙ sym i.2

pub returns-in-Ends : goal.returns-in-Ends
returns-in-Ends c =
    let is = made 225 _ c.new.ensures c.in-Some.is in
    let e = rw is at c.attack_at.ensures.0 in
    let i = c.loop-left.invariant in
    at-ends c.args.side (cells_of c.loop-left.lines) _ e c.in-Ends.is _ c.is_empty.ensures
    ∙ ap (reaches_end c.args.side (cells_of c.loop-left.lines)) (sym (parted c.loop-left.left.now c.in-len1-up.len_at_least)) ∙ sym i.2

pub returns-in_default-after : goal.returns-in_default-after
returns-in_default-after c =
    let is = made 225 _ c.new.ensures c.in-Some.is in
    let e = rw is at c.attack_at.ensures.0 in
    let i = c.loop-left.invariant in
    let C = cells_of c.loop-left.lines in
    let f = at-forced c.args.side C _ e c.in-Forces.is in
    forced-nil c.args.side C _ _ f _ c.in_default-after.len_below
    ∙ ap (reaches_end c.args.side C) (sym (parted c.loop-left.left.now c.in-len1-up.len_at_least)) ∙ sym i.2

pub returns-then-reply-eye : goal.returns-then-reply-eye
returns-then-reply-eye c =
    let is = made 225 _ c.new.ensures c.in-Some.is in
    let e = rw is at c.attack_at.ensures.0 in
    let i = c.loop-left.invariant in
    let C = cells_of c.loop-left.lines in
    let f = at-forced c.args.side C _ e c.in-Forces.is in
    forced-other c.args.side C _ _ f _ _ _ (parted _ c.in-len1-up-after.len_at_least) c.if-reply-eye.true
    ∙ ap (reaches_end c.args.side C) (sym (parted c.loop-left.left.now c.in-len1-up.len_at_least)) ∙ sym i.2

pub loop-left-preserved : goal.loop-left-preserved
loop-left-preserved c =
    let is = made 225 _ c.new.ensures c.in-Some.is in
    let e = rw is at c.attack_at.ensures.0 in
    let i = c.loop-left.invariant in
    let r = c.args.side in
    let l = c.loop-left.lines in
    let f = at-forced r (cells_of l) _ e c.in-Forces.is in
    let one = c.mark_by.ensures
    ∙ ap (λ (x : List ℕ). mark_by x c.numbers-numbers.result.now (get_or c.loop-left.left.now 0 0) r true) c.attack_at.ensures.1 in
    let both = both-cells r l _ _ _ i.0 f c.numbers-numbers.ensures c.opponent.ensures one c.mark_by-in-Forces.ensures in (
      both-sound r l _ _ _ i.0 f c.numbers-numbers.ensures c.opponent.ensures one c.mark_by-in-Forces.ensures,
      both-quiet r l _ _ _ i.0 f c.numbers-numbers.ensures c.opponent.ensures one c.mark_by-in-Forces.ensures,
      i.2 ∙ ap (reaches_end r (cells_of l)) (parted c.loop-left.left.now c.in-len1-up.len_at_least)
          ∙ rw both (forced-goes r (cells_of l) _ _ f _ _ _ (parted _ c.in-len1-up-after.len_at_least) c.if-reply-eye.false),
    )

pub returns : goal.returns
returns c =
    none_left c.args.side (cells_of c.loop-left.lines) _ c.in_default.len_below ∙ sym c.loop-left.invariant.2

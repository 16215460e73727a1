-- `second::key::first_point` meets its contract: each line starts at an edge of the board. Assumes nothing.
use mathlib.Core.Path.{◌∙◌}
use native.Mathlib.Omega.{arith}
use borrow.Author.Tests.{lt-ltb, le-ltb}
use Rattle.second.proofs.Keyed.{start_is}
use Rattle.second.proofs.key.first_point.Goals as goal

pub returns-in-0-to-14 : goal.returns-in-0-to-14
returns-in-0-to-14 c =
    let k = c.args.key in
    let e = c.get-key.ensures.value in
    let start = rw (lt-ltb k 15 (omega arith)) at (start_is k (omega arith)) in
    c.point.ensures ∙ rw e start

pub returns-in-15-to-29 : goal.returns-in-15-to-29
returns-in-15-to-29 c =
    let k = c.args.key in
    let e = c.get-key.ensures.value in
    let start = rw (le-ltb k 15 (omega arith), lt-ltb k 30 (omega arith)) at (start_is k (omega arith)) in
    c.point-in-15-to-29.ensures ∙ rw e start

pub returns-in-30-to-40 : goal.returns-in-30-to-40
returns-in-30-to-40 c =
    let k = c.args.key in
    let e = c.get-key.ensures.value in
    let start = rw (le-ltb k 15 (omega arith), le-ltb k 30 (omega arith), lt-ltb k 41 (omega arith)) at (start_is k (omega arith)) in
    c.point-in-30-to-40.ensures ∙ rw e start

pub returns-in-41-to-50 : goal.returns-in-41-to-50
returns-in-41-to-50 c =
    let k = c.args.key in
    let e = c.get-key.ensures.value in
    let start = rw (
      le-ltb k 15 (omega arith),
      le-ltb k 30 (omega arith),
      le-ltb k 41 (omega arith),
      lt-ltb k 51 (omega arith),
    ) at (start_is k (omega arith)) in
    c.point-in-41-to-50.ensures ∙ rw e start

pub returns-in-51-to-61 : goal.returns-in-51-to-61
returns-in-51-to-61 c =
    let k = c.args.key in
    let e = c.get-key.ensures.value in
    let start = rw (
      le-ltb k 15 (omega arith),
      le-ltb k 30 (omega arith),
      le-ltb k 41 (omega arith),
      le-ltb k 51 (omega arith),
      lt-ltb k 62 (omega arith),
    ) at (start_is k (omega arith)) in
    c.point-in-51-to-61.ensures ∙ rw e start

pub returns-in_default : goal.returns-in_default
returns-in_default c =
    let k = c.args.key in
    let e = c.get-key.ensures.value in
    let start = rw (
      le-ltb k 15 (omega arith),
      le-ltb k 30 (omega arith),
      le-ltb k 41 (omega arith),
      le-ltb k 51 (omega arith),
      le-ltb k 62 (omega arith),
    ) at (start_is k (omega arith)) in
    c.point-in_default.ensures ∙ rw e start

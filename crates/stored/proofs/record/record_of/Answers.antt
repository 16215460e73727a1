-- `stored::record::record_of` meets its contract: both fields, one behind the other, in a list with room for them. Assumes nothing.
use mathlib.Core.Path.{ap, ◌∙◌}
use mathlib.Core.List.{List, [], ◌∷◌, ◌++◌}
use Prim.Native.Nat.{ℕ}
use native.Mathlib.Omega.{arith}
use lib.ListN.{length}
use Rattle.stored.specs.Fields.{field}
use Rattle.stored.specs.Records.{view_tag, moves_tag, record_of}
use Rattle.stored.proofs.record.record_of.Goals as goal

pub keep_field-requires : goal.keep_field-requires
keep_field-requires c = (omega arith, omega (arith, ap length c.new-made.ensures))

pub keep_field-requires-2 : goal.keep_field-requires-2
unfolding field
keep_field-requires-2 c =
    let front : List ℕ = field view_tag (c.args.view ∷ []) in
    let first = c.keep_field.ensures ∙ ap (λ (x : List ℕ). x ++ front) c.new-made.ensures in
    (omega (arith, c.requires), omega (arith, c.requires, ap length first))

pub returns : goal.returns
unfolding record_of
returns c =
    let front : List ℕ = field view_tag (c.args.view ∷ []) in
    let first = c.keep_field.ensures ∙ ap (λ (x : List ℕ). x ++ front) c.new-made.ensures in
    c.keep_field-2.ensures ∙ ap (λ (x : List ℕ). x ++ field moves_tag c.args.moves.now) first

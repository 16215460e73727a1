-- `lists::row_bytes::keep_key` meets its contract: the starts on a sound line are those of its rows. Assumes nothing.
use mathlib.Core.Path.{ap, ◌∙◌}
use mathlib.Core.List.{List, ◌++◌}
use Prim.Native.Nat.{ℕ}
use native.Mathlib.Omega.{arith}
use Rattle.lists.proofs.Shown.{key-rows}
use Rattle.lists.proofs.row_bytes.keep_key.Goals as goal

pub returns : goal.returns
returns c =
    let a = c.args in
    rw (← c.get-key.ensures.value) (c.keep_rows.ensures
    ∙ ap (λ (x : List ℕ). a.list.now ++ x)
    (rw (
      c.row_starts-starts.ensures,
      c.is_black.ensures,
      c.key_size.ensures,
      c.mask_on-op.ensures,
      c.opponent.ensures,
      c.mask_on-my.ensures,
    )
    (key-rows a.player a.kind a.lines.now c.requires.0 c.get-key.result c.get-key.ensures.below)))

pub keep_rows-requires : goal.keep_rows-requires
keep_rows-requires c = (omega arith, c.requires.1)

-- `lists::codes::mask_points` meets its contract: after k turns the bits below k are looked at. Assumes nothing.
use mathlib.Core.Path.{◌≡◌, refl, ap, sym, ◌∙◌}
use mathlib.Core.List.{[], ◌∷◌}
use Prim.Native.Nat.{ℕ, ◌+◌, ◌<◌}
use native.Mathlib.Omega.{arith}
use borrow.Author.Tests.{lt-ltb}
use Rattle.std.proofs.lemmas.Option.{cond_some}
use Rattle.rules.specs.Tools.{gather}
use Rattle.rules.specs.Bit.{bit}
use Rattle.rules.specs.Point.{key_dir, key_no, key_size, key_point}
use Rattle.rules.proofs.Address.{key_dir-lt}
use Rattle.rules.proofs.Logic.{all-elim}
use Rattle.lent.proofs.Laws.{gather_none, gather_kept, gather_passed, short}
use Rattle.lists.specs.Lists.{mask_item, mask_points, mask_cell}
use Rattle.lists.proofs.Masked.{mask-small, mask-cell}
use Rattle.lists.proofs.codes.mask_points.Goals as goal
use Rattle.lists.proofs.codes.mask_points.Goals.{then-bit_at, else-bit_at}

pub loop-k-init : goal.loop-k-init
loop-k-init c = let a = c.args in c.new-list.ensures ∙ sym (gather_none (mask_item a.key a.j a.mask))

pub unwrap-d-requires : goal.unwrap-d-requires
unwrap-d-requires c =
    let a = c.args in
    let hk : a.key < 72 = omega (arith, c.get.ensures.value, c.get.ensures.below) in
    rw (c.new.ensures, c.key_direction.ensures, c.get.ensures.value, lt-ltb (key_dir a.key) 4 (key_dir-lt a.key hk)) refl

pub overflow_add-j : goal.overflow_add-j
overflow_add-j c =
    let a = c.args in
    let hk : a.key < 72 = omega (arith, c.get.ensures.value, c.get.ensures.below) in
    let t = all-elim 8 (mask_cell (key_size a.key) a.j a.mask) c.requires c.loop-k.k c.loop-k-test.true in
    record { fits = mask-small a.key a.j a.mask c.loop-k.k hk (sym c.bit_at.ensures ∙ c.if-bit_at.true) t }

pub code_at-requires : goal.code_at-requires
code_at-requires c =
    let a = c.args in
    let hk : a.key < 72 = omega (arith, c.get.ensures.value, c.get.ensures.below) in
    let t = all-elim 8 (mask_cell (key_size a.key) a.j a.mask) c.requires c.loop-k.k c.loop-k-test.true in
    let way : c.unwrap-d.result ≡ key_dir a.key
    = sym (cond_some _ _ _ (sym c.new.ensures ∙ c.unwrap-d.ensures)).1 ∙ c.key_direction.ensures ∙ ap key_dir c.get.ensures.value in
    let no : c.key_no-i.result ≡ key_no a.key = c.key_no-i.ensures ∙ ap key_no c.get-2.ensures.value in
    let cell = mask-cell a.key a.j a.mask c.loop-k.k hk (sym c.bit_at.ensures ∙ c.if-bit_at.true) t in
    rw (no, way) (cell.1, cell.2)

pub loop-k-preserved : goal.loop-k-preserved
unfolding key_point
loop-k-preserved c =
    let a = c.args in
    let k = c.loop-k.k in
    let f = mask_item a.key a.j a.mask in
    let fit = short 1 (bit a.mask) (λ i. key_point a.key (a.j + i) ∷ []) (λ i. omega arith) k in
    let way : c.unwrap-d.result ≡ key_dir a.key
    = sym (cond_some _ _ _ (sym c.new.ensures ∙ c.unwrap-d.ensures)).1 ∙ c.key_direction.ensures ∙ ap key_dir c.get.ensures.value in
    let no : c.key_no-i.result ≡ key_no a.key = c.key_no-i.ensures ∙ ap key_no c.get-2.ensures.value in
    elim c.if-bit_at.branch [
      | then-bit_at w ↦ w.list-is ∙ gather_kept 8 f k c.loop-k.invariant (w.code_at.result ∷ []) w.keep.ensures
          (omega (arith, fit, c.loop-k-test.true))
          (rw (w.code_at.ensures.0, no, way, sym c.bit_at.ensures ∙ w.if-bit_at.true))
      | else-bit_at w ↦ gather_passed 8 f k c.loop-k.invariant w.list-is (rw (sym c.bit_at.ensures ∙ w.if-bit_at.false))
    ]

pub returns : goal.returns
unfolding mask_points
returns c =
    let a = c.args in
    let e : c.loop-k.k ≡ 8 = omega arith in
    c.loop-k.invariant ∙ ap (λ (n : ℕ). gather n (mask_item a.key a.j a.mask)) e

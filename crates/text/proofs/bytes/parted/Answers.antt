-- `text::bytes::parted` meets its contract: the text is cut at the first d, if there is one. Assumes nothing.
use mathlib.Core.Path.{◌≡◌, ap, sym, ◌∙◌}
use Prim.Native.Nat.{ℕ, suc, ◌+◌, ◌-◌, ◌≤◌}
use native.Mathlib.Omega.{arith}
use mathlib.Core.List.{List, [], ◌∷◌}
use lib.ListN.{length, take, drop, length-drop, drop_of_length-le}
use lib.Seq.{take_all}
use Rattle.lent.specs.Slices.{find_at}
use Rattle.text.specs.Bytes.{before, behind, has, parts}
use Rattle.text.proofs.Places.{before-take, behind-drop, has-yes, has_no, parts_last, parts_cut}
use Rattle.text.proofs.bytes.parted.Goals as goal

cut : (d n : ℕ) (s : List ℕ) → n ≡ find_at d s → take (length s - (n + 1)) (drop (n + 1) s) ≡ behind d s
cut d n s e =
    let z : n + 1 ≡ suc (find_at d s) = omega arith in
    take_all (length s - (n + 1)) (drop (n + 1) s) (omega (arith, length-drop (n + 1) s))
    ∙ ap (λ (k : ℕ). drop k s) z ∙ sym (behind-drop d s)

whole : (d n : ℕ) (s : List ℕ) → n ≡ find_at d s → length s ≤ n → s ≡ before d s
whole d n s e h = sym (take_all (find_at d s) s (omega arith)) ∙ sym (before-take d s)

none : (d : ℕ) (s : List ℕ) → length s ≤ find_at d s → [] ≡ behind d s
none d s h = sym (behind-drop d s ∙ drop_of_length-le s {i = suc (find_at d s)} (omega arith))

pub returns-then-at-s-clause-before : goal.returns-then-at-s-clause-before
returns-then-at-s-clause-before c =
    ap (λ (k : ℕ). take k c.args.s.now) c.find-at.ensures ∙ sym (before-take c.args.d c.args.s.now)

pub returns-then-at-s-clause-behind : goal.returns-then-at-s-clause-behind
returns-then-at-s-clause-behind c = cut c.args.d c.find-at.result c.args.s.now c.find-at.ensures

pub returns-then-at-s-clause-has : goal.returns-then-at-s-clause-has
returns-then-at-s-clause-has c = sym (has-yes c.args.d c.args.s.now (omega arith))

pub returns-then-at-s-clause-parts : goal.returns-then-at-s-clause-parts
returns-then-at-s-clause-parts c =
    let s = c.args.s.now in
    let d = c.args.d in
    rw (cut d c.find-at.result s c.find-at.ensures, behind-drop d s, c.find-at.ensures) (parts_cut d s (omega arith))

pub returns-else-at-s-clause-before : goal.returns-else-at-s-clause-before
returns-else-at-s-clause-before c = whole c.args.d c.find-at.result c.args.s.now c.find-at.ensures c.if-at-s.false

pub returns-else-at-s-clause-behind : goal.returns-else-at-s-clause-behind
returns-else-at-s-clause-behind c = none c.args.d c.args.s.now (omega arith)

pub returns-else-at-s-clause-has : goal.returns-else-at-s-clause-has
returns-else-at-s-clause-has c = sym (has_no c.args.d c.args.s.now (omega arith))

pub returns-else-at-s-clause-parts : goal.returns-else-at-s-clause-parts
returns-else-at-s-clause-parts c =
    let s = c.args.s.now in
    let d = c.args.d in
    parts_last d s (omega arith) ∙ ap (λ (p : List ℕ). p ∷ []) (take_all (find_at d s) s (omega arith))

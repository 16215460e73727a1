-- Tables filled from the front, as a loop does it. Assumes nothing.
use mathlib.Core.Path.{◌≡◌, ap, sym, ◌∙◌}
use mathlib.Core.Bool.{true, false, cond}
use mathlib.Core.Logic.{◌⊎◌, inl, inr}
use mathlib.Core.List.{List}
use Prim.Native.Nat.{ℕ, ◌+◌, ◌<◌}
use native.Mathlib.Omega.{arith}
use native.Mathlib.Decide.{ℕ_discrete}
use lib.Dec.{ltb}
use lib.ListN.{length, get_or, set, length-set}
use lib.Seq.{ext_get_or, get_or-set_same, get_or-set_other, set-get_or}
use borrow.Author.Tests.{lt-ltb, le-ltb, ltb-true, ltb-false}
use Rattle.rules.specs.Tools.{tab}
use Rattle.rules.proofs.Logic.{decide}
use Rattle.rules.proofs.Lists.{length-tab, get_d-tab, is-tab, tab-cong}
use Rattle.lent.specs.Lists.{zeros}
use Rattle.lent.proofs.Laws.{length-zeros, zeros-at}

-- ---- a table filled up to i

unfoldable pub filled : ℕ → (ℕ → ℕ) → ℕ → List ℕ
filled n f i = tab n (λ c. cond (ltb c i) (f c) 0)

pub length-filled : (n : ℕ) (f : ℕ → ℕ) (i : ℕ) → length (filled n f i) ≡ n
unfolding filled
length-filled n f i = length-tab n (λ c. cond (ltb c i) (f c) 0)

pub filled_at : (n : ℕ) (f : ℕ → ℕ) (i c : ℕ) → c < n → get_or (filled n f i) c 0 ≡ cond (ltb c i) (f c) 0
unfolding filled
filled_at n f i c h = get_d-tab n (λ c. cond (ltb c i) (f c) 0) c h

pub filled_none : (n : ℕ) (f : ℕ → ℕ) → zeros n ≡ filled n f 0
unfolding filled
filled_none n f =
    is-tab (zeros n) n (λ c. cond (ltb c 0) (f c) 0) (length-zeros n) (λ c h. zeros-at n c ∙ sym (rw (le-ltb c 0 (omega arith))))

pub filled_more : (n : ℕ) (f : ℕ → ℕ) (i : ℕ) → i < n → set (filled n f i) i (f i) ≡ filled n f (i + 1)
filled_more n f i hi =
    ext_get_or 0 (set (filled n f i) i (f i)) (filled n f (i + 1)) (length-set (filled n f i) i (f i) ∙ len i ∙ sym (len (i + 1)))
    (λ c h. let m = length-set (filled n f i) i (f i) in let k = len i in go c (omega arith) (ℕ_discrete c i) (decide (ltb c i)))
  where
    len : (i : ℕ) → length (filled n f i) ≡ n
    len i = length-filled n f i

    go : (c : ℕ) → c < n → Dec (c ≡ i) → (ltb c i ≡ true) ⊎ (ltb c i ≡ false)
        → get_or (set (filled n f i) i (f i)) c 0 ≡ get_or (filled n f (i + 1)) c 0
    go c h (yes e) u =
        let k = len i in
        ap (λ (x : ℕ). get_or (set (filled n f i) i (f i)) x 0) e ∙ get_or-set_same (filled n f i) i (f i) 0 (omega arith)
        ∙ sym (ap (λ (x : ℕ). get_or (filled n f (i + 1)) x 0) e ∙ filled_at n f (i + 1) i hi ∙ rw (lt-ltb i (i + 1) (omega arith)))
    go c h (no e) (inl u) =
        let b = ltb-true c i u in
        get_or-set_other (filled n f i) i c (f i) 0 e ∙ filled_at n f i c h ∙ rw u
        (sym (filled_at n f (i + 1) c h ∙ rw (lt-ltb c (i + 1) (omega arith))))
    go c h (no e) (inr u) =
        let b = ltb-false c i u in
        get_or-set_other (filled n f i) i c (f i) 0 e ∙ filled_at n f i c h ∙ rw u
        (sym (filled_at n f (i + 1) c h ∙ rw (le-ltb c (i + 1) (omega (arith, e)))))

-- what is not filled yet is 0
pub filled_next : (n : ℕ) (f : ℕ → ℕ) (i : ℕ) → i < n → get_or (filled n f i) i 0 ≡ 0
filled_next n f i h = filled_at n f i i h ∙ rw (le-ltb i i (omega arith))

-- so an entry that is 0 may be passed over
pub filled-skip : (n : ℕ) (f : ℕ → ℕ) (i : ℕ) → i < n → f i ≡ 0 → filled n f i ≡ filled n f (i + 1)
filled-skip n f i h z =
    sym (set-get_or (filled n f i) i 0) ∙ ap (set (filled n f i) i) (filled_next n f i h ∙ sym z) ∙ filled_more n f i h

pub filled-all : (n : ℕ) (f : ℕ → ℕ) → filled n f n ≡ tab n f
unfolding filled
filled-all n f = tab-cong n (λ c. cond (ltb c n) (f c) 0) f (λ c h. rw (lt-ltb c n h))

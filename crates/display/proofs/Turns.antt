-- A turn of a loop over i that puts what f gives there behind a text, kept in a list or laid over a lent buffer. Assumes nothing.
use mathlib.Core.Path.{◌≡◌, ap, sym, ◌∙◌}
use mathlib.Core.List.{List, ◌++◌, append_assoc}
use Prim.Native.Nat.{ℕ, ◌+◌, ◌-◌, ◌≤◌}
use native.Mathlib.Omega.{arith}
use lib.ListN.{length, take, drop, length-append}
use borrow.Rule.Slice.PartMut.{put_mid}
use Rattle.std.proofs.lemmas.List.{take_at, drop_at, drop-drop}
use Rattle.rules.specs.Tools.{gather}
use Rattle.lent.specs.Lists.{laid}
use Rattle.lent.proofs.Laws.{gather-more}

pub behind_put : (old : List ℕ) (f : ℕ → List ℕ) (i : ℕ) {l new : List ℕ} → l ≡ old ++ gather i f → new ≡ l ++ f i
    → new ≡ old ++ gather (i + 1) f
behind_put old f i h k =
    k ∙ rw h (append_assoc old (gather i f) (f i)) ∙ ap (λ (x : List ℕ). old ++ x) (gather-more i f)

-- an item laid behind a text that is laid over a lent buffer
pub laid_more : (old l item : List ℕ) (n e : ℕ) → n ≡ length l → e ≡ n + length item → put_mid n (e - n) (laid old l) item ≡ laid old (l ++ item)
unfolding laid
laid_more old l item n e hn he =
    let k : e - n ≡ length item = omega arith in
    rw (k, take_at l (drop (length l) old) n (sym hn), drop_at l (drop (length l) old) n (sym hn), length-append l item)
    (ap (λ (x : List ℕ). l ++ (item ++ x)) (drop-drop (length item) (length l) old)
    ∙ sym (append_assoc l item (drop (length l + length item) old)))

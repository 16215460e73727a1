-- A list in the front of a local buffer, with zeros behind it. Assumes nothing.
use mathlib.Core.Path.{◌≡◌, ap, ap₂, sym, ◌∙◌}
use mathlib.Core.List.{List, [], ◌++◌}
use Prim.Native.Nat.{ℕ, ◌+◌, ◌-◌, ◌≤◌}
use native.Mathlib.Omega.{arith}
use lib.ListN.{length, take, drop, replicate, length-append}
use lib.Seq.{length-take-le}
use borrow.Rule.Slice.PartMut.{put_mid}
use Rattle.std.proofs.lemmas.List.{take-append-drop, drop-replicate}
use Rattle.std.proofs.lemmas.Slice.{take-put_mid, drop-put_mid}
use Rattle.std.proofs.Math.Seq.{drop-append-add}
use Rattle.lent.specs.Lists.{zeros, padded, Held}
use Rattle.lent.proofs.Laws.{length-zeros}

-- nothing in a fresh buffer
pub held_none : (size : ℕ) → Held size [] (replicate size 0) 0
unfolding padded zeros
held_none size = record { buffer = ap (λ (k : ℕ). replicate k 0) (omega arith); count = omega arith }

drop-zeros : (m k : ℕ) → drop m (zeros k) ≡ zeros (k - m)
unfolding zeros
drop-zeros m k = drop-replicate m k 0

-- a list with an item laid behind it
pub held_more : (size n : ℕ) (l buf item : List ℕ) (e : ℕ) → Held size l buf n → e ≡ n + length item → e ≤ size
    → Held size (take e (put_mid n (e - n) buf item)) (put_mid n (e - n) buf item) e
unfolding padded
held_more size n l buf item e h end fit =
    let long : length buf ≡ length l + (size - length l) =
    ap length h.buffer ∙ length-append l (zeros (size - length l)) ∙ ap (λ (k : ℕ). length l + k) (length-zeros (size - length l)) in
    let in_buf : n ≤ length buf = omega (arith, long, h.count, end, fit) in
    let front : take e (put_mid n (e - n) buf item) ≡ take n buf ++ item = take-put_mid n (e - n) buf item e end in_buf in
    let count : e ≡ length (take e (put_mid n (e - n) buf item)) =
    end ∙ ap (λ (k : ℕ). k + length item) (sym (length-take-le n buf in_buf)) ∙ sym (length-append (take n buf) item) ∙ sym (ap length front) in
    let behind : drop e (put_mid n (e - n) buf item) ≡ zeros (size - e) =
    drop-put_mid n (e - n) buf item e (omega (arith, end)) in_buf (omega (arith, end))
    ∙ ap₂ drop (end ∙ ap (λ (k : ℕ). k + length item) h.count) h.buffer
    ∙ drop-append-add l (zeros (size - length l)) (length item)
    ∙ drop-zeros (length item) (size - length l)
    ∙ ap zeros (omega (arith, end, h.count)) in
    record {
      buffer = sym (take-append-drop e (put_mid n (e - n) buf item))
          ∙ ap (λ (x : List ℕ). take e (put_mid n (e - n) buf item) ++ x) (behind ∙ ap (λ (k : ℕ). zeros (size - k)) count);
      count = count;
    }

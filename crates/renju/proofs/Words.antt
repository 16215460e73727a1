-- The number of an answer is that of its refusal and its value; lists refused and handed out. Assumes nothing.
use mathlib.Core.Path.{◌≡◌, refl, ap, sym, ◌∙◌}
use mathlib.Core.Bool.{Bool, true, false, cond}
use mathlib.Core.List.{List}
use Prim.Native.Nat.{ℕ, ◌+◌, ◌*◌, ◌/◌, ◌≤◌}
use lib.Dec.{eqb}
use lib.ListN.{length}
use borrow.Author.Tests.{eqb-true, eqb-false}
use Rattle.std.specs.Prelude.{Result, Ok, Err}
use Rattle.rules.specs.Answers.{answer, refusal_named}
use Rattle.rules.specs.declared.refusal.Refusal.{Refusal}
use Rattle.rules.proofs.Refusals.{answered}
use Rattle.lent.specs.Lists.{list_refusal, list_out, counted}
use Rattle.rules.specs.Numbers.{verdict_no}
use Rattle.rules.specs.declared.Verdict.{Verdict}
use Rattle.depth.specs.Answers.{depth_answer}
use Rattle.depth.specs.declared.front.DepthAnswer.{DepthAnswer}
use Rattle.renju.specs.Answers.{word, word_of, list_word}
use Rattle.renju.proofs.Named.{named_back, list_named}

-- an answer, by what its value means as a number
pub word_given : {A : Type 0} (low : A → ℕ) (n : ℕ) (v : A) {a : Result A Refusal} {r : ℕ} → n ≤ 22 → a ≡ answer n v → r ≡ word_of low a
    → r ≡ word n (low v)
unfolding word word_of answer
word_given low n v {a} {r} h e k = k ∙ ap (word_of low) e ∙ go (eqb n 0) refl
  where
    go : (t : Bool) → eqb n 0 ≡ t → word_of low (answer n v) ≡ word n (low v)
    go true q = rw q
    go false q = rw q (ap (λ (x : ℕ). x * 65536) (named_back n (eqb-false n 0 q) h))

-- whatever it is that has a number: of two such the one that a refusal chooses
pub word-of : {A : Type 0} (w : A → ℕ) (a b : A) (refused n : ℕ) → w a ≡ word 0 n → w b ≡ word refused 0
    → w (cond (eqb refused 0) a b) ≡ word refused n
unfolding word
word-of w a b refused n p q = go (eqb refused 0) refl
  where
    go : (t : Bool) → eqb refused 0 ≡ t → w (cond t a b) ≡ cond t n (refused * 65536)
    go true e = p
    go false e = q ∙ rw e

-- a depth with a verdict
pub depth-word : (refused n : ℕ) (v : Verdict) → refused ≤ 22
    → word_of (λ (d : DepthAnswer). 256 * d.depth + verdict_no d.verdict) (depth_answer refused n v) ≡ word refused (256 * n + verdict_no v)
depth-word refused n v h =
    word_given (λ (d : DepthAnswer). 256 * d.depth + verdict_no d.verdict) refused (record { depth = n; verdict = v }) h refl refl

-- a list that was handed out, with its count
pub list_given : (size told : ℕ) (out l : List ℕ) {a : Result ℕ Refusal} {r : ℕ} {out' : List ℕ} → told ≤ 22
    → (a ≡ counted size told out l) × (out' ≡ list_out told out l) → r ≡ word_of (λ (n : ℕ). n) a
    → (r ≡ list_word size told out l) × (out' ≡ list_out told out l)
unfolding counted list_word
list_given size told out l h (e, o) k =
    (word_given (λ (n : ℕ). n) (list_refusal told out l) (length l / size) (list_named told out l h) e k, o)

-- .. whose count is known
pub count_given : (told : ℕ) (out l : List ℕ) {a : Result ℕ Refusal} {r n : ℕ} {out' : List ℕ} → told ≤ 22 → n ≡ length l / 1
    → (a ≡ answer (list_refusal told out l) n) × (out' ≡ list_out told out l) → r ≡ word_of (λ (n : ℕ). n) a
    → (r ≡ list_word 1 told out l) × (out' ≡ list_out told out l)
unfolding list_word
count_given told out l {n = n} h many (e, o) k =
    (word_given (λ (n : ℕ). n) (list_refusal told out l) n (list_named told out l h) e k ∙ ap (word (list_refusal told out l)) many, o)

-- ---- what was told, of another value

module _ {A B : Type 0} (told : ℕ) (w : B) (v : A) {a : Result B Refusal} where
  pub told_err : {x : Refusal} {r : Result A Refusal} → a ≡ answer told w → a ≡ Err x → r ≡ Err x → r ≡ answer told v
  unfolding answer
  told_err {x} {r} e is k = k ∙ go (eqb told 0) refl
    where
      go : (t : Bool) → eqb told 0 ≡ t → Err x ≡ answer told v
      go true q = let z : Ok w ≡ Err x = sym (rw q at e) ∙ is in cc
      go false q =
          let z : Err x ≡ Err (refusal_named told) = sym is ∙ rw q at e in
          let s : x ≡ refusal_named told = cc in
          rw (q, s)

  pub told_ok : {x : B} → a ≡ answer told w → a ≡ Ok x → Ok v ≡ answer told v
  unfolding answer
  told_ok {x} e is = rw (answered told w e is).0

pub same_ok : (told : ℕ) {n m : ℕ} → n ≡ m → Ok m ≡ answer told m → Ok n ≡ answer told m
same_ok told e k = ap (λ (x : ℕ). Ok x) e ∙ k

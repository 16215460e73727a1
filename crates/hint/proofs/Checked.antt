-- The check of a list, attack by attack, as the code makes it on sound lines. Assumes nothing.
use mathlib.Core.Path.{◌≡◌, refl, ap, sym, subst, ◌∙◌}
use mathlib.Core.Logic.{◌⊎◌, inl, inr}
use mathlib.Core.Bool.{Bool, true, false, not, ◌&&◌, and-false}
use mathlib.Core.List.{List, [], ◌∷◌}
use Prim.Native.Nat.{ℕ, ◌-◌, ◌≤◌, ◌<◌}
use native.Mathlib.Omega.{arith}
use lib.Dec.{T, eqb, eqb→eq}
use lib.ListN.{length, get_or, take, drop, length-set}
use Rattle.std.proofs.lemmas.List.{take_all}
use borrow.Author.Tests.{ne_eqb, le-ltb}
use Rattle.rules.specs.Numbers.{colour_no, opponent_of}
use Rattle.rules.specs.Tools.{any_below}
use Rattle.rules.specs.Grid.{is_empty, put}
use Rattle.rules.specs.declared.Player.{Player}
use Rattle.rules.proofs.Logic.{T_true, true-T, no_true, decide, and_left, and_right, not-false}
use Rattle.point.specs.Places.{addresses}
use Rattle.grid.specs.Lines.{cells_of, Sound, mark_by}
use Rattle.grid.proofs.Lines.{length-cells_of}
use Rattle.hint.specs.Hint.{goes_on, completes, may_attack, is_four_eye, eyes_from, ends_at, only_eye, forces, after_both, reaches_end, acceptable}
use Rattle.hint.specs.Seen.{Quiet, Forced, AttackIs}
use Rattle.hint.specs.declared.attack.Attack.{Attack}
use Rattle.hint.specs.declared.attack.Attack.TheVariants as attack
use Rattle.hint.proofs.Stone.{eye-elim, eye-empty}
use Rattle.hint.proofs.Winning.{Legal, legal-elim, attack-legal}
use Rattle.hint.proofs.Picked.{Picked, eyes-picked}
use Rattle.hint.proofs.Attacks.{off-board, not-quiet}
use Rattle.hint.proofs.OnLines.{put-sound, put-cells, put_back, empty-is}

-- ---- what is left of a list

no_length : (l : List ℕ) → length l ≡ 0 → l ≡ []
no_length [] e = refl
no_length (x ∷ l) e = absurd (omega arith)

-- its first point and what is behind it, as a slice's pattern parts them
pub parted : (l : List ℕ) → 1 ≤ length l → l ≡ get_or l 0 0 ∷ take (length l - 1) (drop 1 l)
parted [] h = absurd (omega arith)
parted (x ∷ l) h = ap (λ (m : List ℕ). x ∷ m) (sym (take_all (length (x ∷ l) - 1) l (omega arith)))

-- whether nothing is left
is_nil : List ℕ → Bool
is_nil [] = true
is_nil (x ∷ l) = false

is-nil : (l : List ℕ) → eqb (length l) 0 ≡ is_nil l
unfolding is_nil
is-nil [] = refl
is-nil (x ∷ l) = ne_eqb (length (x ∷ l)) 0 (λ z. omega arith)

-- ---- one attack of it

module _ (r : Player) (cells : List ℕ) (p : ℕ) {a : Attack} (is : AttackIs r cells p a) where
  pub at-no : a ≡ attack.No → (rest : List ℕ) → false ≡ reaches_end r cells (p ∷ rest)
  unfolding AttackIs
  at-no e rest = sym (subst (AttackIs r cells p) e is rest)

  ends-nil : a ≡ attack.Ends → (rest : List ℕ) → reaches_end r cells (p ∷ rest) ≡ is_nil rest
  unfolding AttackIs reaches_end forces is_nil
  ends-nil e rest = let t = subst (AttackIs r cells p) e is in go rest (T_true t.0) (T_true t.1)
    where
      go : (rest : List ℕ) → may_attack r cells p ≡ true → ends_at r cells p ≡ true → reaches_end r cells (p ∷ rest) ≡ is_nil rest
      go [] m n = rw (m, n)
      go (x ∷ rest) m n = rw (m, n)

  pub at-ends : a ≡ attack.Ends → (rest : List ℕ) {b : Bool} → b ≡ eqb (length rest) 0 → b ≡ reaches_end r cells (p ∷ rest)
  at-ends e rest b = b ∙ is-nil rest ∙ sym (ends-nil e rest)

  pub at-forced : {e : ℕ} → a ≡ attack.Forces e → Forced r cells p e
  unfolding AttackIs
  at-forced e = subst (AttackIs r cells p) e is

-- ---- an attack that forces its reply

module _ (r : Player) (cells : List ℕ) (p e : ℕ) (f : Forced r cells p e) where
  goes_on_lem : ends_at r cells p ≡ false
  unfolding forces
  goes_on_lem = not-false (and_left (not (ends_at r cells p)) (only_eye (eyes_from r (put r cells p) p) e) f.forced)

  only : T (only_eye (eyes_from r (put r cells p) p) e)
  unfolding forces
  only = and_right (not (ends_at r cells p)) (only_eye (eyes_from r (put r cells p) p) e) f.forced

  pub is-legal : Legal r cells p
  is-legal = legal-elim r cells p (attack-legal r cells p f.may)

  eye-is : (e < 225) × T (is_four_eye r (put r cells p) p e)
  unfolding only_eye
  eye-is = go (eyes_from r (put r cells p) p) (eyes-picked r (put r cells p) p) only
    where
      go : (l : List ℕ) → Picked (is_four_eye r (put r cells p) p) 225 l → T (only_eye l e) → (e < 225) × T (is_four_eye r (put r cells p) p e)
      go [] h t = absurd t
      go (x ∷ []) h t =
          let same : x ≡ e = eqb→eq x e t in
          (subst (λ (y : ℕ). y < 225) same h.0, subst (λ (y : ℕ). T (is_four_eye r (put r cells p) p y)) same h.1)
      go (x ∷ y ∷ l) h t = absurd t

  pub reply-lt : e < 225
  reply-lt = eye-is.0

  pub reply-free : length cells ≡ 225 → T (is_empty (get_or (put r cells p) e 0))
  reply-free long =
      eye-empty r (put r cells p) e (length-set cells p (colour_no r) ∙ long) reply-lt (eye-elim r (put r cells p) p e eye-is.1)

  pub forced-nil : (rest : List ℕ) → length rest < 1 → false ≡ reaches_end r cells (p ∷ rest)
  unfolding reaches_end
  forced-nil rest n = sym (ap (λ (l : List ℕ). reaches_end r cells (p ∷ l)) (no_length rest (omega arith)) ∙ rw (goes_on_lem, and-false (may_attack r cells p)))

  -- another reply than the eye's
  pub forced-other : (x : ℕ) (rest list : List ℕ) → list ≡ x ∷ rest → (x ≡ e → ⊥) → false ≡ reaches_end r cells (p ∷ list)
  unfolding reaches_end forces only_eye
  forced-other x rest list is n =
      sym (ap (λ (l : List ℕ). reaches_end r cells (p ∷ l)) is ∙ go (eyes_from r (put r cells p) p) refl only)
    where
      go : (l : List ℕ) → eyes_from r (put r cells p) p ≡ l → T (only_eye l e) → reaches_end r cells (p ∷ x ∷ rest) ≡ false
      go [] q t = absurd t
      go (y ∷ []) q t =
          let same : y ≡ e = eqb→eq y e t in
          let off : eqb y x ≡ false = ne_eqb y x (λ z. n (sym z ∙ same)) in
          rw (q, off, and-false (not (ends_at r cells p)), and-false (may_attack r cells p))
      go (y ∷ z ∷ l) q t = absurd t

  pub forced-goes : (x : ℕ) (rest list : List ℕ) → list ≡ x ∷ rest → x ≡ e → reaches_end r cells (p ∷ list) ≡ reaches_end r (after_both r cells p e) rest
  unfolding reaches_end
  forced-goes x rest list is same =
      let may : may_attack r cells p ≡ true = T_true f.may in
      let forced : forces r cells p e ≡ true = T_true f.forced in
      ap (λ (l : List ℕ). reaches_end r cells (p ∷ l)) is ∙ ap (λ (y : ℕ). reaches_end r cells (p ∷ y ∷ rest)) same ∙ rw (may, forced)

-- ---- both stones on sound lines, and taken off

module _ (r : Player) (l table : List ℕ) (p e : ℕ) (s : Sound l) (f : Forced r (cells_of l) p e) (et : table ≡ addresses) {o : Player}
    (eo : o ≡ opponent_of r) {m n : List ℕ} (em : m ≡ mark_by l table p r true) (en : n ≡ mark_by m table e o true) where
  lt : p < 225
  lt = (is-legal r (cells_of l) p e f).lt

  none : get_or (cells_of l) p 0 ≡ 0
  none = empty-is l p lt (is-legal r (cells_of l) p e f).none

  one-sound : Sound m
  one-sound = put-sound r l table p s lt none et em

  one-cells : cells_of m ≡ put r (cells_of l) p
  one-cells = put-cells r l table p s lt none et em

  free : get_or (cells_of m) e 0 ≡ 0
  free =
      empty-is m e (reply-lt r (cells_of l) p e f)
      (subst (λ (c : List ℕ). T (is_empty (get_or c e 0))) (sym one-cells) (reply-free r (cells_of l) p e f (length-cells_of l)))

  en' : n ≡ mark_by m table e (opponent_of r) true
  en' = en ∙ ap (λ (x : Player). mark_by m table e x true) eo

  pub both-sound : Sound n
  both-sound = put-sound (opponent_of r) m table e one-sound (reply-lt r (cells_of l) p e f) free et en'

  pub both-cells : cells_of n ≡ after_both r (cells_of l) p e
  both-cells =
      put-cells (opponent_of r) m table e one-sound (reply-lt r (cells_of l) p e f) free et en' ∙ ap (λ (c : List ℕ). put (opponent_of r) c e) one-cells

  pub both-quiet : Quiet r (cells_of n)
  both-quiet = subst (Quiet r) (sym both-cells) f.quiet

  pub both-back : {a b c : List ℕ} {q : Player} → q ≡ opponent_of r → a ≡ n → b ≡ mark_by a table e q false → c ≡ mark_by b table p r false → c ≡ l
  both-back {a} eq ea eb ec =
      put_back r l table p s lt none et em
      (put_back (opponent_of r) m table e one-sound (reply-lt r (cells_of l) p e f) free et en' ea
      (eb ∙ ap (λ (x : Player). mark_by a table e x false) eq)) ec

-- a code that is no point
pub no-point : (r : Player) (cells : List ℕ) (p : ℕ) → 225 ≤ p → (list rest : List ℕ) → list ≡ p ∷ rest → false ≡ reaches_end r cells list
no-point r cells p h list rest e = sym (ap (reaches_end r cells) e ∙ off-board r cells p (le-ltb p 225 h) rest)

-- nothing left
pub none_left : (r : Player) (cells list : List ℕ) → length list < 1 → false ≡ reaches_end r cells list
unfolding reaches_end
none_left r cells list h = rw (no_length list (omega arith))

-- ---- the whole check, by whether a line may begin

module _ (side : Player) (cells : List ℕ) {b : Bool} (eb : b ≡ (goes_on cells && not (any_below 225 (completes (opponent_of side) cells)))) where
  pub shut_none : b ≡ false → (list : List ℕ) → false ≡ acceptable side cells list
  unfolding acceptable
  shut_none f list = go (goes_on cells) (decide (any_below 225 (completes (opponent_of side) cells))) (sym eb ∙ f)
    where
      go : (g : Bool) → (any_below 225 (completes (opponent_of side) cells) ≡ true) ⊎ (any_below 225 (completes (opponent_of side) cells) ≡ false)
          → (g && not (any_below 225 (completes (opponent_of side) cells))) ≡ false → false ≡ (g && reaches_end side cells list)
      go false q e = refl
      go true (inl t) e = sym (not-quiet side cells list t)
      go true (inr t) e = absurd (no_true (sym e ∙ ap not t))

  pub open-on : b ≡ true → goes_on cells ≡ true
  open-on t = T_true (and_left (goes_on cells) (not (any_below 225 (completes (opponent_of side) cells))) (true-T (sym eb ∙ t)))

  pub open-quiet : b ≡ true → Quiet side cells
  open-quiet t = not-false (and_right (goes_on cells) (not (any_below 225 (completes (opponent_of side) cells))) (true-T (sym eb ∙ t)))

  pub open-checked : b ≡ true → (list : List ℕ) {c : Bool} → c ≡ reaches_end side cells list → c ≡ acceptable side cells list
  unfolding acceptable
  open-checked t list e = e ∙ sym (rw (open-on t))

-- The verdicts by the cell at p, by the five and by what section 5's tests say; where no kind may apply the strict one is none; a double
-- three is told by the board with the stone alone. Assumes nothing.
use mathlib.Core.Path.{◌≡◌, refl, ap, sym, ◌∙◌}
use mathlib.Core.Bool.{Bool, true, false, ◌&&◌, ◌||◌, cond}
use mathlib.Core.List.{List}
use Prim.Native.Nat.{ℕ, ◌<◌}
use lib.Dec.{T}
use lib.ListN.{length, get_or}
use Rattle.rules.specs.Grid.{is_empty, rows_through}
use Rattle.rules.specs.Forbidden.{more_twos, with_black, real_double, is_overline, is_double_four, is_double_three, may_forbid, first_kind}
use Rattle.rules.specs.Forbidden.{more_than_one, is_real, real_threes, plain_with, completes_five, strict_of, plain_of}
use Rattle.rules.specs.declared.Player.TheVariants.{Black}
use Rattle.rules.specs.declared.RowKind.TheVariants.{Two, Three}
use Rattle.rules.specs.declared.Verdict.{Verdict}
use Rattle.rules.specs.declared.Verdict.TheVariants.{None}
use Rattle.rules.proofs.Logic.{no_true, along, both_ways, and_left, and_right, and_intro, and_same}
use Rattle.rules.proofs.More.{more-mono}
use Rattle.rules.proofs.Grown.{two-three}
use Rattle.rules.proofs.Fuel.{strict_of-plain}

-- nothing applies where no test passes that needs no nested question
pub quiet-plain : (cells : List ℕ) (p : ℕ) → may_forbid cells p ≡ false → None ≡ plain_of cells p
unfolding may_forbid plain_of plain_with is_double_three
quiet-plain cells p e = go (is_overline cells p) (is_double_four cells p) (more_twos cells p) e
  where
    go : (o f m : Bool) → (o || f || m) ≡ false
        → None ≡ first_kind o f (m && real_double strict_of (with_black cells p) p)
    go false false false q = refl
    go false false true q = absurd (no_true (sym q))
    go false true m q = absurd (no_true (sym q))
    go true f m q = absurd (no_true (sym q))

-- ---- the strict verdict, by the cell at p and by whether a Four goes through it

module _ (cells : List ℕ) (p : ℕ) (long : length cells ≡ 225) (hp : p < 225) where
  pub strict-taken : is_empty (get_or cells p 0) ≡ false → None ≡ strict_of cells p
  strict-taken n = sym (strict_of-plain cells p long hp ∙ rw n refl)

  pub strict-free : {b : Bool} → is_empty (get_or cells p 0) ≡ true → b ≡ completes_five cells p → cond b None (plain_of cells p)
      ≡ strict_of cells p
  strict-free z eb = sym (strict_of-plain cells p long hp ∙ rw z (ap (λ (x : Bool). cond x None (plain_of cells p)) (sym eb)))

  pub quiet_none : may_forbid cells p ≡ false → None ≡ strict_of cells p
  quiet_none e =
      go (is_empty (get_or cells p 0)) (completes_five cells p)
      ∙ sym (strict_of-plain cells p long hp)
    where
      go : (a b : Bool) → None ≡ cond a (cond b None (plain_of cells p)) None
      go true true = refl
      go true false = quiet-plain cells p e
      go false b = refl

  -- so a point is asked about only where it is empty and some kind may apply
  pub unasked-none : (is_empty (get_or cells p 0) && may_forbid cells p) ≡ false → None ≡ strict_of cells p
  unasked-none h = go (is_empty (get_or cells p 0)) (may_forbid cells p) refl refl
    where
      go : (a b : Bool) → is_empty (get_or cells p 0) ≡ a → may_forbid cells p ≡ b → None ≡ strict_of cells p
      go false b ea eb = strict-taken ea
      go true false ea eb = quiet_none eb
      go true true ea eb = absurd (no_true (sym h ∙ rw (ea, eb) refl))

-- ---- the verdicts by what the tests of section 5 say; the board c is asked only where more than one Two goes through p

module _ (cells : List ℕ) (p : ℕ) {o f m : Bool} (eo : o ≡ is_overline cells p) (ef : f ≡ is_double_four cells p) (em : m ≡ more_twos cells p)
  where
    pub may-told : {b : Bool} → b ≡ (o || f || m) → b ≡ may_forbid cells p
    unfolding may_forbid
    may-told eb = eb ∙ rw (eo, ef, em) refl

    module _ (c : List ℕ) (same : T (more_twos cells p) → c ≡ cells) where
      pub plain-told : first_kind o f (m && real_double strict_of (with_black c p) p) ≡ plain_of cells p
      unfolding plain_of plain_with is_double_three
      plain-told =
          rw (eo, ef, em)
          (ap (λ (b : Bool). first_kind (is_overline cells p) (is_double_four cells p) b)
          (and_same (more_twos cells p) (real_double strict_of (with_black c p) p) (real_double strict_of (with_black cells p) p)
          (λ t. ap (λ (x : List ℕ). real_double strict_of (with_black x p) p) (same t))))

      pub strict-told : {five : Bool} → length cells ≡ 225 → p < 225 → is_empty (get_or cells p 0) ≡ true → five ≡ completes_five cells p
          → cond five None (first_kind o f (m && real_double strict_of (with_black c p) p)) ≡ strict_of cells p
      strict-told {five} long hp free e5 =
          ap (λ (v : Verdict). cond five None v) plain-told ∙ strict-free cells p long hp free e5

-- ---- a double three is asked on the trial alone

-- each Three through the stone was a Two before it
pub double-real : (cells : List ℕ) (p : ℕ) → length cells ≡ 225 → p < 225 → get_or cells p 0 ≡ 0
    → is_double_three strict_of cells p ≡ real_double strict_of (with_black cells p) p
unfolding is_double_three real_threes
double-real cells p long hp free =
    let real = real_double strict_of (with_black cells p) p in
    let twos = more_than_one (rows_through Black Two cells p) in
    both_ways (twos && real) real (and_right twos real) (λ t. and_intro twos real
    (more-mono (real_threes strict_of (with_black cells p) p) (rows_through Black Two cells p)
    (λ d j hd hj u. along (sym (two-three Black cells p d long hp hd free j))
    (and_left (rows_through Black Three (with_black cells p) p d j) (is_real strict_of (with_black cells p) p d j) u)) t) t)

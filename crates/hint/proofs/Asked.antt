-- What the rows through a point tell of it, and what the referee is asked. Assumes nothing.
use mathlib.Core.Path.{◌≡◌, refl, sym, ap, subst, ◌∙◌}
use mathlib.Core.Bool.{Bool, true, false, not, ◌&&◌}
use mathlib.Core.List.{List}
use Prim.Native.Nat.{ℕ, ◌<◌}
use lib.Dec.{T, ltb}
use lib.ListN.{length, get_or}
use borrow.Author.Tests.{lt-ltb}
use Rattle.rules.specs.Numbers.{is_black, is_white, is_none}
use Rattle.rules.specs.Refusals.{code_refusal}
use Rattle.std.specs.Prelude.{Result, Ok, Err}
use Rattle.rules.specs.Answers.{answer}
use Rattle.rules.specs.declared.refusal.Refusal.{Refusal}
use Rattle.rules.specs.Grid.{is_empty, starts_of, rows_through}
use Rattle.rules.specs.Forbidden.{some_row, more_than_one, completes_five, is_overline, is_double_four, more_twos, black_rows}
use Rattle.rules.specs.Forbidden.{may_forbid, plain_with, plain_of, strict_of}
use Rattle.rules.specs.declared.Player.{Player}
use Rattle.rules.specs.declared.Player.TheVariants.{Black, White}
use Rattle.rules.specs.declared.RowKind.{RowKind}
use Rattle.rules.specs.declared.Verdict.{Verdict}
use Rattle.rules.specs.declared.Verdict.TheVariants.{None, DoubleFour, Overline}
use Rattle.rules.proofs.Logic.{no_true, true-T}
use Rattle.rules.proofs.Refusals.{none_first, pass}
use Rattle.rules.proofs.Starts.{five-is, overline-is, double-four-is, twos-are}
use Rattle.rules.proofs.Verdicts.{quiet_none}
use Rattle.rules.proofs.Fuel.{strict_of-plain}
use Rattle.cells.specs.Cells.{Cells, cells_refusal, cells_refusal_at}
use Rattle.cells.proofs.Given.{cells-pass}
use Rattle.near.specs.Rows.{RowsAre}
use Rattle.near.specs.declared.rows.Rows.{Rows}
use Rattle.grid.specs.Lines.{cells_of}
use Rattle.grid.proofs.Lines.{cells-cells_of}

-- the question on the cells of lines is not refused
at-pass : (cells : List ℕ) (p : ℕ) → Cells cells → p < 225 → cells_refusal_at cells p ≡ 0
unfolding cells_refusal_at code_refusal
at-pass cells p ok hp =
    none_first (cells_refusal cells) (code_refusal p) (cells-pass cells ok) (pass (ltb p 225) 8 (true-T (lt-ltb p 225 hp)))

pub asked-lines : (l : List ℕ) (p : ℕ) → p < 225 → {cells : List ℕ} {a : Result Verdict Refusal} → cells ≡ cells_of l
    → a ≡ answer (cells_refusal_at cells p) (strict_of cells p) → a ≡ Ok (strict_of (cells_of l) p)
unfolding answer
asked-lines l p hp ec ea = ea ∙ rw (ec, at-pass (cells_of l) p (cells-cells_of l) hp)

-- so its answer is a verdict, and that one
pub kind-told : {a : Result Verdict Refusal} {v w : Verdict} {b : Bool} → a ≡ Ok w → a ≡ Ok v → b ≡ is_none v → not b ≡ not (is_none w)
kind-told {a} {v} {w} asked told e = let same : v ≡ w = cc in ap not e ∙ ap (λ (x : Verdict). not (is_none x)) same

pub never-refused : {a : Result Verdict Refusal} {w : Verdict} {e : Refusal} → a ≡ Ok w → a ≡ Err e → ⊥
never-refused asked told = cc

-- ---- whether an empty point is forbidden, test by test

abbrev pub forbidden : Player → List ℕ → ℕ → Bool
forbidden r cells p = is_black r && not (is_none (strict_of cells p))

pub white-free : (r : Player) (cells : List ℕ) (p : ℕ) → is_white r ≡ true → false ≡ (is_black r && not (is_none (strict_of cells p)))
white-free Black cells p e = absurd (no_true e)
white-free White cells p e = refl

module _ (r : Player) (cells : List ℕ) (p : ℕ) (long : length cells ≡ 225) (hp : p < 225) (free : is_empty (get_or cells p 0) ≡ true)
    (e : is_white r ≡ false) {rows : Rows} (are : RowsAre (λ kind. rows_through r kind cells p) rows) where
  is-black : r ≡ Black
  is-black = go r e
    where
      go : (r : Player) → is_white r ≡ false → r ≡ Black
      go Black e = refl
      go White e = absurd (no_true (sym e))

  theirs : RowsAre (black_rows cells p) rows
  theirs = subst (λ (x : Player). RowsAre (λ (kind : RowKind). rows_through x kind cells p) rows) is-black are

  told : {b : Bool} → b ≡ not (is_none (strict_of cells p)) → b ≡ (is_black r && not (is_none (strict_of cells p)))
  told q = q ∙ ap (λ (x : Player). is_black x && not (is_none (strict_of cells p))) (sym is-black)

  pub five-free : {b : Bool} → b ≡ some_row (starts_of rows.fours) → b ≡ true → false ≡ (is_black r && not (is_none (strict_of cells p)))
  five-free eb t =
      let five : completes_five cells p ≡ true = sym (five-is cells p theirs.fours eb) ∙ t in
      let none : strict_of cells p ≡ None = strict_of-plain cells p long hp ∙ rw (free, five) in
      told (sym (ap (λ (v : Verdict). not (is_none v)) none))

  module _ {f : Bool} (ef : f ≡ some_row (starts_of rows.fours)) (nf : f ≡ false) where
    no-five : completes_five cells p ≡ false
    no-five = sym (five-is cells p theirs.fours ef) ∙ nf

    plain : strict_of cells p ≡ plain_of cells p
    plain = strict_of-plain cells p long hp ∙ rw (free, no-five)

    pub over-kind : {b : Bool} → b ≡ some_row (starts_of rows.overlinings) → b ≡ true → true ≡ (is_black r && not (is_none (strict_of cells p)))
    unfolding plain_of plain_with
    over-kind eb t =
        let over : is_overline cells p ≡ true = sym (overline-is cells p theirs.overlinings eb) ∙ t in
        let is : strict_of cells p ≡ Overline = plain ∙ rw over in
        told (sym (ap (λ (v : Verdict). not (is_none v)) is))

    module _ {o : Bool} (eo : o ≡ some_row (starts_of rows.overlinings)) (no : o ≡ false) where
      no-over : is_overline cells p ≡ false
      no-over = sym (overline-is cells p theirs.overlinings eo) ∙ no

      pub fours-kind : {b : Bool} → b ≡ more_than_one (starts_of rows.swords) → b ≡ true → true ≡ (is_black r && not (is_none (strict_of cells p)))
      unfolding plain_of plain_with
      fours-kind eb t =
          let double : is_double_four cells p ≡ true = sym (double-four-is cells p theirs.swords eb) ∙ t in
          let is : strict_of cells p ≡ DoubleFour = plain ∙ rw (no-over, double) in
          told (sym (ap (λ (v : Verdict). not (is_none v)) is))

      pub asked-kind : {b : Bool} → b ≡ not (is_none (strict_of cells p)) → b ≡ (is_black r && not (is_none (strict_of cells p)))
      asked-kind eb = told eb

      pub none-kind : {s t : Bool} → s ≡ more_than_one (starts_of rows.swords) → s ≡ false → t ≡ more_than_one (starts_of rows.twos) → t ≡ false
          → false ≡ (is_black r && not (is_none (strict_of cells p)))
      unfolding may_forbid
      none-kind es ns et nt =
          let double : is_double_four cells p ≡ false = sym (double-four-is cells p theirs.swords es) ∙ ns in
          let twos : more_twos cells p ≡ false = sym (twos-are cells p theirs.twos et) ∙ nt in
          told (ap (λ (v : Verdict). not (is_none v)) (quiet_none cells p long hp (rw (no-over, double, twos))))

-- ---- an empty cell's value

pub empty-zero : {v : ℕ} → v ≡ 0 → is_empty v ≡ true
empty-zero e = ap is_empty e

pub zero-empty : {v : ℕ} → v ≡ 0 → T (is_empty v)
zero-empty e = true-T (empty-zero e)

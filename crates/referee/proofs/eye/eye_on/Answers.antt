-- `referee::eye::eye_on` meets its contract. Assumes nothing.
use mathlib.Core.Path.{◌≡◌, subst, ap, ap₂, ◌∙◌}
use Prim.Native.Nat.{ℕ, ◌*◌, ◌/◌, ◌%◌, ◌<◌}
use native.Mathlib.Omega.{arith}
use lib.Dec.{T}
use Rattle.rules.specs.Grid.{rows_through}
use Rattle.rules.specs.Forbidden.{eye_of}
use Rattle.rules.specs.declared.Player.TheVariants.{Black}
use Rattle.rules.specs.declared.RowKind.TheVariants.{Three}
use Rattle.grid.specs.Lines.{cells_of, Sound}
use Rattle.grid.proofs.Placed.{by-addresses}
use Rattle.point.specs.declared.place.Place.{Place}
use Rattle.point.specs.Places.{place_of}
use Rattle.rules.specs.Bit.{bit}
use Rattle.rules.specs.Point.{step_of}
use Rattle.rules.specs.Forbidden.{gap_from}
use Rattle.grid.specs.Lines.{mask_on}
use Rattle.referee.specs.Referee.{eye_by, walk_by}
use Rattle.referee.proofs.EyeFound.{eye-found, eye-steps, walk-inside}
use Rattle.referee.proofs.eye.eye_on.Goals as goal

pub returns-clause-any : goal.returns-clause-any
returns-clause-any c =
    let l = c.args.lines.now in
    let p = c.get-p.result in
    let k = c.get-start.result in
    let place = by-addresses (k / 16) p c.address_by-here.ensures c.numbers.ensures in
    let walked : c.walked.result ≡ eye_by l p (k / 16) (k % 16) =
    c.walked.ensures
    ∙ ap₂ (λ (a : Place) (step : ℕ). walk_by p (a.cell * step) (c.first_gap-gap.result * step)) place c.step_in.ensures
    ∙ ap (λ (g : ℕ). walk_by p ((place_of (k / 16) p).cell * step_of (k / 16)) (g * step_of (k / 16)))
    (c.first_gap-gap.ensures ∙ ap (λ (m : ℕ). gap_from (bit m) (k % 16))
    (c.mask_on.ensures ∙ ap (λ (a : Place). mask_on Black l a.key) place)) in
    subst (λ (x : ℕ). c.walked.result ≡ eye_by l x (c.args.three / 16) (c.args.three % 16)) c.get-p.ensures.value
    (subst (λ (x : ℕ). c.walked.result ≡ eye_by l p (x / 16) (x % 16)) c.get-start.ensures.value walked)

pub returns-clause-sound : goal.returns-clause-sound
returns-clause-sound c =
    let l = c.args.lines.now in
    let p = c.get-p.result in
    let k = c.get-start.result in
    let hp = c.get-p.ensures.below in
    let hd : k / 16 < 4 = omega (arith, c.get-start.ensures.below) in
    let place = by-addresses (k / 16) p c.address_by-here.ensures c.numbers.ensures in
    let found = λ (s : Sound l) (t : T (rows_through Black Three (cells_of l) p (k / 16) (k % 16))).
    let small = eye-steps l p (k / 16) (k % 16) s hp hd t place c.mask_on.ensures c.first_gap-gap.ensures c.step_in.ensures in
    c.walked.ensures ∙ walk-inside p _ _ (omega (arith, hp)) small.0 small.1 small.2
    ∙ eye-found l p (k / 16) (k % 16) s hp hd t place c.mask_on.ensures c.first_gap-gap.ensures c.step_in.ensures in
    subst (λ (x : ℕ). Sound l → T (rows_through Black Three (cells_of l) x (c.args.three / 16) (c.args.three % 16))
    → c.walked.result ≡ eye_of (cells_of l) x (c.args.three / 16) (c.args.three % 16)) c.get-p.ensures.value
    (subst (λ (x : ℕ). Sound l → T (rows_through Black Three (cells_of l) p (x / 16) (x % 16))
    → c.walked.result ≡ eye_of (cells_of l) p (x / 16) (x % 16)) c.get-start.ensures.value found)

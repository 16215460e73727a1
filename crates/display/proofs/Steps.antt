-- The cells that are written one step after the other are those of a line, and of a row of a board. Assumes nothing.
use mathlib.Core.Path.{◌≡◌, ap, ◌∙◌}
use mathlib.Core.Bool.{◌&&◌}
use mathlib.Core.List.{List, [], ◌∷◌}
use Prim.Native.Nat.{ℕ, ◌+◌, ◌*◌, ◌≤◌, ◌<◌}
use native.Mathlib.Omega.{arith}
use lib.Dec.{leb, leb→le}
use lib.ListN.{get_or}
use Rattle.rules.specs.Refusals.{unless}
use Rattle.rules.specs.Line.{sound_line}
use Rattle.rules.specs.Tools.{tab}
use Rattle.rules.proofs.Logic.{and_right}
use Rattle.rules.proofs.Lists.{gather_cong, get_d-tab}
use Rattle.rules.proofs.Refusals.{first-none, passed}
use Rattle.line.specs.declared.line.Line.{Line}
use Rattle.line.specs.Lines.{blacks, whites, size_refusal, line_refusal}
use Rattle.text.specs.Bytes.{blank, dot}
use Rattle.display.specs.Texts.{letter_or, values_of, cell_text, line_text, text_of_line, stepped, row_text}

line_same : (size : ℕ) (f g : ℕ → ℕ) → ((i : ℕ) → i < size → f i ≡ g i) → line_text size f ≡ line_text size g
unfolding line_text
line_same size f g h =
    gather_cong size (cell_text f) (cell_text g) (λ i l. ap (λ (v : ℕ). blank ∷ letter_or dot v ∷ []) (h i l))

pub row_steps : (cells : List ℕ) (y : ℕ) → line_text 15 (stepped cells y 15) ≡ row_text cells y
unfolding row_text
row_steps cells y =
    line_same 15 _ _ (λ x h. let e : y + 15 * x ≡ 15 * x + y = omega arith in ap (λ (p : ℕ). get_or cells p 0) e)

pub line-steps : (l : Line) → l.size ≤ 15 → line_text l.size (stepped (tab 16 (values_of (blacks l) (whites l))) 0 1) ≡ text_of_line l
unfolding text_of_line
line-steps l fit =
    let f = values_of (blacks l) (whites l) in
    line_same l.size (stepped (tab 16 f) 0 1) f
    (λ i h. let e : 0 + 1 * i ≡ i = omega arith in ap (λ (p : ℕ). get_or (tab 16 f) p 0) e ∙ get_d-tab 16 f i (omega arith))

-- a line that is not refused has at most 15 cells
pub line-open : (l : Line) → line_refusal l ≡ 0 → l.size ≤ 15
unfolding line_refusal size_refusal
line-open l e =
    let size = l.size in
    let (s, t) = first-none (size_refusal size) (unless (sound_line size (blacks l) (whites l)) 9) e in
    leb→le size 15 (and_right (leb 5 size) (leb size 15) (passed (leb 5 size && leb size 15) 9 s))

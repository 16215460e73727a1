-- What is copied where nothing is refused: the line of the right cells. Assumes nothing.
use mathlib.Core.Path.{◌≡◌, refl, ap, ◌∙◌}
use mathlib.Core.Bool.{Bool, true, false}
use mathlib.Core.List.{List}
use Prim.Native.Nat.{ℕ, ◌<◌}
use borrow.Author.Tests.{lt-ltb}
use Rattle.rules.specs.Refusals.{direction_refusal, line_no_refusal}
use Rattle.rules.specs.Point.{line_no, line_count, stored, stored_at, key_of, key_at, key_size}
use Rattle.rules.specs.declared.Player.TheVariants.{Black, White}
use Rattle.rules.proofs.Logic.{true-T}
use Rattle.rules.proofs.Address.{line-here, key-lt, key-dir, key-no}
use Rattle.point.specs.Places.{has_place, place_of}
use Rattle.point.specs.declared.place.Place.{Place}
use Rattle.point.proofs.Refused.{direction-in, line-in}
use Rattle.point.proofs.Stored.{place-stored, place-key}
use Rattle.grid.specs.Lines.{cells_of, Sound}
use Rattle.grid.proofs.Lines.{mask-sound}
use Rattle.board.specs.Boards.{board_refusal, refusal_at}
use Rattle.board.specs.declared.board.Board.{Board}
use Rattle.board.proofs.Given.{sound-in, at_in}
use Rattle.std.specs.Prelude.{Some}
use Rattle.lines.specs.Copies.{line_of, shown_line, if_stored, line_there}

-- ---- the line of a stored key

pub key-line : (l : List ℕ) (d i : ℕ) → Sound l → d < 4 → i < line_count d → stored d i ≡ true
    → shown_line l (key_of d i) ≡ line_of (cells_of l) d i
unfolding shown_line line_of key_size
key-line l d i s hd hi t =
    let k = key-lt d i hd hi (true-T t) in
    rw (mask-sound Black l (key_of d i) s k, mask-sound White l (key_of d i) s k, key-dir d i hd hi (true-T t), key-no d i hd hi (true-T t))

-- the line through a point, by its address
pub line_shown : (b : Board) (d p : ℕ) (r : Place) → refusal_at b p ≡ 0 → direction_refusal d ≡ 0 → r ≡ place_of d p
    → if_stored r.stored (shown_line b.lines r.key) ≡ line_there b p d
unfolding line_there has_place stored_at key_at
line_shown b d p r z y e = go (stored d (line_no d p)) refl
  where
    in_board : Sound b.lines × (p < 225)
    in_board = at_in b p z

    way : d < 4
    way = direction-in d y

    here : r.stored ≡ stored d (line_no d p)
    here = place-stored d p e ∙ rw (lt-ltb p 225 in_board.1)

    go : (t : Bool) → stored d (line_no d p) ≡ t
        → if_stored r.stored (shown_line b.lines r.key) ≡ if_stored (stored d (line_no d p)) (line_of (cells_of b.lines) d (line_no d p))
    go true t =
        let key = place-key d p e (here ∙ t) in
        rw (here, t)
        (ap Some
        (ap (shown_line b.lines) key ∙ key-line b.lines d (line_no d p) in_board.0 way (line-here d p way in_board.1) t))
    go false t = rw (here, t)

-- the line of a number, by its key
pub line_numbered : (b : Board) (d i : ℕ) → board_refusal b ≡ 0 → line_no_refusal d i ≡ 0 → stored d i ≡ true
    → shown_line b.lines (key_of d i) ≡ line_of (cells_of b.lines) d i
line_numbered b d i none z t = let h = line-in d i z in key-line b.lines d i (sound-in b none) h.0 h.1 t

-- Section 8: the table of cases C1 to C12, each as a test. proofs/Cases.antt proves that all pass.
use Rattle.std.specs.Prelude.{Bool, true, false, not, ◌&&◌, cond, List, [], ◌∷◌, ℕ, ◌-◌, eqb, get_or, replicate}
use Rattle.rules.specs.Numbers.{is_black, verdict_no, is_none}
use Rattle.rules.specs.Tools.{any_below, gather, only}
use Rattle.rules.specs.Line.{row_at, eye_of_some}
use Rattle.rules.specs.Point.{code_of, line_no, point_at}
use Rattle.rules.specs.Grid.{is_empty, put, Starts, eye_on, rows_through}
use Rattle.rules.specs.Forbidden.{more_than_one, Ask, with_black, completes_five, is_overline, is_double_four, more_twos, first_kind}
use Rattle.rules.specs.Forbidden.{nested_of, strict_of, plain_of}
use Rattle.rules.specs.declared.Player.{Player}
use Rattle.rules.specs.declared.Player.TheVariants.{Black, White}
use Rattle.rules.specs.declared.RowKind.{RowKind}
use Rattle.rules.specs.declared.RowKind.TheVariants.{Three, Sword, Four, Five, Overlining, Overlined}
use Rattle.rules.specs.declared.Verdict.{Verdict}
use Rattle.rules.specs.declared.Verdict.TheVariants.{None, DoubleThree, DoubleFour, Overline}

-- two lists of numbers are the same
abbrev pub same : List ℕ → List ℕ → Bool
same [] [] = true
same [] (y ∷ ys) = false
same (x ∷ xs) [] = false
same (x ∷ xs) (y ∷ ys) = eqb x y && same xs ys

abbrev pub every : List Bool → Bool
every [] = true
every (b ∷ bs) = b && every bs

-- ---- lines: "stones of one colour, all else empty"

abbrev pub member : List ℕ → ℕ → Bool
member [] j = false
member (x ∷ xs) j = cond (eqb x j) true (member xs j)

abbrev pub nowhere : ℕ → Bool
nowhere j = false

-- the starts of a kind's rows, and their eyes, ascending: the colour, the line's size, its stones
abbrev pub starts_are : Player → ℕ → List ℕ → RowKind → List ℕ → Bool
starts_are r size own k expected =
    same (gather size (λ j. only (row_at (is_black r) size (member own) nowhere k j) (j ∷ []))) expected

abbrev pub eyes_are : Player → ℕ → List ℕ → RowKind → List ℕ → Bool
eyes_are r size own k expected =
    same (gather size (λ e. only (eye_of_some size (member own) nowhere k (row_at (is_black r) size (member own) nowhere k) e)
    (e ∷ []))) expected

-- ---- boards: a point by its letter and number

abbrev pub D : ℕ → ℕ
D n = code_of 3 (n - 1)

abbrev pub E : ℕ → ℕ
E n = code_of 4 (n - 1)

abbrev pub F : ℕ → ℕ
F n = code_of 5 (n - 1)

abbrev pub G : ℕ → ℕ
G n = code_of 6 (n - 1)

abbrev pub H : ℕ → ℕ
H n = code_of 7 (n - 1)

abbrev pub I : ℕ → ℕ
I n = code_of 8 (n - 1)

abbrev pub J : ℕ → ℕ
J n = code_of 9 (n - 1)

abbrev pub K : ℕ → ℕ
K n = code_of 10 (n - 1)

-- stones of a colour put on the points of a list
abbrev pub put_all : Player → List ℕ → List ℕ → List ℕ
put_all r [] cells = cells
put_all r (p ∷ ps) cells = put_all r ps (put r cells p)

abbrev pub case_board : List ℕ → List ℕ → List ℕ
case_board blacks whites = put_all White whites (put_all Black blacks (replicate 225 0))

abbrev pub verdict_is : Verdict → Verdict → Bool
verdict_is expected v = eqb (verdict_no v) (verdict_no expected)

abbrev pub strict_is : List ℕ → List ℕ → ℕ → Verdict → Bool
strict_is blacks whites p v = verdict_is v (strict_of (case_board blacks whites) p)

abbrev pub plain_is : List ℕ → List ℕ → ℕ → Verdict → Bool
plain_is blacks whites p v = verdict_is v (plain_of (case_board blacks whites) p)

-- ---- the table

unfoldable pub cases : List Bool
cases =
    -- C1 size 5, Black 0 to 3: Four {0}, eye 4
    starts_are Black 5 (0 ∷ 1 ∷ 2 ∷ 3 ∷ []) Four (0 ∷ [])
    ∷ eyes_are Black 5 (0 ∷ 1 ∷ 2 ∷ 3 ∷ []) Four (4 ∷ [])
    -- C2 size 15, Black 2,3,4: Three {1,2}, Sword {0,1,2}
    ∷ starts_are Black 15 (2 ∷ 3 ∷ 4 ∷ []) Three (1 ∷ 2 ∷ [])
    ∷ starts_are Black 15 (2 ∷ 3 ∷ 4 ∷ []) Sword (0 ∷ 1 ∷ 2 ∷ [])
    -- C3 White 0,1,2,3,5: Four {0,1}, one eye, 4
    ∷ starts_are White 15 (0 ∷ 1 ∷ 2 ∷ 3 ∷ 5 ∷ []) Four (0 ∷ 1 ∷ [])
    ∷ eyes_are White 15 (0 ∷ 1 ∷ 2 ∷ 3 ∷ 5 ∷ []) Four (4 ∷ [])
    -- C4 Black 0,1,2,3,5: no Four; Overlining {1}
    ∷ starts_are Black 15 (0 ∷ 1 ∷ 2 ∷ 3 ∷ 5 ∷ []) Four []
    ∷ starts_are Black 15 (0 ∷ 1 ∷ 2 ∷ 3 ∷ 5 ∷ []) Overlining (1 ∷ [])
    -- C5 Black 0 to 5: no Five, Overlined {1}. White: Five {0,1}
    ∷ starts_are Black 15 (0 ∷ 1 ∷ 2 ∷ 3 ∷ 4 ∷ 5 ∷ []) Five []
    ∷ starts_are Black 15 (0 ∷ 1 ∷ 2 ∷ 3 ∷ 4 ∷ 5 ∷ []) Overlined (1 ∷ [])
    ∷ starts_are White 15 (0 ∷ 1 ∷ 2 ∷ 3 ∷ 4 ∷ 5 ∷ []) Five (0 ∷ 1 ∷ [])
    -- C6 D8 E8 F8 H8 I8, at G8: Overline
    ∷ strict_is (D 8 ∷ E 8 ∷ F 8 ∷ H 8 ∷ I 8 ∷ []) [] (G 8) Overline
    -- C7 G8 I8 H7 H9, at H8: DoubleThree
    ∷ strict_is (G 8 ∷ I 8 ∷ H 7 ∷ H 9 ∷ []) [] (H 8) DoubleThree
    -- C8 with White E8 and K8: none. With White E8 only: DoubleThree
    ∷ strict_is (G 8 ∷ I 8 ∷ H 7 ∷ H 9 ∷ []) (E 8 ∷ K 8 ∷ []) (H 8) None
    ∷ strict_is (G 8 ∷ I 8 ∷ H 7 ∷ H 9 ∷ []) (E 8 ∷ []) (H 8) DoubleThree
    -- C9 E8 F8 G8 H9 H10 H11, at H8: DoubleFour
    ∷ strict_is (E 8 ∷ F 8 ∷ G 8 ∷ H 9 ∷ H 10 ∷ H 11 ∷ []) [] (H 8) DoubleFour
    -- C10 D8 E8 F8 G8 H9 H10 H11 I9 J10 K11, at H8: none; plain DoubleFour
    ∷ strict_is (D 8 ∷ E 8 ∷ F 8 ∷ G 8 ∷ H 9 ∷ H 10 ∷ H 11 ∷ I 9 ∷ J 10 ∷ K 11 ∷ []) [] (H 8) None
    ∷ plain_is (D 8 ∷ E 8 ∷ F 8 ∷ G 8 ∷ H 9 ∷ H 10 ∷ H 11 ∷ I 9 ∷ J 10 ∷ K 11 ∷ []) [] (H 8) DoubleFour
    -- C11 D8 F8 H8 J8, at G8: DoubleFour on one line
    ∷ strict_is (D 8 ∷ F 8 ∷ H 8 ∷ J 8 ∷ []) [] (G 8) DoubleFour
    -- C12 E8 F8 G8, at H8: none
    ∷ strict_is (E 8 ∷ F 8 ∷ G 8 ∷ []) [] (H 8) None
    ∷ []

-- Beside the table: C1 to C12 do not tell the board with the stone from "only the board before the stone when asking whether a Three is
-- real" (section 9). Black G8 J8 H5 H7 I9 I10 I11, White I12, at H8: I8, the eye of the Three G8 H8 J8, is free before the stone and a
-- double four with it, so that Three is not real and one is left: none.
unfoldable pub stone_is_on : Bool
stone_is_on = strict_is (G 8 ∷ J 8 ∷ H 5 ∷ H 7 ∷ I 9 ∷ I 10 ∷ I 11 ∷ []) (I 12 ∷ []) (H 8) None

-- ---- beside the table: document 01's own rule and document 02's No. 6

-- "A Three is real when the strict verdict at its one eye, on that board, is none": the Threes through p of which document 01 says that
abbrev pub real_before : Ask Verdict → List ℕ → ℕ → Starts
real_before ask cells p d j =
    rows_through Black Three cells p d j
    && any_below 16 (λ e. eye_on Black Three cells d (line_no d p) j e && is_none (ask cells (point_at d (line_no d p) e)))

-- the strict verdict of document 01 alone, at every level: all but the real Three is as it is in Forbidden
unfoldable pub strict_before : Ask Verdict
strict_before =
    nested_of None
    (λ (ask : Ask Verdict) (cells : List ℕ) (p : ℕ).
    cond (is_empty (get_or cells p 0) && not (completes_five cells p))
    (first_kind (is_overline cells p) (is_double_four cells p)
    (more_twos cells p && more_than_one (real_before ask (with_black cells p) p)))
    None)

-- by document 01 alone the verdict at p is the first, by No. 6 the second
abbrev pub before_and_now : List ℕ → ℕ → Verdict → Verdict → Bool
before_and_now blacks p before now = verdict_is before (strict_before (case_board blacks []) p) && strict_is blacks [] p now

-- F7, the eye of the Three F6 F8 F9, completes the five D5 to H9. By document 01 that Three is real, and with the Three E6 F6 H6 there are
-- two; by No. 6 it is not, and one is left.
--
-- One question deeper the answer turns the other way: the Three F6 G6 I6 has the eye H6. Of the two Threes through H6, G5 H6 J8 has the eye
-- I7, which completes the five I5 to I9, so that by No. 6 H6 is no double three. So F6 G6 I6 is real, and with G5 G6 G7 there are two.
unfoldable pub eye_is_no_five : List Bool
eye_is_no_five =
    before_and_now (D 5 ∷ E 6 ∷ F 8 ∷ F 9 ∷ G 8 ∷ H 6 ∷ H 9 ∷ []) (F 6) DoubleThree None
    ∷ before_and_now (F 6 ∷ G 5 ∷ G 7 ∷ I 5 ∷ I 6 ∷ I 8 ∷ I 9 ∷ J 8 ∷ []) (G 6) None DoubleThree
    ∷ []

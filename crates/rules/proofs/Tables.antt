-- Truth tables: an equation between two functions of a few Bools, by one computed test over all their values. Assumes nothing.
use mathlib.Core.Path.{◌≡◌, refl}
use mathlib.Core.Bool.{Bool, true, false, ◌&&◌, beq}
use lib.Dec.{T}
use Rattle.rules.proofs.Logic.{and_left, and_right}

abbrev pub every1 : (Bool → Bool) → Bool
every1 f = f true && f false

pub at1 : (f : Bool → Bool) → T (every1 f) → (b : Bool) → T (f b)
at1 f t true = and_left (f true) (f false) t
at1 f t false = and_right (f true) (f false) t

abbrev pub every2 : (Bool → Bool → Bool) → Bool
every2 f = every1 (λ a. every1 (λ b. f a b))

pub at2 : (f : Bool → Bool → Bool) → T (every2 f) → (a b : Bool) → T (f a b)
at2 f t a b = at1 (λ b. f a b) (at1 (λ a. every1 (λ b. f a b)) t a) b

abbrev pub every3 : (Bool → Bool → Bool → Bool) → Bool
every3 f = every1 (λ a. every2 (λ b c. f a b c))

pub at3 : (f : Bool → Bool → Bool → Bool) → T (every3 f) → (a b c : Bool) → T (f a b c)
at3 f t a b c = at2 (λ b c. f a b c) (at1 (λ a. every2 (λ b c. f a b c)) t a) b c

abbrev pub every4 : (Bool → Bool → Bool → Bool → Bool) → Bool
every4 f = every2 (λ a b. every2 (λ c d. f a b c d))

pub at4 : (f : Bool → Bool → Bool → Bool → Bool) → T (every4 f) → (a b c d : Bool) → T (f a b c d)
at4 f t a b c d = at2 (λ c d. f a b c d) (at2 (λ a b. every2 (λ c d. f a b c d)) t a b) c d

abbrev pub every5 : (Bool → Bool → Bool → Bool → Bool → Bool) → Bool
every5 f = every3 (λ a b c. every2 (λ d e. f a b c d e))

pub at5 : (f : Bool → Bool → Bool → Bool → Bool → Bool) → T (every5 f) → (a b c d e : Bool) → T (f a b c d e)
at5 f t a b c d e = at2 (λ d e. f a b c d e) (at3 (λ a b c. every2 (λ d e. f a b c d e)) t a b c) d e

abbrev pub every6 : (Bool → Bool → Bool → Bool → Bool → Bool → Bool) → Bool
every6 f = every3 (λ a b c. every3 (λ d e g. f a b c d e g))

pub at6 : (f : Bool → Bool → Bool → Bool → Bool → Bool → Bool) → T (every6 f) → (a b c d e g : Bool) → T (f a b c d e g)
at6 f t a b c d e g = at3 (λ d e g. f a b c d e g) (at3 (λ a b c. every3 (λ d e g. f a b c d e g)) t a b c) d e g

pub beq-eq : (x y : Bool) → T (beq x y) → x ≡ y
beq-eq true true t = refl
beq-eq true false t = absurd t
beq-eq false true t = absurd t
beq-eq false false t = refl

pub table2 : (f g : Bool → Bool → Bool) → T (every2 (λ a b. beq (f a b) (g a b))) → (a b : Bool) → f a b ≡ g a b
table2 f g t a b = beq-eq (f a b) (g a b) (at2 (λ a b. beq (f a b) (g a b)) t a b)

pub table3 : (f g : Bool → Bool → Bool → Bool) → T (every3 (λ a b c. beq (f a b c) (g a b c))) → (a b c : Bool) → f a b c ≡ g a b c
table3 f g t a b c = beq-eq (f a b c) (g a b c) (at3 (λ a b c. beq (f a b c) (g a b c)) t a b c)

pub table4 : (f g : Bool → Bool → Bool → Bool → Bool) → T (every4 (λ a b c d. beq (f a b c d) (g a b c d))) → (a b c d : Bool)
    → f a b c d ≡ g a b c d
table4 f g t a b c d = beq-eq (f a b c d) (g a b c d) (at4 (λ a b c d. beq (f a b c d) (g a b c d)) t a b c d)

pub table5 : (f g : Bool → Bool → Bool → Bool → Bool → Bool) → T (every5 (λ a b c d e. beq (f a b c d e) (g a b c d e)))
    → (a b c d e : Bool) → f a b c d e ≡ g a b c d e
table5 f g t a b c d e = beq-eq (f a b c d e) (g a b c d e) (at5 (λ a b c d e. beq (f a b c d e) (g a b c d e)) t a b c d e)

pub table6 : (f g : Bool → Bool → Bool → Bool → Bool → Bool → Bool)
    → T (every6 (λ a b c d e i. beq (f a b c d e i) (g a b c d e i))) → (a b c d e i : Bool) → f a b c d e i ≡ g a b c d e i
table6 f g t a b c d e i =
    beq-eq (f a b c d e i) (g a b c d e i) (at6 (λ a b c d e i. beq (f a b c d e i) (g a b c d e i)) t a b c d e i)

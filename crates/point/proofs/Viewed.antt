-- The views beside those that a number names: what they are taken for. Assumes nothing.
use mathlib.Core.Path.{◌≡◌, refl}
use mathlib.Core.List.{[], ◌∷◌}
use Prim.Native.Nat.{ℕ, zero, suc}
use lib.ListN.{get_or}
use Rattle.rules.specs.Views.{viewed}

-- a view that is not one of the first seven is taken for 7: it has the last of eight entries, which is given past them too
last-of-eight : {A : Type 0} (a b c d e f g h : A) (v : ℕ) → (v ≡ 0 → ⊥) → (v ≡ 1 → ⊥) → (v ≡ 2 → ⊥) → (v ≡ 3 → ⊥) → (v ≡ 4 → ⊥)
    → (v ≡ 5 → ⊥) → (v ≡ 6 → ⊥) → get_or (a ∷ b ∷ c ∷ d ∷ e ∷ f ∷ g ∷ h ∷ []) v h ≡ h
last-of-eight a b c d e f g h zero h₀ h₁ h₂ h₃ h₄ h₅ h₆ = absurd (h₀ refl)
last-of-eight a b c d e f g h (suc zero) h₀ h₁ h₂ h₃ h₄ h₅ h₆ = absurd (h₁ refl)
last-of-eight a b c d e f g h (suc (suc zero)) h₀ h₁ h₂ h₃ h₄ h₅ h₆ = absurd (h₂ refl)
last-of-eight a b c d e f g h (suc (suc (suc zero))) h₀ h₁ h₂ h₃ h₄ h₅ h₆ = absurd (h₃ refl)
last-of-eight a b c d e f g h (suc (suc (suc (suc zero)))) h₀ h₁ h₂ h₃ h₄ h₅ h₆ = absurd (h₄ refl)
last-of-eight a b c d e f g h (suc (suc (suc (suc (suc zero))))) h₀ h₁ h₂ h₃ h₄ h₅ h₆ = absurd (h₅ refl)
last-of-eight a b c d e f g h (suc (suc (suc (suc (suc (suc zero)))))) h₀ h₁ h₂ h₃ h₄ h₅ h₆ = absurd (h₆ refl)
last-of-eight a b c d e f g h (suc (suc (suc (suc (suc (suc (suc zero))))))) h₀ h₁ h₂ h₃ h₄ h₅ h₆ = refl
last-of-eight a b c d e f g h (suc (suc (suc (suc (suc (suc (suc (suc v)))))))) h₀ h₁ h₂ h₃ h₄ h₅ h₆ = refl

-- a number of 7 or more is sent where view 7 sends
pub viewed-last : (v x y : ℕ) → viewed (suc (suc (suc (suc (suc (suc (suc v))))))) x y ≡ viewed 7 x y
viewed-last zero x y = refl
viewed-last (suc v) x y = refl

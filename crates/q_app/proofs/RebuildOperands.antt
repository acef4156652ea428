-- The operands of `rebuild`.
use Rattle.std.proofs.Common.{◌≡◌, ◌≢◌, ℕ, Bool, true, false, ◌&&◌, cond, List, [], ◌∷◌, refl, sym, ap, length, Some, None}
use Rattle.q_app.specs.Rebuilds.{five}
use Rattle.q_app.specs.RebuildWords.{is_new, are_four, rebuild_names}

pub not_five : (ws : List (List ℕ)) → length ws ≢ 5 → None ≡ rebuild_names ws
unfolding rebuild_names
not_five [] h = refl
not_five (a ∷ []) h = refl
not_five (a ∷ b ∷ []) h = refl
not_five (a ∷ b ∷ c ∷ []) h = refl
not_five (a ∷ b ∷ c ∷ d ∷ []) h = refl
not_five (a ∷ b ∷ c ∷ d ∷ e ∷ []) h = absurd (h refl)
not_five (a ∷ b ∷ c ∷ d ∷ e ∷ f ∷ ws) h = refl

names_by : (i o l s t : List ℕ) (b : Bool) → (is_new i o l s t && are_four o l s t) ≡ b → cond b (Some (five i o l s t)) None ≡ rebuild_names (i ∷ o ∷ l ∷ s ∷ t ∷ [])
unfolding rebuild_names
names_by i o l s t b f = ap (λ (c : Bool). cond c (Some (five i o l s t)) None) (sym f)

pub equal_names : (i o l s t : List ℕ) → (is_new i o l s t && are_four o l s t) ≡ false → None ≡ rebuild_names (i ∷ o ∷ l ∷ s ∷ t ∷ [])
equal_names i o l s t f = names_by i o l s t false f

pub five_names : (i o l s t : List ℕ) → (is_new i o l s t && are_four o l s t) ≡ true → Some (five i o l s t) ≡ rebuild_names (i ∷ o ∷ l ∷ s ∷ t ∷ [])
five_names i o l s t f = names_by i o l s t true f

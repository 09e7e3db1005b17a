-- A list that grows at its end.
use Rattle.std.proofs.Common.{◌≡◌, ℕ, zero, suc, List, [], ◌∷◌, ◌++◌, length, Some, subst}
use Rattle.std.specs.List.{slice_get}
use Rattle.std.proofs.lemmas.Option.{none-some, same_Some}

-- What holds of each element and of one more holds of each of the list with that one.
pub each_pushed : {X : Type 0} (xs : List X) (x : X) (P : ℕ → X → Type 0)
    → ((k : ℕ) (y : X) → slice_get xs k ≡ Some y → P k y)
    → P (length xs) x → (k : ℕ) (y : X) → slice_get (xs ++ x ∷ []) k ≡ Some y → P k y
each_pushed [] x P h p zero y e = subst (P 0) (same_Some _ _ e) p
each_pushed [] x P h p (suc k) y e = absurd (none-some _ e)
each_pushed (z ∷ xs) x P h p zero y e = h zero y e
each_pushed (z ∷ xs) x P h p (suc k) y e = each_pushed xs x (λ i. P (suc i)) (λ i. h (suc i)) p k y e

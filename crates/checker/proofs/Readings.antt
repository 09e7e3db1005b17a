-- Readings of sets at kinds that follow one another.
use Rattle.std.proofs.Common.{◌≡◌, ℕ, Bool, List, get_or, refl, sym, ap, ◌∙◌}
use Rattle.std.specs.List.{All, AllWithin}
use Rattle.product_sets.specs.Kinds.{SetsKept, Makes}
use Rattle.checker.specs.Readings.{Agrees}

module _ {K S : Type 0} (holds : K → S → Type 0) (means : K → S → ℕ → Bool) where
  pub agrees_self : (a : K) → Agrees holds means a (means a)
  agrees_self a s h p = refl

  -- A reading that agrees with a kind agrees with each earlier one.
  pub agrees_before : (a b : K) (m : S → ℕ → Bool) → SetsKept holds means a b → Agrees holds means b m →
      Agrees holds means a m
  agrees_before a b m k r s h p = r s (k s h).0 p ∙ (k s h).1 p

  -- Sets that are held are held later.
  pub all_later : (a b : K) (xs : List S) → SetsKept holds means a b → All (holds a) xs → All (holds b) xs
  all_later a b xs k h i d l = (k (get_or xs i d) (h i d l)).0

  pub within_later : (a b : K) (xs : List S) (low high : ℕ) → SetsKept holds means a b → AllWithin (holds a)
      xs low high → AllWithin (holds b) xs low high
  within_later a b xs low high k h i d l u = (k (get_or xs i d) (h i d l u)).0

  -- What a maker says of two sets, by a reading.
  pub read_two : (op : Bool → Bool → Bool) (old new : K) (m : S → ℕ → Bool) (a b r : S)
      → Makes holds means old new (λ p. op (means old a p) (means old b p)) r → Agrees holds means new m →
      holds old a → holds old b
      → (p : ℕ) → m r p ≡ op (m a p) (m b p)
  read_two op old new m a b r made agrees ha hb p =
      let before = agrees_before old new m made.kept agrees in
      agrees r made.held p ∙ made.value p ∙ ap (λ x. op x (means old b p)) (sym (before a ha p)) ∙ ap
      (op (m a p)) (sym (before b hb p))

-- Cells that are there, and cells that are alike.
use Rattle.std.proofs.Common.{◌≡◌, ℕ, ◌<◌, ◌≤◌, Bool, false, List, length, Some, get_or, set, replicate}
use Rattle.std.proofs.Common.{sym, ap, ◌∙◌, subst, inl, inr, arith}
use Rattle.std.specs.List.{slice_get}
use Rattle.std.specs.Option.{option_map_or, unwrap_or}
use Rattle.std.proofs.lemmas.Option.{slice_get-get_or, slice_get_past, slice_get_cases, unwrap_or-slice_get}
use Rattle.std.proofs.lemmas.List.{get_or-set_same, get_or-set_other, get_or-replicate, length-set}
use Rattle.std.proofs.lemmas.List.{length-replicate}
use Rattle.product_sets.specs.Cells.{in_cell}

-- A cell that is there, read at any default.
pub cell_at : {X : Type 0} (mean : X → ℕ → Bool) (cells : List X) (i : ℕ) (d : X) (p : ℕ) → i < length cells
    → in_cell mean cells i p ≡ mean (get_or cells i d) p
cell_at mean cells i d p h = ap (λ o. option_map_or (λ set. mean set p) o false)
    (slice_get-get_or cells i d h)

-- Cells of two lists are alike, if they are there in both or in none.
pub same_cell : {X : Type 0} (xs ys : List X) (i : ℕ) → length ys ≡ length xs →
    ((d : X) → get_or ys i d ≡ get_or xs i d) → slice_get ys i ≡ slice_get xs i
same_cell xs ys i long e = elim (slice_get_cases ys i).1 [
  | inl h ↦ slice_get-get_or ys i h.0 h.1 ∙ ap Some (e h.0) ∙ sym (slice_get-get_or xs i h.0
      (subst (λ (n : ℕ). i < n) long h.1))
  | inr h ↦ h.1 ∙ sym (slice_get_past xs i (subst (λ (n : ℕ). n ≤ i) long h.0))
]

-- A cell read at any default, where cells are alike.
pub same_read : {X : Type 0} (xs ys : List X) (i j : ℕ) (d : X) → slice_get ys j ≡ slice_get xs i → get_or
    ys j d ≡ get_or xs i d
same_read xs ys i j d e = sym (unwrap_or-slice_get ys j d) ∙ ap (λ o. unwrap_or o d) e ∙ unwrap_or-slice_get
    xs i d

module _ {X : Type 0} (mean : X → ℕ → Bool) where
  pub in_same : (xs ys : List X) (i j p : ℕ) → slice_get ys j ≡ slice_get xs i → in_cell mean ys j p ≡
      in_cell mean xs i p
  in_same xs ys i j p e = ap (λ o. option_map_or (λ set. mean set p) o false) e

  -- A cell that was written, and another.
  pub in_written : (xs : List X) (i : ℕ) (x : X) (p : ℕ) → i < length xs → in_cell mean (set xs i x) i p ≡
      mean x p
  in_written xs i x p h = cell_at mean (set xs i x) i x p (omega (arith, length-set xs i x)) ∙ ap
      (λ y. mean y p) (get_or-set_same xs i x x h)

  pub in_other : (xs : List X) (i j : ℕ) (x : X) (p : ℕ) → ¬ (j ≡ i) → in_cell mean (set xs i x) j p ≡
      in_cell mean xs j p
  in_other xs i j x p ne = in_same xs (set xs i x) j j p (same_cell xs (set xs i x) j (length-set xs i x)
      (λ d. get_or-set_other xs i j x d ne))

  -- A cell of many that are one.
  pub in_replicate : (n i : ℕ) (x : X) (p : ℕ) → i < n → in_cell mean (replicate n x) i p ≡ mean x p
  in_replicate n i x p h = cell_at mean (replicate n x) i x p (omega (arith, length-replicate n x)) ∙ ap
      (λ y. mean y p) (get_or-replicate n i x x h)

-- Cells of two lists that are there are alike, if they read alike at every default.
pub same_there : {X : Type 0} (xs ys : List X) (i j : ℕ) → i < length xs → j < length ys →
    ((d : X) → get_or ys j d ≡ get_or xs i d) → slice_get ys j ≡ slice_get xs i
same_there xs ys i j hi hj e = elim (slice_get_cases ys j).1 [
  | inl h ↦ slice_get-get_or ys j h.0 hj ∙ ap Some (e h.0) ∙ sym (slice_get-get_or xs i h.0 hi)
  | inr h ↦ absurd (omega (arith, h.0))
]

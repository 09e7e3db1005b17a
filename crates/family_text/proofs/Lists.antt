-- Word lists that keep their form, as lists of names.
use Rattle.std.proofs.Common.{◌≡◌, ℕ, ◌<◌, List, Option, Some, None, IsSome, IfSome, sym, refl, subst, arith}
use Rattle.words.specs.Words.{InForm, Lines, WordList, number}
use Rattle.words.specs.Cut.{cut}
use Rattle.words.proofs.Cut.{in_form, lines, cut_lines, few_lines}
use Rattle.words.proofs.Numbers.{present}

-- The lines of a list are its names.
pub listed : {limit : ℕ} {bs : List ℕ} → ∥ InForm limit bs ∥₁ → WordList limit bs (cut bs)
listed {limit} {bs} t = let f = in_form t in subst (WordList limit bs) (sym (cut_lines (lines f.1))) f.1

pub cut_into : {limit : ℕ} {bs : List ℕ} → ∥ InForm limit bs ∥₁ → Lines bs (cut bs)
cut_into t = lines (listed t)

pub below_limit : {limit : ℕ} {bs : List ℕ} → ∥ InForm limit bs ∥₁ → (w : List ℕ) (o : Option ℕ) → o ≡ number (cut bs) w → IfSome o (λ k. k < limit)
below_limit t w None e = tt
below_limit {limit} {bs} t w (Some k) e = omega (arith, (present (cut bs) w k (sym e)).0, few_lines t)

pub is_none : (o : Option ℕ) → (IsSome o → ⊥) → o ≡ None
is_none None h = refl
is_none (Some k) h = absurd (h refl)

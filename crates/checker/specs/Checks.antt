-- What a check answers, and what it leaves in the cells.
use Rattle.std.specs.Prelude.{◌≡◌, ℕ, zero, suc, ◌+◌, ◌*◌, ◌<◌, ◌≤◌, Bool, cond, List, length}
use Rattle.families.specs.Families.{Family, count}
use Rattle.formulas.specs.Sound.{Sound}
use Rattle.formulas.specs.Judge.{Judged, pair_of}
use Rattle.checker.specs.declared.check.Refusal.{Refusal}
use Rattle.checker.specs.declared.check.Refusal.TheVariants.{Unsound, TooManyProducts, TooFewCells}
use Rattle.formulas.specs.declared.Expr.{Expr}
use Rattle.formulas.specs.declared.Node.{Node}

-- How many of the first n numbers pass a test.
abbrev pub how_many : ℕ → (ℕ → Bool) → ℕ
how_many zero passes = 0
how_many (suc n) passes = how_many n passes + cond (passes n) 1 0

-- The number of a refusal, and its value.
abbrev pub refusal_pair : Refusal → ℕ × ℕ
refusal_pair (Unsound reason) = pair_of reason
refusal_pair TooManyProducts = (17, 0)
refusal_pair TooFewCells = (18, 0)

-- The answer to a check, with so many places in a set and so many cells: the number and the value. The
-- tables' own refusals come first, then
-- too many products for the kind, then too few cells. Accepted, the value is how many products have the
-- last entry in state 0, where `whole`
-- says of a product whether it does.
pub data Answered (F : Family) (es : List Expr) (ns : List Node) (places cells : ℕ) (whole : ℕ → Bool) : ℕ →
    ℕ → Type 0 where
  refused_tables : {number value : ℕ} → Judged es ns number value → ¬ (number ≡ 0) → Answered F es ns places
      cells whole number value
  too_many_products : Sound es ns → places < count F → Answered F es ns places cells whole 17 0
  too_few_cells : Sound es ns → count F ≤ places → cells < length ns * F.states → Answered F es ns places
      cells whole 18 0
  accepted : Sound es ns → count F ≤ places → length ns * F.states ≤ cells → Answered F es ns places cells
      whole 0 (how_many (count F) whole)

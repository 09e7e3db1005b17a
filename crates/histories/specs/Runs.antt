-- What the calls of a history leave of the kind and the cells that they are lent.
use Rattle.std.specs.Prelude.{◌≡◌, ℕ, Bool, List, [], ◌∷◌, ◌++◌, take, MatchBool}
use Rattle.families.specs.Families.{Family}
use Rattle.formulas.specs.declared.Expr.{Expr}
use Rattle.formulas.specs.declared.Node.{Node}
use Rattle.product_sets.specs.Kinds.{SetsKept}
use Rattle.checker.specs.CheckLaw.{CheckLaw}
use Rattle.histories.specs.declared.calls.Call.{Call}
use Rattle.histories.specs.declared.calls.Call.TheVariants as call
use Rattle.histories.specs.Ledger.{Standing, standing_after}

-- A kind and cells are as they were.
abbrev pub IsUnchanged : {K S : Type 0} → K → List S → K → List S → Type 0
IsUnchanged kind cells kind' cells' = (kind' ≡ kind) × (cells' ≡ cells)

-- `holds` says which sets a kind holds, `means` which places are in a set of it, and `places` how many it has.
module _ {K S : Type 0} (holds : K → S → Type 0) (means : K → S → ℕ → Bool) (places : ℕ) where
  -- A check leaves what its law says, with the number and the value that it answers, and every set that was
  -- held is held, with its meaning.
  abbrev pub CheckLeaves : Family → List Expr → List Node → K → List S → K → List S → Type 0
  CheckLeaves F es ns kind cells kind' cells' =
      ((number value : ℕ) × CheckLaw means places F es ns kind cells kind' cells' number value)
      × SetsKept holds means kind kind'

  -- A call that is no check of a closed book leaves all as it was.
  abbrev pub Leaves : Standing → Call → K → List S → K → List S → Type 0
  Leaves standing (call.AddProduct c) kind cells kind' cells' = IsUnchanged kind cells kind' cells'
  Leaves standing (call.AddTransition t) kind cells kind' cells' = IsUnchanged kind cells kind' cells'
  Leaves standing (call.Strike t) kind cells kind' cells' = IsUnchanged kind cells kind' cells'
  Leaves standing (call.Load bytes) kind cells kind' cells' = IsUnchanged kind cells kind' cells'
  Leaves standing call.Close kind cells kind' cells' = IsUnchanged kind cells kind' cells'
  Leaves standing (call.Check exprs nodes) kind cells kind' cells' =
      MatchBool standing.is_open (IsUnchanged kind cells kind' cells')
      (CheckLeaves standing.ledger exprs.now nodes.now kind cells kind' cells')
  Leaves standing call.Reopen kind cells kind' cells' = IsUnchanged kind cells kind' cells'

-- The calls of a history on a book that is opened with so many states, one after the other, each in the
-- standing and with the kind and the cells that those before it leave.
pub data Runs {K S : Type 0} (holds : K → S → Type 0) (means : K → S → ℕ → Bool) (places states : ℕ)
    (kind : K) (cells : List S) : List Call → K → List S → Type 0 where
  none : Runs holds means places states kind cells [] kind cells
  more : {calls : List Call} (call : Call) {kind' kind'' : K} {cells' cells'' : List S}
      → Runs holds means places states kind cells calls kind' cells'
      → Leaves holds means places (standing_after states calls) call kind' cells' kind'' cells''
      → Runs holds means places states kind cells (calls ++ call ∷ []) kind'' cells''

-- The first calls of a history, as many as there was memory for.
abbrev pub RunsFront : {K S : Type 0} → (K → S → Type 0) → (K → S → ℕ → Bool) → ℕ → ℕ → K → List S
    → List Call → K → List S → Type 0
RunsFront holds means places states kind cells calls kind' cells' =
    (k : ℕ) × Runs holds means places states kind cells (take k calls) kind' cells'

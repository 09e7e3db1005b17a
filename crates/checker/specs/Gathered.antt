-- What is gathered from a family and two tables before the walk: sets of products.
use Rattle.std.specs.Prelude.{◌≡◌, ℕ, ◌*◌, ◌<◌, ◌≤◌, Bool, true, T, ◌↔◌, All, List, length, slice_get, Some}
use Rattle.families.specs.Families.{Family, Meets, count, config}
use Rattle.families.specs.declared.Transition.{Transition}
use Rattle.formulas.specs.Trees.{Parity}
use Rattle.formulas.specs.Tables.{Under, Nearest}
use Rattle.formulas.specs.declared.Expr.{Expr}
use Rattle.formulas.specs.declared.Node.{Node}
use Rattle.formulas.specs.declared.Node.TheVariants as nd
use Rattle.semantics.specs.Meaning.{Pairs}
use Rattle.semantics.specs.Evaluation.{Rows, SameRow, OnlyProducts, NearestAbove, Chosen, Composes, Begins}
use Rattle.semantics.specs.Evaluation.{Evaluates, Rounds}
use Rattle.product_sets.specs.Cells.{in_cell}
use Rattle.product_sets.specs.Kinds.{SetsKept}
use Rattle.product_sets.specs.declared.kind.Kind.{Ghosts}
use Rattle.checker.specs.Readings.{Reads}
use Rattle.checker.specs.Walks.{rows, InRow, Framed}
use Rattle.checker.specs.declared.view.FamilyView.{FamilyView}
use Rattle.checker.specs.declared.walk.Walk.{Walk}

-- The family that is lent.
abbrev pub family_of : FamilyView → Family
family_of view = record {
  states = view.states;
  products = view.products.now;
  transitions =
      view.transitions.now;
}

-- The products for which something is so are in, and no other place.
abbrev pub Collects : Family → (ℕ → Bool) → (ℕ → Type 0) → Type 0
Collects F set P = (p : ℕ) → T (set p) ↔ ((p < count F) × P p)

-- What is in is picked by a test, of which `called x b` says that it may answer b of the configuration x.
pub record Passing (F : Family) (set : ℕ → Bool) (called : ℕ → Bool → Type 0) : Type 0 where
  -- what is in is a product that passed
  pub passed : (p : ℕ) → T (set p) → (p < count F) × called (config F p) true
  -- a product that can only pass is in
  pub within : (p : ℕ) → p < count F → ((b : Bool) → called (config F p) b → b ≡ true) → T (set p)

-- All products are in.
abbrev pub Everyone : Family → (ℕ → Bool) → Type 0
Everyone F all = (p : ℕ) → T (all p) ↔ (p < count F)

-- For each transition the products that meet its condition. `mean` says which places are in a set.
abbrev pub Meeting : {X : Type 0} → (X → ℕ → Bool) → Family → List X → Type 0
Meeting mean F conditions = (i : ℕ) (t : Transition) → slice_get F.transitions i ≡ Some t
    → Collects F (in_cell mean conditions i) (λ p. Meets (config F p) t)

-- For each expression below the k-th the products that satisfy it.
abbrev pub Satisfying : {X : Type 0} → (X → ℕ → Bool) → Family → List Expr → List X → ℕ → Type 0
Satisfying mean F es satisfied k = (e : ℕ) → e < k → Collects F (in_cell mean satisfied e) (Chosen F es e)

-- What the sets mean that a walk goes by.
pub record Gathers {K S : Type 0} {g : Ghosts K S} (mean : S → ℕ → Bool) (w : Walk K S g) : Type 0 where
  pub everyone : Everyone (family_of w.view) (mean w.all)
  pub meeting : Meeting mean (family_of w.view) w.conditions.now
  pub satisfying : Satisfying mean (family_of w.view) w.tables.exprs.now w.satisfied.now
      (length w.tables.exprs.now)

-- The sets that a walk goes by are held, and were gathered from its family and its tables.
pub record Gathered {K S : Type 0} {g : Ghosts K S} (holds : K → S → Type 0) (means : K → S → ℕ → Bool)
    (kind : K) (w : Walk K S g) : Type 0 where
  pub all : holds kind w.all
  pub conditions : All (holds kind) w.conditions.now
  pub satisfied : All (holds kind) w.satisfied.now
  pub meant : Reads holds means kind (λ m. Gathers m w)

-- The rows of the entries of a walk, in its cells.
abbrev pub rows_of : {K S : Type 0} {g : Ghosts K S} → (S → ℕ → Bool) → Walk K S g → List S → ℕ → ℕ → ℕ → Bool
rows_of mean w cells = rows mean w.view.states cells

-- Entry n of a walk can be evaluated: there are cells for all entries, and the rows of the nearest
-- fixpoints above n are held and hold products
-- alone.
pub record Begun {K S : Type 0} {g : Ghosts K S} (holds : K → S → Type 0) (means : K → S → ℕ → Bool)
    (w : Walk K S g) (n : ℕ) (kind : K)
    (cells : List S) : Type 0 where
  pub inside : n < length w.tables.nodes.now
  pub room : length w.tables.nodes.now * w.view.states ≤ length cells
  pub gathered : Gathered holds means kind w
  pub held : NearestAbove w.tables.nodes.now n (λ _ b. InRow (holds kind) w.view.states cells b)
  pub products : Reads holds means kind (λ m. NearestAbove w.tables.nodes.now n
      (λ _ b. OnlyProducts (family_of w.view) (rows_of m w cells b)))

-- A walk evaluated entry n, with sets that are held after it.
pub record Walked {K S : Type 0} {g : Ghosts K S} (holds : K → S → Type 0) (means : K → S → ℕ → Bool)
    (w : Walk K S g) (n : ℕ) (old : K)
    (xs : List S) (new : K) (ys : List S) : Type 0 where
  pub held : (m : ℕ) → Under w.tables.nodes.now n m → InRow (holds new) w.view.states ys m
  pub evaluated : Reads holds means new (λ m. Evaluates (family_of w.view) w.tables.exprs.now
      w.tables.nodes.now (rows_of m w xs) (rows_of m w ys) n)
  pub framed : Framed w.tables.nodes.now w.view.states n xs ys
  pub kept : SetsKept holds means old new

-- Rounds of the fixpoint n over the part c went on from its row, up to one that changed nothing, with sets
-- that are held after it.
pub record Rounded {K S : Type 0} {g : Ghosts K S} (holds : K → S → Type 0) (means : K → S → ℕ → Bool)
    (w : Walk K S g) (n c : ℕ) (old : K)
    (xs : List S) (new : K) (ys : List S) : Type 0 where
  pub held : (m : ℕ) → Under w.tables.nodes.now n m → InRow (holds new) w.view.states ys m
  pub rounds : Reads holds means new (λ m. (now : Rows) × Rounds (family_of w.view) w.tables.exprs.now
      w.tables.nodes.now n c (rows_of m w xs) now
      × Evaluates (family_of w.view) w.tables.exprs.now w.tables.nodes.now now (rows_of m w ys) c
      × SameRow (family_of w.view) (rows_of m w ys n) (rows_of m w ys c))
  pub framed : Framed w.tables.nodes.now w.view.states n xs ys
  pub kept : SetsKept holds means old new

-- The row V of entry n as it is written from the rows: that of a variable is that of its nearest fixpoint,
-- and that of a fixpoint what it starts
-- from.
abbrev pub EntryRow : Family → List Expr → List Node → Rows → ℕ → Node → Pairs → Type 0
EntryRow F es ns rows n (nd.Variable v) V = (b : ℕ) × (k : Parity) × Nearest ns v b k n × SameRow F V (rows b)
EntryRow F es ns rows n (nd.Least v c) V = Begins F (nd.Least v c) V
EntryRow F es ns rows n (nd.Greatest v c) V = Begins F (nd.Greatest v c) V
EntryRow F es ns rows n x V = Composes F es rows x V

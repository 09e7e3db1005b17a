-- The evaluation of a formula table over a family: what the rows are before and after it, entry by entry.
use Rattle.std.specs.Prelude.{◌≡◌, ℕ, ◌<◌, T, ◌↔◌, ◌⊎◌, List, [], ◌∷◌}
use Rattle.families.specs.Families.{Family, Owns, count, config}
use Rattle.formulas.specs.Trees.{Parity}
use Rattle.formulas.specs.Tables.{entry, parts, expression_at, Names, Nearest, Under, Tree, Balanced}
use Rattle.formulas.specs.declared.Expr.{Expr}
use Rattle.formulas.specs.declared.Node.{Node}
use Rattle.formulas.specs.declared.Node.TheVariants as nd
use Rattle.semantics.specs.Plain.{Env}
use Rattle.semantics.specs.Satisfies.{satisfies}
use Rattle.semantics.specs.Meaning.{Pairs, Same}
use Rattle.semantics.specs.Entries.{Filled}

-- A row for each entry.
abbrev pub Rows : Type 0
Rows = ℕ → Pairs

-- Two rows hold the same places in each state.
abbrev pub SameRow : Family → Pairs → Pairs → Type 0
SameRow F V W = (s p : ℕ) → s < F.states → V s p ≡ W s p

-- Of all rows, only that of entry n was written.
abbrev pub OthersSame : Family → ℕ → Rows → Rows → Type 0
OthersSame F n before after = (m : ℕ) → ¬ (m ≡ n) → SameRow F (after m) (before m)

-- A row holds a place in a state exactly if something is so of them.
abbrev pub HoldsWhere : Family → Pairs → (ℕ → ℕ → Type 0) → Type 0
HoldsWhere F V P = (s p : ℕ) → s < F.states → T (V s p) ↔ P s p

-- Some own transition of the product leads from s by the action a into a set.
abbrev pub SomeLeads : Family → ℕ → Pairs → ℕ → ℕ → Type 0
SomeLeads F a V s p = (u : ℕ) × (u < F.states) × Owns F.transitions (config F p) s a u × T (V u p)

-- All own transitions of the product from s by the action a lead into a set.
abbrev pub AllLead : Family → ℕ → Pairs → ℕ → ℕ → Type 0
AllLead F a V s p = (u : ℕ) → u < F.states → Owns F.transitions (config F p) s a u → T (V u p)

-- A product satisfies an expression of the table.
abbrev pub Chosen : Family → List Expr → ℕ → ℕ → Type 0
Chosen F es e p = T (satisfies (config F p) (expression_at es e))

-- Every place in the row is a product.
abbrev pub OnlyProducts : Family → Pairs → Type 0
OnlyProducts F V = (s p : ℕ) → s < F.states → T (V s p) → p < count F

-- Something is so of each variable and its nearest fixpoint above n.
abbrev pub NearestAbove : List Node → ℕ → (ℕ → ℕ → Type 0) → Type 0
NearestAbove ns n P = (v b : ℕ) (k : Parity) → Nearest ns v b k n → P v b

-- The row V of a constant, a connective or a modality, from the rows of its parts.
abbrev pub Composes : Family → List Expr → Rows → Node → Pairs → Type 0
Composes F es rows nd.False V = HoldsWhere F V (λ s p. ⊥)
Composes F es rows nd.True V = HoldsWhere F V (λ s p. p < count F)
Composes F es rows (nd.Not c) V = HoldsWhere F V (λ s p. (p < count F) × (¬ T (rows c s p)))
Composes F es rows (nd.Or c d) V = HoldsWhere F V (λ s p. T (rows c s p) ⊎ T (rows d s p))
Composes F es rows (nd.And c d) V = HoldsWhere F V (λ s p. T (rows c s p) × T (rows d s p))
Composes F es rows (nd.Diamond a e c) V =
    HoldsWhere F V (λ s p. (p < count F) × Chosen F es e p × SomeLeads F a (rows c) s p)
Composes F es rows (nd.Box a e c) V =
    HoldsWhere F V (λ s p. (p < count F) × (Chosen F es e p → AllLead F a (rows c) s p))
Composes F es rows x V = ⊥

-- The row from which a fixpoint starts: a least one from nothing, a greatest one from all products.
abbrev pub Begins : Family → Node → Pairs → Type 0
Begins F (nd.Least v c) V = HoldsWhere F V (λ s p. ⊥)
Begins F (nd.Greatest v c) V = HoldsWhere F V (λ s p. p < count F)
Begins F x V = ⊥

module _ (F : Family) (es : List Expr) (ns : List Node) where
  mutual
    -- The evaluation of entry n takes the rows from `before` to `after`.
    pub data Evaluates : Rows → Rows → ℕ → Type 0 where
      -- a constant, a connective or a modality: its parts one after the other, then its own row from theirs
      composed : {before middle after : Rows} {n : ℕ} → EvaluatesAll before middle (parts (entry ns n))
          → Composes F es middle (entry ns n) (after n) → OthersSame F n middle after
          → Evaluates before after n
      -- a variable: the row of its nearest fixpoint, as that stands
      variable : {before after : Rows} {n v b : ℕ} {k : Parity} → entry ns n ≡ nd.Variable v
          → Nearest ns v b k n → SameRow F (after n) (before b) → OthersSame F n before after
          → Evaluates before after n
      -- a fixpoint: it starts anew, and goes on by rounds until its part comes to the row that it has
      fixpoint : {before start now after : Rows} {n c : ℕ} → Names c (entry ns n)
          → Begins F (entry ns n) (start n) → OthersSame F n before start → Rounds n c start now
          → Evaluates now after c → SameRow F (after n) (after c) → Evaluates before after n

    -- Entries are evaluated one after the other.
    pub data EvaluatesAll : Rows → Rows → List ℕ → Type 0 where
      done : {rows : Rows} → EvaluatesAll rows rows []
      then : {before middle after : Rows} {c : ℕ} {cs : List ℕ} → Evaluates before middle c
          → EvaluatesAll middle after cs → EvaluatesAll before after (c ∷ cs)

    -- Rounds of a fixpoint n over the part c: each evaluates the part anew, comes to another row than that of
    -- the fixpoint, and takes it over.
    pub data Rounds : ℕ → ℕ → Rows → Rows → Type 0 where
      none : {n c : ℕ} {rows : Rows} → Rounds n c rows rows
      round : {n c : ℕ} {start now middle after : Rows} → Rounds n c start now → Evaluates now middle c
          → ¬ SameRow F (middle n) (middle c) → SameRow F (after n) (middle c) → OthersSame F n middle after
          → Rounds n c start after

  -- What the evaluation of entry n comes to: no row was written but those of n and of what is under it; these
  -- hold products alone, if the rows of the nearest fixpoints above do; and they are the meanings of their
  -- entries wherever the variables stand for those rows.
  pub record Evaluated (before after : Rows) (n : ℕ) : Type 0 where
    pub others : (m : ℕ) → ¬ Under ns n m → SameRow F (after m) (before m)
    pub products : NearestAbove ns n (λ _ b. OnlyProducts F (before b))
        → (m : ℕ) → Under ns n m → OnlyProducts F (after m)
    pub filled : (η : Env Pairs) → NearestAbove ns n (λ v b. Same F (η v) (before b))
        → Filled F es ns after η n

-- Evaluation fills the rows with the meanings.
abbrev pub EvaluationFills : Type 0
EvaluationFills = (F : Family) (es : List Expr) (ns : List Node) → Tree ns → Balanced ns
    → (before after : Rows) (n : ℕ) → Evaluates F es ns before after n → Evaluated F es ns before after n

-- The entries of a tree: each occurrence is entered anew, parts before wholes, left before right.
use Rattle.std.specs.Prelude.{ℕ, ◌-◌, List, [], ◌∷◌, ◌++◌, length, Some, None, Option}
use Rattle.formulas.specs.declared.Expr.{Expr}
use Rattle.formulas.specs.declared.Expr.TheVariants as ex
use Rattle.formulas.specs.declared.Node.{Node}
use Rattle.formulas.specs.declared.Node.TheVariants as nd
use Rattle.reader.specs.Shapes.{as_expr}
use Rattle.grammar.specs.Grammar.{Modality, diamond, box, Fixpoint, least, greatest, Tree, bottom, top, negation, disjunction, conjunction, feature, var, modal, fixpoint}
use Rattle.grammar.specs.declared.Level.{Level}
use Rattle.grammar.specs.declared.Level.TheVariants.{Formula as formula, Expression as expression}

-- What has been entered so far: both tables, and the places of names that have no number.
pub record Tables : Type 0 where
  pub nodes : List Node
  pub exprs : List Expr
  pub unknown : List ℕ

abbrev pub none_entered : Tables
none_entered = record { nodes = []; exprs = []; unknown = [] }

abbrev pub put_node : Node → Tables → Tables
put_node n t = record { nodes = t.nodes ++ n ∷ []; exprs = t.exprs; unknown = t.unknown }

abbrev pub put_expr : Expr → Tables → Tables
put_expr e t = record { nodes = t.nodes; exprs = t.exprs ++ e ∷ []; unknown = t.unknown }

-- A name, by its number if it has one, that stands at a place.
abbrev pub note : Option ℕ → ℕ → Tables → Tables
note (Some k) p t = t
note None p t = record { nodes = t.nodes; exprs = t.exprs; unknown = t.unknown ++ p ∷ [] }

abbrev pub or_0 : Option ℕ → ℕ
or_0 (Some k) = k
or_0 None = 0

-- An entry that both tables have.
abbrev pub put : Level → Node → Tables → Tables
put formula n t = put_node n t
put expression n t = put_expr (as_expr n) t

-- The number of the entry made last.
abbrev pub last : Level → Tables → ℕ
last formula t = length t.nodes - 1
last expression t = length t.exprs - 1

abbrev pub modal_node : Modality → ℕ → ℕ → ℕ → Node
modal_node diamond a e c = nd.Diamond a e c
modal_node box a e c = nd.Box a e c

abbrev pub fixpoint_node : Fixpoint → ℕ → ℕ → Node
fixpoint_node least v c = nd.Least v c
fixpoint_node greatest v c = nd.Greatest v c

-- What is entered at one level only.
abbrev pub at_level : Level → Tables → Tables → Tables
at_level formula f e = f
at_level expression f e = e

-- The tables after a tree is entered, where actions and features have their numbers, if known. No expression has a variable,
-- a modality or a fixpoint, and no formula has a feature but in an expression.
module _ (action feat : List ℕ → Option ℕ) where
  abbrev pub enter : Level → Tree → Tables → Tables
  enter l bottom t = put l nd.False t
  enter l top t = put l nd.True t
  enter l (negation a) t = put l (nd.Not (last l (enter l a t))) (enter l a t)
  enter l (disjunction a b) t = put l (nd.Or (last l (enter l a t)) (last l (enter l b (enter l a t)))) (enter l b (enter l a t))
  enter l (conjunction a b) t = put l (nd.And (last l (enter l a t)) (last l (enter l b (enter l a t)))) (enter l b (enter l a t))
  enter l (feature w p) t = at_level l (put l nd.False t) (put_expr (ex.Feature (or_0 (feat w))) (note (feat w) p t))
  enter l (var v) t = at_level l (put_node (nd.Variable v) t) (put l nd.False t)
  enter l (modal m w p e a) t =
      at_level l
      (put_node (modal_node m (or_0 (action w)) (last expression (enter expression e (note (action w) p t))) (last formula (enter formula a (enter expression e (note (action w) p t))))) (enter formula a (enter expression e (note (action w) p t))))
      (put l nd.False t)
  enter l (fixpoint x v a) t = at_level l (put_node (fixpoint_node x v (last formula (enter formula a t))) (enter formula a t)) (put l nd.False t)

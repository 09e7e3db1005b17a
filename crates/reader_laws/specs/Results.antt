-- What the tables that are read stand for, and how they are built.
use Rattle.std.specs.Prelude.{◌≡◌, ℕ, ◌+◌, ◌-◌, ◌<◌, ◌≤◌, IsTrue, List, length, take, Option, slice_index_or}
use Rattle.words.specs.Words.{number}
use Rattle.formulas.specs.declared.Expr.{Expr}
use Rattle.formulas.specs.declared.Expr.TheVariants as ex
use Rattle.formulas.specs.declared.Node.{Node}
use Rattle.formulas.specs.declared.Node.TheVariants as nd
use Rattle.formulas.specs.Trees.{Expression, Formula}
use Rattle.formulas.specs.Tables.{formula_at, Names}
use Rattle.formulas.specs.Tables as tb
use Rattle.formulas.specs.Sound.{Carries}
use Rattle.formulas.specs.Judge.{expr_fits, rules, AllKept}
use Rattle.grammar.specs.Grammar.{Modality, diamond, box, Fixpoint, least, greatest, Tree, bottom, top, negation, disjunction, conjunction, feature, var, modal, fixpoint}
use Rattle.reader.specs.Numbering.{or_0}
use Rattle.reader.specs.Outcome.{Formed, Tried, Reading}

abbrev pub modal_of : Modality → ℕ → Expression → Formula → Formula
modal_of diamond a e f = Formula.Diamond a e f
modal_of box a e f = Formula.Box a e f

abbrev pub fixpoint_of : Fixpoint → ℕ → Formula → Formula
fixpoint_of least v f = Formula.Least v f
fixpoint_of greatest v f = Formula.Greatest v f

-- The expression and the formula of a tree, in which names have their numbers.
module _ (action feat : List ℕ → Option ℕ) where
  abbrev pub expression_of : Tree → Expression
  expression_of bottom = Expression.False
  expression_of top = Expression.True
  expression_of (negation a) = Expression.Not (expression_of a)
  expression_of (disjunction a b) = Expression.Or (expression_of a) (expression_of b)
  expression_of (conjunction a b) = Expression.And (expression_of a) (expression_of b)
  expression_of (feature w p) = Expression.Feature (or_0 (feat w))
  expression_of (var v) = Expression.False
  expression_of (modal m w p e a) = Expression.False
  expression_of (fixpoint x v a) = Expression.False

  abbrev pub formula_of : Tree → Formula
  formula_of bottom = Formula.False
  formula_of top = Formula.True
  formula_of (negation a) = Formula.Not (formula_of a)
  formula_of (disjunction a b) = Formula.Or (formula_of a) (formula_of b)
  formula_of (conjunction a b) = Formula.And (formula_of a) (formula_of b)
  formula_of (feature w p) = Formula.False
  formula_of (var v) = Formula.Variable v
  formula_of (modal m w p e a) = modal_of m (or_0 (action w)) (expression_of e) (formula_of a)
  formula_of (fixpoint x v a) = fixpoint_of x v (formula_of a)

-- The first v entries of the formula table, read back, are the formula that the text is.
pub record Stands (text actions features : List ℕ) (es : List Expr) (ns : List Node) (v : ℕ) : Type 0 where
  pub action_names : List (List ℕ)
  pub feature_names : List (List ℕ)
  pub tree : Tree
  pub formed : Formed text actions features action_names feature_names tree
  pub read_back : formula_at es ns (v - 1) ≡ formula_of (number action_names) (number feature_names) tree

-- Both tables keep their form: 1 to 64 formula entries, numbers in their ranges, parts below wholes, and every formula entry but the last named
-- exactly once.
pub record Structured (es : List Expr) (ns : List Node) : Type 0 where
  pub some : 1 ≤ length ns
  pub few : length ns ≤ 64
  pub exprs : (n : ℕ) → n < length es → IsTrue (expr_fits n (slice_index_or es n ex.False))
  pub nodes : (n : ℕ) → n < length ns → Carries es (slice_index_or ns n nd.False)
  pub tree : tb.Tree ns
  pub named : (c : ℕ) → c + 1 < length ns → (n : ℕ) × (n < length ns) × Names c (slice_index_or ns n nd.False)

-- Whatever text is accepted, its tables stand for its formula and keep their form.
abbrev pub TablesHold : Type 0
TablesHold = (text actions features : List ℕ) (es : List Expr) (ns : List Node) (v : ℕ) (fs : List Expr) (ms : List Node) → Reading text actions features es ns 0 v fs ms → Stands text actions features fs ms v × Structured fs (take v ms)

-- They keep the first four rules by which tables are judged: those on sizes, expressions, entries and naming.
abbrev pub RulesKept : Type 0
RulesKept = (text actions features : List ℕ) (v : ℕ) (fs : List Expr) (ms : List Node)
    → Tried text actions features 64 64 0 v fs ms → AllKept (take 4 (rules fs (take v ms)))

-- A text, two word lists and two tables have one answer, with one outcome of the tables.
abbrev pub OneAnswer : Type 0
OneAnswer = (text actions features : List ℕ) (es : List Expr) (ns : List Node) (k l v w : ℕ) (fs gs : List Expr) (ms hs : List Node) → Reading text actions features es ns k v fs ms → Reading text actions features es ns l w gs hs → (k ≡ l) × (v ≡ w) × (fs ≡ gs) × (ms ≡ hs)

-- A table read back gives the tree that was entered.
use Rattle.std.proofs.Common.{◌≡◌, ℕ, zero, suc, ◌-◌, ◌<◌, ◌≤◌, List, [], ◌∷◌, ◌++◌, length, Option, refl, ap, ◌∙◌, arith}
use Rattle.std.proofs.lemmas.List.{length_push}
use Rattle.formulas.specs.declared.Expr.{Expr}
use Rattle.formulas.specs.declared.Expr.TheVariants as ex
use Rattle.formulas.specs.declared.Node.{Node}
use Rattle.formulas.specs.declared.Node.TheVariants as nd
use Rattle.formulas.specs.Trees.{Expression, Formula}
use Rattle.formulas.specs.Tables.{as_expression, as_formula, expression_to, expression_at, formula_to}
use Rattle.grammar.specs.Grammar.{Modality, diamond, box, Fixpoint, least, greatest, Tree, bottom, top, negation, disjunction, conjunction, feature, var, modal, fixpoint}
use Rattle.grammar.specs.declared.Level.TheVariants.{Formula as formula, Expression as expression}
use Rattle.reader.specs.Numbering.{Tables, note, or_0, last, enter, modal_node, fixpoint_node}
use Rattle.reader_laws.specs.Results.{modal_of, fixpoint_of, expression_of, formula_of}
use Rattle.reader_laws.proofs.Extends.{Extends, through, pushed, top_entry, last_push, longer, enter_exprs, enter_nodes, enter_some}

-- the entry made last, as it is read
read_expr : (es xs : List Expr) (x : Expr) (k : ℕ) → Extends (xs ++ x ∷ []) es → expression_to es (suc k) (length (xs ++ x ∷ []) - 1) ≡ as_expression (expression_to es k) x
read_expr es xs x k e = ap (λ n. expression_to es (suc k) n) (last_push xs x) ∙ ap (as_expression (expression_to es k)) (top_entry xs x ex.False es e)

read_node : (es : List Expr) (ns xs : List Node) (x : Node) (k : ℕ) → Extends (xs ++ x ∷ []) ns → formula_to es ns (suc k) (length (xs ++ x ∷ []) - 1) ≡ as_formula (expression_at es) (formula_to es ns k) x
read_node es ns xs x k e = ap (λ n. formula_to es ns (suc k) n) (last_push xs x) ∙ ap (as_formula (expression_at es) (formula_to es ns k)) (top_entry xs x nd.False ns e)

-- a part stands below the entry made last
below : {X : Type 0} (xs : List X) (x : X) (k : ℕ) → 0 < length xs → length (xs ++ x ∷ []) - 1 < suc k → length xs - 1 < k
below xs x k pos lt = omega (arith, length_push xs x)

sooner : {X : Type 0} (ys xs : List X) (x : X) (k : ℕ) → 0 < length ys → length ys ≤ length xs → length (xs ++ x ∷ []) - 1 < suc k → length ys - 1 < k
sooner ys xs x k pos le lt = omega (arith, length_push xs x)

no_depth : {X : Type 0} {P : Type 0} (xs : List X) (x : X) → length (xs ++ x ∷ []) - 1 < 0 → P
no_depth xs x lt = absurd (omega arith)

as_modal : (m : Modality) (ex : ℕ → Expression) (part : ℕ → Formula) (a e c : ℕ) → as_formula ex part (modal_node m a e c) ≡ modal_of m a (ex e) (part c)
as_modal diamond ex part a e c = refl
as_modal box ex part a e c = refl

as_fixpoint : (x : Fixpoint) (ex : ℕ → Expression) (part : ℕ → Formula) (v c : ℕ) → as_formula ex part (fixpoint_node x v c) ≡ fixpoint_of x v (part c)
as_fixpoint least ex part v c = refl
as_fixpoint greatest ex part v c = refl

module _ (action feat : List ℕ → Option ℕ) where
  abbrev ent : Tree → Tables → Tables
  ent a t = enter action feat expression a t

  abbrev fnt : Tree → Tables → Tables
  fnt a t = enter action feat formula a t

  pub expression_back : (a : Tree) (t : Tables) (es : List Expr) (k : ℕ) → Extends (ent a t).exprs es → last expression (ent a t) < k → expression_to es k (last expression (ent a t)) ≡ expression_of action feat a
  expression_back bottom t es zero e lt = absurd (omega arith)
  expression_back bottom t es (suc k) e lt = read_expr es t.exprs ex.False k e
  expression_back top t es zero e lt = absurd (omega arith)
  expression_back top t es (suc k) e lt = read_expr es t.exprs ex.True k e
  expression_back (negation a) t es zero e lt = absurd (omega arith)
  expression_back (negation a) t es (suc k) e lt =
      read_expr es (ent a t).exprs (ex.Not (last expression (ent a t))) k e
      ∙ ap Expression.Not (expression_back a t es k (through (pushed (ent a t).exprs _) e) (below (ent a t).exprs (ex.Not (last expression (ent a t))) k (enter_some action feat expression a t) lt))
  expression_back (disjunction a b) t es zero e lt = absurd (omega arith)
  expression_back (disjunction a b) t es (suc k) e lt =
      let u : Tables = ent a t in
      let w : Tables = ent b u in
      let x : Expr = ex.Or (last expression u) (last expression w) in
      let ew : Extends w.exprs es = through (pushed w.exprs x) e in
      let grown = enter_exprs action feat expression b u in
      read_expr es w.exprs x k e
      ∙ ap (λ f. Expression.Or f (expression_to es k (last expression w))) (expression_back a t es k (through grown ew) (sooner u.exprs w.exprs x k (enter_some action feat expression a t) (longer grown) lt))
      ∙ ap (λ f. Expression.Or (expression_of action feat a) f) (expression_back b u es k ew (below w.exprs x k (enter_some action feat expression b u) lt))
  expression_back (conjunction a b) t es zero e lt = absurd (omega arith)
  expression_back (conjunction a b) t es (suc k) e lt =
      let u : Tables = ent a t in
      let w : Tables = ent b u in
      let x : Expr = ex.And (last expression u) (last expression w) in
      let ew : Extends w.exprs es = through (pushed w.exprs x) e in
      let grown = enter_exprs action feat expression b u in
      read_expr es w.exprs x k e
      ∙ ap (λ f. Expression.And f (expression_to es k (last expression w))) (expression_back a t es k (through grown ew) (sooner u.exprs w.exprs x k (enter_some action feat expression a t) (longer grown) lt))
      ∙ ap (λ f. Expression.And (expression_of action feat a) f) (expression_back b u es k ew (below w.exprs x k (enter_some action feat expression b u) lt))
  expression_back (feature w p) t es zero e lt = absurd (omega arith)
  expression_back (feature w p) t es (suc k) e lt = read_expr es (note (feat w) p t).exprs (ex.Feature (or_0 (feat w))) k e
  expression_back (var v) t es zero e lt = absurd (omega arith)
  expression_back (var v) t es (suc k) e lt = read_expr es t.exprs ex.False k e
  expression_back (modal m w p c a) t es zero e lt = absurd (omega arith)
  expression_back (modal m w p c a) t es (suc k) e lt = read_expr es t.exprs ex.False k e
  expression_back (fixpoint x v a) t es zero e lt = absurd (omega arith)
  expression_back (fixpoint x v a) t es (suc k) e lt = read_expr es t.exprs ex.False k e

  pub formula_back : (a : Tree) (t : Tables) (es : List Expr) (ns : List Node) (k : ℕ) → Extends (fnt a t).exprs es → Extends (fnt a t).nodes ns → last formula (fnt a t) < k → formula_to es ns k (last formula (fnt a t)) ≡ formula_of action feat a
  formula_back bottom t es ns zero i e lt = absurd (omega arith)
  formula_back bottom t es ns (suc k) i e lt = read_node es ns t.nodes nd.False k e
  formula_back top t es ns zero i e lt = absurd (omega arith)
  formula_back top t es ns (suc k) i e lt = read_node es ns t.nodes nd.True k e
  formula_back (negation a) t es ns zero i e lt = absurd (omega arith)
  formula_back (negation a) t es ns (suc k) i e lt =
      read_node es ns (fnt a t).nodes (nd.Not (last formula (fnt a t))) k e
      ∙ ap Formula.Not (formula_back a t es ns k i (through (pushed (fnt a t).nodes _) e) (below (fnt a t).nodes (nd.Not (last formula (fnt a t))) k (enter_some action feat formula a t) lt))
  formula_back (disjunction a b) t es ns zero i e lt = absurd (omega arith)
  formula_back (disjunction a b) t es ns (suc k) i e lt =
      let u : Tables = fnt a t in
      let w : Tables = fnt b u in
      let x : Node = nd.Or (last formula u) (last formula w) in
      let ew : Extends w.nodes ns = through (pushed w.nodes x) e in
      let grown = enter_nodes action feat formula b u in
      read_node es ns w.nodes x k e
      ∙ ap (λ f. Formula.Or f (formula_to es ns k (last formula w))) (formula_back a t es ns k (through (enter_exprs action feat formula b u) i) (through grown ew) (sooner u.nodes w.nodes x k (enter_some action feat formula a t) (longer grown) lt))
      ∙ ap (λ f. Formula.Or (formula_of action feat a) f) (formula_back b u es ns k i ew (below w.nodes x k (enter_some action feat formula b u) lt))
  formula_back (conjunction a b) t es ns zero i e lt = absurd (omega arith)
  formula_back (conjunction a b) t es ns (suc k) i e lt =
      let u : Tables = fnt a t in
      let w : Tables = fnt b u in
      let x : Node = nd.And (last formula u) (last formula w) in
      let ew : Extends w.nodes ns = through (pushed w.nodes x) e in
      let grown = enter_nodes action feat formula b u in
      read_node es ns w.nodes x k e
      ∙ ap (λ f. Formula.And f (formula_to es ns k (last formula w))) (formula_back a t es ns k (through (enter_exprs action feat formula b u) i) (through grown ew) (sooner u.nodes w.nodes x k (enter_some action feat formula a t) (longer grown) lt))
      ∙ ap (λ f. Formula.And (formula_of action feat a) f) (formula_back b u es ns k i ew (below w.nodes x k (enter_some action feat formula b u) lt))
  formula_back (feature w p) t es ns zero i e lt = absurd (omega arith)
  formula_back (feature w p) t es ns (suc k) i e lt = read_node es ns t.nodes nd.False k e
  formula_back (var v) t es ns zero i e lt = absurd (omega arith)
  formula_back (var v) t es ns (suc k) i e lt = read_node es ns t.nodes (nd.Variable v) k e
  formula_back (modal m w p c a) t es ns zero i e lt = absurd (omega arith)
  formula_back (modal m w p c a) t es ns (suc k) i e lt =
      let u : Tables = ent c (note (action w) p t) in
      let z : Tables = fnt a u in
      let x : Node = modal_node m (or_0 (action w)) (last expression u) (last formula z) in
      let ez : Extends z.nodes ns = through (pushed z.nodes x) e in
      read_node es ns z.nodes x k e
      ∙ as_modal m (expression_at es) (formula_to es ns k) (or_0 (action w)) (last expression u) (last formula z)
      ∙ ap (λ f. modal_of m (or_0 (action w)) f (formula_to es ns k (last formula z))) (expression_back c (note (action w) p t) es (suc (last expression u)) (through (enter_exprs action feat formula a u) i) (omega arith))
      ∙ ap (λ f. modal_of m (or_0 (action w)) (expression_of action feat c) f) (formula_back a u es ns k i ez (below z.nodes x k (enter_some action feat formula a u) lt))
  formula_back (fixpoint y v a) t es ns zero i e lt = absurd (omega arith)
  formula_back (fixpoint y v a) t es ns (suc k) i e lt =
      let z : Tables = fnt a t in
      let x : Node = fixpoint_node y v (last formula z) in
      read_node es ns z.nodes x k e
      ∙ as_fixpoint y (expression_at es) (formula_to es ns k) v (last formula z)
      ∙ ap (λ f. fixpoint_of y v f) (formula_back a t es ns k i (through (pushed z.nodes x) e) (below z.nodes x k (enter_some action feat formula a t) lt))

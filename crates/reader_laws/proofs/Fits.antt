-- The numbers in the entries are in their ranges.
use Rattle.std.proofs.Common.{◌≡◌, ℕ, ◌-◌, ◌<◌, ◌≤◌, ◌⊎◌, List, [], ◌∷◌, ◌++◌, length, get_or, Option, IsTrue, refl, sym, ap, ◌∙◌, subst, inl, inr, arith}
use Rattle.std.specs.List.{AllByRecursion}
use Rattle.std.proofs.lemmas.List.{length_push, get_or_push, get_or_append_left}
use Rattle.std.proofs.lemmas.Bool.{cases_lt}
use Rattle.formulas.specs.declared.Expr.{Expr}
use Rattle.formulas.specs.declared.Expr.TheVariants as ex
use Rattle.formulas.specs.declared.Node.{Node}
use Rattle.formulas.specs.declared.Node.TheVariants as nd
use Rattle.lexer.specs.Tokens.{IsToken, Tok, tok}
use Rattle.grammar.specs.Grammar.{Modality, diamond, box, Fixpoint, least, greatest, Tree, bottom, top, negation, disjunction, conjunction, feature, var, modal, fixpoint, Ending, UnitOf, is_true, is_false, is_not, is_parens, is_feature, is_variable, is_modal, is_fixpoint, AndPartOf, one_unit, more_units, PhraseOf, one_part, more_parts}
use Rattle.grammar.specs.declared.Level.{Level}
use Rattle.grammar.specs.declared.Level.TheVariants.{Formula as formula, Expression as expression}
use Rattle.reader.specs.Numbering.{Tables, note, or_0, last, enter, modal_node, fixpoint_node}
use Rattle.lexer.specs.Texts.{TokensOf, no_more, one_more}
use Rattle.formulas.specs.Judge.{expr_fits}
use Rattle.formulas.proofs.Judging.{expr_iff}
use Rattle.formulas.specs.Sound.{Carries}
use Rattle.reader_laws.proofs.Extends.{Extends, longer, note_exprs, note_nodes, enter_exprs, enter_some}
use Rattle.reader_laws.proofs.Forests.{same_nodes}

-- what holds of each entry, with its number
abbrev Each : {X : Type 0} → (ℕ → X → Type 0) → X → List X → Type 0
Each P d xs = (n : ℕ) → n < length xs → P n (get_or xs n d)

each_push : {X : Type 0} (P : ℕ → X → Type 0) (d : X) (xs : List X) (x : X) → Each P d xs → P (length xs) x → Each P d (xs ++ x ∷ [])
each_push P d xs x f p n lt = go (cases_lt n (length xs))
  where
    go : (n < length xs) ⊎ (length xs ≤ n) → P n (get_or (xs ++ x ∷ []) n d)
    go (inl h) = subst (λ y. P n y) (sym (get_or_append_left xs (x ∷ []) d n h)) (f n h)
    go (inr h) = let e : length xs ≡ n = omega (arith, length_push xs x) in subst (λ y. P n y) (sym (get_or_push xs x d n e)) (subst (λ i. P i x) e p)

-- ---- variables

abbrev pub Vars : Tree → Type 0
Vars bottom = Unit {0}
Vars top = Unit {0}
Vars (negation a) = Vars a
Vars (disjunction a b) = Vars a × Vars b
Vars (conjunction a b) = Vars a × Vars b
Vars (feature w p) = Unit {0}
Vars (var v) = v ≤ 25
Vars (modal m w p e a) = Vars a
Vars (fixpoint x v a) = (v ≤ 25) × Vars a

abbrev TokenOk : Tok → Type 0
TokenOk (tok s p) = IsToken s

tokens_ok : {bs : List ℕ} {i : ℕ} {ts : List Tok} → TokensOf bs i ts → AllByRecursion TokenOk ts
tokens_ok (no_more i s) = tt
tokens_ok (one_more i s p sp l r) = (l.token, tokens_ok r)

left_all : (xs ys : List Tok) → AllByRecursion TokenOk (xs ++ ys) → AllByRecursion TokenOk xs
left_all [] ys h = tt
left_all (x ∷ xs) ys h = (h.0, left_all xs ys h.1)

right_all : (xs ys : List Tok) → AllByRecursion TokenOk (xs ++ ys) → AllByRecursion TokenOk ys
right_all [] ys h = h
right_all (x ∷ xs) ys h = right_all xs ys h.1

mutual
  unit_vars : {l : Level} {e : Ending} {u : List Tok} {a : Tree} → UnitOf l e u a → AllByRecursion TokenOk u → Vars a
  unit_vars (is_true p) h = tt
  unit_vars (is_false p) h = tt
  unit_vars (is_feature w p) h = tt
  unit_vars (is_variable v p) h = omega (arith, h.0)
  unit_vars (is_not p d) h = unit_vars d h.1
  unit_vars (is_parens p q {e} {u} d) h = phrase_vars d (left_all u _ h.1)
  unit_vars (is_modal m w p q r s {d} {e} {x} {u} y z) h = unit_vars z (right_all x _ h.1.1.1).1
  unit_vars (is_fixpoint x v p q r d) h = (omega (arith, h.1.0), phrase_vars d h.1.1.1)

  part_vars : {l : Level} {e : Ending} {u : List Tok} {a : Tree} → AndPartOf l e u a → AllByRecursion TokenOk u → Vars a
  part_vars (one_unit d) h = unit_vars d h
  part_vars (more_units p {e} {u} {w} c d) h = (part_vars c (left_all u _ h), unit_vars d (right_all u _ h).1)

  phrase_vars : {l : Level} {e : Ending} {u : List Tok} {a : Tree} → PhraseOf l e u a → AllByRecursion TokenOk u → Vars a
  phrase_vars (one_part d) h = part_vars d h
  phrase_vars (more_parts p {e} {u} {w} c d) h = (phrase_vars c (left_all u _ h), part_vars d (right_all u _ h).1)

pub vars : (bs : List ℕ) (ts : List Tok) (e : Ending) (a : Tree) → TokensOf bs 0 ts → PhraseOf formula e ts a → Vars a
vars bs ts e a l d = phrase_vars d (tokens_ok l)

-- ---- entries

pub more_exprs : (es fs : List Expr) (x : Node) → length es ≤ length fs → Carries es x → Carries fs x
more_exprs es fs nd.False le h = tt
more_exprs es fs nd.True le h = tt
more_exprs es fs (nd.Not c) le h = tt
more_exprs es fs (nd.Or c d) le h = tt
more_exprs es fs (nd.And c d) le h = tt
more_exprs es fs (nd.Diamond a e c) le h = (h.0, omega (arith, h.1))
more_exprs es fs (nd.Box a e c) le h = (h.0, omega (arith, h.1))
more_exprs es fs (nd.Variable v) le h = h
more_exprs es fs (nd.Least v c) le h = h
more_exprs es fs (nd.Greatest v c) le h = h

modal_fits : (v : Modality) (es : List Expr) (a e c : ℕ) → a ≤ 63 → e < length es → Carries es (modal_node v a e c)
modal_fits diamond es a e c h i = (h, i)
modal_fits box es a e c h i = (h, i)

fixpoint_fits : (x : Fixpoint) (es : List Expr) (v c : ℕ) → v ≤ 25 → Carries es (fixpoint_node x v c)
fixpoint_fits least es v c h = h
fixpoint_fits greatest es v c h = h

-- An expression that names only entries below it, and a feature that there is.
abbrev pub ExprFitsAt : ℕ → Expr → Type 0
ExprFitsAt n (ex.Feature k) = k ≤ 15
ExprFitsAt n (ex.Not c) = c < n
ExprFitsAt n (ex.Or c d) = (c < n) × (d < n)
ExprFitsAt n (ex.And c d) = (c < n) × (d < n)
ExprFitsAt n x = Unit {0}

pub fits_test : (n : ℕ) (x : Expr) → ExprFitsAt n x → IsTrue (expr_fits n x)
fits_test n (ex.Feature k) h =
    (expr_iff n (ex.Feature k)).1 (λ c p. absurd p, λ j e. (let q : k ≡ j = cc in omega arith))
fits_test n (ex.Not c) h = (expr_iff n (ex.Not c)).1 (λ d p. omega arith, λ j e. cc)
fits_test n (ex.Or c d) h =
    (expr_iff n (ex.Or c d)).1 (
      λ e p. elim p [ inl q ↦ omega (arith, h.0) | inr q ↦ omega (arith, h.1) ],
      λ j e. cc,
    )
fits_test n (ex.And c d) h =
    (expr_iff n (ex.And c d)).1 (
      λ e p. elim p [ inl q ↦ omega (arith, h.0) | inr q ↦ omega (arith, h.1) ],
      λ j e. cc,
    )
fits_test n ex.False h = refl
fits_test n ex.True h = refl

abbrev pub ExprsFit : List Expr → Type 0
ExprsFit xs = Each ExprFitsAt ex.False xs

abbrev pub NodesFit : List Expr → List Node → Type 0
NodesFit es ns = Each (λ n. Carries es) nd.False ns

last_below : {X : Type 0} (xs ys : List X) → 0 < length xs → Extends xs ys → length xs - 1 < length ys
last_below xs ys pos e = omega (arith, longer e)

module _ (action feat : List ℕ → Option ℕ) (actions : (w : List ℕ) → or_0 (action w) ≤ 63) (feats : (w : List ℕ) → or_0 (feat w) ≤ 15) where
  abbrev ent : Tree → Tables → Tables
  ent a t = enter action feat expression a t

  abbrev fnt : Tree → Tables → Tables
  fnt a t = enter action feat formula a t

  noted : (o : Option ℕ) (p : ℕ) (t : Tables) → ExprsFit t.exprs → ExprsFit (note o p t).exprs
  noted o p t f = subst ExprsFit (sym (note_exprs o p t)) f

  both_fit : (a b : Tree) (t : Tables) → (last expression (ent a t) < length (ent b (ent a t)).exprs) × (last expression (ent b (ent a t)) < length (ent b (ent a t)).exprs)
  both_fit a b t = (last_below (ent a t).exprs (ent b (ent a t)).exprs (enter_some action feat expression a t) (enter_exprs action feat expression b (ent a t)), let s = enter_some action feat expression b (ent a t) in omega arith)

  pub expr_fit : (a : Tree) (t : Tables) → ExprsFit t.exprs → ExprsFit (ent a t).exprs
  expr_fit bottom t f = each_push ExprFitsAt ex.False t.exprs ex.False f tt
  expr_fit top t f = each_push ExprFitsAt ex.False t.exprs ex.True f tt
  expr_fit (negation a) t f = let s = enter_some action feat expression a t in let h : last expression (ent a t) < length (ent a t).exprs = omega arith in each_push ExprFitsAt ex.False (ent a t).exprs (ex.Not (last expression (ent a t))) (expr_fit a t f) h
  expr_fit (disjunction a b) t f = each_push ExprFitsAt ex.False (ent b (ent a t)).exprs (ex.Or (last expression (ent a t)) (last expression (ent b (ent a t)))) (expr_fit b (ent a t) (expr_fit a t f)) (both_fit a b t)
  expr_fit (conjunction a b) t f = each_push ExprFitsAt ex.False (ent b (ent a t)).exprs (ex.And (last expression (ent a t)) (last expression (ent b (ent a t)))) (expr_fit b (ent a t) (expr_fit a t f)) (both_fit a b t)
  expr_fit (feature w p) t f = each_push ExprFitsAt ex.False (note (feat w) p t).exprs (ex.Feature (or_0 (feat w))) (noted (feat w) p t f) (feats w)
  expr_fit (var v) t f = each_push ExprFitsAt ex.False t.exprs ex.False f tt
  expr_fit (modal m w p e a) t f = each_push ExprFitsAt ex.False t.exprs ex.False f tt
  expr_fit (fixpoint x v a) t f = each_push ExprFitsAt ex.False t.exprs ex.False f tt

  pub exprs_fit : (a : Tree) (t : Tables) → ExprsFit t.exprs → ExprsFit (fnt a t).exprs
  exprs_fit bottom t f = f
  exprs_fit top t f = f
  exprs_fit (negation a) t f = exprs_fit a t f
  exprs_fit (disjunction a b) t f = exprs_fit b (fnt a t) (exprs_fit a t f)
  exprs_fit (conjunction a b) t f = exprs_fit b (fnt a t) (exprs_fit a t f)
  exprs_fit (feature w p) t f = f
  exprs_fit (var v) t f = f
  exprs_fit (modal m w p e a) t f = exprs_fit a (ent e (note (action w) p t)) (expr_fit e (note (action w) p t) (noted (action w) p t f))
  exprs_fit (fixpoint x v a) t f = exprs_fit a t f

  pub nodes_fit : (a : Tree) (t : Tables) → Vars a → NodesFit t.exprs t.nodes → NodesFit (fnt a t).exprs (fnt a t).nodes
  nodes_fit bottom t v f = each_push (λ n. Carries t.exprs) nd.False t.nodes nd.False f tt
  nodes_fit top t v f = each_push (λ n. Carries t.exprs) nd.False t.nodes nd.True f tt
  nodes_fit (negation a) t v f = each_push (λ n. Carries (fnt a t).exprs) nd.False (fnt a t).nodes (nd.Not (last formula (fnt a t))) (nodes_fit a t v f) tt
  nodes_fit (disjunction a b) t v f = each_push (λ n. Carries (fnt b (fnt a t)).exprs) nd.False (fnt b (fnt a t)).nodes (nd.Or (last formula (fnt a t)) (last formula (fnt b (fnt a t)))) (nodes_fit b (fnt a t) v.1 (nodes_fit a t v.0 f)) tt
  nodes_fit (conjunction a b) t v f = each_push (λ n. Carries (fnt b (fnt a t)).exprs) nd.False (fnt b (fnt a t)).nodes (nd.And (last formula (fnt a t)) (last formula (fnt b (fnt a t)))) (nodes_fit b (fnt a t) v.1 (nodes_fit a t v.0 f)) tt
  nodes_fit (feature w p) t v f = each_push (λ n. Carries t.exprs) nd.False t.nodes nd.False f tt
  nodes_fit (var x) t v f = each_push (λ n. Carries t.exprs) nd.False t.nodes (nd.Variable x) f v
  nodes_fit (modal m w p e a) t v f =
      let u : Tables = ent e (note (action w) p t) in
      let z : Tables = fnt a u in
      let grown : length t.exprs ≤ length u.exprs = omega (arith, longer (enter_exprs action feat expression e (note (action w) p t)), ap length (note_exprs (action w) p t)) in
      let g : NodesFit u.exprs u.nodes = subst (NodesFit u.exprs) (sym (same_nodes action feat e (note (action w) p t) ∙ note_nodes (action w) p t)) (λ n lt. more_exprs t.exprs u.exprs (get_or t.nodes n nd.False) grown (f n lt)) in
      each_push (λ n. Carries z.exprs) nd.False z.nodes (modal_node m (or_0 (action w)) (last expression u) (last formula z)) (nodes_fit a u v g)
      (modal_fits m z.exprs (or_0 (action w)) (last expression u) (last formula z) (actions w) (last_below u.exprs z.exprs (enter_some action feat expression e (note (action w) p t)) (enter_exprs action feat formula a u)))
  nodes_fit (fixpoint x y a) t v f = each_push (λ n. Carries (fnt a t).exprs) nd.False (fnt a t).nodes (fixpoint_node x y (last formula (fnt a t))) (nodes_fit a t v.1 f) (fixpoint_fits x (fnt a t).exprs y (last formula (fnt a t)) v.0)

-- Tables only grow while a tree is entered.
use Rattle.std.proofs.Common.{◌≡◌, ℕ, ◌-◌, ◌<◌, ◌≤◌, List, [], ◌∷◌, ◌++◌, length, get_or, Some, None, Option, sym, refl, ap, ◌∙◌, append_assoc, append-nil, arith, length-append}
use Rattle.std.proofs.lemmas.List.{length_push, get_or_at}
use Rattle.grammar.specs.Grammar.{Tree, bottom, top, negation, disjunction, conjunction, feature, var, modal, fixpoint}
use Rattle.grammar.specs.declared.Level.{Level}
use Rattle.grammar.specs.declared.Level.TheVariants.{Formula as formula, Expression as expression}
use Rattle.reader.specs.Numbering.{Tables, note, put, enter}
use Rattle.formulas.specs.declared.Node.{Node}
use Rattle.formulas.specs.declared.Node.TheVariants as nd
use Rattle.reader.specs.Shapes.{as_expr}

pub record Extends {X : Type 0} (xs zs : List X) : Type 0 where
  pub rest : List X
  pub is : zs ≡ xs ++ rest

pub same : {X : Type 0} (xs : List X) → Extends xs xs
same xs = record { rest = []; is = sym (append-nil xs) }

pub through : {X : Type 0} {xs ys zs : List X} → Extends xs ys → Extends ys zs → Extends xs zs
through {X} {xs} a b = record { rest = a.rest ++ b.rest; is = b.is ∙ ap (λ l. l ++ b.rest) a.is ∙ append_assoc xs a.rest b.rest }

pub pushed : {X : Type 0} (xs : List X) (x : X) → Extends xs (xs ++ x ∷ [])
pushed xs x = record { rest = x ∷ []; is = refl }

-- the last of the entries
pub top_entry : {X : Type 0} (xs : List X) (x d : X) (zs : List X) → Extends (xs ++ x ∷ []) zs → get_or zs (length xs) d ≡ x
top_entry xs x d zs e = ap (λ l. get_or l (length xs) d) (e.is ∙ append_assoc xs (x ∷ []) e.rest) ∙ get_or_at xs x e.rest d (length xs) refl

pub last_push : {X : Type 0} (xs : List X) (x : X) → length (xs ++ x ∷ []) - 1 ≡ length xs
last_push xs x = omega (arith, length_push xs x)

pub push_some : {X : Type 0} (xs : List X) (x : X) → 0 < length (xs ++ x ∷ [])
push_some xs x = omega (arith, length_push xs x)

pub longer : {X : Type 0} {xs zs : List X} → Extends xs zs → length xs ≤ length zs
longer {X} {xs} e = omega (arith, ap length e.is, length-append xs e.rest)

abbrev pub count : Level → Tables → ℕ
count formula t = length t.nodes
count expression t = length t.exprs

put_exprs : (l : Level) (s : Node) (t : Tables) → Extends t.exprs (put l s t).exprs
put_exprs formula s t = same t.exprs
put_exprs expression s t = pushed t.exprs _

put_nodes : (l : Level) (s : Node) (t : Tables) → Extends t.nodes (put l s t).nodes
put_nodes formula s t = pushed t.nodes _
put_nodes expression s t = same t.nodes

put_count : (l : Level) (s : Node) (t : Tables) → 0 < count l (put l s t)
put_count formula s t = omega (arith, length_push t.nodes s)
put_count expression s t = omega (arith, length_push t.exprs (as_expr s))

pub note_exprs : (o : Option ℕ) (p : ℕ) (t : Tables) → (note o p t).exprs ≡ t.exprs
note_exprs (Some k) p t = refl
note_exprs None p t = refl

pub note_nodes : (o : Option ℕ) (p : ℕ) (t : Tables) → (note o p t).nodes ≡ t.nodes
note_nodes (Some k) p t = refl
note_nodes None p t = refl

pub equal : {X : Type 0} {xs ys : List X} → xs ≡ ys → Extends ys xs
equal {X} {xs} {ys} e = record { rest = []; is = e ∙ sym (append-nil ys) }

module _ (action feat : List ℕ → Option ℕ) where
  pub enter_exprs : (l : Level) (a : Tree) (t : Tables) → Extends t.exprs (enter action feat l a t).exprs
  enter_exprs l bottom t = put_exprs l nd.False t
  enter_exprs l top t = put_exprs l nd.True t
  enter_exprs l (negation a) t = through (enter_exprs l a t) (put_exprs l _ (enter action feat l a t))
  enter_exprs l (disjunction a b) t = through (enter_exprs l a t) (through (enter_exprs l b (enter action feat l a t)) (put_exprs l _ (enter action feat l b (enter action feat l a t))))
  enter_exprs l (conjunction a b) t = through (enter_exprs l a t) (through (enter_exprs l b (enter action feat l a t)) (put_exprs l _ (enter action feat l b (enter action feat l a t))))
  enter_exprs formula (feature w p) t = same t.exprs
  enter_exprs expression (feature w p) t = through (equal (note_exprs (feat w) p t)) (pushed (note (feat w) p t).exprs _)
  enter_exprs formula (var v) t = same t.exprs
  enter_exprs expression (var v) t = pushed t.exprs _
  enter_exprs formula (modal m w p e a) t = through (equal (note_exprs (action w) p t)) (through (enter_exprs expression e (note (action w) p t)) (enter_exprs formula a (enter action feat expression e (note (action w) p t))))
  enter_exprs expression (modal m w p e a) t = pushed t.exprs _
  enter_exprs formula (fixpoint x v a) t = enter_exprs formula a t
  enter_exprs expression (fixpoint x v a) t = pushed t.exprs _

  pub enter_nodes : (l : Level) (a : Tree) (t : Tables) → Extends t.nodes (enter action feat l a t).nodes
  enter_nodes l bottom t = put_nodes l nd.False t
  enter_nodes l top t = put_nodes l nd.True t
  enter_nodes l (negation a) t = through (enter_nodes l a t) (put_nodes l _ (enter action feat l a t))
  enter_nodes l (disjunction a b) t = through (enter_nodes l a t) (through (enter_nodes l b (enter action feat l a t)) (put_nodes l _ (enter action feat l b (enter action feat l a t))))
  enter_nodes l (conjunction a b) t = through (enter_nodes l a t) (through (enter_nodes l b (enter action feat l a t)) (put_nodes l _ (enter action feat l b (enter action feat l a t))))
  enter_nodes formula (feature w p) t = pushed t.nodes _
  enter_nodes expression (feature w p) t = equal (note_nodes (feat w) p t)
  enter_nodes formula (var v) t = pushed t.nodes _
  enter_nodes expression (var v) t = same t.nodes
  enter_nodes formula (modal m w p e a) t = through (equal (note_nodes (action w) p t)) (through (enter_nodes expression e (note (action w) p t)) (through (enter_nodes formula a (enter action feat expression e (note (action w) p t))) (pushed _ _)))
  enter_nodes expression (modal m w p e a) t = same t.nodes
  enter_nodes formula (fixpoint x v a) t = through (enter_nodes formula a t) (pushed (enter action feat formula a t).nodes _)
  enter_nodes expression (fixpoint x v a) t = same t.nodes

  -- a tree has an entry
  pub enter_some : (l : Level) (a : Tree) (t : Tables) → 0 < count l (enter action feat l a t)
  enter_some l bottom t = put_count l nd.False t
  enter_some l top t = put_count l nd.True t
  enter_some l (negation a) t = put_count l _ (enter action feat l a t)
  enter_some l (disjunction a b) t = put_count l _ (enter action feat l b (enter action feat l a t))
  enter_some l (conjunction a b) t = put_count l _ (enter action feat l b (enter action feat l a t))
  enter_some formula (feature w p) t = put_count formula nd.False t
  enter_some expression (feature w p) t = push_some (note (feat w) p t).exprs _
  enter_some formula (var v) t = push_some t.nodes _
  enter_some expression (var v) t = put_count expression nd.False t
  enter_some formula (modal m w p e a) t = push_some (enter action feat formula a (enter action feat expression e (note (action w) p t))).nodes _
  enter_some expression (modal m w p e a) t = put_count expression nd.False t
  enter_some formula (fixpoint x v a) t = push_some (enter action feat formula a t).nodes _
  enter_some expression (fixpoint x v a) t = put_count expression nd.False t

-- Tables that are filled from their start.
use Rattle.std.proofs.Common.{◌≡◌, ℕ, zero, suc, ◌+◌, List, [], ◌∷◌, ◌++◌, length, take, set, replicate, sym, refl, ap, subst, ◌∙◌, append_assoc, add-one, arith, length-append}
use lib.ListN.{length-replicate}
use Rattle.std.proofs.lemmas.List.{set_at, length_push, replicate_more, take-append-le}
use Rattle.formulas.specs.declared.Expr.{Expr}
use Rattle.formulas.specs.declared.Node.{Node}
use Rattle.formulas.specs.declared.Expr.TheVariants as ex
use Rattle.formulas.specs.declared.Node.TheVariants as nd
use Rattle.grammar.specs.declared.Level.TheVariants.{Formula as formula, Expression as expression}
use Rattle.words.specs.Words.{Lines}
use Rattle.reader.specs.Numbering.{put_node, put_expr}
use Rattle.reader.specs.Reading.{filled, Enters}
use Rattle.reader.specs.declared.parser.Reader.{Reader}

set_take : {X : Type 0} (n : ℕ) (xs : List X) (i : ℕ) (e : X) → set (take n xs) i e ≡ take n (set xs i e)
set_take zero xs i e = refl
set_take (suc n) [] i e = refl
set_take (suc n) (x ∷ xs) zero e = refl
set_take (suc n) (x ∷ xs) (suc i) e = ap (λ l. x ∷ l) (set_take n xs i e)

-- one entry more, if it fits
pub filled_more : {X : Type 0} (n : ℕ) (d e : X) (xs : List X) → set (filled n d xs) (length xs) e ≡ filled
    n d (xs ++ e ∷ [])
filled_more zero d e xs = refl
filled_more (suc m) d e xs =
    set_take (suc m) (xs ++ replicate (suc m) d) (length xs) e
    ∙ ap (λ l. take (suc m) l) (set_at xs d (replicate m d) e (length xs) refl)
    ∙ sym (take-append-le (suc m) (xs ++ e ∷ replicate m d) (d ∷ [])
    (omega (arith, length-append xs (e ∷ replicate m d), length-replicate m d)))
    ∙ ap (λ l. take (suc m) l) (append_assoc xs (e ∷ replicate m d) (d ∷ []) ∙ ap (λ l. xs ++ e ∷ l)
    (replicate_more m d ∙ ap (λ k. replicate k d) (add-one m)) ∙ sym
    (append_assoc xs (e ∷ []) (replicate (suc m) d)))

module _ (a b : Reader) (names : b.names ≡ a.names) (unknown : b.unknown ≡ a.unknown) where
  pub enters_node : (n : Node) → b.nodes.now.entries.now ≡ set a.nodes.now.entries.now a.nodes.now.count n →
      b.exprs.now.entries.now ≡ a.exprs.now.entries.now → b.nodes.now.count ≡ a.nodes.now.count + 1 →
      b.exprs.now.count ≡ a.exprs.now.count → (k : ℕ) → k ≡ a.nodes.now.count → Enters formula
      (λ x. put_node n) a b k
  enters_node n nodes exprs one same k number x t s = (
    record {
      actions = subst (λ v. Lines v.actions.list.now x.action_names) (sym names) s.actions;
      features = subst (λ v. Lines v.features.list.now x.feature_names) (sym names) s.features;
      nodes = nodes ∙ ap (λ l. set l a.nodes.now.count n) s.nodes ∙ ap
          (λ i. set (filled x.nodes nd.False t.nodes) i n) s.node_count ∙ filled_more x.nodes nd.False n
          t.nodes;
      exprs = exprs ∙ s.exprs;
      node_count = one ∙ ap (λ i. i + 1) s.node_count ∙ sym (length_push t.nodes n);
      expr_count = same ∙ s.expr_count;
      unknown = unknown ∙ s.unknown;
    },
    omega (arith, s.node_count, length_push t.nodes n),
  )

  pub enters_expr : (e : Expr) → b.exprs.now.entries.now ≡ set a.exprs.now.entries.now a.exprs.now.count e →
      b.nodes.now.entries.now ≡ a.nodes.now.entries.now → b.exprs.now.count ≡ a.exprs.now.count + 1 →
      b.nodes.now.count ≡ a.nodes.now.count → (k : ℕ) → k ≡ a.exprs.now.count → Enters expression
      (λ x. put_expr e) a b k
  enters_expr e exprs nodes one same k number x t s = (
    record {
      actions = subst (λ v. Lines v.actions.list.now x.action_names) (sym names) s.actions;
      features = subst (λ v. Lines v.features.list.now x.feature_names) (sym names) s.features;
      nodes = nodes ∙ s.nodes;
      exprs = exprs ∙ ap (λ l. set l a.exprs.now.count e) s.exprs ∙ ap
          (λ i. set (filled x.exprs ex.False t.exprs) i e) s.expr_count ∙ filled_more x.exprs ex.False e
          t.exprs;
      node_count = same ∙ s.node_count;
      expr_count = one ∙ ap (λ i. i + 1) s.expr_count ∙ sym (length_push t.exprs e);
      unknown = unknown ∙ s.unknown;
    },
    omega (arith, s.expr_count, length_push t.exprs e),
  )

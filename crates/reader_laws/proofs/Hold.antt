-- Tables of an accepted text.
use Rattle.std.proofs.Common.{◌≡◌, ℕ, suc, ◌+◌, ◌-◌, ◌<◌, ◌≤◌, ◌⊎◌, List, ◌++◌, length, get_or, take, replicate, Some, None, Option, sym, refl, ◌∙◌, subst, inl, inr, arith}
use lib.ListN.{length-replicate}
use Rattle.std.proofs.lemmas.List.{take_at, get_or_append_left, get_or-append_right, get_or-replicate, get_or_past}
use Rattle.std.proofs.lemmas.Bool.{cases_lt}
use Rattle.words.specs.Words.{number}
use Rattle.words.proofs.Numbers.{present}
use Rattle.formulas.specs.declared.Expr.{Expr}
use Rattle.formulas.specs.declared.Expr.TheVariants as ex
use Rattle.formulas.specs.declared.Node.{Node}
use Rattle.formulas.specs.declared.Node.TheVariants as nd
use Rattle.formulas.specs.Tables.{Names}
use Rattle.formulas.specs.Tables as tb
use Rattle.grammar.specs.Grammar.{Tree}
use Rattle.grammar.specs.declared.Level.TheVariants.{Formula as formula}
use Rattle.reader.specs.Numbering.{none_entered, or_0, last}
use Rattle.reader.specs.Outcome.{numbering, Formed, Tried, long_text, no_words, no_token, no_formula, unknown_name, too_many, accepted, Reading, short_table, tried}
use Rattle.reader_laws.specs.Results.{Stands, Structured, TablesHold}
use Rattle.reader_laws.proofs.Extends.{Extends, same, longer, enter_some}
use Rattle.reader_laws.proofs.Back.{formula_back}
use Rattle.reader_laws.proofs.Forests.{Forest, forest}
use Rattle.reader_laws.proofs.Fits.{vars, ExprFitsAt, fits_test, ExprsFit, exprs_fit, nodes_fit, more_exprs}

small : (ws : List (List ℕ)) (w : List ℕ) (n : ℕ) → length ws ≤ suc n → or_0 (number ws w) ≤ n
small ws w n le = go (number ws w) refl
  where
    go : (o : Option ℕ) → number ws w ≡ o → or_0 o ≤ n
    go None e = omega arith
    go (Some k) e = omega (arith, (present ws w k e).0)

-- entries beyond are false
beyond : (xs : List Expr) (k : ℕ) → ExprsFit xs → ExprsFit (xs ++ replicate k ex.False)
beyond xs k f n lt = go (cases_lt n (length xs))
  where
    go : (n < length xs) ⊎ (length xs ≤ n) → ExprFitsAt n (get_or (xs ++ replicate k ex.False) n ex.False)
    go (inl h) = subst (ExprFitsAt n) (sym (get_or_append_left xs (replicate k ex.False) ex.False n h)) (f n h)
    go (inr h) = subst (ExprFitsAt n) (sym (get_or-append_right xs (replicate k ex.False) (length xs) n ex.False refl h ∙ all_false k (n - length xs))) tt
      where
        all_false : (k i : ℕ) → get_or (replicate k ex.False) i ex.False ≡ ex.False
        all_false k i = false_at (cases_lt i k)
          where
            false_at : (i < k) ⊎ (k ≤ i) → get_or (replicate k ex.False) i ex.False ≡ ex.False
            false_at (inl h) = get_or-replicate k i ex.False ex.False h
            false_at (inr h) = get_or_past (replicate k ex.False) i ex.False (omega (arith, length_rep k))
              where
                length_rep : (k : ℕ) → length (replicate k ex.False) ≡ k
                length_rep k = length-replicate k ex.False

-- a forest with one root is a tree
as_tree : (ns : List Node) (P : ℕ → Type 0) → Forest ns 0 (length ns) P → tb.Tree ns
as_tree ns P f =
    record {
      lower = λ n c h. low n c h (cases_lt n (length ns));
      once = λ n m c h i. one n m c h i (cases_lt n (length ns)) (cases_lt m (length ns));
      apart = λ n. off n (cases_lt n (length ns));
    }
  where
    none : (n c : ℕ) → length ns ≤ n → Names c (get_or ns n nd.False) → ⊥
    none n c le h = subst (λ x. Names c x) (get_or_past ns n nd.False le) h

    low : (n c : ℕ) → Names c (get_or ns n nd.False) → (n < length ns) ⊎ (length ns ≤ n) → c < n
    low n c h (inl x) = (f.lower n c (omega arith) x h).1
    low n c h (inr x) = absurd (none n c x h)

    one : (n m c : ℕ) → Names c (get_or ns n nd.False) → Names c (get_or ns m nd.False) → (n < length ns) ⊎ (length ns ≤ n) → (m < length ns) ⊎ (length ns ≤ m) → n ≡ m
    one n m c h i (inl x) (inl y) = f.once n m c (omega arith) x (omega arith) y h i
    one n m c h i (inl x) (inr y) = absurd (none m c y i)
    one n m c h i (inr x) y = absurd (none n c x h)

    off : (n : ℕ) → (n < length ns) ⊎ (length ns ≤ n) → tb.Apart (get_or ns n nd.False)
    off n (inl x) = f.apart n (omega arith) x
    off n (inr x) = subst (λ y. tb.Apart y) (sym (get_or_past ns n nd.False x)) tt

front : {X : Type 0} (xs ys : List X) → Extends xs (xs ++ ys)
front xs ys = record { rest = ys; is = refl }

module _ (text actions features : List ℕ) (n m : ℕ) (room : (64 ≤ n) × (64 ≤ m)) (av fv : List (List ℕ)) (f : Tree) (formed : Formed text actions features av fv f) (few_nodes : length (numbering av fv f).nodes ≤ 64) where
  abbrev es : List Expr
  es = (numbering av fv f).exprs ++ replicate (n - length (numbering av fv f).exprs) ex.False

  abbrev ns : List Node
  ns = (numbering av fv f).nodes ++ replicate (m - length (numbering av fv f).nodes) nd.False

  stands : Stands text actions features es ns (length (numbering av fv f).nodes)
  stands =
      record {
        action_names = av;
        feature_names = fv;
        tree = f;
        formed = formed;
        read_back = formula_back (number av) (number fv) f none_entered es ns (suc (length (numbering av fv f).nodes - 1)) (front (numbering av fv f).exprs _) (front (numbering av fv f).nodes _) (omega arith);
      }

  whole : Forest (numbering av fv f).nodes 0 (length (numbering av fv f).nodes) (λ c. c ≡ last formula (numbering av fv f))
  whole = forest (number av) (number fv) f none_entered (numbering av fv f).nodes (same (numbering av fv f).nodes)

  one_whole : (c : ℕ) → c + 1 < length (numbering av fv f).nodes → (c ≡ last formula (numbering av fv f)) ⊎ ((i : ℕ) × (0 ≤ i) × (i < length (numbering av fv f).nodes) × Names c (get_or (numbering av fv f).nodes i nd.False)) → (i : ℕ) × (i < length (numbering av fv f).nodes) × Names c (get_or (numbering av fv f).nodes i nd.False)
  one_whole c lt (inl e) = absurd (omega arith)
  one_whole c lt (inr r) = (r.0, r.2, r.3)

  structured : Structured es (numbering av fv f).nodes
  structured =
      let acts = λ (w : List ℕ). small av w 63 formed.fit.action_list.few in
      let feats = λ (w : List ℕ). small fv w 15 formed.fit.feature_list.few in
      record {
        some = enter_some (number av) (number fv) formula f none_entered;
        few = few_nodes;
        exprs = λ i lt. fits_test i (get_or es i ex.False) (beyond (numbering av fv f).exprs (n - length (numbering av fv f).exprs) (exprs_fit (number av) (number fv) acts feats f none_entered (λ i lt. absurd (omega arith))) i lt);
        nodes = λ i lt. more_exprs (numbering av fv f).exprs es (get_or (numbering av fv f).nodes i nd.False) (longer (front (numbering av fv f).exprs _)) (nodes_fit (number av) (number fv) acts feats f none_entered (vars text formed.tokens formed.derived.0 f formed.lexed formed.derived.1) (λ j le. absurd (omega arith)) i lt);
        tree = as_tree (numbering av fv f).nodes (λ c. c ≡ last formula (numbering av fv f)) whole;
        named = λ c lt. one_whole c lt (whole.named c (omega arith) (omega arith));
      }

  holds : Stands text actions features es ns (length (numbering av fv f).nodes) × Structured es (take (length (numbering av fv f).nodes) ns)
  holds = (stands, subst (Structured es) (sym (take_at (numbering av fv f).nodes (replicate (m - length (numbering av fv f).nodes) nd.False) (length (numbering av fv f).nodes) refl)) structured)

pub tried_hold : (text actions features : List ℕ) (n m : ℕ) → (64 ≤ n) × (64 ≤ m) → {k v : ℕ} {fs : List Expr} {ms : List Node} → Tried text actions features n m k v fs ms → k ≡ 0 → Stands text actions features fs ms v × Structured fs (take v ms)
tried_hold text actions features n m room (long_text h) e = absurd (omega arith)
tried_hold text actions features n m room (no_words h i) e = absurd (omega arith)
tried_hold text actions features n m room (no_token av fv p h i) e = absurd (omega arith)
tried_hold text actions features n m room (no_formula av fv ts rest h i j) e = absurd (omega arith)
tried_hold text actions features n m room (unknown_name av fv f p ps h i) e = absurd (omega arith)
tried_hold text actions features n m room (too_many av fv f h i j) e = absurd (omega arith)
tried_hold text actions features n m room (accepted av fv f formed none few_nodes few_exprs) e = holds text actions features n m room av fv f formed few_nodes

reading_hold : (text actions features : List ℕ) (es : List Expr) (ns : List Node) {k v : ℕ} {fs : List Expr} {ms : List Node} → Reading text actions features es ns k v fs ms → k ≡ 0 → Stands text actions features fs ms v × Structured fs (take v ms)
reading_hold text actions features es ns (short_table h) e = absurd (omega arith)
reading_hold text actions features es ns (tried le ln t) e = tried_hold text actions features (length es) (length ns) (le, ln) t e

pub tables_hold : TablesHold
tables_hold text actions features es ns v fs ms r = reading_hold text actions features es ns r refl

-- Evaluation fills the rows with the meanings: by one walk through a derivation, which carries for each
-- entry what its evaluation comes to.
use Rattle.std.proofs.Common.{◌≡◌, ℕ, ◌<◌, Bool, true, false, option_map, T, List, [], ◌∷◌, sym, refl, ◌∙◌}
use Rattle.std.proofs.Common.{subst, inl, inr, arith}
use mathlib.Core.Logic.Iff
use Rattle.families.specs.Families.{Family}
use Rattle.formulas.specs.Trees.{Formula, Parity}
use Rattle.formulas.specs.Tables.{as_formula, expression_at, formula_at, entry, parts, OneOf, Distinct}
use Rattle.formulas.specs.Tables.{Names, Binds}
use Rattle.formulas.specs.Tables.{Under, itself, Tree, Balanced, Nearest}
use Rattle.formulas.specs.declared.Expr.{Expr}
use Rattle.formulas.specs.declared.Node.{Node}
use Rattle.formulas.specs.declared.Node.TheVariants as nd
use Rattle.formulas.proofs.Trees.{under_le, under_part, under_top, parts_apart, first_of, later_of, one_of}
use Rattle.formulas.proofs.Trees.{distinct_of}
use Rattle.formulas.proofs.Trees.{binds_one, nearest_part, nearest_out}
use Rattle.formulas.proofs.Climbing.{fixpoint_is}
use Rattle.formulas.proofs.Scope.{even_part}
use Rattle.formulas.specs.Judge.{nearest}
use Rattle.std.specs.Option.{option_map_or}
use Rattle.semantics.specs.Plain.{Env, put}
use Rattle.semantics.specs.Meaning.{Pairs, Means, Same}
use Rattle.semantics.specs.Entries.{Filled}
use Rattle.semantics.specs.Evaluation.{Rows, SameRow, OthersSame, OnlyProducts, NearestAbove, Composes}
use Rattle.semantics.specs.Evaluation.{Begins}
use Rattle.semantics.specs.Evaluation.{Evaluates, composed, variable, fixpoint, EvaluatesAll, done, then}
use Rattle.semantics.specs.Evaluation.{Rounds, none, round, Evaluated, EvaluationFills}
use Rattle.semantics.proofs.Rows.{parts_all, filled_same, fill_as, means_same, same_refl}
use Rattle.semantics.proofs.RowRules.{means_not, means_or, means_and, means_diamond, means_box}
use Rattle.semantics.proofs.Environments.{put_is}
use Rattle.semantics.proofs.FixpointRounds.{rank, Lasts, Even, lasts_first, lasts_next, lasts_fewer}
use Rattle.semantics.proofs.FixpointRounds.{lasts_last}

pub same_row : (F : Family) (V W : Pairs) → SameRow F V W → Same F V W
same_row F V W e s p s< p< = (λ t. subst T (e s p s<) t, λ t. subst T (sym (e s p s<)) t)

-- Rows of products alone that are the same in the family are the same.
rows_equal : (F : Family) (V W : Pairs) → OnlyProducts F V → OnlyProducts F W → Same F V W → SameRow F V W
rows_equal F V W v w same s p s< = go (V s p) (W s p) (λ t. (same s p s< (v s p s< t)).0 t)
    (λ t. (same s p s< (w s p s< t)).1 t)
  where
    go : (a b : Bool) → (T a → T b) → (T b → T a) → a ≡ b
    go true true f g = refl
    go true false f g = absurd (f tt)
    go false true f g = absurd (g tt)
    go false false f g = refl

-- The row of a constant, a connective or a modality.
module _ (F : Family) (es : List Expr) (rows : Rows) (V : Pairs) where
  composed_free : (x : Node) → Composes F es rows x V → (v : ℕ) → ¬ Binds v x
  composed_free (nd.Least w c) k v = absurd k
  composed_free (nd.Greatest w c) k v = absurd k
  composed_free x k v = λ b. b

  composed_products : (x : Node) → Composes F es rows x V → ((c : ℕ) → Names c x → OnlyProducts F (rows c))
      → OnlyProducts F V
  composed_products nd.False k only = λ s p s< t. absurd ((k s p s<).0 t)
  composed_products nd.True k only = λ s p s< t. (k s p s<).0 t
  composed_products (nd.Not c) k only = λ s p s< t. ((k s p s<).0 t).0
  composed_products (nd.Or c d) k only = λ s p s< t.
      elim ((k s p s<).0 t) [ inl x ↦ only c (inl refl) s p s< x | inr y ↦ only d (inr refl) s p s< y ]
  composed_products (nd.And c d) k only = λ s p s< t. only c (inl refl) s p s< ((k s p s<).0 t).0
  composed_products (nd.Diamond a e c) k only = λ s p s< t. ((k s p s<).0 t).0
  composed_products (nd.Box a e c) k only = λ s p s< t. ((k s p s<).0 t).0
  composed_products x k only = absurd k

  composed_means : (part : ℕ → Formula) (η : Env Pairs) (x : Node) → Composes F es rows x V
      → ((c : ℕ) → Names c x → Means F (rows c) (part c) η)
      → Means F V (as_formula (expression_at es) part x) η
  composed_means part η nd.False k m = λ s p s< p<. k s p s<
  composed_means part η nd.True k m = λ s p s< p<. (λ t. tt, λ _. (k s p s<).1 p<)
  composed_means part η (nd.Not c) k m =
      means_not F V (rows c) (part c) η (λ s p s< p<. (λ t. ((k s p s<).0 t).1, λ t. (k s p s<).1 (p<, t)))
      (m c refl)
  composed_means part η (nd.Or c d) k m =
      means_or F V (rows c) (rows d) (part c) (part d) η (λ s p s< p<. k s p s<) (m c (inl refl))
      (m d (inr refl))
  composed_means part η (nd.And c d) k m =
      means_and F V (rows c) (rows d) (part c) (part d) η (λ s p s< p<. k s p s<) (m c (inl refl))
      (m d (inr refl))
  composed_means part η (nd.Diamond a e c) k m =
      means_diamond F V (rows c) a (expression_at es e) (part c) η
      (λ s p s< p<. (λ t. let y = (k s p s<).0 t in (y.1, y.2), λ y. (k s p s<).1 (p<, y.0, y.1)))
      (m c refl)
  composed_means part η (nd.Box a e c) k m =
      means_box F V (rows c) a (expression_at es e) (part c) η
      (λ s p s< p<. (λ t. ((k s p s<).0 t).1, λ y. (k s p s<).1 (p<, y))) (m c refl)
  composed_means part η x k m = absurd k

module _ (F : Family) (es : List Expr) (ns : List Node) (tree : Tree ns) (balanced : Balanced ns) where
  -- What is so of the nearest fixpoints above the whole is so of those above a part, if it is so of the
  -- whole.
  above_part : (P Q : ℕ → ℕ → Type 0) (n c : ℕ) → Names c (entry ns n)
      → ((v : ℕ) → Binds v (entry ns n) → Q v n)
      → ((v b : ℕ) (k : Parity) → ¬ Binds v (entry ns n) → Nearest ns v b k n → P v b → Q v b)
      → NearestAbove ns n P → NearestAbove ns c Q
  above_part P Q n c nc here there above v b k near = elim (nearest_part ns tree n c nc near) [
    | inl x ↦ subst (λ (z : ℕ). Q v z) (sym x.0) (here v x.1)
    | inr x ↦ there v b x.1.0 x.0 x.1.1 (above v b x.1.0 x.1.1)
  ]

  -- The rows of the nearest fixpoints above an entry have only products; the variables stand for them.
  abbrev OnlyAbove : ℕ → Rows → Type 0
  OnlyAbove n rows = NearestAbove ns n (λ _ b. OnlyProducts F (rows b))

  abbrev Stands : ℕ → Env Pairs → Rows → Type 0
  Stands n η rows = NearestAbove ns n (λ v b. Same F (η v) (rows b))

  only_part : (n c : ℕ) (rows : Rows) → Names c (entry ns n)
      → ((v : ℕ) → Binds v (entry ns n) → OnlyProducts F (rows n))
      → OnlyAbove n rows → OnlyAbove c rows
  only_part n c rows nc here =
      above_part (λ _ b. OnlyProducts F (rows b)) (λ _ b. OnlyProducts F (rows b)) n c nc here
      (λ v b k free near x. x)

  stands_part : (n c : ℕ) (η : Env Pairs) (rows : Rows) → Names c (entry ns n)
      → ((v : ℕ) → ¬ Binds v (entry ns n))
      → Stands n η rows → Stands c η rows
  stands_part n c η rows nc free =
      above_part (λ v b. Same F (η v) (rows b)) (λ v b. Same F (η v) (rows b)) n c nc
      (λ v b. absurd (free v b))
      (λ v b k nb near x. x)

  -- Entries that were evaluated one after the other are parts of one entry.
  record PartsOf (n : ℕ) (cs : List ℕ) : Type 0 where
    named : (c : ℕ) → OneOf cs c → Names c (entry ns n)
    distinct : Distinct cs

  record AllEvaluated (before after : Rows) (cs : List ℕ) : Type 0 where
    others : (m : ℕ) → ((c : ℕ) → OneOf cs c → ¬ Under ns c m) → SameRow F (after m) (before m)
    products : (n : ℕ) → PartsOf n cs → ((v : ℕ) → ¬ Binds v (entry ns n)) → OnlyAbove n before
        → (c : ℕ) → OneOf cs c → (m : ℕ) → Under ns c m → OnlyProducts F (after m)
    filled : (n : ℕ) → PartsOf n cs → ((v : ℕ) → ¬ Binds v (entry ns n)) → (η : Env Pairs)
        → Stands n η before → (c : ℕ) → OneOf cs c → Filled F es ns after η c

  -- What rounds of a fixpoint n over the part c come to.
  record RoundsEvaluated (n c : ℕ) (start now : Rows) : Type 0 where
    others : Names c (entry ns n) → (m : ℕ) → ¬ Under ns n m → SameRow F (now m) (start m)
    products : Names c (entry ns n) → OnlyAbove n start → OnlyProducts F (start n)
        → OnlyProducts F (now n)
    lasts : Names c (entry ns n) → (η : Env Pairs) → Stands n η start
        → Lasts F (formula_at es ns c) η (entry ns n) (start n)
        → Lasts F (formula_at es ns c) η (entry ns n) (now n)

  -- Of the rows only those of n and of what is under it were written.
  abbrev Frames : ℕ → Rows → Rows → Type 0
  Frames n xs ys = (m : ℕ) → ¬ Under ns n m → SameRow F (ys m) (xs m)

  frames_row : (n : ℕ) (xs ys : Rows) → OthersSame F n xs ys → Frames n xs ys
  frames_row n xs ys o m out = o m (λ e. out (subst (λ (z : ℕ). Under ns n z) (sym e) itself))

  frames_part : (n c : ℕ) (xs ys : Rows) → Names c (entry ns n) → Frames c xs ys → Frames n xs ys
  frames_part n c xs ys nc f m out = f m (λ u. out (under_part ns tree n c m nc u))

  frames_then : (n : ℕ) (xs ys zs : Rows) → Frames n xs ys → Frames n ys zs → Frames n xs zs
  frames_then n xs ys zs f g m out s p s< = g m out s p s< ∙ f m out s p s<

  only_row : (V W : Pairs) → SameRow F W V → OnlyProducts F V → OnlyProducts F W
  only_row V W e only s p s< t = only s p s< (subst T (e s p s<) t)

  back_row : (V W : Pairs) → SameRow F V W → SameRow F W V
  back_row V W e s p s< = sym (e s p s<)

  only_above : (n : ℕ) (xs ys : Rows) → Frames n xs ys
      → OnlyAbove n xs → OnlyAbove n ys
  only_above n xs ys f h v b k near = only_row (xs b) (ys b)
      (f b (nearest_out ns tree n n (omega arith) near)) (h v b k near)

  stands_above : (n : ℕ) (xs ys : Rows) (η : Env Pairs) → Frames n xs ys
      → Stands n η xs → Stands n η ys
  stands_above n xs ys η f h v b k near s p s< p< =
      Iff.trans (h v b k near s p s< p<)
      (same_row F (xs b) (ys b) (back_row (ys b) (xs b) (f b (nearest_out ns tree n n (omega arith) near)))
      s p s< p<)

  -- A row that was written from its parts' rows.
  composed_evaluated : {before middle after : Rows} {n : ℕ}
      → AllEvaluated before middle (parts (entry ns n))
      → Composes F es middle (entry ns n) (after n) → OthersSame F n middle after
      → Evaluated F es ns before after n
  composed_evaluated {before} {middle} {after} {n} all k o = record {
    others = λ m out s p s<. frames_row n middle after o m out s p s<
        ∙ all.others m (λ c nc u. out (under_part ns tree n c m nc u)) s p s<;
    products = λ above m u. elim (under_top ns tree n m u) [
      | inl e ↦ subst (λ (z : ℕ). OnlyProducts F (after z)) e
          (composed_products F es middle (after n) (entry ns n) k
          (λ c nc. all.products n each free above c nc c itself))
      | inr w ↦ only_row (middle m) (after m) (o m (λ e. below w.0 w.1 m w.2 e))
          (all.products n each free above w.0 w.1 m w.2)
    ];
    filled = λ η h.
        fill_as F es ns tree after η n (entry ns n) refl
        (composed_means F es middle (after n) (formula_at es ns) η (entry ns n) k
        (λ c nc. (all.filled n each free η h c nc).0))
        (parts_all (λ ζ. ζ ≡ η) (Filled F es ns after) η (after n) (entry ns n) (λ _. refl)
        (λ v b. absurd (free v b))
        (λ c nc ζ e. subst (λ (ω : Env Pairs). Filled F es ns after ω c) (sym e)
        (filled_same F es ns tree middle after η η c (λ w. same_refl F (η w))
        (λ m u. same_row F (middle m) (after m) (back_row (after m) (middle m)
        (o m (λ q. below c nc m u q))))
        (all.filled n each free η h c nc))));
  }
    where
      each : PartsOf n (parts (entry ns n))
      each = record { named = λ c nc. nc; distinct = tree.apart n }

      free : (v : ℕ) → ¬ Binds v (entry ns n)
      free = composed_free F es middle (after n) (entry ns n) k

      below : (c : ℕ) → Names c (entry ns n) → (m : ℕ) → Under ns c m → ¬ (m ≡ n)
      below c nc m u e = omega (arith, under_le ns tree c m u, tree.lower n c nc)

  variable_evaluated : {before after : Rows} {n v b : ℕ} {k : Parity} → entry ns n ≡ nd.Variable v
      → Nearest ns v b k n
      → SameRow F (after n) (before b) → OthersSame F n before after → Evaluated F es ns before after n
  variable_evaluated {before} {after} {n} {v} {b} {k} e near i o = record {
    others = frames_row n before after o;
    products = λ above m u. elim (under_top ns tree n m u) [
      | inl q ↦ subst (λ (z : ℕ). OnlyProducts F (after z)) q
          (only_row (before b) (after n) i (above v b k near))
      | inr w ↦ absurd (subst (λ (y : Node). Names w.0 y) e w.1)
    ];
    filled = λ η h. fill_as F es ns tree after η n (nd.Variable v) e
        (λ s p s< p<. Iff.trans (same_row F (after n) (before b) i s p s< p<)
        (Iff.symm (h v b k near s p s< p<))) tt;
  }

  -- One entry after the other.
  all_done : (rows : Rows) → AllEvaluated rows rows []
  all_done rows = record {
    others = λ m out s p s<. refl;
    products = λ n each free above c oc. absurd oc;
    filled = λ n each free η h c oc. absurd oc;
  }

  then_evaluated : {before middle after : Rows} {c : ℕ} {cs : List ℕ} → Evaluated F es ns before middle c
      → AllEvaluated middle after cs
      → AllEvaluated before after (c ∷ cs)
  then_evaluated {before} {middle} {after} {c} {cs} first rest = record {
    others = λ m out s p s<. rest.others m (λ d od. out d (later_of c d cs od)) s p s<
        ∙ first.others m (out c (first_of c cs)) s p s<;
    products = λ n each free above d od m u. elim (one_of c d cs od) [
      | inl e ↦ (let w = subst (λ (z : ℕ). Under ns z m) e u in
          only_row (middle m) (after m) (apart n each m w)
          (first.products (only_part n c before (head n each) (λ v b. absurd (free v b)) above) m w))
      | inr o ↦ rest.products n (tail n each) free
          (only_above n before middle (frames_part n c before middle (head n each) first.others) above) d o
          m u
    ];
    filled = λ n each free η h d od. elim (one_of c d cs od) [
      | inl e ↦ subst (λ (z : ℕ). Filled F es ns after η z) (sym e)
          (filled_same F es ns tree middle after η η c (λ w. same_refl F (η w))
          (λ m u. same_row F (middle m) (after m) (back_row (after m) (middle m) (apart n each m u)))
          (first.filled η (stands_part n c η before (head n each) free h)))
      | inr o ↦ rest.filled n (tail n each) free η
          (stands_above n before middle η (frames_part n c before middle (head n each) first.others) h) d o
    ];
  }
    where
      head : (n : ℕ) → PartsOf n (c ∷ cs) → Names c (entry ns n)
      head n each = each.named c (first_of c cs)

      tail : (n : ℕ) → PartsOf n (c ∷ cs) → PartsOf n cs
      tail n each = record {
        named = λ d od. each.named d (later_of c d cs od);
        distinct =
            (distinct_of c cs each.distinct).1;
      }

      apart : (n : ℕ) → PartsOf n (c ∷ cs) → (m : ℕ) → Under ns c m → SameRow F (after m) (middle m)
      apart n each m u =
          rest.others m (λ d od w. parts_apart ns tree n c d m (head n each) ((tail n each).named d od)
          (λ e. (distinct_of c cs each.distinct).0 (subst (OneOf cs) (sym e) od)) u w)

  -- The part of a fixpoint n, where its variable stands for the row of n.
  part_filled : {now after : Rows} {n c : ℕ} → Names c (entry ns n) → Evaluated F es ns now after c
      → (η : Env Pairs)
      → Stands n η now → (v : ℕ) → Binds v (entry ns n) → (V : Pairs) → Same F V (now n)
      → Filled F es ns after (put η v V) c
  part_filled {now} {after} {n} {c} nc part η h v bv V same =
      part.filled (put η v V)
      (above_part (λ u b. Same F (η u) (now b)) (λ u b. Same F (put η v V u) (now b)) n c nc
      (λ u bu. put_is F η v u V (now n) (λ _. same) (λ ne. absurd (ne (binds_one (entry ns n) u v bu bv))))
      (λ u b k free near stands. put_is F η v u V (now b)
      (λ e. absurd (free (subst (λ (z : ℕ). Binds z (entry ns n)) (sym e) bv))) (λ _. stands)) h)

  part_products : {now after : Rows} {n c : ℕ} → Names c (entry ns n) → Evaluated F es ns now after c
      → OnlyAbove n now → OnlyProducts F (now n)
      → (m : ℕ) → Under ns c m → OnlyProducts F (after m)
  part_products {now} {after} {n} {c} nc part above only =
      part.products (only_part n c now nc (λ v b. only) above)

  even : (n c : ℕ) → Names c (entry ns n) → (η : Env Pairs) → Even F (formula_at es ns c) η (entry ns n)
  even n c nc η v b = even_part es ns balanced n v c b nc

  no_rounds : (n c : ℕ) (rows : Rows) → RoundsEvaluated n c rows rows
  no_rounds n c rows = record {
    others = λ nc m out s p s<. refl;
    products = λ nc above only. only;
    lasts = λ nc η h l. l;
  }

  round_evaluated : {n c : ℕ} {start now middle after : Rows} → RoundsEvaluated n c start now
      → Evaluated F es ns now middle c
      → SameRow F (after n) (middle c) → OthersSame F n middle after → RoundsEvaluated n c start after
  round_evaluated {n} {c} {start} {now} {middle} {after} rounds part copied o = record {
    others = λ nc. frames_then n start now after (rounds.others nc)
        (frames_then n now middle after (frames_part n c now middle nc part.others)
        (frames_row n middle after o));
    products = λ nc above only.
        only_row (middle c) (after n) copied
        (part_products nc part (only_above n start now (rounds.others nc) above)
        (rounds.products nc above only) c itself);
    lasts = λ nc η h l.
        let h' = stands_above n start now η (rounds.others nc) h in
        lasts_next F (formula_at es ns c) η (now n) (after n) (entry ns n) (even n c nc η)
        (λ v b. means_same F (middle c) (after n) (formula_at es ns c) (put η v (now n)) (put η v (now n))
        (same_row F (middle c) (after n) (back_row (after n) (middle c) copied))
        (λ w. same_refl F (put η v (now n) w))
        (part_filled nc part η h' v b (now n) (same_refl F (now n))).0)
        (rounds.lasts nc η h l);
  }

  -- A fixpoint begins with products alone, and has a variable and one part.
  pub begins_products : (x : Node) (V : Pairs) → Begins F x V → OnlyProducts F V
  begins_products (nd.Least v c) V k = λ s p s< t. absurd ((k s p s<).0 t)
  begins_products (nd.Greatest v c) V k = λ s p s< t. (k s p s<).0 t
  begins_products x V k = absurd k

  begins_binds : (x : Node) (V : Pairs) → Begins F x V → (v : ℕ) × Binds v x
  begins_binds (nd.Least v c) V k = (v, refl)
  begins_binds (nd.Greatest v c) V k = (v, refl)
  begins_binds x V k = absurd k

  begins_part : (x : Node) (V : Pairs) → Begins F x V → (c d : ℕ) → Names c x → Names d x → d ≡ c
  begins_part (nd.Least v e) V k c d nc md = md ∙ sym nc
  begins_part (nd.Greatest v e) V k c d nc md = md ∙ sym nc
  begins_part x V k c d nc md = absurd k

  fixpoint_evaluated : {before start now after : Rows} {n c : ℕ} → Names c (entry ns n)
      → Begins F (entry ns n) (start n)
      → OthersSame F n before start → RoundsEvaluated n c start now → Evaluated F es ns now after c
      → SameRow F (after n) (after c)
      → Evaluated F es ns before after n
  fixpoint_evaluated {before} {start} {now} {after} {n} {c} nc begins o rounds part rests = record {
    others = frames_then n before now after fore (frames_part n c now after nc part.others);
    products = λ above m u. elim (under_top ns tree n m u) [
      | inl e ↦ subst (λ (z : ℕ). OnlyProducts F (after z)) e
          (only_row (after c) (after n) rests (only above c itself))
      | inr w ↦ only above m (subst (λ (z : ℕ). Under ns z m)
          (begins_part x (start n) begins c w.0 nc w.1) w.2)
    ];
    filled = λ η h.
        let h' = stands_above n before now η fore h in
        fill_as F es ns tree after η n x refl
        (means_same F (now n) (after n) (as_formula (expression_at es) (formula_at es ns) x) η η
        (same_row F (now n) (after n) (back_row (after n) (now n) still)) (λ w. same_refl F (η w))
        (lasts_last F es (formula_at es ns) η (now n) (after c) x c nc (even n c nc η)
        (λ v b. (part_filled nc part η h' v b (now n) (same_refl F (now n))).0)
        (rounds.lasts nc η (stands_above n before start η (frames_row n before start o) h)
        (lasts_first F (formula_at es ns c) η x (start n) (even n c nc η) begins))
        (λ s p s< p<. Iff.trans (Iff.symm (same_row F (after n) (now n) still s p s< p<))
        (same_row F (after n) (after c) rests s p s< p<))))
        (parts_all (λ ζ. (v : ℕ) × Binds v x × (ζ ≡ put η v (after n))) (Filled F es ns after) η (after n) x
        (λ free. let b = begins_binds x (start n) begins in absurd (free b.0 b.1)) (λ v b. (v, b, refl))
        (λ d nd ζ y. subst (λ (z : ℕ). Filled F es ns after ζ z)
        (sym (begins_part x (start n) begins c d nc nd))
        (subst (λ (ω : Env Pairs). Filled F es ns after ω c) (sym y.2)
        (part_filled nc part η h' y.0 y.1 (after n) (same_row F (after n) (now n) still)))));
  }
    where
      x : Node
      x = entry ns n

      fore : Frames n before now
      fore = frames_then n before start now (frames_row n before start o) (rounds.others nc)

      still : SameRow F (after n) (now n)
      still = part.others n (λ u. omega (arith, under_le ns tree c n u, tree.lower n c nc))

      only : OnlyAbove n before → (m : ℕ) → Under ns c m → OnlyProducts F (after m)
      only above =
          part_products nc part (only_above n before now fore above)
          (rounds.products nc (only_above n before start (frames_row n before start o) above)
          (begins_products x (start n) begins))

  mutual
    evaluated : {before after : Rows} {n : ℕ} → Evaluates F es ns before after n
        → Evaluated F es ns before after n
    evaluated (composed all k o) = composed_evaluated (all_evaluated all) k o
    evaluated (variable e near i o) = variable_evaluated e near i o
    evaluated (fixpoint nc begins o rounds part rests) = fixpoint_evaluated nc begins o
        (rounds_evaluated rounds) (evaluated part) rests

    all_evaluated : {before after : Rows} {cs : List ℕ} → EvaluatesAll F es ns before after cs
        → AllEvaluated before after cs
    all_evaluated (done {rows}) = all_done rows
    all_evaluated (then first rest) = then_evaluated (evaluated first) (all_evaluated rest)

    rounds_evaluated : {n c : ℕ} {start now : Rows} → Rounds F es ns n c start now
        → RoundsEvaluated n c start now
    rounds_evaluated (none {n} {c} {rows}) = no_rounds n c rows
    rounds_evaluated (round rounds part differs copied o) = round_evaluated (rounds_evaluated rounds)
        (evaluated part) copied o

  -- Each round that comes to another row brings a fixpoint nearer to its end.
  pub rounds_fewer : {n c : ℕ} {start now middle : Rows} (after : Rows) → Names c (entry ns n)
      → Begins F (entry ns n) (start n)
      → OnlyAbove n start → Rounds F es ns n c start now → Evaluates F es ns now middle c
      → ¬ SameRow F (middle n) (middle c) → SameRow F (after n) (middle c)
      → rank F (entry ns n) (after n) < rank F (entry ns n) (now n)
  rounds_fewer {n} {c} {start} {now} {middle} after nc begins above done_rounds part differs copied =
      lasts_fewer F (formula_at es ns c) η (now n) (after n) (entry ns n) (even n c nc η)
      (λ v b. means_same F (middle c) (after n) (formula_at es ns c) (put η v (now n)) (put η v (now n))
      (same_row F (middle c) (after n) (back_row (after n) (middle c) copied))
      (λ w. same_refl F (put η v (now n) w))
      (part_filled nc e η (stands_above n start now η (r.others nc) stands) v b (now n)
      (same_refl F (now n))).0)
      (r.lasts nc η stands (lasts_first F (formula_at es ns c) η (entry ns n) (start n)
      (even n c nc η) begins))
      (λ same. differs (λ s p s<. still s p s< ∙ rows_equal F (now n)
      (after n) only_now only_after same s p s< ∙ copied s p s<))
    where
      r : RoundsEvaluated n c start now
      r = rounds_evaluated done_rounds

      e : Evaluated F es ns now middle c
      e = evaluated part

      -- each variable stands for the row of its nearest fixpoint
      η : Env Pairs
      η v = option_map_or start (option_map (λ x. x.fixpoint) (nearest ns v n)) (λ s p. false)

      stands : Stands n η start
      stands v b k near =
          subst (λ o. Same F (option_map_or start o (λ s p. false)) (start b))
          (sym (fixpoint_is ns v tree near)) (same_refl F (start b))

      still : SameRow F (middle n) (now n)
      still = e.others n (λ u. omega (arith, under_le ns tree c n u, tree.lower n c nc))

      only_now : OnlyProducts F (now n)
      only_now = r.products nc above (begins_products (entry ns n) (start n) begins)

      only_after : OnlyProducts F (after n)
      only_after =
          only_row (middle c) (after n) copied
          (part_products nc e (only_above n start now (r.others nc) above) only_now c itself)

pub evaluation_fills : EvaluationFills
evaluation_fills F es ns tree balanced before after n e = evaluated F es ns tree balanced e

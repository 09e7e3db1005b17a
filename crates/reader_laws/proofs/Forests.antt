-- Each formula entry but the last is a part of exactly one entry.
use Rattle.std.proofs.Common.{◌≡◌, ℕ, ◌+◌, ◌-◌, ◌<◌, ◌≤◌, ◌⊎◌, List, [], ◌∷◌, ◌++◌, length, get_or, Option, sym, refl, ap, ◌∙◌, subst, inl, inr, arith}
use Rattle.std.proofs.lemmas.List.{length_push}
use Rattle.std.proofs.lemmas.Bool.{cases_lt}
use Rattle.formulas.specs.declared.Node.{Node}
use Rattle.formulas.specs.declared.Node.TheVariants as nd
use Rattle.formulas.specs.Tables.{Names, Apart}
use Rattle.grammar.specs.Grammar.{Modality, diamond, box, Fixpoint, least, greatest, Tree, bottom, top, negation, disjunction, conjunction, feature, var, modal, fixpoint}
use Rattle.grammar.specs.declared.Level.TheVariants.{Formula as formula, Expression as expression}
use Rattle.reader.specs.Numbering.{Tables, note, or_0, last, enter, modal_node, fixpoint_node}
use Rattle.reader_laws.proofs.Extends.{Extends, through, pushed, top_entry, last_push, note_nodes, enter_nodes}

-- the entries from lo to hi name one another, each at most once, and those that none names are the roots P
pub record Forest (ns : List Node) (lo hi : ℕ) (P : ℕ → Type 0) : Type 0 where
  pub order : lo ≤ hi
  pub lower : (n c : ℕ) → lo ≤ n → n < hi → Names c (get_or ns n nd.False) → (lo ≤ c) × (c < n)
  pub once : (n m c : ℕ) → lo ≤ n → n < hi → lo ≤ m → m < hi → Names c (get_or ns n nd.False) → Names c (get_or ns m nd.False) → n ≡ m
  pub apart : (n : ℕ) → lo ≤ n → n < hi → Apart (get_or ns n nd.False)
  pub roots : (c : ℕ) → P c → (lo ≤ c) × (c < hi)
  pub free : (c n : ℕ) → P c → lo ≤ n → n < hi → Names c (get_or ns n nd.False) → ⊥
  pub named : (c : ℕ) → lo ≤ c → c < hi → P c ⊎ ((n : ℕ) × (lo ≤ n) × (n < hi) × Names c (get_or ns n nd.False))

empty : (ns : List Node) (lo : ℕ) → Forest ns lo lo (λ c. ⊥)
empty ns lo =
    record {
      order = omega arith;
      lower = λ n c a b h. absurd (omega arith);
      once = λ n m c a b d e h i. absurd (omega arith);
      apart = λ n a b. absurd (omega arith);
      roots = λ c p. absurd p;
      free = λ c n p a b h. p;
      named = λ c a b. absurd (omega arith);
    }

module _ (ns : List Node) (lo mid hi : ℕ) (P Q : ℕ → Type 0) (f : Forest ns lo mid P) (g : Forest ns mid hi Q) where
  join : Forest ns lo hi (λ c. P c ⊎ Q c)
  join =
      let o = f.order in
      let q = g.order in
      record {
        order = omega arith;
        lower = λ n c a b h. low n c a b h (cases_lt n mid);
        once = λ n m c a b d e h i. one n m c a b d e h i (cases_lt n mid) (cases_lt m mid);
        apart = λ n a b. off n a b (cases_lt n mid);
        roots = λ c p. root c p;
        free = λ c n p a b h. none c n p a b h (cases_lt n mid);
        named = λ c a b. some c a b (cases_lt c mid);
      }
    where
      low : (n c : ℕ) → lo ≤ n → n < hi → Names c (get_or ns n nd.False) → (n < mid) ⊎ (mid ≤ n) → (lo ≤ c) × (c < n)
      low n c a b h (inl x) = f.lower n c a x h
      low n c a b h (inr x) = let r = g.lower n c x b h in let o = f.order in (omega (arith, r.0), r.1)

      one : (n m c : ℕ) → lo ≤ n → n < hi → lo ≤ m → m < hi → Names c (get_or ns n nd.False) → Names c (get_or ns m nd.False) → (n < mid) ⊎ (mid ≤ n) → (m < mid) ⊎ (mid ≤ m) → n ≡ m
      one n m c a b d e h i (inl x) (inl y) = f.once n m c a x d y h i
      one n m c a b d e h i (inl x) (inr y) = absurd (omega (arith, (f.lower n c a x h).1, (g.lower m c y e i).0))
      one n m c a b d e h i (inr x) (inl y) = absurd (omega (arith, (g.lower n c x b h).0, (f.lower m c d y i).1))
      one n m c a b d e h i (inr x) (inr y) = g.once n m c x b y e h i

      off : (n : ℕ) → lo ≤ n → n < hi → (n < mid) ⊎ (mid ≤ n) → Apart (get_or ns n nd.False)
      off n a b (inl x) = f.apart n a x
      off n a b (inr x) = g.apart n x b

      root : (c : ℕ) → P c ⊎ Q c → (lo ≤ c) × (c < hi)
      root c (inl p) = let r = f.roots c p in let q = g.order in (r.0, omega (arith, r.1))
      root c (inr p) = let r = g.roots c p in let o = f.order in (omega (arith, r.0), r.1)

      none : (c n : ℕ) → P c ⊎ Q c → lo ≤ n → n < hi → Names c (get_or ns n nd.False) → (n < mid) ⊎ (mid ≤ n) → ⊥
      none c n (inl p) a b h (inl x) = f.free c n p a x h
      none c n (inl p) a b h (inr x) = omega (arith, (f.roots c p).1, (g.lower n c x b h).0)
      none c n (inr p) a b h (inl x) = omega (arith, (g.roots c p).0, (f.lower n c a x h).1)
      none c n (inr p) a b h (inr x) = g.free c n p x b h

      left : (c : ℕ) → P c ⊎ ((n : ℕ) × (lo ≤ n) × (n < mid) × Names c (get_or ns n nd.False)) → (P c ⊎ Q c) ⊎ ((n : ℕ) × (lo ≤ n) × (n < hi) × Names c (get_or ns n nd.False))
      left c (inl p) = inl (inl p)
      left c (inr r) = let q = g.order in inr (r.0, r.1, omega (arith, r.2), r.3)

      right : (c : ℕ) → Q c ⊎ ((n : ℕ) × (mid ≤ n) × (n < hi) × Names c (get_or ns n nd.False)) → (P c ⊎ Q c) ⊎ ((n : ℕ) × (lo ≤ n) × (n < hi) × Names c (get_or ns n nd.False))
      right c (inl p) = inl (inr p)
      right c (inr r) = let o = f.order in inr (r.0, omega (arith, r.1), r.2, r.3)

      some : (c : ℕ) → lo ≤ c → c < hi → (c < mid) ⊎ (mid ≤ c) → (P c ⊎ Q c) ⊎ ((n : ℕ) × (lo ≤ n) × (n < hi) × Names c (get_or ns n nd.False))
      some c a b (inl x) = left c (f.named c a x)
      some c a b (inr x) = right c (g.named c x b)

-- one more entry, which names the roots
module _ (ns : List Node) (lo hi : ℕ) (P : ℕ → Type 0) (f : Forest ns lo hi P) (x : Node) (is : get_or ns hi nd.False ≡ x) (only : (c : ℕ) → Names c x → P c) (each : (c : ℕ) → P c → Names c x) (off : Apart x) where
  at_top : (n c : ℕ) → hi ≤ n → n < hi + 1 → Names c (get_or ns n nd.False) → P c
  at_top n c a b h = let e : n ≡ hi = omega arith in only c (subst (λ y. Names c y) (ap (λ i. get_or ns i nd.False) e ∙ is) h)

  close : Forest ns lo (hi + 1) (λ c. c ≡ hi)
  close =
      let o = f.order in
      record {
        order = omega arith;
        lower = λ n c a b h. low n c a b h (cases_lt n hi);
        once = λ n m c a b d e h i. one n m c a b d e h i (cases_lt n hi) (cases_lt m hi);
        apart = λ n a b. far n a b (cases_lt n hi);
        roots = λ c p. (omega arith, omega arith);
        free = λ c n p a b h. none c n p a b h (cases_lt n hi);
        named = λ c a b. some c a b (cases_lt c hi);
      }
    where
      low : (n c : ℕ) → lo ≤ n → n < hi + 1 → Names c (get_or ns n nd.False) → (n < hi) ⊎ (hi ≤ n) → (lo ≤ c) × (c < n)
      low n c a b h (inl y) = f.lower n c a y h
      low n c a b h (inr y) = let r = f.roots c (at_top n c y b h) in (r.0, omega (arith, r.1))

      one : (n m c : ℕ) → lo ≤ n → n < hi + 1 → lo ≤ m → m < hi + 1 → Names c (get_or ns n nd.False) → Names c (get_or ns m nd.False) → (n < hi) ⊎ (hi ≤ n) → (m < hi) ⊎ (hi ≤ m) → n ≡ m
      one n m c a b d e h i (inl y) (inl z) = f.once n m c a y d z h i
      one n m c a b d e h i (inl y) (inr z) = absurd (f.free c n (at_top m c z e i) a y h)
      one n m c a b d e h i (inr y) (inl z) = absurd (f.free c m (at_top n c y b h) d z i)
      one n m c a b d e h i (inr y) (inr z) = omega arith

      far : (n : ℕ) → lo ≤ n → n < hi + 1 → (n < hi) ⊎ (hi ≤ n) → Apart (get_or ns n nd.False)
      far n a b (inl y) = f.apart n a y
      far n a b (inr y) = let e : n ≡ hi = omega arith in subst Apart (sym (ap (λ i. get_or ns i nd.False) e ∙ is)) off

      none : (c n : ℕ) → c ≡ hi → lo ≤ n → n < hi + 1 → Names c (get_or ns n nd.False) → (n < hi) ⊎ (hi ≤ n) → ⊥
      none c n p a b h (inl y) = omega (arith, (f.lower n c a y h).1)
      none c n p a b h (inr y) = omega (arith, (f.roots c (at_top n c y b h)).1)

      some : (c : ℕ) → lo ≤ c → c < hi + 1 → (c < hi) ⊎ (hi ≤ c) → (c ≡ hi) ⊎ ((n : ℕ) × (lo ≤ n) × (n < hi + 1) × Names c (get_or ns n nd.False))
      some c a b (inl y) = old (f.named c a y)
        where
          old : P c ⊎ ((n : ℕ) × (lo ≤ n) × (n < hi) × Names c (get_or ns n nd.False)) → (c ≡ hi) ⊎ ((n : ℕ) × (lo ≤ n) × (n < hi + 1) × Names c (get_or ns n nd.False))
          old (inl p) = let o = f.order in inr (hi, o, omega arith, subst (λ z. Names c z) (sym is) (each c p))
          old (inr r) = inr (r.0, r.1, omega (arith, r.2), r.3)
      some c a b (inr y) = inl (omega arith)

-- the same at the end of a list of entries
pub closed : (ns : List Node) (lo : ℕ) (xs : List Node) (x : Node) (P : ℕ → Type 0) → Forest ns lo (length xs) P → Extends (xs ++ x ∷ []) ns → ((c : ℕ) → Names c x → P c) → ((c : ℕ) → P c → Names c x) → Apart x → Forest ns lo (length (xs ++ x ∷ [])) (λ c. c ≡ length (xs ++ x ∷ []) - 1)
closed ns lo xs x P f e only each off =
    subst (λ h. Forest ns lo h (λ c. c ≡ length (xs ++ x ∷ []) - 1)) (sym (length_push xs x)) (subst (λ r. Forest ns lo (length xs + 1) (λ c. c ≡ r)) (sym (last_push xs x)) (close ns lo (length xs) P f x (top_entry xs x nd.False ns e) only each off))

modal_names : (m : Modality) (a e d c : ℕ) → (Names c (modal_node m a e d) → c ≡ d) × (c ≡ d → Names c (modal_node m a e d)) × Apart (modal_node m a e d)
modal_names diamond a e d c = (λ h. h, λ h. h, tt)
modal_names box a e d c = (λ h. h, λ h. h, tt)

fixpoint_names : (x : Fixpoint) (v d c : ℕ) → (Names c (fixpoint_node x v d) → c ≡ d) × (c ≡ d → Names c (fixpoint_node x v d)) × Apart (fixpoint_node x v d)
fixpoint_names least v d c = (λ h. h, λ h. h, tt)
fixpoint_names greatest v d c = (λ h. h, λ h. h, tt)

module _ (action feat : List ℕ → Option ℕ) where
  -- an expression leaves the formula table as it was
  pub same_nodes : (a : Tree) (t : Tables) → (enter action feat expression a t).nodes ≡ t.nodes
  same_nodes bottom t = refl
  same_nodes top t = refl
  same_nodes (negation a) t = same_nodes a t
  same_nodes (disjunction a b) t = same_nodes b (enter action feat expression a t) ∙ same_nodes a t
  same_nodes (conjunction a b) t = same_nodes b (enter action feat expression a t) ∙ same_nodes a t
  same_nodes (feature w p) t = note_nodes (feat w) p t
  same_nodes (var v) t = refl
  same_nodes (modal m w p e a) t = refl
  same_nodes (fixpoint x v a) t = refl

  abbrev fnt : Tree → Tables → Tables
  fnt a t = enter action feat formula a t

  -- two parts side by side
  both : (ns : List Node) (t u w : Tables) → Forest ns (length t.nodes) (length u.nodes) (λ c. c ≡ last formula u) → Forest ns (length u.nodes) (length w.nodes) (λ c. c ≡ last formula w) → (x : Node) → Extends (w.nodes ++ x ∷ []) ns → ((c : ℕ) → Names c x → (c ≡ last formula u) ⊎ (c ≡ last formula w)) → ((c : ℕ) → (c ≡ last formula u) ⊎ (c ≡ last formula w) → Names c x) → ((last formula u ≡ last formula w → ⊥) → Apart x) → Forest ns (length t.nodes) (length (w.nodes ++ x ∷ [])) (λ c. c ≡ length (w.nodes ++ x ∷ []) - 1)
  both ns t u w f g x e only each off =
      closed ns (length t.nodes) w.nodes x (λ c. (c ≡ last formula u) ⊎ (c ≡ last formula w)) (join ns (length t.nodes) (length u.nodes) (length w.nodes) (λ c. c ≡ last formula u) (λ c. c ≡ last formula w) f g) e only each
      (off (λ s. omega (arith, (f.roots (last formula u) refl).1, (g.roots (last formula w) refl).0)))

  pub forest : (a : Tree) (t : Tables) (ns : List Node) → Extends (fnt a t).nodes ns → Forest ns (length t.nodes) (length (fnt a t).nodes) (λ c. c ≡ last formula (fnt a t))
  forest bottom t ns e = closed ns (length t.nodes) t.nodes nd.False (λ c. ⊥) (empty ns (length t.nodes)) e (λ c h. h) (λ c p. p) tt
  forest top t ns e = closed ns (length t.nodes) t.nodes nd.True (λ c. ⊥) (empty ns (length t.nodes)) e (λ c h. h) (λ c p. p) tt
  forest (feature w p) t ns e = closed ns (length t.nodes) t.nodes nd.False (λ c. ⊥) (empty ns (length t.nodes)) e (λ c h. h) (λ c p. p) tt
  forest (var v) t ns e = closed ns (length t.nodes) t.nodes (nd.Variable v) (λ c. ⊥) (empty ns (length t.nodes)) e (λ c h. h) (λ c p. p) tt
  forest (negation a) t ns e = closed ns (length t.nodes) (fnt a t).nodes (nd.Not (last formula (fnt a t))) (λ c. c ≡ last formula (fnt a t)) (forest a t ns (through (pushed (fnt a t).nodes _) e)) e (λ c h. h) (λ c p. p) tt
  forest (disjunction a b) t ns e =
      let w : Tables = fnt b (fnt a t) in
      let ew : Extends w.nodes ns = through (pushed w.nodes (nd.Or (last formula (fnt a t)) (last formula w))) e in
      both ns t (fnt a t) w (forest a t ns (through (enter_nodes action feat formula b (fnt a t)) ew)) (forest b (fnt a t) ns ew) (nd.Or (last formula (fnt a t)) (last formula w)) e (λ c h. h) (λ c p. p) (λ h. (h, tt))
  forest (conjunction a b) t ns e =
      let w : Tables = fnt b (fnt a t) in
      let ew : Extends w.nodes ns = through (pushed w.nodes (nd.And (last formula (fnt a t)) (last formula w))) e in
      both ns t (fnt a t) w (forest a t ns (through (enter_nodes action feat formula b (fnt a t)) ew)) (forest b (fnt a t) ns ew) (nd.And (last formula (fnt a t)) (last formula w)) e (λ c h. h) (λ c p. p) (λ h. (h, tt))
  forest (modal m w p y a) t ns e =
      let u : Tables = enter action feat expression y (note (action w) p t) in
      let z : Tables = fnt a u in
      let x : Node = modal_node m (or_0 (action w)) (last expression u) (last formula z) in
      let n = modal_names m (or_0 (action w)) (last expression u) (last formula z) in
      let f = subst (λ l. Forest ns l (length z.nodes) (λ c. c ≡ last formula z)) (ap length (same_nodes y (note (action w) p t) ∙ note_nodes (action w) p t)) (forest a u ns (through (pushed z.nodes x) e)) in
      closed ns (length t.nodes) z.nodes x (λ c. c ≡ last formula z) f e (λ c h. (n c).0 h) (λ c q. (n c).1 q) (n 0).2
  forest (fixpoint y v a) t ns e =
      let x : Node = fixpoint_node y v (last formula (fnt a t)) in
      let n = fixpoint_names y v (last formula (fnt a t)) in
      closed ns (length t.nodes) (fnt a t).nodes x (λ c. c ≡ last formula (fnt a t)) (forest a t ns (through (pushed (fnt a t).nodes x) e)) e (λ c h. (n c).0 h) (λ c q. (n c).1 q) (n 0).2

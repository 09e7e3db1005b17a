-- What a walk goes by and what it leaves of the cells, at kinds that follow one another; an entry from its
-- parts.
use Rattle.std.proofs.Common.{◌≡◌, ℕ, ◌+◌, ◌-◌, ◌*◌, ◌<◌, ◌≤◌, Bool, T, None, List, [], ◌∷◌, length, get_or}
use Rattle.std.proofs.Common.{refl, sym, ap, ◌∙◌, subst, inl, inr, arith}
use Rattle.std.specs.List.{slice_get}
use Rattle.std.proofs.lemmas.Bool.{cases_order}
use Rattle.families.specs.Families.{Family}
use Rattle.formulas.specs.Tables.{entry, parts, bound_variable, OneOf, Names, Binds, Under, itself}
use Rattle.formulas.specs.Sound.{Sound}
use Rattle.formulas.specs.declared.Expr.{Expr}
use Rattle.formulas.specs.declared.Node.{Node}
use Rattle.formulas.specs.declared.Node.TheVariants as nd
use Rattle.formulas.proofs.Trees.{under_top, under_part, under_le, parts_apart, nearest_part, nearest_out}
use Rattle.semantics.specs.Meaning.{Pairs}
use Rattle.semantics.specs.Evaluation.{Rows, SameRow, OthersSame, OnlyProducts, Composes, Begins, composed}
use Rattle.semantics.specs.Evaluation.{variable, fixpoint, EvaluatesAll, done, then}
use Rattle.product_sets.specs.Kinds.{SetsKept}
use Rattle.product_sets.specs.declared.kind.Kind.{Ghosts}
use Rattle.product_sets.proofs.Cells.{cell_at, same_read, in_same}
use Rattle.product_sets.proofs.Kept.{sets_kept_same, sets_kept_then}
use Rattle.checker.specs.Readings.{Agrees, Reads}
use Rattle.checker.specs.Walks.{rows, InRow, OnlyRow, Framed, WritesRow}
use Rattle.checker.specs.Gathered.{family_of, Gathered, Begun, Walked, Rounded, EntryRow}
use Rattle.checker.specs.declared.walk.Walk.{Walk}
use Rattle.checker.proofs.Places.{row_below, row_fits}
use Rattle.checker.proofs.Readings.{agrees_before, all_later, within_later}
use Rattle.checker.proofs.Tables.{sound_tables}

-- A row that was not written is as it was.
pub keep_row : {X : Type 0} (P : X → Type 0) (S : ℕ) (xs ys : List X) (m : ℕ)
    → ((s : ℕ) → s < S → slice_get ys (m * S + s) ≡ slice_get xs (m * S + s)) → InRow P S xs m → InRow P S
    ys m
keep_row P S xs ys m e h k d low high =
    let q : m * S + (k - m * S) ≡ k = omega arith in
    let alike : slice_get ys k ≡ slice_get xs k = subst (λ (i : ℕ). slice_get ys i ≡ slice_get xs i) q
    (e (k - m * S) (omega arith)) in
    subst P (sym (same_read xs ys k k d alike)) (h k d low high)

-- An entry is a constant, a connective or a modality.
abbrev pub IsComposed : Node → Type 0
IsComposed (nd.Variable v) = ⊥
IsComposed (nd.Least v c) = ⊥
IsComposed (nd.Greatest v c) = ⊥
IsComposed x = Unit {0}

composed_row : (F : Family) (es : List Expr) (ns : List Node) (before : Rows) (n : ℕ) (V : Pairs) (x : Node)
    → IsComposed x
    → EntryRow F es ns before n x V → Composes F es before x V
composed_row F es ns before n V nd.False i k = k
composed_row F es ns before n V nd.True i k = k
composed_row F es ns before n V (nd.Not c) i k = k
composed_row F es ns before n V (nd.Or c d) i k = k
composed_row F es ns before n V (nd.And c d) i k = k
composed_row F es ns before n V (nd.Diamond a e c) i k = k
composed_row F es ns before n V (nd.Box a e c) i k = k
composed_row F es ns before n V (nd.Variable v) i k = absurd i
composed_row F es ns before n V (nd.Least v c) i k = absurd i
composed_row F es ns before n V (nd.Greatest v c) i k = absurd i

pub is_free : (x : Node) → IsComposed x → (v : ℕ) → ¬ Binds v x
is_free (nd.Least w c) i v = absurd i
is_free (nd.Greatest w c) i v = absurd i
is_free x i v = λ b. b

-- What is known of an entry by its form.
pub by_form : (ns : List Node) (n : ℕ) (x : Node) → entry ns n ≡ x → IsComposed x →
    (parts (entry ns n) ≡ parts x) × IsComposed (entry ns n)
by_form ns n x e i = (ap parts e, subst IsComposed (sym e) i)

module _ {K X : Type 0} {g : Ghosts K X} (holds : K → X → Type 0) (means : K → X → ℕ → Bool)
    (w : Walk K X g) where
  abbrev F : Family
  F = family_of w.view

  abbrev es : List Expr
  es = w.tables.exprs.now

  abbrev ns : List Node
  ns = w.tables.nodes.now

  abbrev S : ℕ
  S = w.view.states

  sound : Sound es ns
  sound = sound_tables w.tables

  pub gathered_later : (a b : K) → SetsKept holds means a b → Gathered holds means a w → Gathered holds
      means b w
  gathered_later a b kept was = record {
    all = (kept w.all was.all).0;
    conditions = all_later holds means a b w.conditions.now kept was.conditions;
    satisfied = all_later holds means a b w.satisfied.now kept was.satisfied;
    meant = λ m agrees. was.meant m (agrees_before holds means a b m kept agrees);
  }

  -- Rows read alike by readings that agree with a kind.
  pub rows_agree : (k : K) (m : X → ℕ → Bool) (xs : List X) (n : ℕ) → Agrees holds means k m → InRow
      (holds k) S xs n → n * S + S ≤ length xs
      → SameRow F (rows m S xs n) (rows (means k) S xs n)
  rows_agree k m xs n agrees held room s p s< =
      let low : n * S + s < length xs = omega arith in
      let d : X = w.all in
      cell_at m xs (n * S + s) d p low ∙ agrees (get_or xs (n * S + s) d)
      (held (n * S + s) d (omega arith) (omega arith)) p
      ∙ sym (cell_at (means k) xs (n * S + s) d p low)

  -- What was written.
  row_others : (n : ℕ) (xs ys : List X) → OnlyRow S n xs ys → (m : ℕ) → ¬ (m ≡ n) → (s : ℕ) → s < S →
      slice_get ys (m * S + s) ≡ slice_get xs (m * S + s)
  row_others n xs ys o m ne s s< = elim (cases_order m n) [
    | inl e ↦ absurd (ne e)
    | inr (inl lt) ↦ o (m * S + s) (inl (omega (arith, row_below m n S lt)))
    | inr (inr gt) ↦ o (m * S + s) (inr (omega (arith, row_below n m S gt)))
  ]

  pub others_same : (mean : X → ℕ → Bool) (n : ℕ) (xs ys : List X) → OnlyRow S n xs ys → OthersSame F n
      (rows mean S xs) (rows mean S ys)
  others_same mean n xs ys o m ne s p s< = in_same mean xs ys (m * S + s) (m * S + s) p
      (row_others n xs ys o m ne s s<)

  pub framed_row : (n : ℕ) (xs ys : List X) → n < length ns → OnlyRow S n xs ys → Framed ns S n xs ys
  framed_row n xs ys n< o = record {
    beyond = λ i l. o i (inr (omega (arith, row_below n (length ns) S n<)));
    others = λ m s s< out. row_others n xs ys o m (λ e. out
        (subst (λ (z : ℕ). Under ns n z) (sym e) itself)) s s<;
  }

  pub framed_none : (n : ℕ) (xs : List X) → Framed ns S n xs xs
  framed_none n xs = record { beyond = λ i l. refl; others = λ m s s< out. refl }

  pub framed_then : (n : ℕ) (xs ys zs : List X) → Framed ns S n xs ys → Framed ns S n ys zs → Framed ns S n
      xs zs
  framed_then n xs ys zs f h = record {
    beyond = λ i l. h.beyond i l ∙ f.beyond i l;
    others = λ m s s< out. h.others m s s< out ∙ f.others m s s< out;
  }

  pub framed_part : (n c : ℕ) (xs ys : List X) → Names c (entry ns n) → Framed ns S c xs ys → Framed ns S n
      xs ys
  framed_part n c xs ys nc f = record {
    beyond = f.beyond;
    others = λ m s s< out. f.others m s s< (λ u. out (under_part ns sound.tree n c m nc u));
  }

  -- What a walk was begun with, for a part, and after what is under the entry was written.
  pub begun_part : (n c : ℕ) (k : K) (xs : List X) → Names c (entry ns n)
      → ((v : ℕ) → Binds v (entry ns n) → InRow (holds k) S xs n × Reads holds means k
      (λ m. OnlyProducts F (rows m S xs n)))
      → Begun holds means w n k xs → Begun holds means w c k xs
  begun_part n c k xs nc here was = record {
    inside = omega (arith, was.inside, sound.tree.lower n c nc);
    room = was.room;
    gathered = was.gathered;
    held = λ v b j near. elim (nearest_part ns sound.tree n c nc near) [
      | inl x ↦ subst (λ (z : ℕ). InRow (holds k) S xs z) (sym x.0) (here v x.1).0
      | inr x ↦ was.held v b x.1.0 x.1.1
    ];
    products = λ m agrees v b j near. elim (nearest_part ns sound.tree n c nc near) [
      | inl x ↦ subst (λ (z : ℕ). OnlyProducts F (rows m S xs z)) (sym x.0) ((here v x.1).1 m agrees)
      | inr x ↦ was.products m agrees v b x.1.0 x.1.1
    ];
  }

  pub begun_after : (n : ℕ) (a b : K) (xs ys : List X) → SetsKept holds means a b → Framed ns S n xs ys →
      length ys ≡ length xs
      → Begun holds means w n a xs → Begun holds means w n b ys
  begun_after n a b xs ys kept f long was = record {
    inside = was.inside;
    room = omega (arith, was.room);
    gathered = gathered_later a b kept was.gathered;
    held = λ v c j near.
        keep_row (holds b) S xs ys c (λ s s<. f.others c s s< (nearest_out ns sound.tree n n (omega arith)
        near))
        (within_later holds means a b xs (c * S) (c * S + S) kept (was.held v c j near));
    products = λ m agrees v c j near s p s< t.
        was.products m (agrees_before holds means a b m kept agrees) v c j near s p s<
        (subst T (in_same m xs ys (c * S + s) (c * S + s) p (f.others c s s<
        (nearest_out ns sound.tree n n (omega arith) near))) t);
  }

  -- There are cells for the row of the entry, and of its parts.
  pub own_room : (n : ℕ) (k : K) (xs : List X) → Begun holds means w n k xs → n * S + S ≤ length xs
  own_room n k xs begun = row_fits n (length ns) S (length xs) begun.inside begun.room

  pub part_room : (n c : ℕ) (k : K) (xs : List X) (x : Node) → Begun holds means w n k xs → entry ns n ≡ x →
      Names c x → c * S + S ≤ length xs
  part_room n c k xs x begun e nc =
      let low : c < n = sound.tree.lower n c (subst (λ (y : Node). Names c y) (sym e) nc) in
      row_fits c (length ns) S (length xs) (omega (arith, begun.inside)) begun.room

  -- The rows of the parts are held.
  abbrev PartsHeld : ℕ → K → List X → Type 0
  PartsHeld n k xs = bound_variable (entry ns n) ≡ None → (c : ℕ) → Names c (entry ns n) → InRow (holds k) S
      xs c

  pub part_read : (n c : ℕ) (k : K) (xs : List X) (x : Node) → PartsHeld n k xs → entry ns n ≡ x →
      bound_variable x ≡ None → Names c x → InRow (holds k) S xs c
  part_read n c k xs x parts e nb nc = parts (ap bound_variable e ∙ nb) c
      (subst (λ (y : Node). Names c y) (sym e) nc)

  -- The parts of entry n were evaluated one after the other.
  pub record WalkedAll (n : ℕ) (cs : List ℕ) (old : K) (xs : List X) (new : K) (ys : List X) : Type 0 where
    pub held : (c : ℕ) → OneOf cs c → (m : ℕ) → Under ns c m → InRow (holds new) S ys m
    pub evaluated : Reads holds means new (λ m. EvaluatesAll F es ns (rows m S xs) (rows m S ys) cs)
    pub framed : Framed ns S n xs ys
    pub kept : SetsKept holds means old new

  pub walked_none : (n : ℕ) (k : K) (xs : List X) → WalkedAll n [] k xs k xs
  walked_none n k xs = record {
    held = λ c oc. absurd oc;
    evaluated = λ m agrees. done;
    framed = framed_none n xs;
    kept = sets_kept_same holds means k;
  }

  pub walked_one : (n c : ℕ) (a b : K) (xs ys : List X) → Names c (entry ns n) → Walked holds means w c a xs
      b ys → WalkedAll n (c ∷ []) a xs b ys
  walked_one n c a b xs ys nc x = record {
    held = λ d e m u. x.held m (subst (λ (z : ℕ). Under ns z m) e u);
    evaluated = λ m agrees. then (x.evaluated m agrees) done;
    framed = framed_part n c xs ys nc x.framed;
    kept = x.kept;
  }

  pub walked_two : (n c d : ℕ) (k1 k2 k3 : K) (xs ys zs : List X) → Names c (entry ns n) → Names d
      (entry ns n) → ¬ (c ≡ d)
      → Walked holds means w c k1 xs k2 ys → Walked holds means w d k2 ys k3 zs → WalkedAll n (c ∷ d ∷ [])
      k1 xs k3 zs
  walked_two n c d k1 k2 k3 xs ys zs nc md ne x y = record {
    held = λ e oe m u. elim oe [
      | inl q ↦ keep_row (holds k3) S ys zs m (λ s s<. y.framed.others m s s<
          (parts_apart ns sound.tree n c d m nc md ne (subst (λ (z : ℕ). Under ns z m) q u)))
          (within_later holds means k2 k3 ys (m * S) (m * S + S) y.kept
          (x.held m (subst (λ (z : ℕ). Under ns z m) q u)))
      | inr q ↦ y.held m (subst (λ (z : ℕ). Under ns z m) q u)
    ];
    evaluated = λ m agrees. then (x.evaluated m (agrees_before holds means k2 k3 m y.kept agrees))
        (then (y.evaluated m agrees) done);
    framed = framed_then n xs ys zs (framed_part n c xs ys nc x.framed) (framed_part n d ys zs md y.framed);
    kept = sets_kept_then holds means k1 k2 k3 x.kept y.kept;
  }

  -- An entry was evaluated once its parts were, and its own row was written from theirs.
  pub walked_composed : (n : ℕ) (k1 k2 k3 : K) (xs ys zs : List X) → n < length ns → IsComposed (entry ns n)
      → WalkedAll n (parts (entry ns n)) k1 xs k2 ys → WritesRow holds means S n k2 ys k3 zs
      → Reads holds means k3 (λ m. EntryRow F es ns (rows m S ys) n (entry ns n) (rows m S zs n)) → Walked
      holds means w n k1 xs k3 zs
  walked_composed n k1 k2 k3 xs ys zs n< is all writes value = record {
    held = λ m u. elim (under_top ns sound.tree n m u) [
      | inl e ↦ subst (λ (z : ℕ). InRow (holds k3) S zs z) e writes.held
      | inr x ↦ keep_row (holds k3) S ys zs m
          (λ s s<. row_others n ys zs writes.others m (λ e. omega
          (arith, under_le ns sound.tree x.0 m x.2, sound.tree.lower n x.0 x.1)) s s<)
          (within_later holds means k2 k3 ys (m * S) (m * S + S) writes.kept (all.held x.0 x.1 m x.2))
    ];
    evaluated = λ m agrees.
        composed (all.evaluated m (agrees_before holds means k2 k3 m writes.kept agrees))
        (composed_row F es ns (rows m S ys) n (rows m S zs n) (entry ns n) is (value m agrees))
        (others_same m n ys zs writes.others);
    framed = framed_then n xs ys zs all.framed (framed_row n ys zs n< writes.others);
    kept = sets_kept_then holds means k1 k2 k3 all.kept writes.kept;
  }

  pub walked_variable : (n v : ℕ) (a b : K) (xs ys : List X) → n < length ns → entry ns n ≡ nd.Variable v →
      WritesRow holds means S n a xs b ys
      → Reads holds means b (λ m. EntryRow F es ns (rows m S xs) n (entry ns n) (rows m S ys n)) → Walked
      holds means w n a xs b ys
  walked_variable n v a b xs ys n< e writes value = record {
    held = λ m u. elim (under_top ns sound.tree n m u) [
      | inl q ↦ subst (λ (z : ℕ). InRow (holds b) S ys z) q writes.held
      | inr x ↦ absurd (subst (λ (y : Node). Names x.0 y) e x.1)
    ];
    evaluated = λ m agrees.
        (let x = subst (λ (y : Node). EntryRow F es ns (rows m S xs) n y (rows m S ys n)) e (value m agrees)
        in
        variable e x.2 x.3 (others_same m n xs ys writes.others));
    framed = framed_row n xs ys n< writes.others;
    kept = writes.kept;
  }

  -- A fixpoint, once its start was written, by its rounds.
  pub walked_fixpoint : (n c : ℕ) (k1 k2 k3 : K) (xs ys zs : List X) → n < length ns → Names c (entry ns n)
      → WritesRow holds means S n k1 xs k2 ys
      → Reads holds means k2 (λ m. Begins F (entry ns n) (rows m S ys n)) → Rounded holds means w n c k2 ys
      k3 zs → Walked holds means w n k1 xs k3 zs
  walked_fixpoint n c k1 k2 k3 xs ys zs n< nc writes begins rounds = record {
    held = rounds.held;
    evaluated = λ m agrees.
        (let before = agrees_before holds means k2 k3 m rounds.kept agrees in
        let x = rounds.rounds m agrees in
        fixpoint nc (begins m before) (others_same m n xs ys writes.others) x.1 x.2 x.3);
    framed = framed_then n xs ys zs (framed_row n xs ys n< writes.others) rounds.framed;
    kept = sets_kept_then holds means k1 k2 k3 writes.kept rounds.kept;
  }

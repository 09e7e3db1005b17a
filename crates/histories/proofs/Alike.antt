-- Products that are alike have equal columns.
use Rattle.std.proofs.Common.{◌≡◌, ℕ, zero, suc, ◌+◌, ◌*◌, ◌/◌, ◌%◌, ◌<◌, Bool, true, false, ◌↔◌, IsSome}
use Rattle.std.proofs.Common.{List, [], ◌∷◌, length, get_or, Option, Some, None}
use Rattle.std.proofs.Common.{sym, ap, ◌∙◌, subst, refl, inl, inr, mod-lt, arith}
use mathlib.Core.Bool.{beq, Bool-set}
use mathlib.Core.HLevel.{collapsible→set}
use mathlib.Core.List.{is_set as List-set}
use Rattle.std.specs.Bool.{Decides}
use Rattle.std.specs.Option.{option_map, option_and_then}
use Rattle.std.proofs.Math.Logic.{∥∥₁_elim, ∥∥₁_prop}
use Rattle.std.proofs.Math.Nat.{div-lt_iff_lt-mul}
use Rattle.std.proofs.lemmas.Bool.{cases_lt}
use Rattle.std.proofs.lemmas.Nat.{div-add-mod'}
use Rattle.std.proofs.lemmas.List.{ext_get_or}
use Rattle.std.proofs.lemmas.Option.{none-some, same_Some, unwrap_or-slice_get, slice_get_past}
use Rattle.families.specs.Families.{Family, count, config}
use Rattle.families.proofs.Tests.{same_test}
use Rattle.formulas.specs.Tables.{Tree}
use Rattle.formulas.specs.declared.Expr.{Expr}
use Rattle.formulas.specs.declared.Node.{Node}
use Rattle.semantics.specs.Meaning.{projection, system_of}
use Rattle.semantics.specs.Entries.{EntryHolds}
use Rattle.semantics.specs.Laws.{Like}
use Rattle.semantics.proofs.Entries.{extensional_entries}
use Rattle.histories.specs.declared.table.Table.{Table}
use Rattle.histories.specs.declared.columns.Column.{Column}
use Rattle.histories.specs.Tables.{column, holds, IsPlainTable}
use Rattle.histories.specs.Columns.{table_of_column, answers, ledger_of, IsColumnOf, ColumnLaw, Compares}
use Rattle.histories.proofs.Tables.{T-IsTrue, answer_in, holds_within}

-- Plain checking of products that are alike gives the same at every entry and state.
entry_alike : (F G : Family) (i j : ℕ) → Like F i G j
    → (es : List Expr) (ns : List Node) → Tree ns → (n s : ℕ)
    → EntryHolds (projection F i) (config F i) es ns n s ↔ EntryHolds (projection G j) (config G j) es ns n s
entry_alike F G i j like es ns tree n s =
    let T : ℕ → Type 0 =
    λ k. EntryHolds (projection F i) (config F i) es ns n s
    ↔ EntryHolds (system_of k G.transitions (config G j)) (config G j) es ns n s in
    subst T like.0
    (extensional_entries F.states F.transitions G.transitions (config F i) (config G j) like.1 like.2
    es ns tree n s)

-- A column that has a length is there.
found : (o : Option (List Bool)) (m : ℕ) → option_map length o ≡ Some m
    → (xs : List Bool) × (o ≡ Some xs) × (length xs ≡ m)
found None m e = absurd (none-some m e)
found (Some xs) m e = (xs, refl, same_Some (length xs) m e)

-- What a column says of an entry and a state.
column_at : (t : Table) (p : ℕ) (xs : List Bool) (states n s : ℕ) → column t p ≡ Some xs → t.states ≡ states
    → n < t.entries → s < states → holds t n s p ≡ get_or xs (n * states + s) false
column_at t p xs states n s e same n< s< =
    holds_within t n s p n< (subst (λ (k : ℕ). s < k) (sym same) s<)
    ∙ ap (λ o. answer_in o (n * t.states + s)) e
    ∙ ap (λ (k : ℕ). answer_in (Some xs) (n * k + s)) same
    ∙ unwrap_or-slice_get xs (n * states + s) false

positive : (e s k : ℕ) → k < e * s → 0 < s
positive e zero k h = absurd (omega arith)
positive e (suc s) k h = omega arith

module _ (F G : Family) (es : List Expr) (ns : List Node) (t u : Table) (i j : ℕ)
    (i< : i < count F) (j< : j < count G) (like : Like F i G j)
    (one : IsPlainTable F es ns t) (other : IsPlainTable G es ns u) where
  holds_alike : (n s : ℕ) → n < length ns → s < F.states → holds t n s i ≡ holds u n s j
  holds_alike n s n< s< =
      let a = one.plain n s i n< s< in
      let b = other.plain n s j n< (subst (λ (k : ℕ). s < k) like.0 s<) in
      let same = entry_alike F G i j like es ns one.sound.tree n s in
      same_test _ _ (
        λ h. (T-IsTrue _).1 (b.1 (j<, same.0 (a.0 ((T-IsTrue _).0 h)).1)),
        λ h. (T-IsTrue _).1 (a.1 (i<, same.1 (b.0 ((T-IsTrue _).0 h)).1)),
      )

  columns_alike : column t i ≡ column u j
  columns_alike =
      let S = F.states in
      let x = found (column t i) (length ns * S) (one.sized i i<) in
      let y = found (column u j) (length ns * S)
      (other.sized j j< ∙ ap (λ (k : ℕ). Some (length ns * k)) (sym like.0)) in
      let at : (k : ℕ) → k < length x.0 → get_or x.0 k false ≡ get_or y.0 k false =
      λ k k<. (
      let within : k < length ns * S = subst (λ (m : ℕ). k < m) x.2 k< in
      let s< = positive (length ns) S k within in
      let n< = (div-lt_iff_lt-mul s<).1 within in
      let in_one = subst (λ (m : ℕ). k / S < m) (sym one.entries) n< in
      let in_other = subst (λ (m : ℕ). k / S < m) (sym other.entries) n< in
      let row = div-add-mod' k S in
      ap (λ m. get_or x.0 m false) (sym row)
      ∙ sym (column_at t i x.0 S (k / S) (k % S) x.1 one.states in_one (mod-lt k s<))
      ∙ holds_alike (k / S) (k % S) n< (mod-lt k s<)
      ∙ column_at u j y.0 S (k / S) (k % S) y.1 (other.states ∙ sym like.0) in_other (mod-lt k s<)
      ∙ ap (λ m. get_or y.0 m false) row
      ) in
      x.1 ∙ ap Some (ext_get_or false x.0 y.0 (x.2 ∙ sym y.2) at) ∙ sym y.1

-- Two columns are equal in one way.
listed : Option (List Bool) → List (List Bool)
listed None = []
listed (Some xs) = xs ∷ []

listed_once : (x y : Option (List Bool)) → listed x ≡ listed y → x ≡ y
unfolding listed
listed_once None None e = refl
listed_once None (Some ys) e = absurd (cc)
listed_once (Some xs) None e = absurd (cc)
listed_once (Some xs) (Some ys) e = ap Some (cc)

one_way : (x y : Option (List Bool)) → IsProp (x ≡ y)
one_way = collapsible→set (λ x y e. listed_once x y (ap listed e))
    (λ x y e f.
    ap (listed_once x y) (List-set (List-set Bool-set) (listed x) (listed y) (ap listed e) (ap listed f)))

-- The table of a column in an accepted check of these tables.
module _ (c : Column) (es : List Expr) (ns : List Node) (of : IsColumnOf c es ns) where
  its_table : (t : Table) × (table_of_column c ≡ Some t)
  its_table = go (table_of_column c) of.accepted
    where
      go : (o : Option Table) → IsSome o → (t : Table) × (o ≡ Some t)
      go None h = absurd (cc)
      go (Some t) h = (t, refl)

  its_answers : answers c ≡ column its_table.0 c.product
  its_answers = ap (λ o. option_and_then (λ t. column t c.product) o) its_table.1

  is_plain : ∥ IsPlainTable (ledger_of c) es ns its_table.0 ∥₁
  is_plain = ∥∥₁_elim c.log.now.plain ∥∥₁_prop (λ plain. ∣
      subst (λ (xs : List Node). IsPlainTable (ledger_of c) es xs its_table.0) of.same_nodes
      (subst (λ (xs : List Expr). IsPlainTable (ledger_of c) xs of.nodes.now its_table.0) of.same_exprs
      (plain c.position of.exprs of.nodes its_table.0 of.call its_table.1)) ∣₁)

pub column_law : (one other : Column) → ColumnLaw one other
column_law one other es ns a b like =
    its_answers one es ns a
    ∙ ∥∥₁_elim (is_plain one es ns a) (one_way _ _) (λ p.
    ∥∥₁_elim (is_plain other es ns b) (one_way _ _) (λ q.
    columns_alike (ledger_of one) (ledger_of other) es ns
    (its_table one es ns a).0 (its_table other es ns b).0
    one.product other.product a.product b.product like p q))
    ∙ sym (its_answers other es ns b)

pub Decides-beq : (a b : Bool) → Decides (beq a b) (a ≡ b)
Decides-beq true true = (λ _. refl, λ _. refl)
Decides-beq true false = (λ e. absurd (cc), λ e. absurd (cc))
Decides-beq false true = (λ e. absurd (cc), λ e. absurd (cc))
Decides-beq false false = (λ _. refl, λ _. refl)

column_within : (t : Table) (p : ℕ) (xs : List Bool) → Some xs ≡ column t p → p < length t.columns.items
column_within t p xs e = elim (cases_lt p (length t.columns.items)) [
  | inl p< ↦ p<
  | inr p≥ ↦ (
      let past = ap (option_map (λ answers. answers.items)) (slice_get_past t.columns.items p p≥) in
      absurd (none-some xs (sym past ∙ sym e))
      )
]

answers_found : (c : Column) (t : Table) (xs : List Bool)
    → Some t ≡ table_of_column c → Some xs ≡ column t c.product
    → answers c ≡ Some xs
answers_found c t xs e f = ap (λ o. option_and_then (λ u. column u c.product) o) (sym e) ∙ sym f

-- Two columns that were found are compared by a test of their answers.
pub compared : (one other : Column) (t u : Table) (xs ys : List Bool)
    → Some t ≡ table_of_column one → Some u ≡ table_of_column other
    → Some xs ≡ column t one.product → Some ys ≡ column u other.product
    → t.entries ≡ u.entries → t.states ≡ u.states
    → (same : Bool) → Decides same (xs ≡ ys) → Compares one other (Some same)
compared one other t u xs ys is_t is_u is_xs is_ys entries states same decides =
    let a = answers_found one t xs is_t is_xs in
    let b = answers_found other u ys is_u is_ys in (
      record {
        table = t;
        other_table = u;
        is_table = sym is_t;
        is_other = sym is_u;
        entries = entries;
        states = states;
        product = column_within t one.product xs is_xs;
        other_product = column_within u other.product ys is_ys;
      },
      (λ h. a ∙ ap Some (decides.0 h) ∙ sym b, λ e. decides.1 (same_Some xs ys (sym a ∙ e ∙ b))),
    )

-- From what a check leaves in the cells to the table that is read from them.
use Rattle.std.proofs.Common.{◌≡◌, ◌≢◌, ℕ, zero, suc, ◌+◌, ◌*◌, ◌<◌, ◌≤◌, Bool, true, false, ◌&&◌, T, ◌↔◌}
use Rattle.std.proofs.Common.{IsTrue}
use Rattle.std.proofs.Common.{List, [], ◌∷◌, length, nat_lt, map, take, Option, Some, None}
use Rattle.std.proofs.Common.{refl, sym, ap, ◌∙◌, subst, inl, inr, add-zero, arith}
use Rattle.std.specs.List.{slice_get}
use Rattle.std.specs.Option.{option_map, option_map_or, option_and_then, unwrap_or}
use Rattle.std.proofs.lemmas.Bool.{cases_lt, lt-ltb, both_ways}
use Rattle.std.proofs.lemmas.List.{length-map, length-take-le}
use Rattle.std.proofs.lemmas.Option.{slice_get-map, slice_get_past}
use Rattle.families.specs.Families.{Family, count}
use Rattle.formulas.specs.Tables.{last}
use Rattle.formulas.specs.Sound.{Sound}
use Rattle.formulas.specs.declared.Expr.{Expr}
use Rattle.formulas.specs.declared.Node.{Node}
use Rattle.semantics.specs.Entries.{Filled, no_pairs}
use Rattle.semantics.proofs.Entries.{entries_hold}
use Rattle.product_sets.specs.Cells.{in_cell}
use Rattle.semantics.specs.Evaluation.{OnlyProducts}
use Rattle.checker.specs.Walks.{rows}
use Rattle.checker.specs.Checks.{how_many, Answered, refused_tables, too_many_products, too_few_cells}
use Rattle.checker.specs.Checks as check
use Rattle.checker.specs.CheckLaw.{CheckLaw}
use Rattle.checker.proofs.Answering.{how_many_same, answered_sound}
use Rattle.checker.proofs.Places.{row_below}
use Rattle.histories.specs.declared.table.Table.{Table}
use Rattle.histories.specs.declared.log.Reply.TheVariants.{Answer, Checked}
use Rattle.histories.specs.Logs.{IsReplyToCheck, refused, accepted}
use Rattle.histories.specs.Tables.{column, holds, Reads, IsPlainTable}

pub T-IsTrue : (b : Bool) → T b ↔ IsTrue b
T-IsTrue true = (λ _. refl, λ _. tt)
T-IsTrue false = (λ h. absurd h, λ e. absurd (cc))

-- What stands in the first part of a list.
slice_get-take : {X : Type 0} (n : ℕ) (xs : List X) (i : ℕ) → i < n → slice_get (take n xs) i ≡ slice_get xs i
slice_get-take zero xs i h = absurd (omega arith)
slice_get-take (suc n) [] i h = refl
slice_get-take (suc n) (x ∷ xs) zero h = refl
slice_get-take (suc n) (x ∷ xs) (suc i) h = slice_get-take n xs i (omega arith)

unwrap_or-map : {X : Type 0} (f : X → Bool) (o : Option X)
    → unwrap_or (option_map f o) false ≡ option_map_or f o false
unwrap_or-map f None = refl
unwrap_or-map f (Some x) = refl

-- What is read from a cell is what the cell says.
read_cell : {X : Type 0} (f : X → Bool) (n : ℕ) (cells : List X) (i : ℕ) → i < n
    → unwrap_or (slice_get (map f (take n cells)) i) false ≡ option_map_or f (slice_get cells i) false
read_cell f n cells i h =
    ap (λ o. unwrap_or o false) (slice_get-map f (take n cells) i)
    ∙ unwrap_or-map f (slice_get (take n cells) i)
    ∙ ap (λ o. option_map_or f o false) (slice_get-take n cells i h)

-- An answer in a column, if there is one.
abbrev pub answer_in : Option (List Bool) → ℕ → Bool
answer_in answers i = unwrap_or (option_and_then (λ xs. slice_get xs i) answers) false

-- Within the table the column alone counts.
pub holds_within : (t : Table) (n s p : ℕ) → n < t.entries → s < t.states
    → holds t n s p ≡ answer_in (column t p) (n * t.states + s)
holds_within t n s p n< s< =
    ap (λ b. b && (nat_lt s t.states && answer_in (column t p) (n * t.states + s))) (lt-ltb n t.entries n<)
    ∙ ap (λ b. b && answer_in (column t p) (n * t.states + s)) (lt-ltb s t.states s<)

module _ {X : Type 0} (mean : X → ℕ → Bool) (cells : List X) (F : Family) (entries : ℕ) (t : Table)
    (read : Reads F entries mean cells t) where
  holds_product : (n s p : ℕ) → n < entries → s < F.states → p < count F
      → holds t n s p ≡ in_cell mean cells (n * F.states + s) p
  holds_product n s p n< s< p< =
      holds_within t n s p (omega (arith, read.entries)) (omega (arith, read.states))
      ∙ ap (λ answers. answer_in answers (n * t.states + s)) (read.columns p p<)
      ∙ ap (λ k. answer_in (Some (map (λ set. mean set p) (take (entries * F.states) cells))) (n * k + s))
      read.states
      ∙ read_cell (λ set. mean set p) (entries * F.states) cells (n * F.states + s)
      (omega (arith, row_below n entries F.states n<))

  holds_no_product : (n s p : ℕ) → n < entries → s < F.states → count F ≤ p → holds t n s p ≡ false
  holds_no_product n s p n< s< p≥ =
      holds_within t n s p (omega (arith, read.entries)) (omega (arith, read.states))
      ∙ ap (λ o. answer_in (option_map (λ answers. answers.items) o) (n * t.states + s))
      (slice_get_past t.columns.items p (omega (arith, read.products)))

  -- After an accepted check this is plain checking.
  plain_table : (es : List Expr) (ns : List Node) → entries ≡ length ns → Sound es ns
      → entries * F.states ≤ length cells
      → Filled F es ns (rows mean F.states cells) no_pairs (last ns)
      → ((n : ℕ) → n < length ns → OnlyProducts F (rows mean F.states cells n)) → IsPlainTable F es ns t
  plain_table es ns e sound room filled products = record {
    sound = sound;
    entries = read.entries ∙ e;
    states = read.states;
    products = read.products;
    sized = λ p p<.
        ap (option_map length) (read.columns p p<)
        ∙ ap Some
        (length-map _ _ ∙ length-take-le (entries * F.states) cells room ∙ ap (λ k. k * F.states) e);
    plain = λ n s p n< s<. elim (cases_lt p (count F)) [
      | inl p< ↦ (
          let same = holds_product n s p (omega (arith, e)) s< p< in
          let R = rows mean F.states cells in
          let meaning = entries_hold F es ns sound.tree R filled n (sound.whole n n<) s p s< p< in (
            λ h. (p<, meaning.0 ((T-IsTrue _).1 (sym same ∙ h))),
            λ h. same ∙ (T-IsTrue _).0 (meaning.1 h.1),
          )
          )
      | inr p≥ ↦ (
        λ h. absurd (both_ways _ (holds_no_product n s p (omega (arith, e)) s< p≥) h),
        λ h. absurd (omega (arith, h.0)),
      )
    ];
  }

-- The value of a check counts products alone.
module _ (F : Family) (es : List Expr) (ns : List Node) {places cells : ℕ} where
  counted_by : {whole : ℕ → Bool} (whole' : ℕ → Bool) {number value : ℕ}
      → Answered F es ns places cells whole number value
      → (number ≡ 0 → (p : ℕ) → p < count F → whole p ≡ whole' p)
      → Answered F es ns places cells whole' number value
  counted_by whole' (refused_tables j n) same = refused_tables j n
  counted_by whole' (too_many_products s l) same = too_many_products s l
  counted_by whole' (too_few_cells s p l) same = too_few_cells s p l
  counted_by {whole} whole' (check.accepted s p l) same =
      subst (λ (v : ℕ). Answered F es ns places cells whole' 0 v)
      (sym (how_many_same (count F) whole whole' (same refl))) (check.accepted s p l)

-- A check of a book, by its law.
module _ {K S : Type 0} (means : K → S → ℕ → Bool) (places : ℕ) (F : Family) (es : List Expr) (ns : List Node)
    (kind kind' : K) (cells cells' : List S) (number value : ℕ)
    (law : CheckLaw means places F es ns kind cells kind' cells' number value) where
  -- which products have the last entry in state 0
  whole : ℕ → Bool
  whole = in_cell (means kind') cells' (last ns * F.states)

  pub refused_reply : number ≢ 0 → IsReplyToCheck places (length cells) F es ns (Answer number value)
  unfolding whole
  refused_reply off =
      refused off (counted_by F es ns {whole = whole} (λ p. false) law.answer (λ ok. absurd (off ok)))

  pub accepted_reply : (t : Table) → 1 ≤ F.states → length cells' ≡ length cells → number ≡ 0
      → Reads F (length ns) (means kind') cells' t
      → IsReplyToCheck places (length cells) F es ns (Checked value t)
  unfolding whole
  accepted_reply t some long ok read =
      let sound = answered_sound F es ns {whole = whole} law.answer ok in
      let plain = plain_table (means kind') cells' F (length ns) t read es ns refl sound
      (omega (arith, law.room ok, long)) (law.filled ok) (law.products ok) in
      let at_last = holds_product (means kind') cells' F (length ns) t read (last ns) 0 in
      let same : (p : ℕ) → p < count F → whole p ≡ holds t (last ns) 0 p =
      λ p p<. (ap (λ i. in_cell (means kind') cells' i p) (sym (add-zero (last ns * F.states)))
      ∙ sym (at_last p (omega (arith, sound.some)) (omega (arith, some)) p<)) in
      let counted = counted_by F es ns {whole = whole} (holds t (last ns) 0) law.answer (λ _. same) in
      let T : ℕ → Type 0 = λ k. Answered F es ns places (length cells) (holds t (last ns) 0) k value in
      accepted plain (subst T ok counted)

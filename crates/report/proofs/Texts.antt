-- From what reading a text gives to the answer to the text.
use Rattle.std.proofs.Common.{◌≡◌, ℕ, suc, ◌-◌, ◌≤◌, List, ◌++◌, length, take, replicate, IfOk, Ok, Err, Result, sym, refl, ◌∙◌, subst, inl, inr, arith}
use Rattle.std.proofs.lemmas.List.{take_at}
use Rattle.families.specs.Families.{Family}
use Rattle.formulas.specs.Trees.{Formula}
use Rattle.formulas.specs.Tables.{formula_at, last}
use Rattle.formulas.specs.declared.Expr.{Expr}
use Rattle.formulas.specs.declared.Expr.TheVariants as ex
use Rattle.formulas.specs.declared.Node.{Node}
use Rattle.formulas.specs.declared.Node.TheVariants as nd
use Rattle.words.specs.Words.{number}
use Rattle.grammar.specs.Grammar.{Tree}
use Rattle.reader.specs.Numbering.{none_entered}
use Rattle.reader.specs.Outcome.{numbering, Formed, Tried, long_text, no_words, no_token, no_formula, unknown_name, too_many, accepted, Reading, short_table, tried}
use Rattle.reader_laws.specs.Results.{formula_of}
use Rattle.reader_laws.proofs.Extends.{same}
use Rattle.reader_laws.proofs.Back.{formula_back}
use Rattle.report.specs.Answers.{Outcome, Derives, Checked, Answer, read}

-- Reading into tables of 64 entries, with word lists that are these.
pub tried_of : {text xs ys actions features : List ℕ} {es fs : List Expr} {ns ms : List Node} {k v : ℕ} → xs ≡ actions → ys ≡ features
    → length es ≡ 64 → length ns ≡ 64 → Reading text xs ys es ns k v fs ms → Tried text actions features 64 64 k v fs ms
tried_of {text} {xs} {ys} {actions} {features} {es} {fs} {ns} {ms} {k} {v} a b e f (tried g h t) =
    subst (λ (z : List ℕ). Tried text z features 64 64 k v fs ms) a
    (subst (λ (z : List ℕ). Tried text xs z 64 64 k v fs ms) b
    (subst (λ (n : ℕ). Tried text xs ys n 64 k v fs ms) e (subst (λ (m : ℕ). Tried text xs ys (length es) m k v fs ms) f t)))
tried_of a b e f (short_table (inl h)) = absurd (omega arith)
tried_of a b e f (short_table (inr h)) = absurd (omega arith)

-- What holds of a result that was made.
pub made_so : {X Y : Type 0} {P Q : X → Type 0} (r : Result X Y) → ((x : X) → P x → Q x) → IfOk r P → IfOk r Q
made_so (Ok x) f p = f x p
made_so (Err y) f p = tt

-- An accepted text has at most 64 entries.
pub few_read : {text actions features : List ℕ} {fs : List Expr} {ms : List Node} {k v : ℕ} → k ≡ 0 → Tried text actions features 64 64 k v fs ms → v ≤ 64
few_read e (long_text h) = absurd (omega arith)
few_read e (no_words h i) = absurd (omega arith)
few_read e (no_token av fv p h i) = absurd (omega arith)
few_read e (no_formula av fv ts rest h i j) = absurd (omega arith)
few_read e (unknown_name av fv f p ps h i) = absurd (omega arith)
few_read e (too_many av fv f h i j) = absurd (omega arith)
few_read e (accepted av fv f formed none few_nodes few_exprs) = few_nodes

module _ (F : Family) (text actions features : List ℕ) where
  -- The first entries of the tables of an accepted text, read back, are the formula that the text derives.
  module _ (av fv : List (List ℕ)) (f : Tree) (formed : Formed text actions features av fv f) where
    abbrev es : List Expr
    es = (numbering av fv f).exprs ++ replicate (64 - length (numbering av fv f).exprs) ex.False

    abbrev φ : Formula
    φ = formula_of (number av) (number fv) f

    derives : Derives text actions features φ
    derives = record { action_names = av; feature_names = fv; tree = f; formed = formed; is = refl }

    read_back : formula_at es (numbering av fv f).nodes (last (numbering av fv f).nodes) ≡ φ
    read_back =
        formula_back (number av) (number fv) f none_entered es (numbering av fv f).nodes (suc (last (numbering av fv f).nodes))
        (record { rest = replicate (64 - length (numbering av fv f).exprs) ex.False; is = refl }) (same (numbering av fv f).nodes) (omega arith)

  -- What is answered to these tables is answered to the text.
  pub answer_read : {fs : List Expr} {ms : List Node} {k v : ℕ} → k ≡ 0 → Tried text actions features 64 64 k v fs ms → (part : List Node) → part ≡ take v ms
      → (o : Outcome) → Checked F fs part (formula_at fs part (last part)) o → Answer F actions features text o
  answer_read e (long_text h) part is o checked = absurd (omega arith)
  answer_read e (no_words h i) part is o checked = absurd (omega arith)
  answer_read e (no_token av fv p h i) part is o checked = absurd (omega arith)
  answer_read e (no_formula av fv ts rest h i j) part is o checked = absurd (omega arith)
  answer_read e (unknown_name av fv f p ps h i) part is o checked = absurd (omega arith)
  answer_read e (too_many av fv f h i j) part is o checked = absurd (omega arith)
  answer_read e (accepted av fv f formed none few_nodes few_exprs) part is o checked =
      let ns : List Node = (numbering av fv f).nodes in
      let front : take (length ns) (ns ++ replicate (64 - length ns) nd.False) ≡ ns = take_at ns (replicate (64 - length ns) nd.False) (length ns) refl in
      let whole : Checked F (es av fv f formed) ns (formula_at (es av fv f formed) ns (last ns)) o =
      subst (λ (p : List Node). Checked F (es av fv f formed) p (formula_at (es av fv f formed) p (last p)) o) (is ∙ front) checked in
      read (φ av fv f formed) (accepted av fv f formed none few_nodes few_exprs) (derives av fv f formed)
      (subst (λ (p : List Node). Checked F (es av fv f formed) p (φ av fv f formed) o) (sym front)
      (subst (λ (ψ : Formula). Checked F (es av fv f formed) ns ψ o) (read_back av fv f formed) whole))

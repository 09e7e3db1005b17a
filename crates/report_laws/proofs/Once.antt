-- A text has one answer.
use Rattle.std.proofs.Common.{◌≡◌, ℕ, ◌<◌, Bool, false, List, length, get_or, take, sym, refl, ap, ◌∙◌, subst, arith}
use mathlib.Core.Logic.Iff
use Rattle.std.proofs.lemmas.List.{same_lists, get_or_default}
use Rattle.families.specs.Families.{Family, count}
use Rattle.families.proofs.Tests.{same_test}
use Rattle.formulas.specs.Trees.{Formula}
use Rattle.formulas.specs.declared.Expr.{Expr}
use Rattle.formulas.specs.declared.Node.{Node}
use Rattle.formulas.proofs.One.{one_judgement, accepts_sound}
use Rattle.words.specs.Words.{number}
use Rattle.grammar.specs.Grammar.{FormulaOf}
use Rattle.grammar.proofs.Prefix.{unambiguous}
use Rattle.reader_laws.specs.Results.{formula_of}
use Rattle.reader_laws.proofs.Same.{same_tokens}
use Rattle.reader_laws.proofs.One.{same_names, one}
use Rattle.report.specs.Answers.{Outcome, digits, refused, Derives, Digits, Checked, unsound, crowded, answered, unread, read}
use Rattle.report.specs.Lines.{written}
use Rattle.report_laws.specs.Laws.{OneOutcome, OneLine}

-- A text derives one formula.
pub one_formula : (text actions features : List ℕ) (φ ψ : Formula) → Derives text actions features φ → Derives text actions features ψ → φ ≡ ψ
one_formula text actions features φ ψ a b =
    let x = same_names 64 actions a.action_names b.action_names a.formed.fit.action_list b.formed.fit.action_list in
    let y = same_names 16 features a.feature_names b.feature_names a.formed.fit.feature_list b.formed.fit.feature_list in
    let t = same_tokens text b.formed.lexed a.formed.lexed refl in
    let z = unambiguous a.formed.tokens a.tree b.tree a.formed.derived (subst (λ ts. FormulaOf ts b.tree) t b.formed.derived) in
    a.is ∙ ap (λ k. formula_of (number k) (number a.feature_names) a.tree) x
    ∙ ap (λ k. formula_of (number b.action_names) (number k) a.tree) y
    ∙ ap (formula_of (number b.action_names) (number b.feature_names)) z ∙ sym b.is

one_digits : (F : Family) (φ : Formula) (ds es : List Bool) → Digits F φ ds → Digits F φ es → ds ≡ es
one_digits F φ ds es a b = same_lists ds es (a.0 ∙ sym b.0) each
  where
    each : (p : ℕ) (d : Bool) → p < length ds → get_or ds p d ≡ get_or es p d
    each p d p< =
        let q : p < count F = subst (λ (n : ℕ). p < n) a.0 p< in
        get_or_default ds p d false p< ∙ same_test (get_or ds p false) (get_or es p false) (Iff.trans (a.1 p q) (Iff.symm (b.1 p q)))
        ∙ get_or_default es p false d (subst (λ (n : ℕ). p < n) (sym b.0) q)

one_checked : (F : Family) (es : List Expr) (ns : List Node) (φ : Formula) {o p : Outcome} → Checked F es ns φ o → Checked F es ns φ p → o ≡ p
one_checked F es ns φ (unsound {k} {v} j n) (unsound {k = l} {v = w} i m) =
    let e = one_judgement es ns k l v w j i in ap (λ x. refused x v) e.0 ∙ ap (refused l) e.1
one_checked F es ns φ (unsound {k} {v} j n) (crowded s c) = absurd (n ((accepts_sound es ns k v j).1 s))
one_checked F es ns φ (unsound {k} {v} j n) (answered s c d) = absurd (n ((accepts_sound es ns k v j).1 s))
one_checked F es ns φ (crowded s c) (unsound {k} {v} j n) = absurd (n ((accepts_sound es ns k v j).1 s))
one_checked F es ns φ (crowded s c) (crowded t d) = refl
one_checked F es ns φ (crowded s c) (answered t d e) = absurd (omega arith)
one_checked F es ns φ (answered s c d) (unsound {k} {v} j n) = absurd (n ((accepts_sound es ns k v j).1 s))
one_checked F es ns φ (answered s c d) (crowded t e) = absurd (omega arith)
one_checked F es ns φ (answered {ds} s c d) (answered {ds = fs} t e f) = ap digits (one_digits F φ ds fs d f)

pub one_outcome : OneOutcome
one_outcome F actions features text o p (unread {k} {v} t a) (unread {k = l} {v = w} u b) =
    let e = one text actions features 64 64 t u in ap (λ x. refused x v) e.0 ∙ ap (refused l) e.1
one_outcome F actions features text o p (unread t a) (read ψ u d c) = absurd (a (one text actions features 64 64 t u).0)
one_outcome F actions features text o p (read φ t d c) (unread u b) = absurd (b (sym (one text actions features 64 64 t u).0))
one_outcome F actions features text o p (read {n} {es} {ns} φ t d c) (read {n = m} {es = fs} {ns = ms} ψ u e x) =
    let same = one text actions features 64 64 t u in
    one_checked F es (take n ns) φ c
    (subst (λ (χ : Formula). Checked F es (take n ns) χ p) (sym (one_formula text actions features φ ψ d e))
    (subst (λ (gs : List Expr). Checked F gs (take n ns) ψ p) (sym same.2)
    (subst (λ (hs : List Node). Checked F fs (take n hs) ψ p) (sym same.3)
    (subst (λ (i : ℕ). Checked F fs (take i ms) ψ p) (sym same.1) x))))

pub one_line : OneLine
one_line F actions features n text xs ys a b = a.2 ∙ ap (written n) (one_outcome F actions features text a.0 b.0 a.1 b.1) ∙ sym b.2

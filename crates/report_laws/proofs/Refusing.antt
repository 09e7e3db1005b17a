-- Which refusals a text can meet.
use Rattle.std.proofs.Common.{◌≡◌, ℕ, List, take, drop, refl, arith}
use Rattle.std.specs.List.{ContainsAt as Has}
use Rattle.formulas.specs.declared.Expr.{Expr}
use Rattle.formulas.specs.declared.Node.{Node}
use Rattle.formulas.specs.Judge.{rules, AllKept, Rules, kept, breaks, keeps, Judged}
use Rattle.formulas.proofs.One.{past_kept}
use Rattle.reader.specs.Outcome.{Tried, long_text, no_words, no_token, no_formula, unknown_name, too_many}
use Rattle.reader.specs.Outcome as outcome
use Rattle.reader_laws.proofs.Ruled.{rules_kept}
use Rattle.report.specs.Answers.{unsound, crowded, unread, read}
use Rattle.report.specs.Sessions.{Worded}
use Rattle.report_laws.specs.Laws.{text_refusals, FewRefusals}

of_reading : {text actions features : List ℕ} {k v : ℕ} {es : List Expr} {ns : List Node} → Worded actions features
    → Tried text actions features 64 64 k v es ns → ¬ (k ≡ 0) → Has text_refusals k
of_reading w (long_text h) off = (4, omega arith, λ d. refl)
of_reading w (no_words h i) off = absurd (i w)
of_reading w (no_token av fv p h i) off = (5, omega arith, λ d. refl)
of_reading w (no_formula av fv ts rest h i j) off = (6, omega arith, λ d. refl)
of_reading w (unknown_name av fv f p ps h i) off = (7, omega arith, λ d. refl)
of_reading w (too_many av fv f h i j) off = (8, omega arith, λ d. refl)
of_reading w (outcome.accepted av fv f h i j k) off = absurd (off refl)

of_judging : (es : List Expr) (ns : List Node) {k v : ℕ} → AllKept (take 4 (rules es ns)) → Judged es ns k v
    → ¬ (k ≡ 0) → Has text_refusals k
of_judging es ns g j off = by_variables (past_kept 4 (rules es ns) g j) off
  where
    -- by the last three rules
    by_variables : {l : ℕ} {w : ℕ} → Rules (drop 4 (rules es ns)) l w → ¬ (l ≡ 0) → Has text_refusals l
    by_variables (breaks x) o = (0, omega arith, λ z. refl)
    by_variables (keeps e (breaks x)) o = (1, omega arith, λ z. refl)
    by_variables (keeps e (keeps f (breaks x))) o = (2, omega arith, λ z. refl)
    by_variables (keeps e (keeps f (keeps h kept))) o = absurd (o refl)

pub few_refusals : FewRefusals
few_refusals F actions features text w k v (unread t off) = of_reading w t off
few_refusals F actions features text w k v (read {n} {es} {ns} φ t d (unsound j off)) =
    of_judging es (take n ns) (rules_kept text actions features n es ns t) j off
few_refusals F actions features text w k v (read φ t d (crowded s c)) = (3, omega arith, λ d. refl)

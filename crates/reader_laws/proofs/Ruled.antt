-- The tables of an accepted text keep the rules on sizes, expressions, entries and naming.
use Rattle.std.proofs.Common.{◌≡◌, ℕ, ◌+◌, ◌-◌, ◌<◌, ◌≤◌, List, length, get_or, take, replicate, refl, inl, inr, arith, length-append}
use lib.ListN.{length-replicate}
use Rattle.std.proofs.lemmas.Bool.{cases_lt}
use Rattle.formulas.specs.declared.Expr.{Expr}
use Rattle.formulas.specs.declared.Expr.TheVariants as ex
use Rattle.formulas.specs.declared.Node.{Node}
use Rattle.formulas.specs.declared.Node.TheVariants as nd
use Rattle.formulas.specs.Tables.{entry}
use Rattle.formulas.specs.Judge.{rules, AllKept}
use Rattle.formulas.proofs.Naming.{named_in_tree}
use Rattle.formulas.proofs.Judging.{few_iff, node_iff, once_iff}
use Rattle.reader.specs.Outcome.{numbering, Tried, long_text, no_words, no_token, no_formula, unknown_name, too_many, accepted}
use Rattle.reader_laws.specs.Results.{Structured, RulesKept}
use Rattle.reader_laws.proofs.Hold.{tried_hold}

kept : (es : List Expr) (ns : List Node) → Structured es ns → length es ≤ 64 → AllKept (take 4 (rules es ns))
kept es ns s few = (
  λ n n<. (few_iff es ns).1 (s.some, (s.few, few)),
  (
    s.exprs,
    (
      λ n n<. (node_iff es n (entry ns n)).1 (s.tree.lower n, s.nodes n n<),
      (λ n n<. (once_iff ns n).1 (λ l. (let x = s.named n l in named_in_tree ns s.tree x.0 n x.1 x.2)), tt),
    ),
  ),
)

-- A table of 64 entries still has 64 after a text was entered.
still_64 : {text actions features : List ℕ} {k v : ℕ} {fs : List Expr} {ms : List Node} → Tried text actions features 64 64 k v fs ms → k ≡ 0 → length fs ≤ 64
still_64 (long_text h) e = absurd (omega arith)
still_64 (no_words h i) e = absurd (omega arith)
still_64 (no_token av fv p h i) e = absurd (omega arith)
still_64 (no_formula av fv ts rest h i j) e = absurd (omega arith)
still_64 (unknown_name av fv f p ps h i) e = absurd (omega arith)
still_64 (too_many av fv f h i j) e = absurd (omega arith)
still_64 (accepted av fv f formed none few_nodes few_exprs) e =
    let es = (numbering av fv f).exprs in
    omega (arith, length-append es (replicate (64 - length es) ex.False), length-replicate (64 - length es) ex.False)

pub rules_kept : RulesKept
rules_kept text actions features v fs ms t =
    kept fs (take v ms) (tried_hold text actions features 64 64 (omega arith, omega arith) t refl).1 (still_64 t refl)

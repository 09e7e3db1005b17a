-- Judging by computing: for one rule after the other, the first entry that does not keep it is looked for.
use Rattle.std.proofs.Common.{ℕ, not, List, [], ◌∷◌, Some, None, Option}
use Rattle.std.proofs.lemmas.Bool.{not-true, not-false}
use Rattle.formulas.specs.Judge.{Rule, rules, Rules, kept, breaks, keeps, Judged}
use Rattle.formulas.specs.declared.Expr.{Expr}
use Rattle.formulas.specs.declared.Node.{Node}
use Rattle.cases.proofs.First.{first, IsFirst, here, nowhere, is_first}

-- A refusal's number and value; 0 and 0 if there is none.
abbrev pub Ruling : Type 0
Ruling = ℕ × ℕ

-- What is said of an entry that may have been found, and else what is said further on.
abbrev pub said_of : ℕ → Option ℕ → Ruling → Ruling
said_of k None further = further
said_of k (Some n) further = (k, n)

abbrev pub ruling_by : List Rule → Ruling
ruling_by [] = (0, 0)
ruling_by (r ∷ rs) = said_of r.number (first r.entries (λ n. not (r.keeps n))) (ruling_by rs)

abbrev pub ruling : List Expr → List Node → Ruling
ruling es ns = ruling_by (rules es ns)

judged_by : (rs : List Rule) → Rules rs (ruling_by rs).0 (ruling_by rs).1
judged_by [] = kept
judged_by (r ∷ rs) = go (is_first r.entries (λ n. not (r.keeps n))) (judged_by rs)
  where
    go : {o : Option ℕ} → IsFirst r.entries (λ n. not (r.keeps n)) o → {further : Ruling} → Rules rs
        further.0 further.1
        → Rules (r ∷ rs) (said_of r.number o further).0 (said_of r.number o further).1
    go (here n n< fails before) rest = breaks
        (n<, not-true (r.keeps n) fails, λ m m<. not-false (r.keeps m) (before m m<))
    go (nowhere all) rest = keeps (λ n n<. not-false (r.keeps n) (all n n<)) rest

pub judged : (es : List Expr) (ns : List Node) → Judged es ns (ruling es ns).0 (ruling es ns).1
judged es ns = judged_by (rules es ns)

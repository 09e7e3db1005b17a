use Rattle.std.proofs.Common.{[], ◌∷◌, refl, ap, ◌∙◌}
use Rattle.std.proofs.lemmas.Result.{err_from_is_err_and}
use Rattle.lexer.specs.Tokens.{variable, tok}
use Rattle.grammar.specs.Machine.{a_variable, expect, dot}
use Rattle.reader.proofs.Steps.{goes_here, stuck}
use Rattle.reader.proofs.Trees.{then_variable}
use Rattle.reader.proofs.parser.Reader.fixpoint_head.Goals as goal

pub returns-in_err-v-clause-reads : goal.returns-in_err-v-clause-reads
returns-in_err-v-clause-reads c =
    let p = err_from_is_err_and c.from_residual.result c.from_residual.ensures.1 in
    rw (p.1, p.2) (stuck (a_variable ∷ []) (expect dot ∷ [])
    (goes_here (a_variable ∷ expect dot ∷ []) c.args.self.now) c.in_err-v.ensures.reads)

pub returns-in_err-expect-clause-reads : goal.returns-in_err-expect-clause-reads
returns-in_err-expect-clause-reads c =
    let p = err_from_is_err_and c.from_residual-in_err-expect.result c.from_residual-in_err-expect.ensures.1
    in
    rw (p.1, p.2) (stuck (expect dot ∷ []) []
    (then_variable c.in_ok-v.v (goes_here (a_variable ∷ expect dot ∷ []) c.args.self.now)
    c.in_ok-v.ensures.onto c.in_ok-v.ensures.reads) (c.in_err-expect.ensures.reads dot refl))

pub returns-clause-reads : goal.returns-clause-reads
returns-clause-reads c =
    let v = c.in_ok-v.ensures.reads in
    let d = c.in_ok-expect.ensures.reads dot refl in
    record {
      place = v.0;
      dot_at = d.0;
      next = v.1.next ∙ ap (λ r. tok (variable c.in_ok-v.v) v.0 ∷ r)
          d.1.next;
      same = λ x t st. d.1.same x t (v.1.same x t st);
    }

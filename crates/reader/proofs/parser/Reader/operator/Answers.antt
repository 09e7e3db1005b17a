use Rattle.std.proofs.Common.{arith, rules}
use Rattle.std.proofs.lemmas.Grind.{common_steps}
use Rattle.reader.proofs.Steps.{as_sign}
use Rattle.reader.proofs.parser.Reader.operator.Goals as goal

pub returns-clause-operates : goal.returns-clause-operates
returns-clause-operates c =
    let v = c.in-Some.ensures.value in
    as_sign c.args.wanted c.in-Some.token.now (c.is_sign.ensures.0 (search rules))
    (record {
      next = grind (arith, common_steps);
      same = λ x t s. record {
        actions = s.actions;
        features = s.features;
        nodes = s.nodes;
        exprs = s.exprs;
        node_count = s.node_count;
        expr_count = s.expr_count;
        unknown = s.unknown;
      };
    })

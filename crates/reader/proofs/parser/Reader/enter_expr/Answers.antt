use Rattle.std.proofs.Common.{refl}
use Rattle.reader.proofs.Filled.{enters_expr}
use Rattle.reader.proofs.parser.Reader.enter_expr.Goals as goal

pub returns-clause-enters : goal.returns-clause-enters
returns-clause-enters c = enters_expr c.args.self.now _ refl refl c.args.expr c.enter.ensures.entries refl
    c.enter.ensures.count refl c.enter.result c.enter.ensures.number

use Rattle.std.proofs.Common.{sym, subst, rules}
use Rattle.lexer.specs.Cuts.{sym_of, place_of}
use Rattle.grammar.specs.Machine.{an_action}
use Rattle.reader.specs.Reading.{Stuck}
use Rattle.reader.proofs.Steps.{stuck_token, no_name}
use Rattle.reader.proofs.parser.Reader.action.Goals as goal

pub returns-in_default : goal.returns-in_default
returns-in_default c =
    let t = c.in_ok-token.token in
    record {
      onto = search rules;
      reads = subst (Stuck _ c.args.self.now) (sym c.place.ensures)
          (stuck_token an_action c.args.self.now c.take.new.self (sym_of t) (place_of t)
          c.in_ok-token.ensures.takes (no_name t c.in_default.not-Name));
    }

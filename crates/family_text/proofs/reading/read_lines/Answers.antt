use Rattle.std.proofs.Common.{◌++◌, ap, sym, ◌∙◌}
use Rattle.std.proofs.lemmas.Grind.{flat_map-append}
use Rattle.family_text.specs.Records.{record_bytes, encoding}
use Rattle.family_text.specs.Grammar.{vocabulary, said_by}
use Rattle.family_text.proofs.Laws.{next_line, first_wrong}
use Rattle.family_text.proofs.reading.read_lines.Goals as goal

pub returns-in-Err-clause-fault : goal.returns-in-Err-clause-fault
returns-in-Err-clause-fault c =
    first_wrong (vocabulary c.args.names.now) c.args.names.now.no_bars c.args.lines.now c.loop-i.i _ c.loop-i.invariant.0 c.in-Err.expected c.loop-i-test.true c.loop-i.invariant.1
    (sym c.in-Err.is ∙ c.in_ok-said.ensures)

pub loop-i-preserved : goal.loop-i-preserved
loop-i-preserved c = (
  c.loop-i.invariant.0 ++ said_by c.in-Ok.said,
  next_line (vocabulary c.args.names.now) c.args.lines.now c.loop-i.i _ c.loop-i.invariant.0 c.in-Ok.said c.loop-i-test.true c.loop-i.invariant.1 (sym c.in-Ok.is ∙ c.in_ok-said.ensures),
  c.in_ok-enter-in-Ok.ensures ∙ ap (λ bs. bs ++ encoding (said_by c.in-Ok.said)) c.loop-i.invariant.2 ∙ sym (flat_map-append record_bytes c.loop-i.invariant.0 (said_by c.in-Ok.said)),
)

use Rattle.std.proofs.Common.{◌≡◌, ◌/◌, length, ◌+◌, ◌∷◌, [], ◌++◌, ap, sym, subst, ◌∙◌, arith}
use Rattle.family_text.specs.Grammar.{vocabulary, Describes}
use Rattle.family_text.specs.Printing.{IsPrintable}
use Rattle.family_text.proofs.Lists.{listed}
use Rattle.family_text.proofs.Again.{known, described_again}
use Rattle.family_text.proofs.Prints.{begins_more, length_more, all_more, text_more, lacks_there, record_at}
use Rattle.family_text.proofs.printing.print.Goals as goal

pub returns-in-Err-clause-fault : goal.returns-in-Err-clause-fault
returns-in-Err-clause-fault c = (
  omega arith,
  lacks_there (vocabulary c.args.names.now) c.in-Err.lack (record_at c.args.bytes.now _ c.loop-number.number _ c.as_chunks.ensures.front (omega arith)) c.in-Err.ensures,
  (c.loop-number.invariant.0, c.loop-number.invariant.1, c.loop-number.invariant.2, c.loop-number.invariant.3),
)

pub loop-number-preserved : goal.loop-number-preserved
loop-number-preserved c =
    let i = c.loop-number.invariant in
    let names = vocabulary c.args.names.now in
    let here = record_at c.args.bytes.now _ c.loop-number.number _ c.as_chunks.ensures.front (omega arith) in (
      i.0 ++ c.in-Ok.entry ∷ [],
      length_more i.0 c.in-Ok.entry ∙ ap (λ n. n + 1) i.1,
      begins_more c.args.bytes.now i.0 c.in-Ok.entry c.loop-number.number i.1 i.2 (sym here ∙ c.in-Ok.ensures.0),
      all_more (IsPrintable names) i.0 c.in-Ok.entry i.3 c.in-Ok.ensures.1,
      c.in_ok-push_line-in-Ok.ensures ∙ text_more names i.0 c.in-Ok.entry i.4,
    )

pub returns-clause-again : goal.returns-clause-again
returns-clause-again c =
    let i = c.loop-number.invariant in
    let names = vocabulary c.args.names.now in
    let n = known names (listed c.args.names.now.actions.form) (listed c.args.names.now.features.form) in
    let count : length c.as_chunks.result.0.now ≡ length c.args.bytes.now / 8 = c.as_chunks.ensures.front_len in
    (i.0, (omega (arith, i.1, count), i.2), subst (λ text. Describes names text i.0) (sym i.4) (described_again names n i.0 i.3))

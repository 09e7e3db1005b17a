use Rattle.std.proofs.Common.{◌≡◌, List, take}
use Rattle.book.specs.declared.records.Record.{Record}
use Rattle.family_text.specs.Words.{texts}
use Rattle.family_text.specs.Records.{encoding}
use Rattle.family_text.specs.Grammar.{vocabulary, Tell}
use Rattle.family_text.proofs.reading.read_lines.Given as goal

abbrev pub invariant-loop-i : goal.invariant-loop-i
invariant-loop-i l =
    (said : List Record) × Tell (vocabulary l.names) (take l.i (texts l.lines)) said × (l.records.items ≡ encoding said)

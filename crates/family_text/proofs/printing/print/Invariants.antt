use Rattle.std.proofs.Common.{◌≡◌, List, length}
use Rattle.std.specs.List.{AllByRecursion}
use Rattle.book.specs.declared.records.Record.{Record}
use Rattle.family_text.specs.Grammar.{vocabulary}
use Rattle.family_text.specs.Records.{Begins}
use Rattle.family_text.specs.Printing.{IsPrintable, text_for}
use Rattle.family_text.proofs.printing.print.Given as goal

abbrev pub invariant-loop-number : goal.invariant-loop-number
invariant-loop-number l =
    (said : List Record) × (length said ≡ l.number) × Begins l.bytes said
    × AllByRecursion (IsPrintable (vocabulary l.names)) said × (l.text.items ≡ text_for (vocabulary l.names) said)

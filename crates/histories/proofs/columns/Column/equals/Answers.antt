use Rattle.std.proofs.lemmas.Slice.Eq.{slice_eq-Decides}
use Rattle.histories.proofs.Alike.{Decides-beq, column_law, compared}
use Rattle.histories.proofs.columns.Column.equals.Goals as goal

pub returns-then-table-others-clause-law : goal.returns-then-table-others-clause-law
returns-then-table-others-clause-law c = column_law c.args.self.now c.args.other.now

pub returns-in_err-column-clause-law : goal.returns-in_err-column-clause-law
returns-in_err-column-clause-law c = column_law c.args.self.now c.args.other.now

pub returns-in_err-column-2-clause-law : goal.returns-in_err-column-2-clause-law
returns-in_err-column-2-clause-law c = column_law c.args.self.now c.args.other.now

pub returns-clause-law : goal.returns-clause-law
returns-clause-law c = column_law c.args.self.now c.args.other.now

pub returns-clause-answer : goal.returns-clause-answer
returns-clause-answer c =
    compared c.args.self.now c.args.other.now c.in_ok-table.table.now c.in_ok-others.others.now
    c.in_ok-column.field-0.now c.in_ok-column-2.field-0.now
    c.in_ok-table.ensures c.in_ok-others.ensures c.in_ok-column.ensures c.in_ok-column-2.ensures
    c.if-table-others.false c.if-table-others-2.false c.eq.result
    (slice_eq-Decides Decides-beq _ _ _ c.eq.ensures)

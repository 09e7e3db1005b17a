use Rattle.book.specs.Contents.{closed_contents}
use Rattle.histories.proofs.Tables.{refused_reply, accepted_reply}
use Rattle.histories.proofs.phase.check.Goals as goal

pub returns-then-number-ne-ACCEPTED-clause-reply : goal.returns-then-number-ne-ACCEPTED-clause-reply
returns-then-number-ne-ACCEPTED-clause-reply g c =
    refused_reply g.K.Kind.means g.K.Kind.places (closed_contents c.args.book.now)
    c.args.exprs.now c.args.nodes.now
    c.args.kind.now c.check-number.new.kind c.args.cells.now c.check-number.new.cells _ _
    c.check-number.ensures.law c.if-number-ne-ACCEPTED.true

pub returns-clause-reply : goal.returns-clause-reply
returns-clause-reply g c =
    accepted_reply g.K.Kind.means g.K.Kind.places (closed_contents c.args.book.now)
    c.args.exprs.now c.args.nodes.now
    c.args.kind.now c.check-number.new.kind c.args.cells.now c.check-number.new.cells _ _
    c.check-number.ensures.law c.in_ok-table.table c.args.book.now.contents.sized.0
    c.check-number.auto.cells c.if-number-ne-ACCEPTED.false c.in_ok-table.ensures

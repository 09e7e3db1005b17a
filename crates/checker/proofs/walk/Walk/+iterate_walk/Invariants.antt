use Rattle.std.proofs.Common.{◌+◌, ◌*◌}
use Rattle.formulas.specs.Tables.{entry}
use Rattle.semantics.proofs.FixpointRounds.{rank}
use Rattle.checker.specs.Gathered.{family_of, rows_of}
use Rattle.checker.proofs.Rounds.{Round}
use Rattle.checker.proofs.walk.Walk.+iterate_walk.Given as goal

abbrev pub decreases-iterate : goal.decreases-iterate
decreases-iterate g l = 2 * l.n

abbrev pub decreases-walk : goal.decreases-walk
decreases-walk g l = 2 * l.n + 1

abbrev pub invariant-iterate-rounds : goal.invariant-iterate-rounds
invariant-iterate-rounds g l = Round g.K.Kind.holds g.K.Kind.means l.self l.n l.c l.initial.kind
    l.initial.cells l.kind l.cells

abbrev pub decreases-iterate-rounds : goal.decreases-iterate-rounds
decreases-iterate-rounds g l =
    rank (family_of l.self.view) (entry l.self.tables.nodes.now l.n) (rows_of (g.K.Kind.means l.kind) l.self
    l.cells l.n)

use Rattle.std.proofs.Common.{◌+◌, length}
use Rattle.report.specs.Events.{Through}
use Rattle.report.proofs.Events.{PutSoFar}
use Rattle.report.proofs.serve.put.Given as goal

-- What is gone from `rest` was written.
abbrev pub invariant-loop-rest : goal.invariant-loop-rest
invariant-loop-rest g l =
    Through (g.C.Console.known l.initial.console) (g.C.Console.known l.console)
    (PutSoFar l.initial.rest l.rest)

abbrev pub decreases-loop-rest : goal.decreases-loop-rest
decreases-loop-rest g l = length l.rest + l.retries

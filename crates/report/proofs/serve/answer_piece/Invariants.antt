use Rattle.std.proofs.Common.{◌≡◌, take, Ok}
use Rattle.report.specs.Events.{Through}
use Rattle.report.specs.Pieces.{Feeds}
use Rattle.report.proofs.serve.answer_piece.Given as goal

-- The bytes so far were taken.
abbrev pub invariant-loop-byte : goal.invariant-loop-byte
invariant-loop-byte g l =
    (l.transcript.session ≡ l.initial.transcript.session)
    × Through (g.C.Console.known l.initial.console) (g.C.Console.known l.console)
    (Feeds {T = Unit {0}} l.initial.transcript l.transcript (take l.byte-index l.piece) (Ok (tt {0})))

use Rattle.std.proofs.Common.{◌≡◌, ◌≤◌, length}
use Rattle.report.specs.Events.{Through, bytes_read}
use Rattle.report.proofs.Conversations.{Reached}
use Rattle.report.proofs.serve.serve.Given as goal

-- All lines that have ended in what was read so far are answered, each read gave a byte, and the buffer
-- keeps its length.
abbrev pub invariant-loop : goal.invariant-loop
invariant-loop g l =
    (length l.buffer ≡ 4096)
    × Through (g.C.Console.known l.initial.console) (g.C.Console.known l.console)
    (λ es. Reached l.initial.transcript.session l.transcript es × (l.counter ≤ length (bytes_read es)))

use Rattle.std.proofs.Common.{◌≡◌, length, take}
use Rattle.histories.specs.Ledger.{standing_at}
use Rattle.histories.specs.Phases.{standing_of}
use Rattle.histories.specs.Logs.{AreReplies}
use Rattle.histories.specs.Runs.{Runs}
use Rattle.histories.proofs.run.run.Given as goal

abbrev pub invariant-loop-call : goal.invariant-loop-call
invariant-loop-call g l = record {
  standing : standing_of l.phase ≡ standing_at l.history.states l.history.calls.now l.call-index;
  whole : length l.replies.items ≡ l.call-index;
  each : AreReplies g.K.Kind.places (length l.cells) l.history.states l.history.calls.now l.replies.items;
  runs : Runs g.K.Kind.holds g.K.Kind.means g.K.Kind.places l.history.states l.fn.kind l.fn.cells
      (take l.call-index l.history.calls.now) l.kind l.cells;
}

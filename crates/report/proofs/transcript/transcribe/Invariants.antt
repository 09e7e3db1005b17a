use Rattle.std.proofs.Common.{map, take, vec_items, string_bytes}
use Rattle.report.proofs.Inputs.{Underway}
use Rattle.report.proofs.transcript.transcribe.Given as goal

abbrev pub invariant-loop-byte : goal.invariant-loop-byte
invariant-loop-byte l =
    Underway l.initial.transcript.session l.transcript (take l.byte-index l.input)
    (map string_bytes (vec_items l.lines))

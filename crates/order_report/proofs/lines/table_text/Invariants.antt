use Rattle.std.proofs.Common.{◌≡◌, ◌++◌, codes, decimal, string_bytes}
use Rattle.order_report.specs.Lines.{texts_below, state_line}
use Rattle.order_report.proofs.lines.table_text.Given as goal

-- The lines so far.
abbrev pub invariant-loop-state : goal.invariant-loop-state
invariant-loop-state l = string_bytes l.text
    ≡ (codes "  " ++ (decimal l.fn.value ++ codes " products keep the rule in state 0\n"))
    ++ texts_below l.state (state_line l.table)

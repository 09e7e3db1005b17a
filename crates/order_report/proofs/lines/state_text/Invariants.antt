use Rattle.std.proofs.Common.{◌≡◌, ◌++◌, codes, decimal, string_bytes}
use Rattle.order_report.specs.Lines.{texts_below, digit}
use Rattle.order_report.proofs.lines.state_text.Given as goal

-- The digits so far.
abbrev pub invariant-loop-product : goal.invariant-loop-product
invariant-loop-product l = string_bytes l.text
    ≡ (codes "  state " ++ (decimal l.state ++ codes ": ")) ++ texts_below l.product (digit l.table l.state)

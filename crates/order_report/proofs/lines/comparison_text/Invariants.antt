use Rattle.std.proofs.Common.{string_bytes}
use Rattle.order_report.specs.Lines.{Compared}
use Rattle.order_report.proofs.lines.comparison_text.Given as goal

-- The products so far.
abbrev pub invariant-loop-product : goal.invariant-loop-product
invariant-loop-product l = Compared l.fn.log l.fn.given l.position l.product (string_bytes l.text)

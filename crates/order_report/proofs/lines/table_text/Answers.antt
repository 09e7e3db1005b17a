use Rattle.std.proofs.Common.{sym, ◌∙◌, append-nil}
use Rattle.order_report.proofs.lines.table_text.Goals as goal

pub loop-state-init : goal.loop-state-init
loop-state-init c = c.in_ok-text.ensures.ok ∙ sym (append-nil _)

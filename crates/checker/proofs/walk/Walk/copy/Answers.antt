use Rattle.std.proofs.Common.{◌+◌, ◌*◌, ◌∙◌, rules}
use Rattle.product_sets.proofs.Cells.{in_same}
use Rattle.checker.proofs.walk.Walk.copy.Goals as goal

pub returns-clause-value : goal.returns-clause-value
returns-clause-value g c = λ m agrees s p l.
    c.write.ensures.value m agrees (λ p l r. l) (λ k k' l r set later hl hr called ag q. search rules) s p l
    ∙ in_same m c.args.cells.now c.row-row.result (c.args.c * c.args.self.now.view.states + s) s p
    (c.row-row.ensures s l)

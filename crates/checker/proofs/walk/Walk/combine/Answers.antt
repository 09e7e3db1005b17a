use Rattle.std.proofs.Common.{◌+◌, ◌*◌, ap, ◌∙◌}
use Rattle.product_sets.specs.Cells.{in_cell}
use Rattle.product_sets.proofs.Cells.{in_same}
use Rattle.checker.proofs.walk.Walk.combine.Goals as goal

pub returns-clause-value : goal.returns-clause-value
returns-clause-value g c = λ m agrees rule follows s p l.
    let S = c.args.self.now.view.states in
    let xs = c.args.cells.now in
    c.write.ensures.value m agrees rule follows s p l
    ∙ ap (λ b. rule p b (in_cell m c.row-right.result s p)) (in_same m xs c.row-left.result
    (c.args.c * S + s) s p (c.row-left.ensures s l))
    ∙ ap (rule p (in_cell m xs (c.args.c * S + s) p)) (in_same m xs c.row-right.result (c.args.d * S + s) s
    p (c.row-right.ensures s l))

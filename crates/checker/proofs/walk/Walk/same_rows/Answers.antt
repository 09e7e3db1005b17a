use Rattle.std.proofs.Common.{◌+◌, ◌-◌, ◌*◌, sym, ◌∙◌, arith}
use Rattle.checker.proofs.Places.{in_part}
use Rattle.checker.proofs.walk.Walk.same_rows.Goals as goal

pub returns-clause-full : goal.returns-clause-full
returns-clause-full g c = λ h.
    let M = g.K.Kind.means c.args.kind.now in
    let S = c.args.self.now.view.states in
    let xs = c.args.cells.now in
    c.same_sets.ensures.full (λ s a b ea eb p.
    let l = in_part (c.args.n * S) (c.args.n * S + S - c.args.n * S) xs s a ea in
    let r = in_part (c.args.c * S) (c.args.c * S + S - c.args.c * S) xs s b eb in
    sym (l.1 M p) ∙ h s p (omega (arith, l.0)) ∙ r.1 M p)

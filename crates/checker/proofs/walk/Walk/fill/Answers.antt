use Rattle.std.proofs.Common.{replicate, ◌∙◌, arith, rules}
use Rattle.std.specs.List.{AllWithin}
use Rattle.std.proofs.lemmas.List.Elements.{All-replicate}
use Rattle.product_sets.proofs.Cells.{in_replicate}
use Rattle.checker.proofs.walk.Walk.fill.Goals as goal

pub write-requires : goal.write-requires
write-requires g c =
    let held : AllWithin (g.K.Kind.holds c.args.kind.now) (replicate 64 c.args.set) 0
    c.args.self.now.view.states =
    λ i d l u. All-replicate (g.K.Kind.holds c.args.kind.now) 64 c.args.set c.requires.held i d
    (omega arith) in
    (omega (arith, g.met.K.Kind.roomy), (search rules, (search rules, (c.requires.fits, (held, held)))))

pub returns-clause-value : goal.returns-clause-value
returns-clause-value g c = λ m agrees s p l.
    c.write.ensures.value m agrees (λ p l r. l) (λ k k' l r set later hl hr called ag q. search rules) s p l
    ∙ in_replicate m 64 s c.args.set p (omega arith)

use Rattle.std.proofs.Common.{◌≡◌, ℕ, ◌+◌, ◌*◌, ◌<◌, ◌&&◌, sym, subst, T, rules}
use Rattle.families.proofs.Tests.{and_split, and_both}
use Rattle.semantics.specs.Meaning.{Pairs}
use Rattle.product_sets.specs.Cells.{in_cell}
use Rattle.product_sets.specs.Kinds.{Makes}
use Rattle.product_sets.proofs.Cells.{in_same}
use Rattle.checker.specs.Gathered.{family_of, rows_of}
use Rattle.checker.proofs.Readings.{agrees_before, read_two}
use Rattle.checker.proofs.Leading.{some_same}
use Rattle.checker.proofs.walk.Walk.diamond.Goals as goal

pub returns-clause-value : goal.returns-clause-value
returns-clause-value g c = λ m agrees s p h.
    let holds = g.K.Kind.holds in
    let means = g.K.Kind.means in
    let w = c.args.self.now in
    let F = family_of w.view in
    let S = w.view.states in
    let chosen = c.args.chosen in
    let row : Pairs = in_cell m c.row-targets.result in
    let part : Pairs = rows_of m w c.args.cells.now c.args.c in
    let e : (u : ℕ) → u < S → row u p ≡ part u p = λ u u<. in_same m c.args.cells.now c.row-targets.result
    (c.args.c * S + u) u p (c.row-targets.ensures u u<) in
    let before = agrees_before holds means c.sources-from.new.kind c.write.new.kind m
    c.write.ensures.writes.kept agrees in
    let led = c.sources-from.ensures.value m before s p h in
    let here = (c.sources-from.ensures.kept chosen c.requires.chosen).0 in
    let cell : rows_of m w c.write.new.cells c.args.n s p ≡ (in_cell m c.sources-from.result s p && m chosen
    p) =
    c.write.ensures.value m agrees (λ p l r. l && m chosen p) (λ k k' l r set later hl hr called ag.
    (let made : Makes holds means k.now k'.now (λ p. means k.now l p && means k.now chosen p) set = search
    rules in
    read_two holds means (λ a b. a && b) k.now k'.now m l chosen set made ag hl (later chosen here).0)) s p
    h in (
      λ t. (let b = and_split (in_cell m c.sources-from.result s p) (m chosen p) (subst T cell t) in
          ((led.0 b.0).0, b.1, some_same F c.args.action row part s p e (led.0 b.0).1)),
      λ x. subst T (sym cell) (and_both (in_cell m c.sources-from.result s p) (m chosen p)
          (led.1 (x.0, some_same F c.args.action part row s p (λ u u<. sym (e u u<)) x.2)) x.1),
    )

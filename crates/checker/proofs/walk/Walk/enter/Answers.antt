use Rattle.std.proofs.Common.{◌<◌, not, ◌&&◌, ◌||◌, length, get_or, refl, sym, ◌∙◌, subst, inl, inr, arith}
use Rattle.std.proofs.Common.{rules}
use Rattle.formulas.specs.Sound.{Carries}
use Rattle.formulas.specs.declared.Node.{Node}
use Rattle.semantics.specs.Evaluation.{Chosen}
use Rattle.product_sets.specs.Kinds.{Makes}
use Rattle.checker.specs.Readings.{Builds}
use Rattle.checker.specs.Gathered.{family_of, rows_of, EntryRow}
use Rattle.checker.proofs.Places.{offset_fits, row_fits}
use Rattle.checker.proofs.Readings.{agrees_before, read_two}
use Rattle.checker.proofs.Tables.{sound_tables, nearest_fixpoint, nearest_inside}
use Rattle.checker.proofs.Walks.{own_room, part_room, part_read}
use Rattle.checker.proofs.Entering.{none_where, all_where, not_where, or_where, and_where, diamond_where}
use Rattle.checker.proofs.Entering.{box_where, chosen_at}
use Rattle.checker.proofs.walk.Walk.enter.Goals as goal

pub fill-requires-clause-fits : goal.fill-requires-clause-fits
fill-requires-clause-fits g c =
    let holds = g.K.Kind.holds in
    let means = g.K.Kind.means in
    let w = c.args.self.now in
    let begun = c.requires.begun in
    let base = c.args.kind.now in
    let xs = c.args.cells.now in
    let n = c.args.n in
    own_room holds means w n base xs begun

pub fill-requires-in-True-clause-fits : goal.fill-requires-in-True-clause-fits
fill-requires-in-True-clause-fits g c =
    let holds = g.K.Kind.holds in
    let means = g.K.Kind.means in
    let w = c.args.self.now in
    let begun = c.requires.begun in
    let base = c.args.kind.now in
    let xs = c.args.cells.now in
    let n = c.args.n in
    own_room holds means w n base xs begun

pub combine-requires-clause-fits : goal.combine-requires-clause-fits
combine-requires-clause-fits g c =
    let holds = g.K.Kind.holds in
    let means = g.K.Kind.means in
    let w = c.args.self.now in
    let begun = c.requires.begun in
    let base = c.args.kind.now in
    let xs = c.args.cells.now in
    let n = c.args.n in (
      own_room holds means w n base xs begun,
      part_room holds means w n c.in-Not.c base xs _ begun
          c.in-Not.is refl,
      part_room holds means w n c.in-Not.c base xs _ begun c.in-Not.is refl,
    )

pub combine-requires-clause-left : goal.combine-requires-clause-left
combine-requires-clause-left g c =
    let holds = g.K.Kind.holds in
    let means = g.K.Kind.means in
    let w = c.args.self.now in
    let base = c.args.kind.now in
    let xs = c.args.cells.now in
    let n = c.args.n in
    part_read holds means w n c.in-Not.c base xs _ c.requires.parts c.in-Not.is refl refl

pub combine-requires-clause-right : goal.combine-requires-clause-right
combine-requires-clause-right g c =
    let holds = g.K.Kind.holds in
    let means = g.K.Kind.means in
    let w = c.args.self.now in
    let base = c.args.kind.now in
    let xs = c.args.cells.now in
    let n = c.args.n in
    part_read holds means w n c.in-Not.c base xs _ c.requires.parts c.in-Not.is refl refl

pub combine-requires-in-Or-clause-fits : goal.combine-requires-in-Or-clause-fits
combine-requires-in-Or-clause-fits g c =
    let holds = g.K.Kind.holds in
    let means = g.K.Kind.means in
    let w = c.args.self.now in
    let begun = c.requires.begun in
    let base = c.args.kind.now in
    let xs = c.args.cells.now in
    let n = c.args.n in (
      own_room holds means w n base xs begun,
      part_room holds means w n c.in-Or.c base xs _ begun c.in-Or.is
          (inl refl),
      part_room holds means w n c.in-Or.d base xs _ begun c.in-Or.is (inr refl),
    )

pub combine-requires-in-Or-clause-left : goal.combine-requires-in-Or-clause-left
combine-requires-in-Or-clause-left g c =
    let holds = g.K.Kind.holds in
    let means = g.K.Kind.means in
    let w = c.args.self.now in
    let base = c.args.kind.now in
    let xs = c.args.cells.now in
    let n = c.args.n in
    part_read holds means w n c.in-Or.c base xs _ c.requires.parts c.in-Or.is refl (inl refl)

pub combine-requires-in-Or-clause-right : goal.combine-requires-in-Or-clause-right
combine-requires-in-Or-clause-right g c =
    let holds = g.K.Kind.holds in
    let means = g.K.Kind.means in
    let w = c.args.self.now in
    let base = c.args.kind.now in
    let xs = c.args.cells.now in
    let n = c.args.n in
    part_read holds means w n c.in-Or.d base xs _ c.requires.parts c.in-Or.is refl (inr refl)

pub combine-requires-in-And-clause-fits : goal.combine-requires-in-And-clause-fits
combine-requires-in-And-clause-fits g c =
    let holds = g.K.Kind.holds in
    let means = g.K.Kind.means in
    let w = c.args.self.now in
    let begun = c.requires.begun in
    let base = c.args.kind.now in
    let xs = c.args.cells.now in
    let n = c.args.n in (
      own_room holds means w n base xs begun,
      part_room holds means w n c.in-And.c base xs _ begun
          c.in-And.is (inl refl),
      part_room holds means w n c.in-And.d base xs _ begun c.in-And.is (inr refl),
    )

pub combine-requires-in-And-clause-left : goal.combine-requires-in-And-clause-left
combine-requires-in-And-clause-left g c =
    let holds = g.K.Kind.holds in
    let means = g.K.Kind.means in
    let w = c.args.self.now in
    let base = c.args.kind.now in
    let xs = c.args.cells.now in
    let n = c.args.n in
    part_read holds means w n c.in-And.c base xs _ c.requires.parts c.in-And.is refl (inl refl)

pub combine-requires-in-And-clause-right : goal.combine-requires-in-And-clause-right
combine-requires-in-And-clause-right g c =
    let holds = g.K.Kind.holds in
    let means = g.K.Kind.means in
    let w = c.args.self.now in
    let base = c.args.kind.now in
    let xs = c.args.cells.now in
    let n = c.args.n in
    part_read holds means w n c.in-And.d base xs _ c.requires.parts c.in-And.is refl (inr refl)

pub offset_bounds-self-expr : goal.offset_bounds-self-expr
offset_bounds-self-expr g c =
    let w = c.args.self.now in
    let n = c.args.n in
    let few = (sound_tables w.tables).few_expressions in
    let low : c.in-Diamond.expr < length w.tables.exprs.now = (subst
    (λ (y : Node). Carries w.tables.exprs.now y) c.in-Diamond.is ((sound_tables w.tables).carries n)).1 in
    offset_fits c.in-Diamond.expr _ (omega arith) g.met.K.Kind.roomy

pub listed : goal.listed
listed g c =
    let w = c.args.self.now in
    let n = c.args.n in
    let few = (sound_tables w.tables).few_expressions in
    let low : c.in-Diamond.expr < length w.tables.exprs.now = (subst
    (λ (y : Node). Carries w.tables.exprs.now y) c.in-Diamond.is ((sound_tables w.tables).carries n)).1 in
    omega (arith, w.long.1)

pub bounds-self-expr : goal.bounds-self-expr
bounds-self-expr g c =
    let w = c.args.self.now in
    let n = c.args.n in
    let few = (sound_tables w.tables).few_expressions in
    let low : c.in-Diamond.expr < length w.tables.exprs.now = (subst
    (λ (y : Node). Carries w.tables.exprs.now y) c.in-Diamond.is ((sound_tables w.tables).carries n)).1 in
    omega (arith, w.long.1)

pub diamond-requires-clause-fits : goal.diamond-requires-clause-fits
diamond-requires-clause-fits g c =
    let holds = g.K.Kind.holds in
    let means = g.K.Kind.means in
    let w = c.args.self.now in
    let begun = c.requires.begun in
    let base = c.args.kind.now in
    let xs = c.args.cells.now in
    let n = c.args.n in (
      own_room holds means w n base xs begun,
      part_room holds means w n c.in-Diamond.part base xs _ begun
          c.in-Diamond.is refl,
    )

pub diamond-requires-clause-chosen : goal.diamond-requires-clause-chosen
diamond-requires-clause-chosen g c =
    let w = c.args.self.now in
    let begun = c.requires.begun in
    let n = c.args.n in
    let few = (sound_tables w.tables).few_expressions in
    let low : c.in-Diamond.expr < length w.tables.exprs.now = (subst
    (λ (y : Node). Carries w.tables.exprs.now y) c.in-Diamond.is ((sound_tables w.tables).carries n)).1 in
    begun.gathered.satisfied c.in-Diamond.expr c.index-self-expr.result (omega (arith, w.long.1))

pub diamond-requires-clause-held : goal.diamond-requires-clause-held
diamond-requires-clause-held g c =
    let holds = g.K.Kind.holds in
    let means = g.K.Kind.means in
    let w = c.args.self.now in
    let base = c.args.kind.now in
    let xs = c.args.cells.now in
    let n = c.args.n in
    part_read holds means w n c.in-Diamond.part base xs _ c.requires.parts c.in-Diamond.is refl refl

pub offset_bounds-self-expr-in-Box : goal.offset_bounds-self-expr-in-Box
offset_bounds-self-expr-in-Box g c =
    let w = c.args.self.now in
    let n = c.args.n in
    let few = (sound_tables w.tables).few_expressions in
    let low : c.in-Box.expr < length w.tables.exprs.now = (subst
    (λ (y : Node). Carries w.tables.exprs.now y) c.in-Box.is ((sound_tables w.tables).carries n)).1 in
    offset_fits c.in-Box.expr _ (omega arith) g.met.K.Kind.roomy

pub listed-in-Box : goal.listed-in-Box
listed-in-Box g c =
    let w = c.args.self.now in
    let n = c.args.n in
    let few = (sound_tables w.tables).few_expressions in
    let low : c.in-Box.expr < length w.tables.exprs.now = (subst
    (λ (y : Node). Carries w.tables.exprs.now y) c.in-Box.is ((sound_tables w.tables).carries n)).1 in
    omega (arith, w.long.1)

pub bounds-self-expr-in-Box : goal.bounds-self-expr-in-Box
bounds-self-expr-in-Box g c =
    let w = c.args.self.now in
    let n = c.args.n in
    let few = (sound_tables w.tables).few_expressions in
    let low : c.in-Box.expr < length w.tables.exprs.now = (subst
    (λ (y : Node). Carries w.tables.exprs.now y) c.in-Box.is ((sound_tables w.tables).carries n)).1 in
    omega (arith, w.long.1)

pub box_over-requires-clause-fits : goal.box_over-requires-clause-fits
box_over-requires-clause-fits g c =
    let holds = g.K.Kind.holds in
    let means = g.K.Kind.means in
    let w = c.args.self.now in
    let begun = c.requires.begun in
    let base = c.args.kind.now in
    let xs = c.args.cells.now in
    let n = c.args.n in (
      own_room holds means w n base xs begun,
      part_room holds means w n c.in-Box.part base xs _ begun
          c.in-Box.is refl,
    )

pub box_over-requires-clause-chosen : goal.box_over-requires-clause-chosen
box_over-requires-clause-chosen g c =
    let w = c.args.self.now in
    let begun = c.requires.begun in
    let n = c.args.n in
    let few = (sound_tables w.tables).few_expressions in
    let low : c.in-Box.expr < length w.tables.exprs.now = (subst
    (λ (y : Node). Carries w.tables.exprs.now y) c.in-Box.is ((sound_tables w.tables).carries n)).1 in
    begun.gathered.satisfied c.in-Box.expr c.index-self-expr-in-Box.result (omega (arith, w.long.1))

pub box_over-requires-clause-held : goal.box_over-requires-clause-held
box_over-requires-clause-held g c =
    let holds = g.K.Kind.holds in
    let means = g.K.Kind.means in
    let w = c.args.self.now in
    let base = c.args.kind.now in
    let xs = c.args.cells.now in
    let n = c.args.n in
    part_read holds means w n c.in-Box.part base xs _ c.requires.parts c.in-Box.is refl refl

pub bounds-self-n : goal.bounds-self-n
bounds-self-n g c =
    let w = c.args.self.now in
    let begun = c.requires.begun in
    let few = (sound_tables w.tables).few in
    omega (arith, begun.inside)

pub copy-requires-clause-fits : goal.copy-requires-clause-fits
copy-requires-clause-fits g c =
    let holds = g.K.Kind.holds in
    let means = g.K.Kind.means in
    let w = c.args.self.now in
    let begun = c.requires.begun in
    let base = c.args.kind.now in
    let xs = c.args.cells.now in
    let n = c.args.n in
    let near = nearest_fixpoint w.tables n c.in-Variable.field-0 begun.inside c.in-Variable.is in (
      own_room holds means w n base xs begun,
      row_fits _ (length w.tables.nodes.now) w.view.states
          (length xs) (nearest_inside w.tables near.1) begun.room,
    )

pub copy-requires-clause-held : goal.copy-requires-clause-held
copy-requires-clause-held g c =
    let w = c.args.self.now in
    let begun = c.requires.begun in
    let n = c.args.n in
    let near = nearest_fixpoint w.tables n c.in-Variable.field-0 begun.inside c.in-Variable.is in
    begun.held c.in-Variable.field-0 _ near.0 near.1

pub returns-in-False-clause-value : goal.returns-in-False-clause-value
returns-in-False-clause-value g c = λ m agrees.
    let holds = g.K.Kind.holds in
    let means = g.K.Kind.means in
    let w = c.args.self.now in
    let xs = c.args.cells.now in
    let n = c.args.n in
    let F = family_of w.view in
    let es = w.tables.exprs.now in
    let ns = w.tables.nodes.now in
    let none = c.none-none.result in
    let made = c.none-none.ensures in
    let V = rows_of m w c.fill.new.cells n in
    let before = agrees_before holds means c.none-none.new.self c.fill.new.kind m c.fill.ensures.writes.kept
    agrees in
    let is = none_where F V (λ s p s<. c.fill.ensures.value m agrees s p s< ∙ before none made.held p ∙
    made.value p) in
    elim c.in-False.is [
      | inl e ↦ subst (λ (x : Node). EntryRow F es ns (rows_of m w xs) n x V) (sym e) is
      | inr x ↦ subst (λ (x : Node). EntryRow F es ns (rows_of m w xs) n x V) (sym x.2) is
    ]

pub returns-in-True-clause-value : goal.returns-in-True-clause-value
returns-in-True-clause-value g c = λ m agrees.
    let holds = g.K.Kind.holds in
    let means = g.K.Kind.means in
    let w = c.args.self.now in
    let begun = c.requires.begun in
    let base = c.args.kind.now in
    let xs = c.args.cells.now in
    let n = c.args.n in
    let F = family_of w.view in
    let es = w.tables.exprs.now in
    let ns = w.tables.nodes.now in
    let V = rows_of m w c.fill-in-True.new.cells n in
    let before = agrees_before holds means base c.fill-in-True.new.kind m c.fill-in-True.ensures.writes.kept
    agrees in
    let is = all_where F V (m w.all) (begun.gathered.meant m before).everyone
    (c.fill-in-True.ensures.value m agrees) in
    elim c.in-True.is [
      | inl e ↦ subst (λ (x : Node). EntryRow F es ns (rows_of m w xs) n x V) (sym e) is
      | inr x ↦ subst (λ (x : Node). EntryRow F es ns (rows_of m w xs) n x V) (sym x.2) is
    ]

pub returns-in-Not-clause-value : goal.returns-in-Not-clause-value
returns-in-Not-clause-value g c = λ m agrees.
    let holds = g.K.Kind.holds in
    let means = g.K.Kind.means in
    let w = c.args.self.now in
    let begun = c.requires.begun in
    let base = c.args.kind.now in
    let xs = c.args.cells.now in
    let n = c.args.n in
    let F = family_of w.view in
    let es = w.tables.exprs.now in
    let ns = w.tables.nodes.now in
    let V = rows_of m w c.combine.new.cells n in
    let all = w.all in
    let before = agrees_before holds means base c.combine.new.kind m c.combine.ensures.writes.kept agrees in
    subst (λ (x : Node). EntryRow F es ns (rows_of m w xs) n x V) (sym c.in-Not.is)
    (not_where F V (m all) (rows_of m w xs c.in-Not.c) (begun.gathered.meant m before).everyone
    (c.combine.ensures.value m agrees (λ p l r. m all p && not l) (λ k k' l r set later hl hr called ag.
    (let made : Builds holds means k.now k'.now (holds k.now all × holds k.now l)
    (λ m p. m all p && not (m l p)) set = search rules in
    made.value ((later all begun.gathered.all).0, hl) m ag))))

pub returns-in-Or-clause-value : goal.returns-in-Or-clause-value
returns-in-Or-clause-value g c = λ m agrees.
    let holds = g.K.Kind.holds in
    let means = g.K.Kind.means in
    let w = c.args.self.now in
    let xs = c.args.cells.now in
    let n = c.args.n in
    let F = family_of w.view in
    let es = w.tables.exprs.now in
    let ns = w.tables.nodes.now in
    let V = rows_of m w c.combine-in-Or.new.cells n in
    subst (λ (x : Node). EntryRow F es ns (rows_of m w xs) n x V) (sym c.in-Or.is)
    (or_where F V (rows_of m w xs c.in-Or.c) (rows_of m w xs c.in-Or.d)
    (c.combine-in-Or.ensures.value m agrees (λ p l r. l || r) (λ k k' l r set later hl hr called ag.
    (let made : Makes holds means k.now k'.now (λ p. means k.now l p || means k.now r p) set = search rules in
    read_two holds means (λ a b. a || b) k.now k'.now m l r set made ag hl hr))))

pub returns-in-And-clause-value : goal.returns-in-And-clause-value
returns-in-And-clause-value g c = λ m agrees.
    let holds = g.K.Kind.holds in
    let means = g.K.Kind.means in
    let w = c.args.self.now in
    let xs = c.args.cells.now in
    let n = c.args.n in
    let F = family_of w.view in
    let es = w.tables.exprs.now in
    let ns = w.tables.nodes.now in
    let V = rows_of m w c.combine-in-And.new.cells n in
    subst (λ (x : Node). EntryRow F es ns (rows_of m w xs) n x V) (sym c.in-And.is)
    (and_where F V (rows_of m w xs c.in-And.c) (rows_of m w xs c.in-And.d)
    (c.combine-in-And.ensures.value m agrees (λ p l r. l && r) (λ k k' l r set later hl hr called ag.
    (let made : Makes holds means k.now k'.now (λ p. means k.now l p && means k.now r p) set = search rules in
    read_two holds means (λ a b. a && b) k.now k'.now m l r set made ag hl hr))))

pub returns-in-Diamond-clause-value : goal.returns-in-Diamond-clause-value
returns-in-Diamond-clause-value g c = λ m agrees.
    let holds = g.K.Kind.holds in
    let means = g.K.Kind.means in
    let w = c.args.self.now in
    let begun = c.requires.begun in
    let base = c.args.kind.now in
    let xs = c.args.cells.now in
    let n = c.args.n in
    let F = family_of w.view in
    let es = w.tables.exprs.now in
    let ns = w.tables.nodes.now in
    let V = rows_of m w c.diamond.new.cells n in
    let few = (sound_tables w.tables).few_expressions in
    let e = c.in-Diamond.expr in
    let low : e < length es = (subst (λ (y : Node). Carries w.tables.exprs.now y) c.in-Diamond.is
    ((sound_tables w.tables).carries n)).1 in
    let chosen = get_or w.satisfied.now e c.index-self-expr.result in
    let before = agrees_before holds means base c.diamond.new.kind m c.diamond.ensures.writes.kept agrees in
    let is = chosen_at m F w.satisfied.now e c.index-self-expr.result (Chosen F es e)
    (omega (arith, w.long.1)) ((begun.gathered.meant m before).satisfying e low) in
    subst (λ (x : Node). EntryRow F es ns (rows_of m w xs) n x V) (sym c.in-Diamond.is)
    (diamond_where F V es e c.in-Diamond.action (rows_of m w xs c.in-Diamond.part) (m chosen) is
    (c.diamond.ensures.value m agrees))

pub returns-in-Box-clause-value : goal.returns-in-Box-clause-value
returns-in-Box-clause-value g c = λ m agrees.
    let holds = g.K.Kind.holds in
    let means = g.K.Kind.means in
    let w = c.args.self.now in
    let begun = c.requires.begun in
    let base = c.args.kind.now in
    let xs = c.args.cells.now in
    let n = c.args.n in
    let F = family_of w.view in
    let es = w.tables.exprs.now in
    let ns = w.tables.nodes.now in
    let V = rows_of m w c.box_over.new.cells n in
    let few = (sound_tables w.tables).few_expressions in
    let e = c.in-Box.expr in
    let low : e < length es = (subst (λ (y : Node). Carries w.tables.exprs.now y) c.in-Box.is
    ((sound_tables w.tables).carries n)).1 in
    let chosen = get_or w.satisfied.now e c.index-self-expr-in-Box.result in
    let before = agrees_before holds means base c.box_over.new.kind m c.box_over.ensures.writes.kept agrees in
    let is = chosen_at m F w.satisfied.now e c.index-self-expr-in-Box.result (Chosen F es e)
    (omega (arith, w.long.1)) ((begun.gathered.meant m before).satisfying e low) in
    subst (λ (x : Node). EntryRow F es ns (rows_of m w xs) n x V) (sym c.in-Box.is)
    (box_where F V es e c.in-Box.action (rows_of m w xs c.in-Box.part) (m chosen) is
    (c.box_over.ensures.value m agrees))

pub returns-in-Variable-clause-value : goal.returns-in-Variable-clause-value
returns-in-Variable-clause-value g c = λ m agrees.
    let w = c.args.self.now in
    let begun = c.requires.begun in
    let xs = c.args.cells.now in
    let n = c.args.n in
    let F = family_of w.view in
    let es = w.tables.exprs.now in
    let ns = w.tables.nodes.now in
    let V = rows_of m w c.copy.new.cells n in
    let near = nearest_fixpoint w.tables n c.in-Variable.field-0 begun.inside c.in-Variable.is in
    subst (λ (x : Node). EntryRow F es ns (rows_of m w xs) n x V) (sym c.in-Variable.is)
    (get_or w.tables.fixpoints n 0, near.0, near.1, c.copy.ensures.value m agrees)

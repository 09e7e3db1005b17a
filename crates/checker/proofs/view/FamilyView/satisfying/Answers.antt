use Rattle.std.proofs.Common.{◌≡◌, ℕ, ◌/◌, ◌^◌, ◌<◌, ◌≤◌, Bool, ◌&&◌, ◌||◌, T, eqb, length, get_or, sym}
use Rattle.std.proofs.Common.{refl, ◌∙◌, subst, inl, inr, arith, rules}
use Rattle.families.specs.Families.{config}
use lib.Bits.{bit_and}
use Rattle.families.specs.Bits.{bit}
use Rattle.families.proofs.Bits.{bit_shift}
use Rattle.formulas.specs.Tables.{PartOf, expression_at}
use Rattle.formulas.specs.declared.Expr.{Expr}
use Rattle.formulas.specs.declared.Expr.TheVariants as ex
use Rattle.formulas.specs.declared.judge.SoundTables.{SoundTables}
use Rattle.semantics.specs.Satisfies.{satisfies}
use Rattle.semantics.specs.Evaluation.{Chosen}
use Rattle.checker.specs.Gathered.{family_of}
use Rattle.checker.proofs.Tables.{sound_tables}
use Rattle.checker.proofs.Places.{offset_fits}
use Rattle.checker.proofs.Readings.{agrees_before, read_two}
use Rattle.checker.proofs.Entering.{chosen_at}
use Rattle.checker.proofs.Collecting.{expressed, collects_where, collects_none, collects_all, collects_not}
use Rattle.checker.proofs.Collecting.{collects_or, collects_and}
use Rattle.checker.proofs.view.FamilyView.satisfying.Goals as goal

-- A part of entry n is below it, and so among the first 64.
part_below : (t : SoundTables) (n c : ℕ) (x : Expr) → get_or t.exprs.now n ex.False ≡ x → PartOf c x → c < n
part_below t n c x e part = (sound_tables t).parts_lower n c (subst (λ (y : Expr). PartOf c y) (sym e) part)

part_few : (t : SoundTables) (n c : ℕ) (x : Expr) → n < length t.exprs.now → get_or t.exprs.now n ex.False ≡
    x → PartOf c x → c < 64
part_few t n c x n< e part = let h = part_below t n c x e part in omega
    (arith, (sound_tables t).few_expressions)

pub listed : goal.listed
listed g c = let h = part_few c.args.tables.now c.args.n c.in-Not.c _ c.requires.fits.1 c.in-Not.is refl in
    omega arith

pub bounds-sets-c : goal.bounds-sets-c
bounds-sets-c g c = let h = part_few c.args.tables.now c.args.n c.in-Not.c _ c.requires.fits.1 c.in-Not.is
    refl in omega arith

pub listed-in-Or : goal.listed-in-Or
listed-in-Or g c = let h = part_few c.args.tables.now c.args.n c.in-Or.c _ c.requires.fits.1 c.in-Or.is
    (inl refl) in omega arith

pub bounds-sets-c-in-Or : goal.bounds-sets-c-in-Or
bounds-sets-c-in-Or g c = let h = part_few c.args.tables.now c.args.n c.in-Or.c _ c.requires.fits.1
    c.in-Or.is (inl refl) in omega arith

pub listed-in-Or-2 : goal.listed-in-Or-2
listed-in-Or-2 g c = let h = part_few c.args.tables.now c.args.n c.in-Or.d _ c.requires.fits.1 c.in-Or.is
    (inr refl) in omega arith

pub bounds-sets-d : goal.bounds-sets-d
bounds-sets-d g c = let h = part_few c.args.tables.now c.args.n c.in-Or.d _ c.requires.fits.1 c.in-Or.is
    (inr refl) in omega arith

pub listed-in-And : goal.listed-in-And
listed-in-And g c = let h = part_few c.args.tables.now c.args.n c.in-And.c _ c.requires.fits.1 c.in-And.is
    (inl refl) in omega arith

pub bounds-sets-c-in-And : goal.bounds-sets-c-in-And
bounds-sets-c-in-And g c = let h = part_few c.args.tables.now c.args.n c.in-And.c _ c.requires.fits.1
    c.in-And.is (inl refl) in omega arith

pub listed-in-And-2 : goal.listed-in-And-2
listed-in-And-2 g c = let h = part_few c.args.tables.now c.args.n c.in-And.d _ c.requires.fits.1 c.in-And.is
    (inr refl) in omega arith

pub bounds-sets-d-in-And : goal.bounds-sets-d-in-And
bounds-sets-d-in-And g c = let h = part_few c.args.tables.now c.args.n c.in-And.d _ c.requires.fits.1
    c.in-And.is (inr refl) in omega arith

pub offset_bounds-sets-c : goal.offset_bounds-sets-c
offset_bounds-sets-c g c = offset_fits c.in-Not.c _ (part_few c.args.tables.now c.args.n c.in-Not.c _
    c.requires.fits.1 c.in-Not.is refl) g.met.K.Kind.roomy

pub offset_bounds-sets-c-in-Or : goal.offset_bounds-sets-c-in-Or
offset_bounds-sets-c-in-Or g c = offset_fits c.in-Or.c _ (part_few c.args.tables.now c.args.n c.in-Or.c _
    c.requires.fits.1 c.in-Or.is (inl refl)) g.met.K.Kind.roomy

pub offset_bounds-sets-d : goal.offset_bounds-sets-d
offset_bounds-sets-d g c = offset_fits c.in-Or.d _ (part_few c.args.tables.now c.args.n c.in-Or.d _
    c.requires.fits.1 c.in-Or.is (inr refl)) g.met.K.Kind.roomy

pub offset_bounds-sets-c-in-And : goal.offset_bounds-sets-c-in-And
offset_bounds-sets-c-in-And g c = offset_fits c.in-And.c _ (part_few c.args.tables.now c.args.n c.in-And.c _
    c.requires.fits.1 c.in-And.is (inl refl)) g.met.K.Kind.roomy

pub offset_bounds-sets-d-in-And : goal.offset_bounds-sets-d-in-And
offset_bounds-sets-d-in-And g c = offset_fits c.in-And.d _ (part_few c.args.tables.now c.args.n c.in-And.d _
    c.requires.fits.1 c.in-And.is (inr refl)) g.met.K.Kind.roomy

pub products_where-requires-clause-callable : goal.products_where-requires-clause-callable
products_where-requires-clause-callable g c =
    let h : c.in-Feature.k ≤ 15 = (sound_tables c.args.tables.now).features c.args.n c.in-Feature.k
    c.in-Feature.is in
    search rules

pub returns-in-False-clause-value : goal.returns-in-False-clause-value
returns-in-False-clause-value g c = λ m agrees.
    let F = family_of c.args.self.now in
    let es = c.args.tables.now.exprs.now in
    let lower = (sound_tables c.args.tables.now).parts_lower in
    let made = c.none.ensures in
    expressed F es lower (m c.none.result) c.args.n ex.False c.in-False.is
    (collects_none F (m c.none.result) (λ _. ⊥) (λ p. agrees c.none.result made.held p ∙ made.value p)
    (λ p x. x))

pub returns-in-True-clause-value : goal.returns-in-True-clause-value
returns-in-True-clause-value g c = λ m agrees.
    let F = family_of c.args.self.now in
    let es = c.args.tables.now.exprs.now in
    let lower = (sound_tables c.args.tables.now).parts_lower in
    expressed F es lower (m c.args.all) c.args.n ex.True c.in-True.is
    (collects_all F (m c.args.all) (λ _. Unit {0}) (c.requires.everyone m agrees) (λ p. tt))

pub returns-in-Feature-clause-value : goal.returns-in-Feature-clause-value
returns-in-Feature-clause-value g c = λ m agrees.
    let F = family_of c.args.self.now in
    let es = c.args.tables.now.exprs.now in
    let lower = (sound_tables c.args.tables.now).parts_lower in
    expressed F es lower (m c.products_where.result) c.args.n (ex.Feature c.in-Feature.k) c.in-Feature.is
    (let met = collects_where F (m c.products_where.result) _ (λ x. T (bit x c.in-Feature.k))
    (c.products_where.ensures.value m agrees) in
    met (λ x b called. let e : b ≡ eqb (bit_and (x / 2 ^ c.in-Feature.k) 1) 1 = search rules in let q : b ≡
    bit x c.in-Feature.k = e ∙ bit_shift x c.in-Feature.k in (λ t. subst T q t, λ t. subst T (sym q) t)))

pub returns-in-Not-clause-value : goal.returns-in-Not-clause-value
returns-in-Not-clause-value g c = λ m agrees.
    let holds = g.K.Kind.holds in
    let means = g.K.Kind.means in
    let old = c.args.kind.now in
    let F = family_of c.args.self.now in
    let es = c.args.tables.now.exprs.now in
    let sets = c.args.sets.now in
    let sat : ℕ → ℕ → Bool = λ e p. satisfies (config F p) (expression_at es e) in
    let made = c.without.ensures in
    let before = agrees_before holds means old c.without.new.kind m made.kept agrees in
    let low_l = part_few c.args.tables.now c.args.n c.in-Not.c _ c.requires.fits.1 c.in-Not.is refl in
    let l = get_or sets c.in-Not.c c.index-sets-c.result in
    let held_l = c.requires.held.1 c.in-Not.c c.index-sets-c.result (omega arith) in
    let in_l = chosen_at m F sets c.in-Not.c c.index-sets-c.result (Chosen F es c.in-Not.c) (omega arith)
    (c.requires.parts m before c.in-Not.c (part_below c.args.tables.now c.args.n c.in-Not.c _ c.in-Not.is
    refl)) in
    expressed F es (sound_tables c.args.tables.now).parts_lower (m c.without.result) c.args.n
    (ex.Not c.in-Not.c) c.in-Not.is
    (collects_not F (m c.args.all) (m l) (m c.without.result) (sat c.in-Not.c) (c.requires.everyone m before)
    (made.value (c.requires.held.0, held_l) m agrees) in_l)

pub returns-in-Or-clause-value : goal.returns-in-Or-clause-value
returns-in-Or-clause-value g c = λ m agrees.
    let holds = g.K.Kind.holds in
    let means = g.K.Kind.means in
    let old = c.args.kind.now in
    let F = family_of c.args.self.now in
    let es = c.args.tables.now.exprs.now in
    let sets = c.args.sets.now in
    let sat : ℕ → ℕ → Bool = λ e p. satisfies (config F p) (expression_at es e) in
    let made = c.join.ensures in
    let before = agrees_before holds means old c.join.new.self m made.kept agrees in
    let low_l = part_few c.args.tables.now c.args.n c.in-Or.c _ c.requires.fits.1 c.in-Or.is (inl refl) in
    let l = get_or sets c.in-Or.c c.index-sets-c-in-Or.result in
    let held_l = c.requires.held.1 c.in-Or.c c.index-sets-c-in-Or.result (omega arith) in
    let in_l = chosen_at m F sets c.in-Or.c c.index-sets-c-in-Or.result (Chosen F es c.in-Or.c) (omega arith)
    (c.requires.parts m before c.in-Or.c (part_below c.args.tables.now c.args.n c.in-Or.c _ c.in-Or.is
    (inl refl))) in
    let low_r = part_few c.args.tables.now c.args.n c.in-Or.d _ c.requires.fits.1 c.in-Or.is (inr refl) in
    let r = get_or sets c.in-Or.d c.index-sets-d.result in
    let held_r = c.requires.held.1 c.in-Or.d c.index-sets-d.result (omega arith) in
    let in_r = chosen_at m F sets c.in-Or.d c.index-sets-d.result (Chosen F es c.in-Or.d) (omega arith)
    (c.requires.parts m before c.in-Or.d (part_below c.args.tables.now c.args.n c.in-Or.d _ c.in-Or.is
    (inr refl))) in
    expressed F es (sound_tables c.args.tables.now).parts_lower (m c.join.result) c.args.n
    (ex.Or c.in-Or.c c.in-Or.d) c.in-Or.is
    (collects_or F (m l) (m r) (m c.join.result) (sat c.in-Or.c) (sat c.in-Or.d)
    (read_two holds means (λ a b. a || b) old c.join.new.self m l r c.join.result made agrees held_l held_r)
    in_l in_r)

pub returns-in-And-clause-value : goal.returns-in-And-clause-value
returns-in-And-clause-value g c = λ m agrees.
    let holds = g.K.Kind.holds in
    let means = g.K.Kind.means in
    let old = c.args.kind.now in
    let F = family_of c.args.self.now in
    let es = c.args.tables.now.exprs.now in
    let sets = c.args.sets.now in
    let sat : ℕ → ℕ → Bool = λ e p. satisfies (config F p) (expression_at es e) in
    let made = c.meet.ensures in
    let before = agrees_before holds means old c.meet.new.self m made.kept agrees in
    let low_l = part_few c.args.tables.now c.args.n c.in-And.c _ c.requires.fits.1 c.in-And.is (inl refl) in
    let l = get_or sets c.in-And.c c.index-sets-c-in-And.result in
    let held_l = c.requires.held.1 c.in-And.c c.index-sets-c-in-And.result (omega arith) in
    let in_l = chosen_at m F sets c.in-And.c c.index-sets-c-in-And.result (Chosen F es c.in-And.c)
    (omega arith)
    (c.requires.parts m before c.in-And.c (part_below c.args.tables.now c.args.n c.in-And.c _ c.in-And.is
    (inl refl))) in
    let low_r = part_few c.args.tables.now c.args.n c.in-And.d _ c.requires.fits.1 c.in-And.is (inr refl) in
    let r = get_or sets c.in-And.d c.index-sets-d-in-And.result in
    let held_r = c.requires.held.1 c.in-And.d c.index-sets-d-in-And.result (omega arith) in
    let in_r = chosen_at m F sets c.in-And.d c.index-sets-d-in-And.result (Chosen F es c.in-And.d)
    (omega arith)
    (c.requires.parts m before c.in-And.d (part_below c.args.tables.now c.args.n c.in-And.d _ c.in-And.is
    (inr refl))) in
    expressed F es (sound_tables c.args.tables.now).parts_lower (m c.meet.result) c.args.n
    (ex.And c.in-And.c c.in-And.d) c.in-And.is
    (collects_and F (m l) (m r) (m c.meet.result) (sat c.in-And.c) (sat c.in-And.d)
    (read_two holds means (λ a b. a && b) old c.meet.new.self m l r c.meet.result made agrees held_l held_r)
    in_l in_r)

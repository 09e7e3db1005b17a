use Rattle.std.proofs.Common.{◌≡◌, ℕ, ◌*◌, length, get_or, sym, refl, ap, ◌∙◌, subst, arith}
use Rattle.std.proofs.lemmas.List.{get_or_read}
use Rattle.families.specs.Families.{count}
use Rattle.formulas.specs.Tables.{last}
use Rattle.product_sets.specs.Cells.{in_cell}
use Rattle.product_sets.proofs.Cells.{cell_at}
use Rattle.checker.specs.Gathered.{family_of}
use Rattle.checker.specs.Checks.{how_many, Answered, accepted}
use Rattle.checker.proofs.Places.{row_fits}
use Rattle.checker.proofs.Tables.{sound_tables}
use Rattle.checker.proofs.Answering.{how_many_same}
use Rattle.checker.proofs.view.FamilyView.check_sound.Goals as goal

pub bounds-cells-tables : goal.bounds-cells-tables
bounds-cells-tables g c =
    let ns = c.args.tables.now.nodes.now in
    let some = (sound_tables c.args.tables.now).some in
    let fits = c.in-Ok.ensures.fits refl in
    let room = row_fits (last ns) (length ns) c.args.self.now.states (length c.fill.new.cells) (omega arith)
    (omega (arith, fits.1)) in
    omega (arith, room, c.args.self.now.sized.0)

pub returns-in-Ok : goal.returns-in-Ok
returns-in-Ok g c =
    let F = family_of c.args.self.now in
    let S = c.args.self.now.states in
    let es = c.args.tables.now.exprs.now in
    let ns = c.args.tables.now.nodes.now in
    let fits = c.in-Ok.ensures.fits refl in
    let sound = sound_tables c.args.tables.now in
    let r = row_fits (last ns) (length ns) S (length c.fill.new.cells) (omega (arith, sound.some))
    (omega (arith, fits.1)) in
    let M = g.K.Kind.means c.fill.new.kind in
    let read : c.index-cells-tables.result ≡ get_or c.fill.new.cells (last ns * S) c.index-cells-tables.result =
    get_or_read c.fill.new.cells (last ns * S) c.index-cells-tables.result (omega arith)
    c.index-cells-tables.is c.index-cells-tables.result in
    let value : how_many (count F) (in_cell M c.fill.new.cells (last ns * S)) ≡ c.count_in.result =
    (how_many_same (count F) _ _ (λ p p<. cell_at M c.fill.new.cells (last ns * S)
    c.index-cells-tables.result p (omega arith) ∙ ap (λ y. M y p) (sym read)) ∙ sym c.count_in.ensures) in
    record {
      law = record {
        answer = subst (λ (v : ℕ). Answered F es ns g.K.Kind.places (length c.args.cells.now)
            (in_cell M c.fill.new.cells (last ns * S)) 0 v) value (accepted sound fits.0 fits.1);
        room = λ _. fits.1;
        filled = λ _. c.fill.ensures.filled;
        products = λ _. c.fill.ensures.products;
        beyond = λ _. c.fill.ensures.beyond;
        refused = λ off. absurd (off refl);
      };
      held = λ _. c.fill.ensures.held;
      kept = c.fill.ensures.kept;
    }

use Rattle.std.proofs.Common.{ℕ, ◌*◌, ◌<◌, ◌≤◌, length, get_or, sym, ap, ◌∙◌, subst, arith}
use Rattle.formulas.specs.Tables.{last}
use Rattle.report.specs.Sessions.{family_of}
use Rattle.report.proofs.Checks.{refused_check, admitted_check, digits_read}
use Rattle.report.proofs.session.Session.checked.Goals as goal

pub returns-then-number-ne-ACCEPTED : goal.returns-then-number-ne-ACCEPTED
returns-then-number-ne-ACCEPTED g c =
    refused_check (family_of c.args.self.now) c.args.tables.now.exprs.now c.args.tables.now.nodes.now
    c.args.self.now.book.contents.sized.1 g.K.Kind.places c.requires.0
    g.K.Kind.means c.args.kind.now c.check_sound-number.new.kind c.args.cells.now
    c.check_sound-number.new.cells c.check_sound-number.result.0 c.check_sound-number.result.1
    c.check_sound-number.ensures.law c.requires.1 c.if-number-ne-ACCEPTED.true _

pub overflow_sub-whole : goal.overflow_sub-whole
overflow_sub-whole g c =
    (admitted_check (family_of c.args.self.now) c.args.tables.now.exprs.now c.args.tables.now.nodes.now
    c.args.self.now.book.contents.sized.1 g.K.Kind.places c.requires.0
    g.K.Kind.means c.args.kind.now c.check_sound-number.new.kind c.args.cells.now
    c.check_sound-number.new.cells c.check_sound-number.result.0 c.check_sound-number.result.1
    c.check_sound-number.ensures.law c.if-number-ne-ACCEPTED.false).0.some

pub of-requires : goal.of-requires
of-requires g c =
    let admitted = admitted_check (family_of c.args.self.now) c.args.tables.now.exprs.now
    c.args.tables.now.nodes.now
    c.args.self.now.book.contents.sized.1 g.K.Kind.places c.requires.0
    g.K.Kind.means c.args.kind.now c.check_sound-number.new.kind c.args.cells.now
    c.check_sound-number.new.cells c.check_sound-number.result.0 c.check_sound-number.result.1
    c.check_sound-number.ensures.law c.if-number-ne-ACCEPTED.false in
    subst (λ (n : ℕ). n ≤ 64) (sym (ap length c.products.ensures)) admitted.1

pub returns : goal.returns
returns g c =
    let F = family_of c.args.self.now in
    let es = c.args.tables.now.exprs.now in
    let ns = c.args.tables.now.nodes.now in
    let kind = c.check_sound-number.new.kind in
    let cells = c.check_sound-number.new.cells in
    let d = c.index-cells-tables.result in
    digits_read F es ns c.args.self.now.book.contents.sized.1 g.K.Kind.places c.requires.0
    g.K.Kind.means c.args.kind.now kind c.args.cells.now cells c.check_sound-number.result.0
    c.check_sound-number.result.1
    c.check_sound-number.ensures.law c.if-number-ne-ACCEPTED.false c.args.self.now.book.contents.sized.0
    (omega arith) d c.of.result.holds c.of.result.count c.of.result.fits
    (c.of.ensures.count ∙ ap length c.products.ensures)
    (λ p p<. c.of.ensures.each p (subst (λ (n : ℕ). p < n) (sym (ap length c.products.ensures)) p<)
    ∙ ap (λ x. g.K.Kind.means kind x p) (c.index-cells-tables.is ∙ ap
    (λ i. get_or cells (last ns * i) d) c.states.ensures))

use Rattle.std.proofs.Common.{[], ◌∷◌, sym, refl, ◌∙◌, subst, rules}
use Rattle.std.proofs.lemmas.Result.{err_from_is_err_and}
use Rattle.lexer.specs.Tokens.{variable, sign}
use Rattle.grammar.specs.Grammar.{conjunction, disjunction, is_true, is_false, opening, word}
use Rattle.grammar.specs.declared.Level.TheVariants.{Formula as formula, Expression as expression}
use Rattle.grammar.specs.Machine.{bar, close, inner_of, unit, and_tail, or_tail, expect, make_both, make_modal, whole}
use Rattle.grammar.proofs.Sound.{closing_is}
use Rattle.reader.specs.Numbering.{put_node}
use Rattle.reader.specs.Reading.{Enters, Passes, Stuck}
use Rattle.reader.proofs.Steps.{stuck, stuck_token, stop_variable, stop_modality, stop_fixpoint, stop_sign, modality_of, fixpoint_of, takes_as, takes_sign}
use Rattle.reader.proofs.Trees.{then_phrase, then_expect, then_action, begins_parens, begins_modal, did_leaf, did_variable, did_not, did_parens, reads_feature, did_modal, did_fixpoint, one_of_units, one_of_parts, and_more, or_more, goes_and, goes_or}
use Rattle.reader.proofs.parser.Reader.+phrase.Goals as goal

-- ---- and-parts

pub and_part-loop-level-init : goal.and_part-loop-level-init
and_part-loop-level-init t c =
    (c.in_ok-left.ensures.onto, one_of_units c.args.level c.args.self.now c.unit.new.self c.in_ok-left.left c.in_ok-left.ensures.reads)

pub and_part-loop-level-preserved : goal.and_part-loop-level-preserved
and_part-loop-level-preserved t c = (
  search rules,
  and_more c.args.level c.args.self.now c.loop-level.self c.loop-level.left c.operator.new.self c.unit-in-loop-level.new.self c.enter-left.new.self c.in_ok-right.right c.enter-left.result c.enter-left.ensures.keeps
      c.loop-level.invariant.1 c.loop-level-test.ensures.operates c.in_ok-right.ensures.reads c.enter-left.ensures.enters,
)

pub and_part-returns-in_err-right-clause-reads : goal.and_part-returns-in_err-right-clause-reads
and_part-returns-in_err-right-clause-reads t c =
    let p = err_from_is_err_and c.from_residual-in_err-right.result c.from_residual-in_err-right.ensures.1 in
    let g = goes_and c.args.level c.args.self.now c.loop-level.self c.operator.new.self c.loop-level.left c.loop-level.invariant.0 c.loop-level.invariant.1 c.operator.ensures.onto c.loop-level-test.ensures.operates in
    rw (p.1, p.2) (stuck (unit c.args.level ∷ []) (make_both conjunction ∷ and_tail c.args.level ∷ []) g c.in_err-right.ensures.reads)

-- ---- formulas and expressions

pub phrase-loop-level-init : goal.phrase-loop-level-init
phrase-loop-level-init t c =
    (c.in_ok-left.ensures.onto, one_of_parts c.args.level c.args.self.now c.and_part.new.self c.in_ok-left.left c.in_ok-left.ensures.reads)

pub phrase-loop-level-preserved : goal.phrase-loop-level-preserved
phrase-loop-level-preserved t c = (
  search rules,
  or_more c.args.level c.args.self.now c.loop-level.self c.loop-level.left c.operator.new.self c.and_part-in-loop-level.new.self c.enter-left.new.self c.in_ok-right.right c.enter-left.result c.enter-left.ensures.keeps
      c.loop-level.invariant.1 c.loop-level-test.ensures.operates c.in_ok-right.ensures.reads c.enter-left.ensures.enters,
)

pub phrase-returns-in_err-right-clause-reads : goal.phrase-returns-in_err-right-clause-reads
phrase-returns-in_err-right-clause-reads t c =
    let p = err_from_is_err_and c.from_residual-in_err-right.result c.from_residual-in_err-right.ensures.1 in
    let g = goes_or c.args.level c.args.self.now c.loop-level.self c.operator.new.self c.loop-level.left c.loop-level.invariant.0 c.loop-level.invariant.1 c.operator.ensures.onto c.loop-level-test.ensures.operates in
    rw (p.1, p.2) (stuck (unit c.args.level ∷ and_tail c.args.level ∷ []) (make_both disjunction ∷ or_tail c.args.level ∷ []) g c.in_err-right.ensures.reads)

-- ---- units

pub unit-returns-in-True-clause-reads : goal.unit-returns-in-True-clause-reads
unit-returns-in-True-clause-reads t c =
    did_leaf (takes_sign c.in-Sign.is c.in-True.is c.in_ok-token.ensures.takes) (is_true c.in-Sign.place) c.enter.ensures.keeps c.enter.ensures.enters

pub unit-returns-in-False-clause-reads : goal.unit-returns-in-False-clause-reads
unit-returns-in-False-clause-reads t c =
    did_leaf (takes_sign c.in-Sign.is c.in-False.is c.in_ok-token.ensures.takes) (is_false c.in-Sign.place) c.enter-in-False.ensures.keeps c.enter-in-False.ensures.enters

pub unit-returns-in-Name-clause-reads : goal.unit-returns-in-Name-clause-reads
unit-returns-in-Name-clause-reads t c =
    reads_feature c.args.level c.args.self.now c.take.new.self c.feature.new.self c.in-Name.place c.in-Name.name.now c.feature.result (takes_as c.in-Name.is c.in_ok-token.ensures.takes) c.feature.ensures.keeps c.feature.ensures.enters

pub unit-returns-in_err-only_at-in-Variable-clause-reads : goal.unit-returns-in_err-only_at-in-Variable-clause-reads
unit-returns-in_err-only_at-in-Variable-clause-reads t c =
    let p = err_from_is_err_and c.from_residual-in_err-only_at-in-Variable.result c.from_residual-in_err-only_at-in-Variable.ensures.1 in
    let z = stuck_token (unit c.args.level) c.args.self.now c.take.new.self (variable c.in-Variable.v) c.in-Variable.place (takes_as c.in-Variable.is c.in_ok-token.ensures.takes) (stop_variable c.args.level c.in_err-only_at-in-Variable.ensures.0 c.in-Variable.v c.in-Variable.place) in
    rw (p.1, p.2) (subst (Stuck (unit c.args.level ∷ []) c.args.self.now) (sym c.in_err-only_at-in-Variable.ensures.1) z)

pub unit-returns-in_ok-only_at-in-Variable-clause-reads : goal.unit-returns-in_ok-only_at-in-Variable-clause-reads
unit-returns-in_ok-only_at-in-Variable-clause-reads t c =
    did_variable c.args.level c.args.self.now c.take.new.self c.enter_node.new.self c.in-Variable.place c.in-Variable.v c.enter_node.result c.in_ok-only_at-in-Variable.ensures (takes_as c.in-Variable.is c.in_ok-token.ensures.takes) c.enter_node.ensures.keeps c.enter_node.ensures.enters

pub unit-returns-in_ok-part-in-Not-clause-reads : goal.unit-returns-in_ok-part-in-Not-clause-reads
unit-returns-in_ok-part-in-Not-clause-reads t c =
    did_not c.args.level c.args.self.now c.take.new.self c.unit.new.self c.enter-in-Not.new.self c.in-Sign.place c.in_ok-part-in-Not.part c.enter-in-Not.result (takes_sign c.in-Sign.is c.in-Not.is c.in_ok-token.ensures.takes) c.in_ok-part-in-Not.ensures.reads c.enter-in-Not.ensures.keeps c.enter-in-Not.ensures.enters

pub unit-returns-in_err-expect-in-Open-clause-reads : goal.unit-returns-in_err-expect-in-Open-clause-reads
unit-returns-in_err-expect-in-Open-clause-reads t c =
    let p = err_from_is_err_and c.from_residual-in_err-expect-in-Open.result c.from_residual-in_err-expect-in-Open.ensures.1 in
    let g = then_phrase c.args.level c.in_ok-whole-in-Open.whole (begins_parens c.args.level c.args.self.now c.take.new.self c.in-Sign.place c.in_ok-token.ensures.onto.end (takes_sign c.in-Sign.is c.in-Open.is c.in_ok-token.ensures.takes)) c.in_ok-whole-in-Open.ensures.onto c.in_ok-whole-in-Open.ensures.reads in
    rw (p.1, p.2) (stuck (expect close ∷ []) [] g (c.in_err-expect-in-Open.ensures.reads close refl))

pub unit-returns-in_ok-expect-in-Open-clause-reads : goal.unit-returns-in_ok-expect-in-Open-clause-reads
unit-returns-in_ok-expect-in-Open-clause-reads t c =
    did_parens c.args.level c.args.self.now c.take.new.self c.phrase.new.self c.expect.new.self c.in-Sign.place c.in_ok-whole-in-Open.whole (takes_sign c.in-Sign.is c.in-Open.is c.in_ok-token.ensures.takes) c.in_ok-whole-in-Open.ensures.reads (c.in_ok-expect-in-Open.ensures.reads close refl)

pub unit-returns-in_err-only_at-in-Less-clause-reads : goal.unit-returns-in_err-only_at-in-Less-clause-reads
unit-returns-in_err-only_at-in-Less-clause-reads t c =
    let p = err_from_is_err_and c.from_residual-in_err-only_at-in-Less.result c.from_residual-in_err-only_at-in-Less.ensures.1 in
    let o = modality_of c.in-Sign.sign c.in-Less.is in
    let z = stuck_token (unit c.args.level) c.args.self.now c.take.new.self (sign (opening o.0)) c.in-Sign.place (takes_sign c.in-Sign.is o.1 c.in_ok-token.ensures.takes) (stop_modality c.args.level c.in_err-only_at-in-Less.ensures.0 o.0 c.in-Sign.place) in
    rw (p.1, p.2) (subst (Stuck (unit c.args.level ∷ []) c.args.self.now) (sym c.in_err-only_at-in-Less.ensures.1) z)

pub unit-returns-in_err-expect-in-Less-clause-reads : goal.unit-returns-in_err-expect-in-Less-clause-reads
unit-returns-in_err-expect-in-Less-clause-reads t c =
    let p = err_from_is_err_and c.from_residual-in_err-expect-in-Less.result c.from_residual-in_err-expect-in-Less.ensures.1 in
    let o = modality_of c.in-Sign.sign c.in-Less.is in
    let g0 = begins_modal c.args.level o.0 c.args.self.now c.take.new.self c.in-Sign.place c.in_ok-only_at-in-Less.ensures c.in_ok-token.ensures.onto.end (takes_sign c.in-Sign.is o.1 c.in_ok-token.ensures.takes) in
    let g1 = then_action c.in_ok-action-in-Less.action g0 c.in_ok-action-in-Less.ensures.onto c.in_ok-action-in-Less.ensures.reads in
    rw (p.1, p.2) (stuck (expect bar ∷ []) (whole expression (expect (inner_of o.0) ∷ unit c.args.level ∷ make_modal o.0 ∷ [])) g1 (c.in_err-expect-in-Less.ensures.reads bar refl))

pub unit-returns-in_err-expr-in-Less-clause-reads : goal.unit-returns-in_err-expr-in-Less-clause-reads
unit-returns-in_err-expr-in-Less-clause-reads t c =
    let p = err_from_is_err_and c.from_residual-in_err-expr-in-Less.result c.from_residual-in_err-expr-in-Less.ensures.1 in
    let o = modality_of c.in-Sign.sign c.in-Less.is in
    let g0 = begins_modal c.args.level o.0 c.args.self.now c.take.new.self c.in-Sign.place c.in_ok-only_at-in-Less.ensures c.in_ok-token.ensures.onto.end (takes_sign c.in-Sign.is o.1 c.in_ok-token.ensures.takes) in
    let g1 = then_action c.in_ok-action-in-Less.action g0 c.in_ok-action-in-Less.ensures.onto c.in_ok-action-in-Less.ensures.reads in
    let g2 = then_expect bar g1 c.in_ok-expect-in-Less.ensures.onto (c.in_ok-expect-in-Less.ensures.reads bar refl) in
    rw (p.1, p.2) (stuck (whole expression []) (expect (inner_of o.0) ∷ unit c.args.level ∷ make_modal o.0 ∷ []) g2 c.in_err-expr-in-Less.ensures.reads)

pub unit-returns-in_err-expect-in-Less-2-clause-reads : goal.unit-returns-in_err-expect-in-Less-2-clause-reads
unit-returns-in_err-expect-in-Less-2-clause-reads t c =
    let p = err_from_is_err_and c.from_residual-in_err-expect-in-Less-2.result c.from_residual-in_err-expect-in-Less-2.ensures.1 in
    let o = modality_of c.in-Sign.sign c.in-Less.is in
    let g0 = begins_modal c.args.level o.0 c.args.self.now c.take.new.self c.in-Sign.place c.in_ok-only_at-in-Less.ensures c.in_ok-token.ensures.onto.end (takes_sign c.in-Sign.is o.1 c.in_ok-token.ensures.takes) in
    let g1 = then_action c.in_ok-action-in-Less.action g0 c.in_ok-action-in-Less.ensures.onto c.in_ok-action-in-Less.ensures.reads in
    let g2 = then_expect bar g1 c.in_ok-expect-in-Less.ensures.onto (c.in_ok-expect-in-Less.ensures.reads bar refl) in
    let g3 = then_phrase expression c.in_ok-expr-in-Less.expr g2 c.in_ok-expr-in-Less.ensures.onto c.in_ok-expr-in-Less.ensures.reads in
    let k = c.closing.ensures o.0 o.1 ∙ sym (closing_is o.0) in
    rw (p.1, p.2) (stuck (expect (inner_of o.0) ∷ []) (unit c.args.level ∷ make_modal o.0 ∷ []) g3 (c.in_err-expect-in-Less-2.ensures.reads (inner_of o.0) k))

pub unit-returns-in_err-part-in-Less-clause-reads : goal.unit-returns-in_err-part-in-Less-clause-reads
unit-returns-in_err-part-in-Less-clause-reads t c =
    let p = err_from_is_err_and c.from_residual-in_err-part-in-Less.result c.from_residual-in_err-part-in-Less.ensures.1 in
    let o = modality_of c.in-Sign.sign c.in-Less.is in
    let g0 = begins_modal c.args.level o.0 c.args.self.now c.take.new.self c.in-Sign.place c.in_ok-only_at-in-Less.ensures c.in_ok-token.ensures.onto.end (takes_sign c.in-Sign.is o.1 c.in_ok-token.ensures.takes) in
    let g1 = then_action c.in_ok-action-in-Less.action g0 c.in_ok-action-in-Less.ensures.onto c.in_ok-action-in-Less.ensures.reads in
    let g2 = then_expect bar g1 c.in_ok-expect-in-Less.ensures.onto (c.in_ok-expect-in-Less.ensures.reads bar refl) in
    let g3 = then_phrase expression c.in_ok-expr-in-Less.expr g2 c.in_ok-expr-in-Less.ensures.onto c.in_ok-expr-in-Less.ensures.reads in
    let k = c.closing.ensures o.0 o.1 ∙ sym (closing_is o.0) in
    let g4 = then_expect (inner_of o.0) g3 c.in_ok-expect-in-Less-2.ensures.onto (subst (λ s. Passes s c.phrase-in-Less.new.self c.expect-in-Less-2.new.self) k (c.in_ok-expect-in-Less-2.ensures.reads (inner_of o.0) k)) in
    rw (p.1, p.2) (stuck (unit c.args.level ∷ []) (make_modal o.0 ∷ []) g4 c.in_err-part-in-Less.ensures.reads)

pub unit-returns-in_ok-part-in-Less-clause-reads : goal.unit-returns-in_ok-part-in-Less-clause-reads
unit-returns-in_ok-part-in-Less-clause-reads t c =
    let o = modality_of c.in-Sign.sign c.in-Less.is in
    let k = c.closing.ensures o.0 o.1 ∙ sym (closing_is o.0) in
    let s = subst (λ s. Passes s c.phrase-in-Less.new.self c.expect-in-Less-2.new.self) (c.closing.ensures o.0 o.1) (c.in_ok-expect-in-Less-2.ensures.reads (inner_of o.0) k) in
    let n = subst (λ y. Enters formula (λ x. put_node y) c.unit-in-Less.new.self c.enter_node-in-Less.new.self c.enter_node-in-Less.result) (c.modal_node.ensures o.0 o.1) c.enter_node-in-Less.ensures.enters in
    did_modal c.args.level o.0 c.args.self.now c.take.new.self c.action.new.self c.expect-in-Less.new.self c.phrase-in-Less.new.self c.expect-in-Less-2.new.self c.unit-in-Less.new.self c.enter_node-in-Less.new.self c.in-Sign.place c.in_ok-action-in-Less.action c.in_ok-expr-in-Less.expr c.in_ok-part-in-Less.part c.enter_node-in-Less.result
    c.in_ok-only_at-in-Less.ensures (takes_sign c.in-Sign.is o.1 c.in_ok-token.ensures.takes) c.in_ok-action-in-Less.ensures.reads (c.in_ok-expect-in-Less.ensures.reads bar refl) c.in_ok-expr-in-Less.ensures.reads s c.in_ok-part-in-Less.ensures.reads c.enter_node-in-Less.ensures.keeps n

pub unit-returns-in_err-only_at-in-Mu-clause-reads : goal.unit-returns-in_err-only_at-in-Mu-clause-reads
unit-returns-in_err-only_at-in-Mu-clause-reads t c =
    let p = err_from_is_err_and c.from_residual-in_err-only_at-in-Mu.result c.from_residual-in_err-only_at-in-Mu.ensures.1 in
    let o = fixpoint_of c.in-Sign.sign c.in-Mu.is in
    let z = stuck_token (unit c.args.level) c.args.self.now c.take.new.self (sign (word o.0)) c.in-Sign.place (takes_sign c.in-Sign.is o.1 c.in_ok-token.ensures.takes) (stop_fixpoint c.args.level c.in_err-only_at-in-Mu.ensures.0 o.0 c.in-Sign.place) in
    rw (p.1, p.2) (subst (Stuck (unit c.args.level ∷ []) c.args.self.now) (sym c.in_err-only_at-in-Mu.ensures.1) z)

pub unit-returns-in_ok-body-in-Mu-clause-reads : goal.unit-returns-in_ok-body-in-Mu-clause-reads
unit-returns-in_ok-body-in-Mu-clause-reads t c =
    let o = fixpoint_of c.in-Sign.sign c.in-Mu.is in
    let n = subst (λ y. Enters formula (λ x. put_node y) c.phrase-in-Mu.new.self c.enter_node-in-Mu.new.self c.enter_node-in-Mu.result) (c.fixpoint_node.ensures o.0 o.1) c.enter_node-in-Mu.ensures.enters in
    did_fixpoint c.args.level o.0 c.args.self.now c.take.new.self c.fixpoint_head.new.self c.phrase-in-Mu.new.self c.enter_node-in-Mu.new.self c.in-Sign.place c.in_ok-v-in-Mu.v c.in_ok-body-in-Mu.body c.enter_node-in-Mu.result
    c.in_ok-only_at-in-Mu.ensures (takes_sign c.in-Sign.is o.1 c.in_ok-token.ensures.takes) c.in_ok-v-in-Mu.ensures.reads c.in_ok-body-in-Mu.ensures.reads c.enter_node-in-Mu.ensures.keeps n

pub unit-returns-in_default-clause-reads : goal.unit-returns-in_default-clause-reads
unit-returns-in_default-clause-reads t c =
    let s = stop_sign c.args.level c.in-Sign.sign c.in-Sign.place c.in_default.not-True c.in_default.not-False c.in_default.not-Not c.in_default.not-Open c.in_default.not-Less c.in_default.not-LeftBracket c.in_default.not-Mu c.in_default.not-Nu in
    subst (Stuck (unit c.args.level ∷ []) c.args.self.now) (sym c.from.ensures)
    (stuck_token (unit c.args.level) c.args.self.now c.take.new.self (sign c.in-Sign.sign) c.in-Sign.place
    (takes_as c.in-Sign.is c.in_ok-token.ensures.takes) s)

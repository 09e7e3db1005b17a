use Rattle.std.proofs.Common.{sym, subst}
use Rattle.words.specs.Words.{InForm}
use Rattle.report.proofs.session.Session.names.Goals as goal

pub invariant_of-result : goal.invariant_of-result
invariant_of-result c = record { form = subst (λ b. ∥ InForm 64 b ∥₁) (sym c.deref.ensures.value) c.args.self.now.action_form }

pub invariant_of-result-2 : goal.invariant_of-result-2
invariant_of-result-2 c = record { form = subst (λ b. ∥ InForm 16 b ∥₁) (sym c.deref-2.ensures.value) c.args.self.now.feature_form }

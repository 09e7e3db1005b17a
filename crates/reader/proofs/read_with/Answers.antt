use Rattle.std.proofs.Common.{sym, refl, subst}
use Rattle.words.specs.Words.{InForm}
use Rattle.words.proofs.Cut.{in_form}
use Rattle.reader.specs.Vocabularies.{Knows}
use Rattle.reader.proofs.read_with.Goals as goal

pub returns : goal.returns
returns c =
    let v = c.args.names in
    let a = subst (λ limit. InForm limit v.actions.list.now) v.action_limit (in_form v.actions.form) in
    let f = subst (λ limit. InForm limit v.features.list.now) v.feature_limit (in_form v.features.form) in
    c.read_or_clear.ensures _ _ (λ names is. subst (Knows _ _) (sym is) ((a, f), refl, refl))

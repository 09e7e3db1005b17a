use Rattle.std.proofs.Common.{rules}
use Rattle.words.proofs.Cut.{is_form, form_is}
use Rattle.words.proofs.names.keeps_form.Goals as goal

pub returns-then-is_ended : goal.returns-then-is_ended
returns-then-is_ended c = (λ t. (_, is_form (search rules) (search rules) (search rules) (search rules)), λ u. let f = form_is u in search rules)

pub returns-else-is_ended : goal.returns-else-is_ended
returns-else-is_ended c = (λ t. absurd (search rules), λ u. let f = form_is u in absurd (search rules))

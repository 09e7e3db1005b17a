use Rattle.std.proofs.Common.{sym, subst}
use Rattle.words.proofs.Cut.{lines}
use Rattle.words.specs.Words.{Lines}
use Rattle.words.proofs.lookup.Goals as goal

pub returns : goal.returns
returns c =
    let e = c.in_ok-new.ensures in
    record { kept = λ ws w. c.number.ensures ws (subst (λ bs. Lines bs ws) (sym e.1) (lines w)); refused = λ h. absurd (h e.0) }

use Rattle.std.proofs.Common.{◌≢◌, subst, sym, ap, ◌∙◌}
use Rattle.std.specs.List.{AllPairs}
use Rattle.families.specs.Families.{all_within}
use Rattle.book.proofs.Held.{all_pairs_take, within_take}
use Rattle.book.proofs.contents.Contents.cut_back.Goals as goal

pub invariant_of-self-clause-lawful : goal.invariant_of-self-clause-lawful
invariant_of-self-clause-lawful c =
    let l = c.args.self.now.lawful in (
      subst (AllPairs ◌≢◌) (sym c.truncate.ensures.items) (all_pairs_take ◌≢◌ _ _ l.0),
      subst (AllPairs ◌≢◌) (sym c.truncate-2.ensures.items) (all_pairs_take ◌≢◌ _ _ l.1),
      ap (all_within c.args.self.now.states) c.truncate-2.ensures.items
          ∙ within_take c.args.self.now.states _ _ l.2,
    )

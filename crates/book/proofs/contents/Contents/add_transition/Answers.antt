use Rattle.std.proofs.Common.{◌≡◌, true, vec_items, ap, ◌∙◌, arith}
use Rattle.std.proofs.lemmas.Bool.Decides.{nat_tests}
use Rattle.families.specs.Families.{transition_within, all_within}
use Rattle.book.specs.Rules.{same_transition}
use Rattle.book.proofs.Held.{all_pairs_differ_push, same_transition_itself, within_push}
use Rattle.book.proofs.contents.Contents.add_transition.Goals as goal

pub invariant_of-self-clause-lawful : goal.invariant_of-self-clause-lawful
invariant_of-self-clause-lawful c =
    let s = c.args.self.now.states in
    let t = c.args.transition in
    let l = c.args.self.now.lawful in
    let w : transition_within s t ≡ true = grind (arith, nat_tests) in (
      l.0,
      all_pairs_differ_push same_transition same_transition_itself t _ _ _ l.1
          c.deref.ensures.value c.if-contains.ensures.cases c.push_reserved.ensures.items,
      ap (all_within s) c.push_reserved.ensures.items
          ∙ within_push s (vec_items c.args.self.now.transitions) t l.2 w,
    )

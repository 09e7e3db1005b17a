use Rattle.std.proofs.Common.{nat_eq}
use Rattle.book.proofs.Held.{all_pairs_differ_push, nat_eq_itself}
use Rattle.book.proofs.contents.Contents.add_product.Goals as goal

pub invariant_of-self-clause-lawful : goal.invariant_of-self-clause-lawful
invariant_of-self-clause-lawful c =
    let l = c.args.self.now.lawful in (
      all_pairs_differ_push nat_eq nat_eq_itself c.args.configuration _ _ _ l.0
          c.deref.ensures.value c.if-contains.ensures.cases c.push_reserved.ensures.items,
      l.1,
      l.2,
    )

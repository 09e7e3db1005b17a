use Rattle.std.proofs.Common.{◌≡◌, ℕ, ◌<◌, List, IfOk, vec_items, subst, rules}
use Rattle.std.proofs.lemmas.Bool.Decides.{nat_tests}
use Rattle.families.specs.declared.Transition.{Transition}
use Rattle.families.specs.Families.{config, count}
use Rattle.book.specs.Contents.{closed_contents}
use Rattle.book.specs.Own.{Listed}
use Rattle.book.proofs.ListedOwn.{made_own}
use Rattle.book.proofs.books.ClosedBook.own_transitions.Goals as goal

pub returns-clause-own : goal.returns-clause-own
returns-clause-own c =
    let f = closed_contents c.args.self.now in
    let h : c.args.product < count f = search (rules, nat_tests) in
    let e : c.in-Some.configuration.now ≡ config f c.args.product = search (rules, nat_tests) in
    made_own f c.args.product vec_items h c.list_all.result
    (subst (λ (x : ℕ). IfOk c.list_all.result (λ v. Listed x f.transitions (vec_items v))) e
    (subst
    (λ (ts : List Transition). IfOk c.list_all.result (λ v. Listed c.in-Some.configuration.now ts (vec_items v)))
    c.deref.ensures.value c.list_all.ensures))

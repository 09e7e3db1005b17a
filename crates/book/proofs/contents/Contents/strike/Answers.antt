use Rattle.std.proofs.Common.{◌≡◌, ◌≢◌, subst, vec_items, sym, ap, ◌∙◌, arith, rules}
use Rattle.std.proofs.lemmas.Bool.Decides.{nat_tests}
use Rattle.std.specs.List.{AllPairs}
use Rattle.std.proofs.lemmas.List.Quantifiers.{all_pairs_remove}
use Rattle.book.specs.Lists.{without}
use Rattle.book.specs.Rules.{same_transition}
use Rattle.families.specs.Families.{all_within}
use Rattle.book.proofs.Held.{first_at, first_nowhere, without_absent, within_without}
use Rattle.book.proofs.contents.Contents.strike.Goals as goal

pub returns-in_default : goal.returns-in_default
returns-in_default c =
    let t = c.args.transition in
    let ts = vec_items c.args.self.now.transitions in
    let h = first_nowhere same_transition t ts (sym c.place_of.ensures ∙ c.in_default.is) in
    let k = without_absent same_transition t ts h in
    search (rules, nat_tests)

pub remove-requires : goal.remove-requires
remove-requires c =
    let ts = vec_items c.args.self.now.transitions in
    let found = sym c.place_of.ensures ∙ c.in-Some.is in
    let h = (first_at same_transition c.args.transition ts c.in-Some.at found).0 in
    omega arith

pub invariant_of-self-clause-lawful : goal.invariant_of-self-clause-lawful
invariant_of-self-clause-lawful c =
    let t = c.args.transition in
    let ts = vec_items c.args.self.now.transitions in
    let l = c.args.self.now.lawful in
    let f = first_at same_transition t ts c.in-Some.at (sym c.place_of.ensures ∙ c.in-Some.is) in (
      l.0,
      subst (AllPairs ◌≢◌) (sym c.remove.ensures.items) (all_pairs_remove ◌≢◌ ts c.in-Some.at f.0 l.1),
      ap (all_within c.args.self.now.states) (c.remove.ensures.items ∙ sym f.2)
          ∙ within_without c.args.self.now.states t ts l.2,
    )

pub returns : goal.returns
returns c =
    let t = c.args.transition in
    let ts = vec_items c.args.self.now.transitions in
    let f = first_at same_transition t ts _ (sym c.place_of.ensures ∙ c.in-Some.is) in
    let h = f.1 in
    let e : vec_items c.remove.new.self ≡ without same_transition t ts = c.remove.ensures.items ∙ sym f.2 in
    search (rules, nat_tests)

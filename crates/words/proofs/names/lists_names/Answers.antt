use Rattle.std.proofs.Common.{◌≡◌, ◌<◌, ◌≤◌, ℕ, ⊎_elim, length, get_or, subst, List, [], Some, arith, rules, tests}
use Rattle.std.specs.List.{AllByRecursion}
use Rattle.std.proofs.ByRecursion.{all_from_every, every_from_all}
use Rattle.std.proofs.lemmas.Bool.{cases_lt}
use Rattle.std.proofs.lemmas.List.{get_or_default}
use Rattle.std.proofs.lemmas.List.FromFn.{length-enumerate_from}
use Rattle.std.proofs.lemmas.Iterator.Consumers.{YieldsList-from_first, YieldsList-from_enumerate, YieldsList-at}
use Rattle.std.proofs.lemmas.Iterator.{cases_from_all}
use Rattle.lexer.specs.Tokens.{Name}
use Rattle.words.specs.Words.{Apart, number}
use Rattle.words.specs.Cut.{cut, left}
use Rattle.words.proofs.Numbers.{decided, numbered_apart, apart_numbered, enumerated}
use Rattle.words.proofs.names.lists_names.Goals as goal

-- what is asked of a line and its place
abbrev Entry : ℕ → List (List ℕ) → ℕ × List ℕ → Type 0
Entry limit ws p = (p.0 < limit) × Name p.1 × (number ws p.1 ≡ Some p.0)

module _ (limit : ℕ) (ws : List (List ℕ)) where
  from_entries : ((k : ℕ) → k < length ws → Entry limit ws (k, get_or ws k []))
      → (length ws ≤ limit) × AllByRecursion Name ws × Apart ws
  from_entries h = (
    ⊎_elim (λ more. absurd (omega (arith, (h limit more).0))) (λ few. few)
        (cases_lt limit (length ws)),
    all_from_every Name ws (λ k d z lt. subst Name (get_or_default ws k [] d lt) (h k lt).1),
    numbered_apart ws (λ k lt. (h k lt).2),
  )

  entries_of : (length ws ≤ limit) × AllByRecursion Name ws × Apart ws
      → (k : ℕ) → k < length ws → Entry limit ws (k, get_or ws k [])
  entries_of h k lt = (omega (arith, h.0), every_from_all Name ws h.1 k [] (omega arith) lt, apart_numbered ws h.2 k lt)

pub returns : goal.returns
returns c =
    let limit = c.args.limit in
    let ws = cut c.args.list.now in
    let entry = Entry limit ws in
    let places = length-enumerate_from 0 ws in
    decided c.all.result
    (λ h. from_entries limit ws
    (λ k lt. subst entry (enumerated ws k lt) (h k (0, []) (omega arith) (omega (arith, places)))))
    (λ h e. let lt : e.0 < length ws = omega (arith, e.1, places) in
    subst (λ p. entry p → ⊥) (enumerated ws e.0 lt) (e.2 (0, [])) (entries_of limit ws h e.0 lt))
    (cases_from_all c.all.new.self _ c.all.result entry (λ p. entry p → ⊥) c.all.ensures.ran
    (YieldsList-from_enumerate (YieldsList-at c.enumerate.ensures.source
    (YieldsList-from_first (λ l. l.now) left ws c.of.ensures)) c.enumerate.ensures.count)
    (λ x q k. search (rules, tests)) (λ x q k. search (rules, tests)))

-- How a session begins.
use Rattle.std.proofs.Common.{◌≡◌, ℕ, true, false, Some, None, Option, is_some, List, ◌++◌, codes, sym, ap, ◌∙◌, subst, arith}
use Rattle.reader.specs.Vocabularies.{Knows}
use Rattle.reader.specs.declared.vocabulary.Vocabulary.{Vocabulary}
use Rattle.families.specs.Families.{Family}
use Rattle.book.specs.Rules.{opened}
use Rattle.book.specs.Loads.{load_answer}
use Rattle.report.specs.Lines.{two_numbers}
use Rattle.report.specs.Sessions.{Worded, TurnedAway, bad_book, bad_words}

module _ (family actions features : List ℕ) (f : Family) (fresh : f ≡ opened 64) (answer : ℕ × ℕ) (is : answer ≡ load_answer f family) where
  on_opened : load_answer (opened 64) family ≡ answer
  on_opened = sym (is ∙ ap (λ g. load_answer g family) fresh)

  pub by_book : ¬ (answer.0 ≡ 0) → TurnedAway family actions features (codes "book " ++ two_numbers answer.0 answer.1)
  by_book bad = bad_book on_opened bad

  pub by_words : answer.0 ≡ 0 → ¬ Worded actions features → TurnedAway family actions features (codes "words 21 0")
  by_words good bad = bad_words (ap (λ x. x.0) on_opened ∙ good) bad

-- The word lists that no names are made of, and those of which names are made.
module _ {xs ys actions features : List ℕ} (a : xs ≡ actions) (f : ys ≡ features) where
  moved : (o : Option Vocabulary) → Knows xs ys o → Knows actions features o
  moved o k = subst (λ l. Knows l features o) a (subst (λ l. Knows xs l o) f k)

  pub unworded : (o : Option Vocabulary) → Knows xs ys o → is_some o ≡ false → ¬ Worded actions features
  unworded (Some v) k e = let z : ◌≡◌ {A = ℕ} 0 1 = cc in absurd (omega arith)
  unworded None k e = moved None k

  pub worded : (o : Option Vocabulary) → Knows xs ys o → is_some o ≡ true → Worded actions features
  worded (Some v) k e = (moved (Some v) k).0
  worded None k e = let z : ◌≡◌ {A = ℕ} 0 1 = cc in absurd (omega arith)

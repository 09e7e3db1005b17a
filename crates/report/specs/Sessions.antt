-- How a session begins: with a family and two word lists, or with a line that says why not.
use Rattle.std.specs.Prelude.{◌≡◌, ℕ, List, ◌++◌, Ok, Err, Result, vec_items, codes}
use Rattle.families.specs.Families.{Family}
pub use Rattle.reader.specs.Vocabularies.{Worded}
use Rattle.book.specs.Rules.{opened}
use Rattle.book.specs.Loads.{load_answer, load_after}
use Rattle.book.specs.Contents.{closed_contents}
use Rattle.report.specs.Lines.{two_numbers}
use Rattle.report.specs.declared.session.Session.{Session}
use Rattle.report.specs.declared.session.Unopened.{Unopened}
use Rattle.report.specs.declared.session.Unopened.TheVariants.{Book, Words}

abbrev pub family_of : Session → Family
family_of s = closed_contents s.book

abbrev pub actions_of : Session → List ℕ
actions_of s = vec_items s.actions

abbrev pub features_of : Session → List ℕ
features_of s = vec_items s.features

-- The one line that is written where the load is refused, or else a word list.
pub data TurnedAway (family actions features : List ℕ) : List ℕ → Type 0 where
  bad_book : {k v : ℕ} → load_answer (opened 64) family ≡ (k, v) → ¬ (k ≡ 0) → TurnedAway family actions features (codes "book " ++ two_numbers k v)
  bad_words : (load_answer (opened 64) family).0 ≡ 0 → ¬ Worded actions features → TurnedAway family actions features (codes "words 21 0")

-- A session that begins: it has the family that the load leaves, and both lists.
pub record Begun (family actions features : List ℕ) (s : Session) : Type 0 where
  pub loaded : (load_answer (opened 64) family).0 ≡ 0
  pub worded : Worded actions features
  pub contents : family_of s ≡ load_after (opened 64) family
  pub same_actions : actions_of s ≡ actions
  pub same_features : features_of s ≡ features

-- What is printed of a session that does not begin.
abbrev pub line_of : Unopened → List ℕ
line_of (Book k v) = codes "book " ++ two_numbers k v
line_of Words = codes "words 21 0"

abbrev pub Opens : List ℕ → List ℕ → List ℕ → Result Session Unopened → Type 0
Opens family actions features (Err u) = TurnedAway family actions features (line_of u)
Opens family actions features (Ok s) = Begun family actions features s

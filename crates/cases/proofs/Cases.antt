-- The worked cases, by computing the answers to all of them.
use Rattle.std.proofs.Common.{◌≡◌, Bool, true, ltb, List, [], ◌∷◌, map, refl, subst}
use Rattle.std.specs.List.{AllByRecursion}
use Rattle.std.proofs.lemmas.Bool.{and_parts, ltb-true}
use Rattle.words.specs.Words.{WordList}
use Rattle.report.specs.Answers.{Outcome, Answer}
use Rattle.cases.specs.Cases.{Case, cases, action_names, feature_names, actions, features, FilesHold, Holds, CasesHold}
use Rattle.cases.proofs.WordLists.{every, word_list}
use Rattle.cases.proofs.Answering.{answer, answers}

known_actions : WordList 64 actions action_names
known_actions = word_list 64 action_names refl

known_features : WordList 16 features feature_names
known_features = word_list 16 feature_names refl

pub files_hold_4 : FilesHold 4
files_hold_4 = (refl, (action_names, known_actions), (feature_names, known_features))

pub files_hold_64 : FilesHold 64
files_hold_64 = (refl, (action_names, known_actions), (feature_names, known_features))

abbrev computed : Case → Outcome
computed c = answer c.family action_names feature_names c.text

abbrev has_state : Case → Bool
has_state c = ltb 0 c.family.states

holds : (c : Case) → has_state c ≡ true → computed c ≡ c.outcome → Holds c
holds c some is =
    subst (Answer c.family actions features c.text) is
    (answers c.family (ltb-true 0 c.family.states some) actions features action_names feature_names known_actions known_features c.text)

-- Cases hold if their families have a state and the outcomes that are computed are theirs.
all_hold : (cs : List Case) → every has_state cs ≡ true → map computed cs ≡ map (λ c. c.outcome) cs → AllByRecursion Holds cs
all_hold [] some are = tt
all_hold (c ∷ cs) some are =
    let s = and_parts (has_state c) (every has_state cs) some in
    let is : computed c ≡ c.outcome = cc in
    let others : map computed cs ≡ map (λ c. c.outcome) cs = cc in
    (holds c s.0 is, all_hold cs s.1 others)

pub cases_hold_4 : CasesHold 4
cases_hold_4 = all_hold (cases 4) refl refl

pub cases_hold_64 : CasesHold 64
cases_hold_64 = all_hold (cases 64) refl refl

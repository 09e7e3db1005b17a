-- Reading the words of a line from left to right, with what was expected at the first that is wrong.
use Rattle.std.specs.Prelude.{ℕ, ◌+◌, ◌-◌, ◌*◌, ◌^◌, ◌&&◌, nat_lt, not, if◌then◌else◌, bit_or}
use Rattle.std.specs.Prelude.{List, [], ◌∷◌, take, drop, codes, Option, Some, None, Result, Ok, Err}
use Rattle.std.specs.List.{prefix_len}
use Rattle.std.specs.Str.{bytes_eq}
use Rattle.std.specs.Int.{is_in_range}
use Rattle.families.specs.declared.Transition.{Transition}
use Rattle.book.specs.declared.records.Record.{Record}
use Rattle.book.specs.declared.records.Record.TheVariants.{AddProduct, AddTransition}
use Rattle.words.specs.Words.{number}
use Rattle.family_text.specs.declared.errors.Expected.{Expected}
use Rattle.family_text.specs.declared.errors.Expected.TheVariants.{Key, State, Action, Feature, Condition}
use Rattle.family_text.specs.Words.{Word, word_at}
use Rattle.family_text.specs.Grammar.{Lists}

infixl 10 ◌>>=◌
abbrev pub ◌>>=◌ : {A B : Type 0} → Result A Expected → (A → Result B Expected) → Result B Expected
(Ok x) >>= f = f x
(Err e) >>= f = Err e

abbrev pub or_expected : Expected → Option ℕ → Result ℕ Expected
or_expected e (Some n) = Ok n
or_expected e None = Err e

abbrev pub below_64 : ℕ → Result ℕ Expected
below_64 n = if nat_lt n 64 then Ok n else Err State

abbrev pub state_of : Word → Result ℕ Expected
state_of (one ∷ []) = if is_in_range 48 57 one then below_64 (one - 48) else Err State
state_of (ten ∷ one ∷ []) =
    if is_in_range 49 54 ten && is_in_range 48 57 one then below_64 (10 * (ten - 48) + (one - 48)) else Err State
state_of _ = Err State

abbrev pub action_of : Lists → Word → Result ℕ Expected
action_of names w = or_expected Action (number names.actions w)

-- The set of the one feature that a word names.
abbrev pub feature_of : Lists → Word → Result ℕ Expected
feature_of names w = or_expected Feature (number names.features w) >>= λ k. Ok (2 ^ k)

-- A set with the features that words name.
abbrev pub features_from : Lists → ℕ → List Word → Result ℕ Expected
features_from names set [] = Ok set
features_from names set (w ∷ ws) =
    feature_of names w >>= λ one. features_from names (bit_or set one) ws

abbrev pub part_of : Lists → Word → List Word → Result ℕ Expected
part_of names key [] = Ok 0
part_of names key (w ∷ []) = if bytes_eq w key then Err Feature else Err Condition
part_of names key (w ∷ u ∷ us) = if bytes_eq w key then features_from names 0 (u ∷ us) else Err Condition

-- How many words stand before the first `bars`.
abbrev pub before_bars : List Word → ℕ
before_bars ws = prefix_len (λ w. not (bytes_eq w (codes "bars"))) ws

unfoldable pub condition_of : Lists → List Word → Result (ℕ × ℕ) Expected
condition_of names ws = do
  required ← part_of names (codes "needs") (take (before_bars ws) ws)
  excluded ← part_of names (codes "bars") (drop (before_bars ws) ws)
  Ok (required, excluded)

unfoldable pub transition_of : Lists → List Word → Result Transition Expected
transition_of names ws = do
  source ← state_of (word_at ws 1)
  action ← action_of names (word_at ws 2)
  target ← state_of (word_at ws 3)
  condition ← condition_of names (drop 4 ws)
  Ok (record { source = source; action = action; target = target; required = condition.0; excluded = condition.1 })

unfoldable pub record_of : Lists → List Word → Result (Option Record) Expected
record_of names ws =
    if bytes_eq (word_at ws 0) [] then Ok None
    else (if bytes_eq (word_at ws 0) (codes "vat")
    then features_from names 0 (drop 1 ws) >>= (λ set. Ok (Some (AddProduct set)))
    else (if bytes_eq (word_at ws 0) (codes "step")
    then transition_of names ws >>= (λ t. Ok (Some (AddTransition t)))
    else Err Key))

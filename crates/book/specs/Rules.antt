-- The rules of the calls on a book, read on its contents: a family. A call gives a value or is refused, and
-- answers by a number and a value.
use Rattle.std.specs.Prelude.{◌≡◌, ◌≢◌, ℕ, ◌+◌, ◌≤◌, Bool, true, if◌then◌else◌, not, ◌&&◌, ◌==◌}
use Rattle.std.specs.Prelude.{nat_eq, nat_le, List, [], ◌∷◌, ◌++◌, length, AllPairs, Result, Ok, Err, is_ok}
use Rattle.families.specs.declared.Transition.{Transition}
use Rattle.families.specs.Families.{Family, transition_within, all_within}
use Rattle.book.specs.declared.refusals.Refusal.{Refusal}
use Rattle.book.specs.declared.refusals.Refusal.TheVariants.{BadStateCount, ProductsFull, ProductHeld}
use Rattle.book.specs.declared.refusals.Refusal.TheVariants.{OutOfRange, TransitionHeld, TransitionsFull}
use Rattle.book.specs.declared.refusals.Refusal.TheVariants.{NotHeld}
use Rattle.book.specs.Answers.{answer_of}
use Rattle.book.specs.Lists.{is_held, without}

-- Two transitions are equal if all five fields are equal.
abbrev pub same_transition : Transition → Transition → Bool
same_transition a b =
    (a.source == b.source) && (a.action == b.action && (a.target == b.target
    && (a.required == b.required && a.excluded == b.excluded)))

-- Opening is refused if the count of states is 0 or above 64, and the book then has one state.
abbrev pub state_count_fits : ℕ → Bool
state_count_fits s = nat_le 1 s && nat_le s 64

abbrev pub open_answer : ℕ → ℕ × ℕ
open_answer s = answer_of (if state_count_fits s then Ok 0 else Err BadStateCount)

abbrev pub opened : ℕ → Family
opened s = record { states = if state_count_fits s then s else 1; products = []; transitions = [] }

-- Adding a product is refused if 200 are held, then if the configuration is held. The value is the number of
-- the new product.
abbrev pub product_result : Family → ℕ → Result ℕ Refusal
product_result f c =
    if nat_le 200 (length f.products) then Err ProductsFull
    else (if is_held nat_eq c f.products then Err ProductHeld else Ok (length f.products))

abbrev pub product_answer : Family → ℕ → ℕ × ℕ
product_answer f c = answer_of (product_result f c)

abbrev pub product_after : Family → ℕ → Family
product_after f c =
    if is_ok (product_result f c) then record f { products = f.products ++ c ∷ [] } else f

-- Adding a transition is refused if it lies outside the states and actions, then if an equal one is held,
-- then if 256 are held. The value is the count of transitions after it.
abbrev pub transition_result : Family → Transition → Result ℕ Refusal
transition_result f t =
    if not (transition_within f.states t) then Err OutOfRange
    else (if is_held same_transition t f.transitions then Err TransitionHeld
    else (if nat_le 256 (length f.transitions) then Err TransitionsFull else Ok (length f.transitions + 1)))

abbrev pub transition_answer : Family → Transition → ℕ × ℕ
transition_answer f t = answer_of (transition_result f t)

abbrev pub transition_after : Family → Transition → Family
transition_after f t =
    if is_ok (transition_result f t) then record f { transitions = f.transitions ++ t ∷ [] } else f

-- Striking a transition is refused if no equal one is held. The others keep their order, and the value is the
-- count left.
abbrev pub strike_result : Family → Transition → Result ℕ Refusal
strike_result f t =
    if is_held same_transition t f.transitions then Ok (length (without same_transition t f.transitions))
    else Err NotHeld

abbrev pub strike_answer : Family → Transition → ℕ × ℕ
strike_answer f t = answer_of (strike_result f t)

abbrev pub strike_after : Family → Transition → Family
strike_after f t = record f { transitions = without same_transition t f.transitions }

-- What every book keeps: its numbers are within their limits,
abbrev pub Sized : ℕ → ℕ → ℕ → Type 0
Sized states products transitions = (1 ≤ states) × (states ≤ 64) × (products ≤ 200) × (transitions ≤ 256)

-- there is room for all that it may ever hold,
abbrev pub Roomy : ℕ → ℕ → Type 0
Roomy product_room transition_room = (200 ≤ product_room) × (256 ≤ transition_room)

-- and no two products or transitions are equal, and nothing lies outside its states and actions.
abbrev pub Lawful : ℕ → List ℕ → List Transition → Type 0
Lawful states products transitions =
    AllPairs ◌≢◌ products × AllPairs ◌≢◌ transitions × (all_within states transitions ≡ true)

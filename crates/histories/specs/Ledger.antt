-- The plain ledger: what a book holds, told from its opening and from the calls on it and their arguments
-- alone. The rule of a call is read on the ledger, and no answer of a book is.
use Rattle.std.specs.Prelude.{ℕ, ◌/◌, Bool, true, false, if◌then◌else◌, not, List, [], ◌∷◌, ◌++◌, length}
use Rattle.std.specs.Prelude.{◌==◌, fold, take}
use Rattle.std.specs.Borrow.{Bor}
use Rattle.families.specs.declared.Transition.{Transition}
use Rattle.families.specs.Families.{Family}
use Rattle.book.specs.Lists.{without}
use Rattle.book.specs.Rules.{state_count_fits, same_transition, product_answer, transition_answer}
use Rattle.book.specs.Rules.{strike_answer}
use Rattle.book.specs.Loads.{load_answer}
use Rattle.book.specs.LoadLaw.{products_of, transitions_of, Loaded}
use Rattle.histories.specs.declared.calls.Call.{Call}
use Rattle.histories.specs.declared.calls.Call.TheVariants as call

-- Whether a rule accepts: the number that it gives is 0.
abbrev pub is_accepted : ℕ × ℕ → Bool
is_accepted rule = rule.0 == 0

-- A ledger with more products and transitions at the ends of its lists.
abbrev pub ledger_with : Family → List ℕ → List Transition → Family
ledger_with ledger products transitions = record ledger {
  products = ledger.products ++ products;
  transitions = ledger.transitions ++ transitions;
}

-- A ledger without the transition that equals this one; the others keep their order.
abbrev pub ledger_without : Family → Transition → Family
ledger_without ledger t = record ledger { transitions = without same_transition t ledger.transitions }

-- A ledger with all records of a load.
abbrev pub ledger_with_records : Family → List ℕ → Family
ledger_with_records ledger bytes =
    let records = length bytes / 8 in
    ledger_with ledger (products_of bytes records) (transitions_of bytes records)

-- The ledger after a call. Unless the call's rule refuses it, an addition or a load puts its products and
-- transitions at the ends of the lists, in order, and a strike removes the equal transition. All else changes
-- nothing.
abbrev pub ledger_after : Family → Call → Family
ledger_after ledger (call.AddProduct c) =
    if is_accepted (product_answer ledger c) then ledger_with ledger (c ∷ []) [] else ledger
ledger_after ledger (call.AddTransition t) =
    if is_accepted (transition_answer ledger t) then ledger_with ledger [] (t ∷ []) else ledger
ledger_after ledger (call.Strike t) =
    if is_accepted (strike_answer ledger t) then ledger_without ledger t else ledger
ledger_after ledger (call.Load bytes) =
    if is_accepted (load_answer ledger bytes.now) then ledger_with_records ledger bytes.now else ledger
ledger_after ledger call.Close = ledger
ledger_after ledger (call.Check exprs nodes) = ledger
ledger_after ledger call.Reopen = ledger

-- A book between two calls: whether it is open, and its ledger.
pub record Standing : Type 0 where
  pub is_open : Bool
  pub ledger : Family

-- Which calls a book admits: an open one all but checks and reopening, a closed one these two.
abbrev pub is_admitted : Bool → Call → Bool
is_admitted is_open (call.AddProduct c) = is_open
is_admitted is_open (call.AddTransition t) = is_open
is_admitted is_open (call.Strike t) = is_open
is_admitted is_open (call.Load bytes) = is_open
is_admitted is_open call.Close = is_open
is_admitted is_open (call.Check exprs nodes) = not is_open
is_admitted is_open call.Reopen = not is_open

-- Whether a book is open after a call that it admits.
abbrev pub is_open_after : Call → Bool
is_open_after (call.AddProduct c) = true
is_open_after (call.AddTransition t) = true
is_open_after (call.Strike t) = true
is_open_after (call.Load bytes) = true
is_open_after call.Close = false
is_open_after (call.Check exprs nodes) = false
is_open_after call.Reopen = true

-- The standing after a call. One that is not admitted is left out.
abbrev pub next_standing : Standing → Call → Standing
next_standing standing call =
    if is_admitted standing.is_open call
    then record { is_open = is_open_after call; ledger = ledger_after standing.ledger call } else standing

-- A book is opened with S states, or with 1 where opening refuses so many. It is open then, and both lists
-- are empty.
abbrev pub first_standing : ℕ → Standing
first_standing states = record {
  is_open = true;
  ledger = record { states = if state_count_fits states then states else 1; products = []; transitions = [] };
}

-- The standing after some calls, and after the first k of them.
abbrev pub standing_after : ℕ → List Call → Standing
standing_after states calls = fold next_standing (first_standing states) calls

abbrev pub standing_at : ℕ → List Call → ℕ → Standing
standing_at states calls k = standing_after states (take k calls)

-- The ledger after the first k calls.
abbrev pub ledger_at : ℕ → List Call → ℕ → Family
ledger_at states calls k = (standing_at states calls k).ledger

-- A load comes in whole or not at all, whatever the ledger and the bytes.
abbrev pub LoadsAreWhole : Type 0
LoadsAreWhole =
    (ledger : Family) (bytes : Bor (List ℕ)) → let answer : ℕ × ℕ = load_answer ledger bytes.now in
    Loaded ledger bytes.now answer.0 answer.1 (ledger_after ledger (call.Load bytes))

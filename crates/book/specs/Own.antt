-- The own transitions of a product, as a list.
use Rattle.std.specs.Prelude.{◌≡◌, ℕ, ◌<◌, ◌≤◌, Bool, true, false, ◌&&◌, ◌↔◌, List, [], ◌∷◌, ◌++◌, ◌==◌}
use mathlib.Core.List.{Memᴰ}
use Rattle.families.specs.declared.Transition.{Transition}
use Rattle.families.specs.Families.{Family, Meets, Owns, count, config}
use Rattle.book.specs.declared.own.OwnTransition.{OwnTransition}
use Rattle.book.specs.Lists.{is_held}

-- What a transition leaves of itself for a product that meets its condition.
abbrev pub ends : Transition → OwnTransition
ends x = record { source = x.source; action = x.action; target = x.target }

abbrev pub same_ends : OwnTransition → OwnTransition → Bool
same_ends a b = a.source == b.source && (a.action == b.action && a.target == b.target)

-- What one transition does to the list: it comes in if its condition is met and its ends are not there yet.
pub data Lists (c : ℕ) (x : Transition) (os : List OwnTransition) : List OwnTransition → Type 0 where
  listed : Meets c x → is_held same_ends (ends x) os ≡ false → Lists c x os (os ++ ends x ∷ [])
  repeated : Meets c x → is_held same_ends (ends x) os ≡ true → Lists c x os os
  unmet : ¬ Meets c x → Lists c x os os

-- The own transitions of a configuration in the order of the book, each once.
pub data Listed (c : ℕ) : List Transition → List OwnTransition → Type 0 where
  none : Listed c [] []
  more : {x : Transition} {ts : List Transition} {os ps : List OwnTransition}
      → Listed c ts os → Lists c x os ps → Listed c (ts ++ x ∷ []) ps

-- Those of product p of a family; a number that is no product's has none.
abbrev pub ListsOf : Family → ℕ → List OwnTransition → Type 0
ListsOf f p os = (p < count f → Listed (config f p) f.transitions os) × (count f ≤ p → os ≡ [])

-- The list has exactly the own transitions of product p.
abbrev pub ExactlyOwn : Family → ℕ → List OwnTransition → Type 0
ExactlyOwn f p os =
    (o : OwnTransition)
    → Memᴰ o os ↔ ((p < count f) × Owns f.transitions (config f p) o.source o.action o.target)

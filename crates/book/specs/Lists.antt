-- Searches in a list, under a test of two elements for being alike.
use Rattle.std.specs.Prelude.{Bool, if◌then◌else◌, List, [], ◌∷◌}
use Rattle.std.specs.List.{list_any}

module _ {X : Type 0} (same : X → X → Bool) where
  -- Whether one like x is in the list.
  abbrev pub is_held : X → List X → Bool
  is_held x ys = list_any (λ y. same y x) ys

  -- The list without the first one like x; the others keep their order.
  abbrev pub without : X → List X → List X
  without x [] = []
  without x (y ∷ ys) = if same y x then ys else y ∷ without x ys

-- What own_steps writes for a family file.
use Rattle.std.specs.Prelude.{◌≡◌, ◌≢◌, ℕ, ◌+◌, ◌<◌, List, [], ◌∷◌, ◌++◌, codes, decimal}
use Rattle.families.specs.Families.{Family, count, config}
use Rattle.book.specs.Rules.{opened}
use Rattle.book.specs.Loads.{load_answer, load_after}
use Rattle.book.specs.Own.{ListsOf}
use Rattle.book.specs.declared.own.OwnTransition.{OwnTransition}
use Rattle.report.specs.Lines.{two_numbers}

-- The line of a product and its configuration, and that of one own transition.
abbrev pub product_line : ℕ → ℕ → List ℕ
product_line p c = codes "product " ++ (decimal p ++ (codes " configuration " ++ (decimal c ++ codes "\n")))

abbrev pub own_line : OwnTransition → List ℕ
own_line o = codes "  " ++
    (decimal o.source ++ (codes " " ++ (decimal o.action ++ (codes " " ++ (decimal o.target ++ codes "\n")))))

-- The lines of own transitions, in order.
abbrev pub own_lines : List OwnTransition → List ℕ
own_lines [] = []
own_lines (o ∷ os) = own_line o ++ own_lines os

-- The lines of product p, which has this configuration: the product and its own transitions.
abbrev pub Lists : Family → ℕ → ℕ → List ℕ → Type 0
Lists F p c bytes = (os : List OwnTransition) × ListsOf F p os × (bytes ≡ product_line p c ++ own_lines os)

-- The lines of the first products of a family, in the order of their numbers.
pub data Listing (F : Family) : ℕ → List ℕ → Type 0 where
  none : Listing F 0 []
  more : {p : ℕ} {before bytes : List ℕ} → Listing F p before → p < count F → Lists F p (config F p) bytes
      → Listing F (p + 1) (before ++ bytes)

-- What is written for a file: the one line of a refused load, or the lines of all products.
pub data Listed (file : List ℕ) : List ℕ → Type 0 where
  bad_book : {k v : ℕ} → load_answer (opened 64) file ≡ (k, v) → (k ≢ 0)
      → Listed file ((codes "book " ++ two_numbers k v) ++ codes "\n")
  listed : {F : Family} {bytes : List ℕ} → (load_answer (opened 64) file).0 ≡ 0
      → F ≡ load_after (opened 64) file → Listing F (count F) bytes
      → Listed file bytes

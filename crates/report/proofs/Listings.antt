-- Lists of own transitions, line by line.
use Rattle.std.proofs.Common.{◌≡◌, ℕ, ◌+◌, ◌<◌, List, [], ◌∷◌, ◌++◌, codes, sym, ap, ◌∙◌, subst}
use Rattle.std.proofs.Common.{append_assoc, append-nil}
use Rattle.families.specs.Families.{Family, count, config}
use Rattle.book.specs.Rules.{opened}
use Rattle.book.specs.Loads.{load_answer, load_after}
use Rattle.book.specs.declared.own.OwnTransition.{OwnTransition}
use Rattle.report.specs.Lines.{two_numbers}
use Rattle.report.specs.Listings.{own_line, own_lines, Lists, Listing, more, Listed, bad_book, listed}

pub own_lines_push : (os : List OwnTransition) (o : OwnTransition)
    → own_lines (os ++ o ∷ []) ≡ own_lines os ++ own_line o
own_lines_push [] o = append-nil (own_line o)
own_lines_push (x ∷ xs) o = ap (λ l. own_line x ++ l) (own_lines_push xs o)
    ∙ sym (append_assoc (own_line x) (own_lines xs) (own_line o))

pub refused_listing : (file : List ℕ) (b : Family) → b ≡ opened 64 → (answer : ℕ × ℕ)
    → answer ≡ load_answer b file → (answer.0 ≡ 0 → ⊥) → (bytes : List ℕ)
    → bytes ≡ (codes "book " ++ two_numbers answer.0 answer.1) ++ codes "\n" → Listed file bytes
refused_listing file b empty answer is bad bytes line =
    subst (Listed file) (sym line) (bad_book (ap (λ f. load_answer f file) (sym empty) ∙ sym is) bad)

pub whole_listing : (file : List ℕ) (b c : Family) → b ≡ opened 64 → (answer : ℕ × ℕ)
    → answer ≡ load_answer b file → answer.0 ≡ 0 → c ≡ load_after b file
    → (bytes : List ℕ) → Listing c (count c) bytes → Listed file bytes
whole_listing file b c empty answer is good after bytes lines =
    listed (ap (λ f. (load_answer f file).0) (sym empty) ∙ ap (λ x. x.0) (sym is) ∙ good)
    (after ∙ ap (λ f. load_after f file) empty) lines

pub one_more : (F : Family) (n c : ℕ) (before line after : List ℕ) → n < count F → c ≡ config F n
    → Listing F n before → Lists F n c line → after ≡ before ++ line
    → Listing F (n + 1) after
one_more F n c before line after n< is lines product grown =
    subst (Listing F (n + 1)) (sym grown) (more lines n< (subst (λ (k : ℕ). Lists F n k line) is product))

-- What a call leaves of a book's contents is the ledger after it.
use Rattle.std.proofs.Common.{◌≡◌, ℕ, Bool, true, false, List, [], ◌∷◌, length, Result, Ok, Err, is_ok}
use Rattle.std.proofs.Common.{if◌then◌else◌}
use Rattle.std.proofs.Common.{refl, sym, ap, ◌∙◌, subst, append-nil}
use Rattle.std.specs.Prelude.{◌==◌}
use Rattle.std.proofs.lemmas.Bool.{both_ways, or_left, or_parts}
use Rattle.families.specs.declared.Transition.{Transition}
use Rattle.families.specs.Families.{Family}
use Rattle.book.specs.declared.refusals.Refusal.{Refusal}
use Rattle.book.specs.declared.refusals.Refusal.TheVariants.{NotHeld}
use Rattle.book.specs.declared.refusals.Refusal.TheVariants as refusal
use Rattle.book.specs.Answers.{number_of, answer_of}
use Rattle.book.specs.Lists.{is_held, without}
use Rattle.book.specs.Rules.{same_transition, product_result, product_after, transition_result}
use Rattle.book.specs.Rules.{transition_after, strike_after}
use Rattle.book.specs.Loads.{load_answer, load_after}
use Rattle.book.specs.LoadLaw.{Loaded, ill_sized, first_bad, all_good}
use Rattle.book.proofs.LoadLaw.{same_family, load_law}
use Rattle.histories.specs.declared.calls.Call.TheVariants.{AddProduct, AddTransition, Strike}
use Rattle.histories.specs.Ledger.{is_accepted, ledger_after, ledger_with_records, ledger_without}
use Rattle.histories.specs.Ledger.{LoadsAreWhole}

-- No refusal has the number of acceptance.
number_of-nonzero : (r : Refusal) → number_of r == 0 ≡ false
number_of-nonzero refusal.BadStateCount = refl
number_of-nonzero refusal.ProductsFull = refl
number_of-nonzero refusal.ProductHeld = refl
number_of-nonzero refusal.OutOfRange = refl
number_of-nonzero refusal.TransitionHeld = refl
number_of-nonzero refusal.TransitionsFull = refl
number_of-nonzero refusal.NotHeld = refl
number_of-nonzero refusal.BadLength = refl
number_of-nonzero refusal.BadRecord = refl

-- A rule accepts if it gives a value.
is_accepted-answer_of : (r : Result ℕ Refusal) → is_ok r ≡ is_accepted (answer_of r)
is_accepted-answer_of (Ok v) = refl
is_accepted-answer_of (Err r) = sym (number_of-nonzero r)

if_same : (F G H : Family) (a b : Bool) → a ≡ b → G ≡ H → (if a then G else F) ≡ (if b then H else F)
if_same F G H a b e h = ap (λ c. if c then G else F) e ∙ ap (λ M. if b then M else F) h

pub product_ledger : (F : Family) (c : ℕ) → product_after F c ≡ ledger_after F (AddProduct c)
product_ledger F c =
    if_same F _ _ _ _ (is_accepted-answer_of (product_result F c))
    (same_family _ _ refl refl (sym (append-nil F.transitions)))

pub transition_ledger : (F : Family) (t : Transition)
    → transition_after F t ≡ ledger_after F (AddTransition t)
transition_ledger F t =
    if_same F _ _ _ _ (is_accepted-answer_of (transition_result F t))
    (same_family _ _ refl (sym (append-nil F.products)) refl)

-- What is not in a list is not removed from it.
without_absent : {X : Type 0} (same : X → X → Bool) (x : X) (ys : List X)
    → is_held same x ys ≡ false → without same x ys ≡ ys
without_absent same x [] h = refl
without_absent same x (y ∷ ys) h = go (same y x) refl (without_absent same x ys)
  where
    go : (b : Bool) → same y x ≡ b → (is_held same x ys ≡ false → without same x ys ≡ ys)
        → (if b then ys else y ∷ without same x ys) ≡ y ∷ ys
    go true e rest = absurd (both_ways _ h (or_left _ _ e))
    go false e rest = ap (λ zs. y ∷ zs) (rest (or_parts _ _ h).1)

pub strike_ledger : (F : Family) (t : Transition) → strike_after F t ≡ ledger_after F (Strike t)
strike_ledger F t = go (is_held same_transition t F.transitions) refl
  where
    left : ℕ
    left = length (without same_transition t F.transitions)

    go : (b : Bool) → is_held same_transition t F.transitions ≡ b
        → ledger_without F t
        ≡ (if is_accepted (answer_of (if b then Ok left else Err NotHeld)) then ledger_without F t else F)
    go true e = refl
    go false e = same_family _ _ refl refl (without_absent same_transition t F.transitions e)

-- What the law of loading says is left, by the number that it says is answered.
pub load_ledger : (F : Family) (bs : List ℕ) (k v : ℕ) (G : Family) → Loaded F bs k v G
    → G ≡ (if k == 0 then ledger_with_records F bs else F)
load_ledger F bs k v G (ill_sized why) = refl
load_ledger F bs k v G (first_bad r i _ _ _ _ _) =
    ap (λ b. if b then ledger_with_records F bs else F) (sym (number_of-nonzero r))
load_ledger F bs k v G (all_good _ _ _) = refl

pub loads_are_whole : LoadsAreWhole
loads_are_whole F bytes =
    let answer = load_answer F bytes.now in
    let law = load_law F bytes.now in
    subst (λ (G : Family). Loaded F bytes.now answer.0 answer.1 G)
    (load_ledger F bytes.now answer.0 answer.1 (load_after F bytes.now) law) law

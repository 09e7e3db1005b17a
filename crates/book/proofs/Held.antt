-- Lemmas on the lists of a book.
use Rattle.std.proofs.Common.{◌≡◌, ◌≢◌, ℕ, suc, ◌+◌, ◌<◌, ◌≤◌, Bool, true, false, if◌then◌else◌, not, ◌||◌}
use Rattle.std.proofs.Common.{nat_eq, nat_lt, List, [], ◌∷◌, ◌++◌, length, take, drop, Some, None, unwrap_or}
use Rattle.std.proofs.Common.{one-add, refl, sym, subst, ap, ◌∙◌, arith}
use Rattle.std.specs.List.{AllPairs, AllWithin, remove, position, position_or_len}
use Rattle.std.proofs.lemmas.List.{get_or-take, length-take, take-append-drop}
use Rattle.std.proofs.lemmas.List.Folds.{list_all-append}
use Rattle.std.proofs.lemmas.List.Quantifiers.{all_pairs_push}
use Rattle.std.proofs.lemmas.Bool.{ltb-true, ltb-false, or_parts, and_parts, and_from}
use Rattle.std.proofs.lemmas.Bool.Decides.{nat_tests}
use Rattle.families.specs.declared.Transition.{Transition}
use Rattle.book.specs.Lists.{is_held, without}
use Rattle.book.specs.Rules.{same_transition}
use Rattle.families.specs.Families.{transition_within, all_within}

placed : (b : Bool) (n i : ℕ) → (if b then Some n else None) ≡ Some i → (b ≡ true) × (n ≡ i)
placed true n i e = (refl, ap (λ o. unwrap_or o 0) e)
placed false n i e = absurd (cc)

nowhere : (b : Bool) (n : ℕ) → (if b then Some n else None) ≡ None → b ≡ false
nowhere true n e = absurd (cc)
nowhere false n e = refl

module _ {X : Type 0} (same : X → X → Bool) where
  module _ (x : X) where
    abbrev place : List X → ℕ
    place xs = position_or_len (λ y. same y x) xs

    -- The place in a list, told by the test of its head and the rest.
    abbrev step : Bool → List X → ℕ
    step b xs = if not b then 1 + place xs else 0

    without_place : (xs : List X) → place xs < length xs → without same x xs ≡ remove xs (place xs)
    without_place [] = λ h. absurd (omega arith)
    without_place (y ∷ xs) =
        elim (same y x) as (λ b. step b xs < suc (length xs)
        → (if b then xs else y ∷ without same x xs) ≡ remove (y ∷ xs) (step b xs)) [
          | true ↦ λ h. refl
          | false ↦ λ h. rw (one-add (place xs)) (ap (λ l. y ∷ l) (without_place xs (omega arith)))
        ]

    place_held : (xs : List X) → place xs < length xs → is_held same x xs ≡ true
    place_held [] = λ h. absurd (omega arith)
    place_held (y ∷ xs) =
        elim (same y x) as (λ b. step b xs < suc (length xs) → (b || is_held same x xs) ≡ true)
        [ true ↦ λ h. refl | false ↦ λ h. place_held xs (omega arith) ]

    place_absent : (xs : List X) → length xs ≤ place xs → is_held same x xs ≡ false
    place_absent [] = λ h. refl
    place_absent (y ∷ xs) =
        elim (same y x) as (λ b. suc (length xs) ≤ step b xs → (b || is_held same x xs) ≡ false)
        [ true ↦ λ h. absurd (omega arith) | false ↦ λ h. place_absent xs (omega arith) ]

    -- what the place of the first one like x says
    pub first_at : (xs : List X) (i : ℕ) → position (λ y. same y x) xs ≡ Some i
        → (i < length xs) × (is_held same x xs ≡ true) × (without same x xs ≡ remove xs i)
    first_at xs i e =
        let h = placed (nat_lt (place xs) (length xs)) (place xs) i e in
        let l = ltb-true (place xs) (length xs) h.0 in
        (omega arith, place_held xs l, without_place xs l ∙ ap (remove xs) h.1)

    pub first_nowhere : (xs : List X) → position (λ y. same y x) xs ≡ None → is_held same x xs ≡ false
    first_nowhere xs e =
        place_absent xs
        (ltb-false (place xs) (length xs) (nowhere (nat_lt (place xs) (length xs)) (place xs) e))

  pub without_absent : (x : X) (xs : List X) → is_held same x xs ≡ false → without same x xs ≡ xs
  without_absent x [] p = refl
  without_absent x (y ∷ xs) p =
      let ps = or_parts (same y x) (is_held same x xs) p in
      ap (λ b. if b then xs else y ∷ without same x xs) ps.0 ∙ ap (λ l. y ∷ l) (without_absent x xs ps.1)

  -- One more, which a search did not find.
  pub all_pairs_differ_push : ((a : X) → same a a ≡ true) → (x : X) (xs ys zs : List X) → AllPairs ◌≢◌ xs
      → ys ≡ xs → AllWithin (λ y. same y x ≡ false) ys 0 (length ys) → zs ≡ xs ++ x ∷ [] → AllPairs ◌≢◌ zs
  all_pairs_differ_push itself x xs ys zs l e h p =
      let f = subst (λ (l : List X). AllWithin (λ y. same y x ≡ false) l 0 (length l)) e h in
      subst (AllPairs ◌≢◌) (sym p)
      (all_pairs_push ◌≢◌ xs x l (λ k d k< q. (
      let t : true ≡ false = sym (itself x) ∙ ap (λ y. same y x) (sym q) ∙ f k d (omega arith) k< in
      absurd (cc)
      )))

pub nat_eq_itself : (a : ℕ) → nat_eq a a ≡ true
nat_eq_itself a = grind (arith, nat_tests)

pub same_transition_itself : (a : Transition) → same_transition a a ≡ true
same_transition_itself a = grind (arith, nat_tests)

pub within_push : (s : ℕ) (xs : List Transition) (x : Transition) → all_within s xs ≡ true
    → transition_within s x ≡ true → all_within s (xs ++ x ∷ []) ≡ true
within_push s xs x p q =
    list_all-append (transition_within s) xs (x ∷ []) ∙ and_from _ _ p (and_from _ _ q refl)

pub within_without : (s : ℕ) (x : Transition) (xs : List Transition) → all_within s xs ≡ true
    → all_within s (without same_transition x xs) ≡ true
within_without s x [] p = p
within_without s x (z ∷ xs) p =
    let ps = and_parts (transition_within s z) (all_within s xs) p in
    elim (same_transition z x)
    as (λ b. all_within s (if b then xs else z ∷ without same_transition x xs) ≡ true)
    [ true ↦ ps.1 | false ↦ and_from _ _ ps.0 (within_without s x xs ps.1) ]

-- The first n of a list have what all of it has.
pub all_pairs_take : {X : Type 0} (R : X → X → Type 0) (xs : List X) (n : ℕ) → AllPairs R xs
    → AllPairs R (take n xs)
all_pairs_take R xs n h i j d i< j< =
    let l = length-take n xs in
    rw (get_or-take n xs i d (omega arith), get_or-take n xs j d (omega arith)) (h i j d i< (omega arith))

pub within_take : (s : ℕ) (xs : List Transition) (n : ℕ) → all_within s xs ≡ true
    → all_within s (take n xs) ≡ true
within_take s xs n h =
    (and_parts (all_within s (take n xs)) (all_within s (drop n xs))
    (sym (list_all-append (transition_within s) (take n xs) (drop n xs))
    ∙ ap (all_within s) (take-append-drop n xs) ∙ h)).0

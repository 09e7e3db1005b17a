-- A list of own transitions has exactly the own transitions.
use Rattle.std.proofs.Common.{◌≡◌, ℕ, ◌<◌, Bool, true, false, ◌||◌, ◌↔◌, List, [], ◌∷◌, ◌++◌}
use Rattle.std.proofs.Common.{IfOk, Ok, Err, Result, sym, refl, ap, ◌∙◌, inl, inr, arith}
use mathlib.Core.List.Memᴰ
use mathlib.Core.List.{Memᴰ}
use Rattle.std.proofs.lemmas.Bool.Decides.{nat_tests}
use Rattle.families.specs.declared.Transition.{Transition}
use Rattle.families.specs.Families.{Family, Meets, Owns, count, config}
use Rattle.families.proofs.Owned.{Gives, owns_last, owns_nothing}
use Rattle.book.specs.declared.own.OwnTransition.{OwnTransition}
use Rattle.book.specs.Lists.{is_held}
use Rattle.book.specs.Own.{ends, same_ends, Lists, listed, repeated, unmet, Listed, none, more, ExactlyOwn}

own_is : (a b : OwnTransition) → a.source ≡ b.source → a.action ≡ b.action → a.target ≡ b.target → a ≡ b
own_is a b p q r =
    ap (λ x. record { source = x; action = a.action; target = a.target }) p
    ∙ ap (λ x. record { source = b.source; action = x; target = a.target }) q
    ∙ ap (λ x. record { source = b.source; action = b.action; target = x }) r

same_is : (a b : OwnTransition) → same_ends a b ≡ true → a ≡ b
same_is a b h = own_is a b (grind (arith, nat_tests)) (grind (arith, nat_tests)) (grind (arith, nat_tests))

held_in : (o : OwnTransition) (os : List OwnTransition) → is_held same_ends o os ≡ true → Memᴰ o os
held_in o [] h = absurd (grind (arith, nat_tests))
held_in o (x ∷ os) h = go (λ k. held_in o os k) (same_ends x o) refl h
  where
    go : (is_held same_ends o os ≡ true → Memᴰ o os) → (b : Bool) → same_ends x o ≡ b
        → (b || is_held same_ends o os) ≡ true → Memᴰ o (x ∷ os)
    go rest true e k = Memᴰ.head (sym (same_is x o e))
    go rest false e k = Memᴰ.tail (rest k)

module _ (c : ℕ) where
  abbrev OwnIn : List Transition → OwnTransition → Type 0
  OwnIn ts o = Owns ts c o.source o.action o.target

  own_more : (ts : List Transition) (x : Transition) (o : OwnTransition) → OwnIn ts o → OwnIn (ts ++ x ∷ []) o
  own_more ts x o w = (w.0, Memᴰ.append_left (x ∷ []) w.1, w.2, w.3)

  own_last : (ts : List Transition) (x : Transition) (o : OwnTransition) → Meets c x → o ≡ ends x
      → OwnIn (ts ++ x ∷ []) o
  own_last ts x o m e = (
    x,
    Memᴰ.append_right ts (Memᴰ.head refl),
    (ap (λ w. w.source) (sym e), ap (λ w. w.action) (sym e), ap (λ w. w.target) (sym e)),
    m,
  )

  -- What the last transition gives is its ends.
  ends_of : (x : Transition) (o : OwnTransition) → Gives c o.source o.action o.target x → o ≡ ends x
  ends_of x o g = own_is o (ends x) (sym g.0.0) (sym g.0.1) (sym g.0.2)

  step : (ts : List Transition) (x : Transition) (os ps : List OwnTransition)
      → ((o : OwnTransition) → Memᴰ o os ↔ OwnIn ts o) → Lists c x os ps → (o : OwnTransition)
      → Memᴰ o ps ↔ OwnIn (ts ++ x ∷ []) o
  step ts x os _ ih (listed m new) o = (
    λ i. elim (Memᴰ.append_cases os i) [
      | inl l ↦ own_more ts x o ((ih o).0 l)
      | inr l ↦ own_last ts x o m (Memᴰ.eq_of_singleton l)
    ],
    λ w. elim (owns_last c o.source o.action o.target ts x w) [
      | inl b ↦ Memᴰ.append_left (ends x ∷ []) ((ih o).1 b)
      | inr g ↦ Memᴰ.append_right os (Memᴰ.head (ends_of x o g))
    ],
  )
  step ts x os _ ih (repeated m old) o = (
    λ i. own_more ts x o ((ih o).0 i),
    λ w. elim (owns_last c o.source o.action o.target ts x w) [
      | inl b ↦ (ih o).1 b
      | inr g ↦ Memᴰ.cast (ends_of x o g) (held_in (ends x) os old)
    ],
  )
  step ts x os _ ih (unmet n) o = (
    λ i. own_more ts x o ((ih o).0 i),
    λ w. elim (owns_last c o.source o.action o.target ts x w) [ inl b ↦ (ih o).1 b | inr g ↦ absurd (n g.1) ],
  )

  listed_own : {ts : List Transition} {os : List OwnTransition} → Listed c ts os → (o : OwnTransition)
      → Memᴰ o os ↔ OwnIn ts o
  listed_own none o = (λ m. elim m [ ], λ w. absurd (owns_nothing c o.source o.action o.target w))
  listed_own (more {x} {ts} {os} {ps} l s) o = step ts x os ps (listed_own l) s o

-- of a product of a family
pub made_own : (f : Family) (p : ℕ) {V E : Type 0} (items : V → List OwnTransition) → p < count f
    → (r : Result V E) → IfOk r (λ v. Listed (config f p) f.transitions (items v))
    → IfOk r (λ v. ExactlyOwn f p (items v))
made_own f p items h (Ok v) l = λ o. (let e = listed_own (config f p) l o in (λ m. (h, e.0 m), λ w. e.1 w.1))
made_own f p items h (Err e) l = tt

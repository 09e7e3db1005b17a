-- What the tests of the rules on variables say.
use Rattle.std.proofs.Common.{◌≡◌, ℕ, ◌<◌, Bool, true, false, not, ◌||◌, ◌↔◌, List, length, take}
use Rattle.std.proofs.Common.{Option, Some, None, option_map, is_some, is_none, IsTrue, IsSomeAnd, sym}
use Rattle.std.proofs.Common.{refl, ap, ◌∙◌, subst, inl, inr, arith}
use Rattle.std.proofs.Common.{get_or-take, length-take-le}
use Rattle.std.specs.Option.{option_map_or, option_and_then}
use Rattle.std.specs.List.{list_any}
use Rattle.std.proofs.lemmas.Bool.{cases_lt, both_ways, not-true, false_from_ne_true}
use Rattle.std.proofs.lemmas.List.{get_or_past, get_or_default}
use Rattle.std.proofs.lemmas.List.Folds.{list_any_at, Any-from_list_any}
use Rattle.formulas.specs.Trees.{Parity, Even, Odd}
use Rattle.formulas.specs.Tables.{entry, bound_variable, Names, Binds, Nearest, Tree}
use Rattle.formulas.specs.Judge.{binds, bound_once, nearest, variable, binding, fixpoint_or_0, is_bound}
use Rattle.formulas.specs.Judge.{evenly_bound}
use Rattle.formulas.specs.Laws.{Rebinds, Unbound, OddlyBound, TestsSay}
use Rattle.formulas.specs.declared.Node.{Node}
use Rattle.formulas.specs.declared.Node.TheVariants as nd
use Rattle.formulas.specs.declared.judge.Binding.{Binding}
use Rattle.formulas.proofs.Climbing.{binds_iff, parity, nearest_one, nearest_some, nearest_none}
use Rattle.formulas.proofs.Climbing.{fixpoint_is}

-- An entry past the end is false: it names, binds and is nothing.
module _ (ns : List Node) where
  past : (P : Node → Type 0) (n : ℕ) → P (entry ns n) → (P nd.False → ⊥) → n < length ns
  past P n p no_false =
      elim (cases_lt n (length ns)) [
        | inl l ↦ l
        | inr l ↦ absurd
            (no_false (subst P (get_or_past ns n nd.False l) p))
      ]

  pub naming_in : (n c : ℕ) → Names c (entry ns n) → n < length ns
  naming_in n c h = past (Names c) n h (λ x. x)

  pub binding_in : (n v : ℕ) → Binds v (entry ns n) → n < length ns
  binding_in n v h = past (Binds v) n h (λ x. x)

  pub variable_in : (n v : ℕ) → entry ns n ≡ nd.Variable v → n < length ns
  variable_in n v h = past (λ x. x ≡ nd.Variable v) n h no_variable
    where
      no_variable : nd.False ≡ nd.Variable v → ⊥
      no_variable e = cc

-- The variable of an entry.
variable_of : (x : Node) (v : ℕ) → variable x ≡ Some v → x ≡ nd.Variable v
variable_of (nd.Variable w) v e = ap nd.Variable (cc)
variable_of x v e = absurd (none_some e)
  where
    none_some : ◌≡◌ {A = Option ℕ} None (Some v) → ⊥
    none_some q = cc

same_variable : (v w : ℕ) → nd.Variable v ≡ nd.Variable w → v ≡ w
same_variable v w e = cc

even_odd : Even ≡ Odd → ⊥
even_odd e = cc

module _ (ns : List Node) (n : ℕ) where
  rebinds_iff : IsTrue (bound_once ns n) ↔ (¬ Rebinds ns n)
  rebinds_iff = go (bound_variable (entry ns n)) refl
    where
      go : (o : Option ℕ) → bound_variable (entry ns n) ≡ o
          → IsTrue (option_map_or (λ v. not (list_any (binds v) (take n ns))) o true) ↔ (¬ Rebinds ns n)
      go None e = (λ t r. subst (λ o. IsSomeAnd o (λ w. r.0 ≡ w)) e r.1, λ _. refl)
      go (Some w) e =
          let here : Binds w (entry ns n) = subst (λ o. IsSomeAnd o (λ z. w ≡ z)) (sym e) refl in
          let long : length (take n ns) ≡ n = length-take-le n ns
          (let h = binding_in ns n w here in omega arith) in (
            λ t r. (
                let same : w ≡ r.0 = sym (subst (λ o. IsSomeAnd o (λ z. r.0 ≡ z)) e r.1) in
                let again : Binds w (entry ns r.2.0) = subst (λ (z : ℕ). Binds z (entry ns r.2.0))
                (sym same) r.2.2 in
                both_ways (list_any (binds w) (take n ns)) (not-true (list_any (binds w) (take n ns)) t)
                (list_any_at (binds w) (take n ns) r.2.0 nd.False (let h = r.2.1 in omega arith)
                (ap (binds w) (get_or-take n ns r.2.0 nd.False r.2.1)
                ∙ (binds_iff w (entry ns r.2.0)).1 again))),
            λ none. ap not (false_from_ne_true (list_any (binds w) (take n ns)) (λ t.
                let a = Any-from_list_any (binds w) (take n ns) t in
                let m< : a.0 < n = (let h = a.2 in omega arith) in
                let found : entry ns a.0 ≡ a.1 = sym (get_or-take n ns a.0 nd.False m<)
                ∙ get_or_default (take n ns) a.0 nd.False a.1 a.2 ∙ a.3 in
                none (w, here, (a.0, m<, (binds_iff w (entry ns a.0)).0 (ap (binds w) found ∙ a.4))))),
          )

  module _ (tree : Tree ns) where
    -- Where entry n is bound, if it is a variable.
    bound_iff : IsTrue (is_bound ns n) ↔ (¬ Unbound ns n)
    bound_iff = go (variable (entry ns n)) refl
      where
        go : (o : Option ℕ) → variable (entry ns n) ≡ o
            → IsTrue (is_none o || is_some (option_and_then (λ v. nearest ns v n) o)) ↔ (¬ Unbound ns n)
        go None e = (λ t u. none_some u.0 (sym e ∙ ap variable u.1), λ _. refl)
          where
            none_some : (v : ℕ) → ◌≡◌ {A = Option ℕ} None (Some v) → ⊥
            none_some v q = cc
        go (Some v) e = found (nearest ns v n) refl
          where
            is : entry ns n ≡ nd.Variable v
            is = variable_of (entry ns n) v e

            found : (b : Option Binding) → nearest ns v n ≡ b → IsTrue (is_some b) ↔ (¬ Unbound ns n)
            found None q = (
              λ t. absurd (both_ways false refl t),
              λ bound. absurd
                  (bound (v, is, nearest_none ns v tree n q)),
            )
            found (Some b) q = (
              λ t u. u.2 b.fixpoint (parity b.odd)
                  (subst (λ (w : ℕ). Nearest ns w b.fixpoint (parity b.odd) n)
                  (same_variable v u.0 (sym is ∙ u.1)) (nearest_some ns v tree n b q)),
              λ _. refl,
            )

    even_iff : IsTrue (evenly_bound ns n) ↔ (¬ OddlyBound ns n)
    even_iff = go (variable (entry ns n)) refl
      where
        go : (o : Option ℕ) → variable (entry ns n) ≡ o
            → IsTrue (option_map_or (λ b. not b.odd) (option_and_then (λ v. nearest ns v n) o) true) ↔
            (¬ OddlyBound ns n)
        go None e = (λ t u. none_some u.0 (sym e ∙ ap variable u.1), λ _. refl)
          where
            none_some : (v : ℕ) → ◌≡◌ {A = Option ℕ} None (Some v) → ⊥
            none_some v q = cc
        go (Some v) e = found (nearest ns v n) refl
          where
            is : entry ns n ≡ nd.Variable v
            is = variable_of (entry ns n) v e

            found : (b : Option Binding) → nearest ns v n ≡ b
                → IsTrue (option_map_or (λ x. not x.odd) b true) ↔ (¬ OddlyBound ns n)
            found None q = (
              λ t u. nearest_none ns v tree n q u.2.0 Odd
                  (subst (λ (w : ℕ). Nearest ns w u.2.0 Odd n)
                  (sym (same_variable v u.0 (sym is ∙ u.1))) u.2.1),
              λ _. refl,
            )
            found (Some b) q = odd b.odd refl
              where
                near : Nearest ns v b.fixpoint (parity b.odd) n
                near = nearest_some ns v tree n b q

                odd : (o : Bool) → b.odd ≡ o → IsTrue (not o) ↔ (¬ OddlyBound ns n)
                odd true w = (
                  λ t. absurd (both_ways false refl t),
                  λ even. absurd (even (
                    v,
                    is,
                    (
                      b.fixpoint,
                      subst
                          (λ (z : Bool). Nearest ns v b.fixpoint (parity z) n) w near,
                    ),
                  )),
                )
                odd false w = (
                  λ t u. even_odd (ap parity (sym w)
                      ∙ (nearest_one ns v tree near
                      (subst (λ (z : ℕ). Nearest ns z u.2.0 Odd n)
                      (sym (same_variable v u.0 (sym is ∙ u.1))) u.2.1)).1),
                  λ _. refl,
                )

-- A variable that has a nearest fixpoint is bound there.
pub bound_there : (ns : List Node) → Tree ns → (n v b : ℕ) (k : Parity) → entry ns n ≡ nd.Variable v
    → Nearest ns v b k n
    → fixpoint_or_0 (binding ns n) ≡ b
bound_there ns tree n v b k is near =
    ap (λ x. fixpoint_or_0 (option_and_then (λ w. nearest ns w n) (variable x))) is
    ∙ go (nearest ns v n) (fixpoint_is ns v tree near)
  where
    go : (o : Option Binding) → option_map (λ x. x.fixpoint) o ≡ Some b → fixpoint_or_0 o ≡ b
    go None e = cc
    go (Some x) e = cc

pub tests_say : TestsSay
tests_say ns tree n = (rebinds_iff ns n, bound_iff ns n tree, even_iff ns n tree)

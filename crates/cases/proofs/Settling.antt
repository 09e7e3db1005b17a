-- The procedure that says where a formula holds, with iterations that stop as soon as a set is its own image: it gives the same sets.
use Rattle.std.proofs.Common.{◌≡◌, ℕ, zero, suc, Bool, true, false, not, ◌&&◌, ◌||◌, List, [], ◌∷◌, sym, refl, ap, ◌∙◌}
use Rattle.std.proofs.lemmas.Bool.{and_parts, true≢false}
use Rattle.families.specs.declared.Transition.{Transition}
use Rattle.formulas.specs.Trees.{Formula}
use Rattle.semantics.specs.Plain.{States, Env, put}
use Rattle.semantics.specs.Satisfies.{satisfies}
use Rattle.semantics.proofs.Finite.{tabulate, at, some, iterate}
use Rattle.semantics.proofs.Decide.{leads, rest, none, eval}

-- ---- equal lists of tests

abbrev equal : Bool → Bool → Bool
equal true y = y
equal false y = not y

equal_is : (x y : Bool) → equal x y ≡ true → x ≡ y
equal_is true y e = sym e
equal_is false true e = e
equal_is false false e = refl

abbrev pub same_set : List Bool → List Bool → Bool
same_set [] [] = true
same_set [] (y ∷ ys) = false
same_set (x ∷ xs) [] = false
same_set (x ∷ xs) (y ∷ ys) = equal x y && same_set xs ys

same_is : (xs ys : List Bool) → same_set xs ys ≡ true → xs ≡ ys
same_is [] [] e = refl
same_is [] (y ∷ ys) e = absurd (true≢false (sym e))
same_is (x ∷ xs) [] e = absurd (true≢false (sym e))
same_is (x ∷ xs) (y ∷ ys) e =
    let h = and_parts (equal x y) (same_set xs ys) e in
    let i = equal_is x y h.0 in
    let j = same_is xs ys h.1 in
    cc

-- ---- iterations

-- On with the image, unless it is the set itself.
abbrev pub unless_same : Bool → (List Bool → List Bool) → List Bool → List Bool
unless_same true on W = W
unless_same false on W = on W

abbrev pub settle : ℕ → (List Bool → List Bool) → List Bool → List Bool
settle zero f V = V
settle (suc k) f V = let W = f V in unless_same (same_set V W) (settle k f) W

iterate_rest : (k : ℕ) (f : List Bool → List Bool) (V : List Bool) → f V ≡ V → iterate k f V ≡ V
iterate_rest zero f V e = refl
iterate_rest (suc k) f V e = ap (iterate k f) e ∙ iterate_rest k f V e

settle_is : (k : ℕ) (f : List Bool → List Bool) (V : List Bool) → settle k f V ≡ iterate k f V
settle_is zero f V = refl
settle_is (suc k) f V = go (same_set V (f V)) refl (settle_is k f (f V))
  where
    go : (b : Bool) → same_set V (f V) ≡ b → settle k f (f V) ≡ iterate k f (f V) → unless_same b (settle k f) (f V) ≡ iterate k f (f V)
    go true e h = let r = same_is V (f V) e in sym (iterate_rest k f (f V) (ap f (sym r)))
    go false e h = h

iterate_alike : (k : ℕ) (f g : List Bool → List Bool) → ((V : List Bool) → f V ≡ g V) → (V : List Bool) → iterate k f V ≡ iterate k g V
iterate_alike zero f g h V = refl
iterate_alike (suc k) f g h V = ap (iterate k f) (h V) ∙ iterate_alike k f g h (g V)

-- ---- the procedure

abbrev pub settled : ℕ → List Transition → ℕ → Formula → Env States → List Bool
settled n xs c Formula.False ε = none n
settled n xs c Formula.True ε = tabulate n (λ s. true)
settled n xs c (Formula.Not φ) ε = rest n (settled n xs c φ ε)
settled n xs c (Formula.Or φ ψ) ε = let V = settled n xs c φ ε in let W = settled n xs c ψ ε in tabulate n (λ s. at V s || at W s)
settled n xs c (Formula.And φ ψ) ε = let V = settled n xs c φ ε in let W = settled n xs c ψ ε in tabulate n (λ s. at V s && at W s)
settled n xs c (Formula.Diamond a e φ) ε = let V = settled n xs c φ ε in tabulate n (λ s. satisfies c e && some (leads n s a V) xs)
settled n xs c (Formula.Box a e φ) ε = let V = rest n (settled n xs c φ ε) in tabulate n (λ s. not (satisfies c e && some (leads n s a V) xs))
settled n xs c (Formula.Variable v) ε = tabulate n (ε v)
settled n xs c (Formula.Least v φ) ε = settle n (λ V. settled n xs c φ (put ε v (at V))) (none n)
settled n xs c (Formula.Greatest v φ) ε = rest n (settle n (λ V. rest n (settled n xs c φ (put ε v (at (rest n V))))) (none n))

module _ (n : ℕ) (xs : List Transition) (c : ℕ) where
  pub settled_is : (φ : Formula) (ε : Env States) → settled n xs c φ ε ≡ eval n xs c φ ε
  settled_is Formula.False ε = refl
  settled_is Formula.True ε = refl
  settled_is (Formula.Not φ) ε = ap (rest n) (settled_is φ ε)
  settled_is (Formula.Or φ ψ) ε =
      ap (λ V. tabulate n (λ s. at V s || at (settled n xs c ψ ε) s)) (settled_is φ ε)
      ∙ ap (λ W. tabulate n (λ s. at (eval n xs c φ ε) s || at W s)) (settled_is ψ ε)
  settled_is (Formula.And φ ψ) ε =
      ap (λ V. tabulate n (λ s. at V s && at (settled n xs c ψ ε) s)) (settled_is φ ε)
      ∙ ap (λ W. tabulate n (λ s. at (eval n xs c φ ε) s && at W s)) (settled_is ψ ε)
  settled_is (Formula.Diamond a e φ) ε = ap (λ V. tabulate n (λ s. satisfies c e && some (leads n s a V) xs)) (settled_is φ ε)
  settled_is (Formula.Box a e φ) ε = ap (λ V. tabulate n (λ s. not (satisfies c e && some (leads n s a (rest n V)) xs))) (settled_is φ ε)
  settled_is (Formula.Variable v) ε = refl
  settled_is (Formula.Least v φ) ε =
      settle_is n (λ V. settled n xs c φ (put ε v (at V))) (none n)
      ∙ iterate_alike n (λ V. settled n xs c φ (put ε v (at V))) (λ V. eval n xs c φ (put ε v (at V))) (λ V. settled_is φ (put ε v (at V))) (none n)
  settled_is (Formula.Greatest v φ) ε =
      ap (rest n) (settle_is n (λ V. rest n (settled n xs c φ (put ε v (at (rest n V))))) (none n)
      ∙ iterate_alike n (λ V. rest n (settled n xs c φ (put ε v (at (rest n V))))) (λ V. rest n (eval n xs c φ (put ε v (at (rest n V)))))
      (λ V. ap (rest n) (settled_is φ (put ε v (at (rest n V))))) (none n))

-- The number of a name.
use Rattle.std.proofs.Common.{◌≤◌, ◌⊎◌, inl, inr, ⊎_elim, MatchBool, T, ◌↔◌, ◌≡◌, ℕ, zero, suc, ◌+◌, ◌<◌, Bool, true, false, cond, not, ltb, List, [], ◌∷◌, length, get_or, Some, None, Option, sym, refl, ap, ◌∙◌, subst, add-one, arith}
use Rattle.std.specs.List.{position, position_or_len, enumerate_from}
use Rattle.std.specs.Str.{bytes_eq}
use Rattle.std.proofs.lemmas.Slice.Eq.{bytes_eq-Decides}
use Rattle.std.proofs.lemmas.Bool.Decides.{nat_tests}
use Rattle.std.proofs.lemmas.Bool.{cases_lt}
use Rattle.std.proofs.lemmas.List.FromFn.{get_or-enumerate_from}
use Rattle.words.specs.Words.{one_more, number, Apart}

more_none : (o : Option ℕ) → one_more o ≡ None → o ≡ None
more_none None e = refl
more_none (Some n) e = let z : ◌≡◌ {A = ℕ} 0 1 = cc in absurd (omega arith)

more_some : (o : Option ℕ) (k : ℕ) → one_more o ≡ Some k → (j : ℕ) × (o ≡ Some j) × (k ≡ j + 1)
more_some None k e = let z : ◌≡◌ {A = ℕ} 0 1 = cc in absurd (omega arith)
more_some (Some n) k e = (n, refl, cc)

-- a name that the first of the names is not
pub absent_first : (x w : List ℕ) (ws : List (List ℕ)) → number (x ∷ ws) w ≡ None → (bytes_eq x w ≡ false) × (number ws w ≡ None)
absent_first x w ws e = go (bytes_eq x w) refl e
  where
    go : (b : Bool) → bytes_eq x w ≡ b → cond b (Some 0) (one_more (number ws w)) ≡ None → (bytes_eq x w ≡ false) × (number ws w ≡ None)
    go true h e = let z : ◌≡◌ {A = ℕ} 0 1 = cc in absurd (omega arith)
    go false h e = (h, more_none (number ws w) e)

-- the number is the place of the name
pub position_number : (ws : List (List ℕ)) (w : List ℕ) → position (λ l. bytes_eq l w) ws ≡ number ws w
position_number [] w = refl
position_number (x ∷ ws) w = go (position_or_len (λ l. bytes_eq l w) ws) (bytes_eq x w) (position_number ws w)
  where
    later : (n : ℕ) (t : Bool) → cond t (Some n) None ≡ number ws w → cond t (Some (1 + n)) None ≡ one_more (number ws w)
    later n true e = ap Some (omega arith) ∙ ap one_more e
    later n false e = ap one_more e

    go : (n : ℕ) (b : Bool) → cond (ltb n (length ws)) (Some n) None ≡ number ws w
        → cond (ltb (cond (not b) (1 + n) 0) (length (x ∷ ws))) (Some (cond (not b) (1 + n) 0)) None ≡ cond b (Some 0) (one_more (number ws w))
    go n true h = let s : ltb 0 (length (x ∷ ws)) ≡ true = grind (arith, nat_tests) in ap (λ t. cond t (Some 0) None) s
    go n false h = let s : ltb (1 + n) (length (x ∷ ws)) ≡ ltb n (length ws) = grind (arith, nat_tests) in ap (λ t. cond t (Some (1 + n)) None) s ∙ later n (ltb n (length ws)) h

-- a name with no number stands nowhere
pub absent : (ws : List (List ℕ)) (w : List ℕ) → number ws w ≡ None → (i : ℕ) → i < length ws → get_or ws i [] ≡ w → ⊥
absent [] w n i lt e = omega arith
absent (x ∷ ws) w n zero lt e = let a = (absent_first x w ws n).0 in let b = (bytes_eq-Decides x w).1 e in let z : ◌≡◌ {A = ℕ} 0 1 = cc in omega arith
absent (x ∷ ws) w n (suc i) lt e = absent ws w (absent_first x w ws n).1 i (omega arith) e

-- a name stands where its number says
pub present : (ws : List (List ℕ)) (w : List ℕ) (k : ℕ) → number ws w ≡ Some k → (k < length ws) × (get_or ws k [] ≡ w)
present [] w k e = let z : ◌≡◌ {A = ℕ} 0 1 = cc in absurd (omega arith)
present (x ∷ ws) w k e = go (bytes_eq x w) refl e (λ j h. present ws w j h)
  where
    go : (b : Bool) → bytes_eq x w ≡ b → cond b (Some 0) (one_more (number ws w)) ≡ Some k → ((j : ℕ) → number ws w ≡ Some j → (j < length ws) × (get_or ws j [] ≡ w)) → (k < length (x ∷ ws)) × (get_or (x ∷ ws) k [] ≡ w)
    go true h e f = let i : 0 ≡ k = cc in (omega arith, subst (λ n. get_or (x ∷ ws) n [] ≡ w) i ((bytes_eq-Decides x w).0 h))
    go false h e f = let m = more_some (number ws w) k e in let g = f m.0 m.1 in (omega (arith, m.2, g.0), subst (λ n. get_or (x ∷ ws) n [] ≡ w) (sym (m.2 ∙ add-one m.0)) g.1)

-- names are apart exactly if the number of each is its place
abbrev pub Numbered : List (List ℕ) → Type 0
Numbered ws = (k : ℕ) → k < length ws → number ws (get_or ws k []) ≡ Some k

pub numbered_apart : (ws : List (List ℕ)) → Numbered ws → Apart ws
numbered_apart ws h i j lt jl e = let a = h i (omega arith) in let b = h j jl in let c : i ≡ j = cc in omega arith

pub apart_numbered : (ws : List (List ℕ)) → Apart ws → Numbered ws
apart_numbered ws h k lt = go (number ws (get_or ws k [])) refl
  where
    same : (j : ℕ) → j < length ws → get_or ws j [] ≡ get_or ws k [] → (j < k) ⊎ (k ≤ j) → j ≡ k
    same j jl i (inl jk) = absurd (h j k jk lt i)
    same j jl i (inr kj) = ⊎_elim (λ less. absurd (h k j less jl (sym i))) (λ more. omega arith) (cases_lt k j)

    go : (o : Option ℕ) → number ws (get_or ws k []) ≡ o → number ws (get_or ws k []) ≡ Some k
    go None e = absurd (absent ws (get_or ws k []) e k lt refl)
    go (Some j) e = let p = present ws (get_or ws k []) j e in e ∙ ap Some (same j p.0 p.1 (cases_lt j k))

pub enumerated : (ws : List (List ℕ)) (k : ℕ) → k < length ws → get_or (enumerate_from 0 ws) k (0, []) ≡ (k, get_or ws k [])
enumerated ws k lt = get_or-enumerate_from 0 ws k (0, []) lt ∙ ap (λ n. (n, get_or ws k [])) (omega arith)

-- a test that has told which of two facts holds decides the first, if not both can
pub decided : (b : Bool) {P Q R : Type 0} → (P → R) → (R → Q → ⊥) → MatchBool b P Q → T b ↔ R
decided true f g h = (λ t. f h, λ r. tt)
decided false f g h = (λ t. absurd t, λ r. absurd (g r h))

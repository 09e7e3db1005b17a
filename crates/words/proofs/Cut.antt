-- How a list falls into lines.
use Rattle.std.proofs.Common.{◌≡◌, ℕ, suc, ◌+◌, ◌-◌, ◌<◌, ◌≤◌, Bool, true, false, cond, not, eqb, ltb, Some, None, List, [], ◌∷◌, ◌++◌, length, get_or, take, drop, sym, refl, ap, ◌∙◌, subst, append_assoc, arith, length-append}
use Rattle.std.specs.List.{prefix_len, position, onto_first, AllByRecursion}
use Rattle.std.proofs.Math.Logic.{∥∥₁_elim}
use Rattle.std.proofs.Math.Bridge.{le_prop}
use Rattle.std.specs.Coded.{×_prop, Unit-prop}
use Rattle.std.proofs.Props.{props}
use Rattle.std.proofs.lemmas.List.Sums.{prefix_len_is}
use Rattle.std.proofs.lemmas.List.Quantifiers.{position-Some}
use Rattle.std.proofs.ByRecursion.{All-weaker}
use Rattle.std.proofs.lemmas.Bool.{eqb-true, ltb-false}
use Rattle.std.proofs.lemmas.List.{get_or_push, get_or-append-add}
use Rattle.std.proofs.lemmas.Bool.Decides.{nat_tests}
use Rattle.lexer.specs.Tokens.{Run, Name, in_name}
use Rattle.words.specs.Words.{inside, listed, Lines, Apart, WordList, InForm}
use Rattle.words.specs.Cut.{cut, Ends}

abbrev pub Clean : List ℕ → Type 0
Clean w = AllByRecursion (λ b. inside b ≡ true) w

-- names have no byte 10
in_line : (b : ℕ) → in_name b ≡ true → inside b ≡ true
in_line b h = grind (arith, nat_tests)

clean_name : (w : List ℕ) → Name w → Clean w
clean_name w n = All-weaker (λ b. in_name b ≡ true) (λ b. inside b ≡ true) in_line w n.run.rest

pub lines : {limit : ℕ} {bs : List ℕ} {ws : List (List ℕ)} → WordList limit bs ws → Lines bs ws
lines {limit} {bs} {ws} l = record { ended = l.ended; clean = All-weaker Name Clean clean_name ws l.names }

-- ---- the first line

pub first_line : (bs : List ℕ) → prefix_len inside bs < length bs → cut bs ≡ take (prefix_len inside bs) bs ∷ cut (drop (prefix_len inside bs + 1) bs)
first_line [] lt = absurd (omega arith)
first_line (b ∷ bs) lt = go (eqb b 10) refl lt (λ h. first_line bs h)
  where
    go : (t : Bool) → eqb b 10 ≡ t → cond (not t) (1 + prefix_len inside bs) 0 < length (b ∷ bs) → (prefix_len inside bs < length bs → cut bs ≡ take (prefix_len inside bs) bs ∷ cut (drop (prefix_len inside bs + 1) bs))
        → cond t ([] ∷ cut bs) (onto_first b (cut bs)) ≡ take (cond (not t) (1 + prefix_len inside bs) 0) (b ∷ bs) ∷ cut (drop (cond (not t) (1 + prefix_len inside bs) 0 + 1) (b ∷ bs))
    go true e lt f = refl
    go false e lt f =
        let m : 1 + prefix_len inside bs ≡ suc (prefix_len inside bs) = omega arith in
        let n : 1 + prefix_len inside bs + 1 ≡ suc (prefix_len inside bs + 1) = omega arith in
        ap (onto_first b) (f (omega arith)) ∙ sym (ap (λ i. take i (b ∷ bs) ∷ cut (drop (1 + prefix_len inside bs + 1) (b ∷ bs))) m ∙ ap (λ i. (b ∷ take (prefix_len inside bs) bs) ∷ cut (drop i (b ∷ bs))) n)

-- a list with no byte 10 is one line
pub only_line : (bs : List ℕ) → 0 < length bs → length bs ≤ prefix_len inside bs → cut bs ≡ bs ∷ []
only_line [] some le = absurd (omega arith)
only_line (b ∷ []) some le = go (eqb b 10) refl le
  where
    go : (t : Bool) → eqb b 10 ≡ t → length (b ∷ []) ≤ cond (not t) (1 + prefix_len inside []) 0 → cond t ([] ∷ cut []) (onto_first b (cut [])) ≡ (b ∷ []) ∷ []
    go true e le = absurd (omega arith)
    go false e le = refl
only_line (b ∷ c ∷ bs) some le = go (eqb b 10) refl le (λ h. only_line (c ∷ bs) (omega arith) h)
  where
    go : (t : Bool) → eqb b 10 ≡ t → length (b ∷ c ∷ bs) ≤ cond (not t) (1 + prefix_len inside (c ∷ bs)) 0 → (length (c ∷ bs) ≤ prefix_len inside (c ∷ bs) → cut (c ∷ bs) ≡ (c ∷ bs) ∷ []) → cond t ([] ∷ cut (c ∷ bs)) (onto_first b (cut (c ∷ bs))) ≡ (b ∷ c ∷ bs) ∷ []
    go true e le f = absurd (omega arith)
    go false e le f = ap (onto_first b) (f (omega arith))

-- the same, from where the first byte 10 stands
pub line_at : (bs : List ℕ) (k : ℕ) → position (λ b. eqb b 10) bs ≡ Some k → cut bs ≡ take k bs ∷ cut (drop (k + 1) bs)
line_at bs k e =
    let p = position-Some (λ b. eqb b 10) bs k 0 e in
    let n : prefix_len inside bs ≡ k = prefix_len_is inside bs k 0 (omega (arith, p.0)) (λ i lt. ap not (p.2 i lt)) (λ lt. ap not p.1) in
    subst (λ i. cut bs ≡ take i bs ∷ cut (drop (i + 1) bs)) n (first_line bs (omega (arith, p.0)))

pub line_left : (bs : List ℕ) → 0 < length bs → position (λ b. eqb b 10) bs ≡ None → cut bs ≡ bs ∷ []
line_left bs some e = only_line bs some (go (ltb (prefix_len inside bs) (length bs)) refl e)
  where
    go : (t : Bool) → ltb (prefix_len inside bs) (length bs) ≡ t → cond t (Some (prefix_len inside bs)) None ≡ None → length bs ≤ prefix_len inside bs
    go true h e = let z : ◌≡◌ {A = ℕ} 0 1 = cc in absurd (omega arith)
    go false h e = ltb-false (prefix_len inside bs) (length bs) h

-- ---- lists whose lines are known

clean_line : (w xs : List ℕ) → Clean w → cut (w ++ 10 ∷ xs) ≡ w ∷ cut xs
clean_line [] xs h = refl
clean_line (b ∷ w) xs h = go (eqb b 10) refl h.0 (clean_line w xs h.1)
  where
    go : (t : Bool) → eqb b 10 ≡ t → not t ≡ true → cut (w ++ 10 ∷ xs) ≡ w ∷ cut xs → cond t ([] ∷ cut (w ++ 10 ∷ xs)) (onto_first b (cut (w ++ 10 ∷ xs))) ≡ (b ∷ w) ∷ cut xs
    go true e n f = let z : ◌≡◌ {A = ℕ} 0 1 = cc in absurd (omega arith)
    go false e n f = ap (onto_first b) f

pub cut_listed : (ws : List (List ℕ)) → AllByRecursion Clean ws → cut (listed ws) ≡ ws
cut_listed [] h = refl
cut_listed (w ∷ ws) h = clean_line w (listed ws) h.0 ∙ ap (λ x. w ∷ x) (cut_listed ws h.1)

pub cut_lines : {bs : List ℕ} {ws : List (List ℕ)} → Lines bs ws → cut bs ≡ ws
cut_lines {bs} {ws} l = ap cut l.ended ∙ cut_listed ws l.clean

pub few_lines : {limit : ℕ} {bs : List ℕ} → ∥ InForm limit bs ∥₁ → length (cut bs) ≤ limit
few_lines t = ∥∥₁_elim t le_prop (λ u. omega (arith, ap length (cut_lines (lines u.1)), u.1.few))

-- ---- lists whose last byte is 10

last_of : (b c : ℕ) (bs : List ℕ) → get_or (b ∷ c ∷ bs) (length (b ∷ c ∷ bs) - 1) 0 ≡ get_or (c ∷ bs) (length (c ∷ bs) - 1) 0
last_of b c bs = ap (λ n. get_or (b ∷ c ∷ bs) n 0) (omega arith) ∙ get_or_next b (c ∷ bs) (length (c ∷ bs) - 1)
  where
    get_or_next : (b : ℕ) (bs : List ℕ) (n : ℕ) → get_or (b ∷ bs) (n + 1) 0 ≡ get_or bs n 0
    get_or_next b bs n = let e : n + 1 ≡ suc n = omega arith in ap (λ k. get_or (b ∷ bs) k 0) e

listed_onto : (b : ℕ) (ls : List (List ℕ)) → 0 < length ls → listed (onto_first b ls) ≡ b ∷ listed ls
listed_onto b [] h = absurd (omega arith)
listed_onto b (l ∷ ls) h = refl

some_lines : (b : ℕ) (bs : List ℕ) → 0 < length (cut (b ∷ bs))
some_lines b bs = go (eqb b 10) (cut bs)
  where
    go : (t : Bool) (ls : List (List ℕ)) → 0 < length (cond t ([] ∷ ls) (onto_first b ls))
    go true ls = omega arith
    go false [] = omega arith
    go false (l ∷ ls) = omega arith

pub listed_cut : (bs : List ℕ) → Ends bs → listed (cut bs) ≡ bs
listed_cut [] h = refl
listed_cut (b ∷ []) h = let e = h (omega arith) in ap (λ c. listed (cut (c ∷ []))) e ∙ ap (λ c. c ∷ []) (sym e)
listed_cut (b ∷ c ∷ bs) h = go (eqb b 10) refl (listed_cut (c ∷ bs) (λ some. sym (last_of b c bs) ∙ h (omega arith)))
  where
    go : (t : Bool) → eqb b 10 ≡ t → listed (cut (c ∷ bs)) ≡ c ∷ bs → listed (cond t ([] ∷ cut (c ∷ bs)) (onto_first b (cut (c ∷ bs)))) ≡ b ∷ c ∷ bs
    go true e rest = ap (λ n. n ∷ listed (cut (c ∷ bs))) (sym (eqb-true b 10 e)) ∙ ap (λ x. b ∷ x) rest
    go false e rest = listed_onto b (cut (c ∷ bs)) (some_lines c bs) ∙ ap (λ x. b ∷ x) rest

pub listed_ends : (ws : List (List ℕ)) → Ends (listed ws)
listed_ends [] h = absurd (omega arith)
listed_ends (w ∷ []) h = get_or_push w 10 0 (length (w ++ 10 ∷ []) - 1) (omega (arith, length-append w (10 ∷ [])))
listed_ends (w ∷ u ∷ us) h =
    let more : 0 < length (listed (u ∷ us)) = omega (arith, length-append u (10 ∷ listed us)) in
    let n : length (listed (w ∷ u ∷ us)) - 1 ≡ length (w ++ 10 ∷ []) + (length (listed (u ∷ us)) - 1) = omega (arith, length-append w (10 ∷ listed (u ∷ us)), length-append w (10 ∷ [])) in
    ap (λ k. get_or (listed (w ∷ u ∷ us)) k 0) n ∙ ap (λ x. get_or x (length (w ++ 10 ∷ []) + (length (listed (u ∷ us)) - 1)) 0) (sym (append_assoc w (10 ∷ []) (listed (u ∷ us)))) ∙ get_or-append-add (w ++ 10 ∷ []) (listed (u ∷ us)) (length (listed (u ∷ us)) - 1) 0 ∙ listed_ends (u ∷ us) more

-- ---- the form of a list, test by test

pub record Formed (limit : ℕ) (bs : List ℕ) : Type 0 where
  pub ends : Ends bs
  pub short : length (cut bs) ≤ limit
  pub names : AllByRecursion Name (cut bs)
  pub apart : Apart (cut bs)

pub is_form : {limit : ℕ} {bs : List ℕ} → Ends bs → length (cut bs) ≤ limit → AllByRecursion Name (cut bs) → Apart (cut bs) → WordList limit bs (cut bs)
is_form {limit} {bs} e s n a = record { ended = sym (listed_cut bs e); names = n; apart = a; few = s }

pub form_is : {limit : ℕ} {bs : List ℕ} → InForm limit bs → Formed limit bs
form_is {limit} {bs} u =
    let e = sym (cut_lines (lines u.1)) in
    record { ends = subst Ends (sym u.1.ended) (listed_ends u.0); short = subst (λ ws. length ws ≤ limit) e u.1.few; names = subst (AllByRecursion Name) e u.1.names; apart = subst Apart e u.1.apart }

-- ---- that a list keeps its form is one fact, not several

run_prop : (w : List ℕ) → IsProp (Run w)
run_prop w = Prim.hlevel props

name_prop : (w : List ℕ) → IsProp (Name w)
name_prop w = Prim.hlevel props

names_prop : (ws : List (List ℕ)) → IsProp (AllByRecursion Name ws)
names_prop [] = Unit-prop
names_prop (w ∷ ws) = ×_prop (name_prop w) (names_prop ws)

list_prop : (limit : ℕ) (bs : List ℕ) (ws : List (List ℕ)) → IsProp (WordList limit bs ws)
list_prop limit bs ws = Prim.hlevel props

pub in_form : {limit : ℕ} {bs : List ℕ} → ∥ InForm limit bs ∥₁ → InForm limit bs
in_form {limit} {bs} t = (cut bs, ∥∥₁_elim t (list_prop limit bs (cut bs)) (λ u. subst (WordList limit bs) (sym (cut_lines (lines u.1))) u.1))

-- Where the machine stops is the first token that no formula could have there; and a list of tokens has one tree at most.
use Rattle.std.proofs.Common.{◌≡◌, ℕ, ◌⊎◌, List, [], ◌∷◌, ◌++◌, sym, refl, ap, ◌∙◌, subst, inl, inr, ⊎_elim, append_assoc, append-nil, arith}
use Rattle.grammar.specs.Grammar.{Tree, PhraseOf, FormulaOf}
use Rattle.grammar.specs.declared.Level.TheVariants.{Formula as formula}
use Rattle.grammar.specs.Machine.{Part, a_tree, Inner, bar, greater, bracket, close, dot, sign_of, Item, unit, and_tail, or_tail, expect, a_variable, an_action, make, whole, Next, goes, dead, step, ends, Outcome, good, fail, follow, walk, Stops}
use Rattle.grammar.specs.Viable.{IsFormula, Refuses, Offends, Decided, Unambiguous, OneOffence}
use Rattle.grammar.proofs.Complete.{past_and, past_or, past_make, stops_ended, phrase_read}
use Rattle.grammar.proofs.Sound.{bad, phrase_from}
use Rattle.lexer.specs.Tokens.{Sym, name, variable, sign, Tok, tok}
use Rattle.lexer.specs.declared.Sign.TheVariants.{True}

abbrev Halts : List Item → List Part → List Tok → Type 0
Halts k ps [] = walk k ps [] ≡ fail []
Halts k ps (t ∷ r) = (w : List Tok) → walk k ps (t ∷ w) ≡ fail (t ∷ w)

-- the machine reads what is before and stops at the rest
record Stopped (k : List Item) (ps : List Part) (ts rest : List Tok) : Type 0 where
  before : List Tok
  split : ts ≡ before ++ rest
  stack : List Item
  parts : List Part
  same : (w : List Tok) → walk k ps (before ++ w) ≡ walk stack parts w
  halts : Halts stack parts rest

ends_fail : (k : List Item) (ps : List Part) → ((qs : List Part) × (ends k ps ≡ good qs)) ⊎ (ends k ps ≡ fail [])
ends_fail [] ps = inl (ps, refl)
ends_fail (unit l ∷ k) ps = inr refl
ends_fail (and_tail l ∷ k) ps = ends_fail k ps
ends_fail (or_tail l ∷ k) ps = ends_fail k ps
ends_fail (expect m ∷ k) ps = inr refl
ends_fail (a_variable ∷ k) ps = inr refl
ends_fail (an_action ∷ k) ps = inr refl
ends_fail (make f ∷ k) ps = ends_fail k (f ps)

abbrev left_of : Outcome → List Tok
left_of (good qs) = []
left_of (fail r) = r

none_left : (k : List Item) (ps : List Part) (rest : List Tok) → ends k ps ≡ fail rest → ends k ps ≡ fail [] → Stopped k ps [] rest
none_left k ps rest h e = let P : List Tok → Type 0 = λ r. Stopped k ps [] r in subst P (ap left_of (sym e ∙ h)) (record { before = []; split = refl; stack = k; parts = ps; same = λ w. refl; halts = e })

stopped_by : (k : List Item) (ps : List Part) (s : Sym) (p : ℕ) (ts rest : List Tok) (n : Next) → step k ps s p ≡ n → follow n (λ j qs. walk j qs ts) (tok s p ∷ ts) ≡ fail rest → ((j : List Item) (qs : List Part) → walk j qs ts ≡ fail rest → Stopped j qs ts rest) → Stopped k ps (tok s p ∷ ts) rest
stopped_by k ps s p ts rest (goes j qs) e h f =
    let m = f j qs h in
    record { before = tok s p ∷ m.before; split = ap (λ x. tok s p ∷ x) m.split; stack = m.stack; parts = m.parts; same = λ w. rw e (m.same w); halts = m.halts }
stopped_by k ps s p ts rest dead e h f = let P : List Tok → Type 0 = λ r. Stopped k ps (tok s p ∷ ts) r in subst P (ap left_of h) (record { before = []; split = refl; stack = k; parts = ps; same = λ w. refl; halts = λ w. rw e })

stopped : (k : List Item) (ps : List Part) (ts rest : List Tok) → walk k ps ts ≡ fail rest → Stopped k ps ts rest
stopped k ps [] rest h = ⊎_elim (λ g. absurd (bad (sym h ∙ g.1))) (none_left k ps rest h) (ends_fail k ps)
stopped k ps (tok s p ∷ ts) rest h = stopped_by k ps s p ts rest (step k ps s p) refl h (λ j qs. stopped j qs ts rest)

-- how a stack may go on to the end
finish : List Item → List Tok
finish [] = []
finish (unit l ∷ k) = tok (sign True) 0 ∷ finish k
finish (and_tail l ∷ k) = finish k
finish (or_tail l ∷ k) = finish k
finish (expect m ∷ k) = tok (sign (sign_of m)) 0 ∷ finish k
finish (a_variable ∷ k) = tok (variable 0) 0 ∷ finish k
finish (an_action ∷ k) = tok (name (97 ∷ [])) 0 ∷ finish k
finish (make f ∷ k) = finish k

inner_stops : (m : Inner) (p : ℕ) (rest : List Tok) → Stops (tok (sign (sign_of m)) p ∷ rest)
inner_stops bar p rest = (refl, refl)
inner_stops greater p rest = (refl, refl)
inner_stops bracket p rest = (refl, refl)
inner_stops close p rest = (refl, refl)
inner_stops dot p rest = (refl, refl)

stops_finish : (k : List Item) → Stops (finish k)
unfolding finish
stops_finish [] = (tt, tt)
stops_finish (unit l ∷ k) = (refl, refl)
stops_finish (and_tail l ∷ k) = stops_finish k
stops_finish (or_tail l ∷ k) = stops_finish k
stops_finish (expect m ∷ k) = inner_stops m 0 (finish k)
stops_finish (a_variable ∷ k) = (refl, refl)
stops_finish (an_action ∷ k) = (refl, refl)
stops_finish (make f ∷ k) = stops_finish k

pub expected : (m : Inner) (p : ℕ) (k : List Item) (ps : List Part) (rest : List Tok) → walk (expect m ∷ k) ps (tok (sign (sign_of m)) p ∷ rest) ≡ walk k ps rest
expected bar p k ps rest = refl
expected greater p k ps rest = refl
expected bracket p k ps rest = refl
expected close p k ps rest = refl
expected dot p k ps rest = refl

finished : (k : List Item) (ps : List Part) → (qs : List Part) × (walk k ps (finish k) ≡ good qs)
unfolding finish
finished [] ps = (ps, refl)
finished (unit l ∷ k) ps = finished k _
finished (and_tail l ∷ k) ps = let f = finished k ps in (f.0, past_and l k ps (finish k) (stops_finish k).0 ∙ f.1)
finished (or_tail l ∷ k) ps = let f = finished k ps in (f.0, past_or l k ps (finish k) (stops_finish k).1 ∙ f.1)
finished (expect m ∷ k) ps = let f = finished k ps in (f.0, expected m 0 k ps (finish k) ∙ f.1)
finished (a_variable ∷ k) ps = finished k _
finished (an_action ∷ k) ps = finished k _
finished (make f ∷ k) ps = let g = finished k (f ps) in (g.0, past_make f k ps (finish k) ∙ g.1)

pub formula_good : (ts : List Tok) (f : Tree) → FormulaOf ts f → walk (whole formula []) [] ts ≡ good (a_tree f ∷ [])
formula_good ts f d = ap (λ x. walk (whole formula []) [] x) (sym (append-nil ts)) ∙ phrase_read d.1 [] [] [] (tt, tt) (stops_ended d.0 [] (tt, tt))

none_more : (ps qs : List Part) (rest : List Tok) → walk [] ps rest ≡ good qs → rest ≡ []
none_more ps qs [] h = refl
none_more ps qs (tok s p ∷ rest) h = absurd (bad h)

good_formula : (ts : List Tok) (qs : List Part) → walk (whole formula []) [] ts ≡ good qs → IsFormula ts
good_formula ts qs h =
    let g = phrase_from formula [] [] qs ts h in
    (g.tree, (g.how, subst (λ x. PhraseOf formula g.how x g.tree) (sym (g.split ∙ ap (λ x. g.used ++ x) (none_more _ qs g.rest g.on) ∙ append-nil g.used)) g.is))

refused : (ts rest : List Tok) (m : Stopped (whole formula []) [] ts rest) → Refuses m.before rest
refused ts [] m = λ f. bad (sym m.halts ∙ sym (m.same []) ∙ ap (λ x. walk (whole formula []) [] x) (append-nil m.before) ∙ formula_good m.before f.0 f.1)
refused ts (s ∷ r) m = λ b. bad (sym (m.halts b.0) ∙ sym (m.same (s ∷ b.0)) ∙ ap (λ x. walk (whole formula []) [] x) (sym (append_assoc m.before (s ∷ []) b.0)) ∙ formula_good _ b.1.0 b.1.1)

pub offends : (ts rest : List Tok) → walk (whole formula []) [] ts ≡ fail rest → Offends ts rest
offends ts rest h =
    let m = stopped (whole formula []) [] ts rest h in
    let f = finished m.stack m.parts in
    record { before = m.before; split = m.split; begins = (finish m.stack, good_formula _ f.0 (m.same (finish m.stack) ∙ f.1)); refuses = refused ts rest m }

decided_by : (ts : List Tok) (o : Outcome) → walk (whole formula []) [] ts ≡ o → IsFormula ts ⊎ ((rest : List Tok) × Offends ts rest)
decided_by ts (good qs) h = inl (good_formula ts qs h)
decided_by ts (fail rest) h = inr (rest, offends ts rest h)

pub decided : Decided
decided ts = decided_by ts (walk (whole formula []) [] ts) refl

pub unambiguous : Unambiguous
unambiguous ts f g c d =
    let r : good (a_tree f ∷ []) ≡ good (a_tree g ∷ []) = sym (formula_good ts f c) ∙ formula_good ts g d in
    cc

-- two fronts of one list: they are the same, or one goes on past the other
data Fronts (b c r q : List Tok) : Type 0 where
  same : r ≡ q → Fronts b c r q
  longer : (s : Tok) (x : List Tok) → c ≡ b ++ s ∷ x → r ≡ s ∷ (x ++ q) → Fronts b c r q
  shorter : (s : Tok) (x : List Tok) → b ≡ c ++ s ∷ x → q ≡ s ∷ (x ++ r) → Fronts b c r q

fronts : (b c r q : List Tok) → b ++ r ≡ c ++ q → Fronts b c r q
fronts [] [] r q e = same e
fronts [] (s ∷ c) r q e = longer s c refl e
fronts (s ∷ b) [] r q e = shorter s b refl (sym e)
fronts (s ∷ b) (t ∷ c) r q e = let h : s ≡ t = cc in let k : b ++ r ≡ c ++ q = cc in on (fronts b c r q k) h
  where
    on : Fronts b c r q → s ≡ t → Fronts (s ∷ b) (t ∷ c) r q
    on (same x) h = same x
    on (longer u x y z) h = longer u x (cc) z
    on (shorter u x y z) h = shorter u x (cc) z

not_both : (ts rest : List Tok) → IsFormula ts → Offends ts rest → ⊥
not_both ts [] f o = o.refuses (subst IsFormula (o.split ∙ append-nil o.before) f)
not_both ts (s ∷ r) f o = o.refuses (r, subst IsFormula (o.split ∙ sym (append_assoc o.before (s ∷ []) r)) f)

-- what is before a later offence cannot go on past an earlier one
too_far : (ts r q : List Tok) (o : Offends ts r) (i : Offends ts q) (s : Tok) (x : List Tok) → i.before ≡ o.before ++ s ∷ x → r ≡ s ∷ (x ++ q) → ⊥
too_far ts [] q o i s x e d = let z : ◌≡◌ {A = ℕ} 0 1 = cc in omega arith
too_far ts (t ∷ r) q o i s x e d =
    let h : t ≡ s = cc in
    o.refuses (x ++ i.begins.0, subst IsFormula (ap (λ y. y ++ i.begins.0) e ∙ append_assoc o.before (s ∷ x) i.begins.0 ∙ ap (λ y. o.before ++ y ∷ (x ++ i.begins.0)) (sym h) ∙ sym (append_assoc o.before (t ∷ []) (x ++ i.begins.0))) i.begins.1)

pub one_offence : OneOffence
one_offence ts = (λ rest f o. not_both ts rest f o, λ r q o i. by r q o i (fronts o.before i.before r q (sym o.split ∙ i.split)))
  where
    by : (r q : List Tok) (o : Offends ts r) (i : Offends ts q) → Fronts o.before i.before r q → r ≡ q
    by r q o i (same e) = e
    by r q o i (longer s x e d) = absurd (too_far ts r q o i s x e d)
    by r q o i (shorter s x e d) = absurd (too_far ts q r i o s x e d)

-- What the machine reads is a formula, and it builds its tree.
use Rattle.std.proofs.Common.{◌≡◌, ℕ, zero, suc, ◌≤◌, Bool, true, false, cond, List, [], ◌∷◌, ◌++◌, length, sym, refl, ap, ◌∙◌, subst, append_assoc, append-nil, arith, length-append}
use Rattle.grammar.specs.Grammar.{Modality, diamond, box, Fixpoint, least, greatest, Tree, bottom, top, negation, conjunction, disjunction, feature, var, modal, fixpoint, opening, closing, word, Ending, free, bound, UnitOf, is_true, is_false, is_not, is_parens, is_feature, is_variable, is_modal, is_fixpoint, AndPartOf, one_unit, more_units, PhraseOf, one_part, more_parts}
use Rattle.grammar.specs.declared.Level.{Level}
use Rattle.grammar.specs.declared.Level.TheVariants.{Formula as formula, Expression as expression}
use Rattle.grammar.specs.Machine.{is, Part, a_var, a_name, a_tree, Inner, bar, close, dot, sign_of, inner_of, Item, unit, and_tail, or_tail, expect, a_variable, an_action, make_not, make_both, make_modal, make_fixpoint, take, skip, stop, whole, at_sign, at_modality, at_fixpoint, Outcome, good, fail, dead, after, step, follow, walk, NotNext, Stops, Any, Ended}
use Rattle.grammar.proofs.Signs.{is_sign}
use Rattle.grammar.proofs.Complete.{past_make}
use Rattle.lexer.specs.Tokens.{Sym, name, variable, sign, Tok, tok}
use Rattle.lexer.specs.declared.Sign.{Sign}
use Rattle.lexer.specs.declared.Sign.TheVariants.{Mu, Nu, True, False, Not, And, Or, Bar, Less, Greater, LeftBracket, RightBracket, Open, Close, Dot}

abbrev Good : Outcome → Type 0
Good (good qs) = Unit {0}
Good (fail r) = ⊥

pub bad : {r : List Tok} {qs : List Part} → fail r ≡ good qs → ⊥
bad e = subst Good (sym e) tt

-- some tokens at the front of ts are a phrase of the kind R, and the machine reads on past them
pub record Got (R : Ending → List Tok → Tree → Type 0) (E : List Tok → Type 0) (k : List Item) (ps qs : List Part) (ts : List Tok) : Type 0 where
  pub how : Ending
  pub used : List Tok
  pub rest : List Tok
  pub tree : Tree
  pub split : ts ≡ used ++ rest
  pub is : R how used tree
  pub ended : Ended how rest
  pub exit : E rest
  pub on : walk k (a_tree tree ∷ ps) rest ≡ good qs

short : (ts used rest : List Tok) → ts ≡ used ++ rest → length rest ≤ length ts
short ts used rest e = omega (arith, ap length e, length-append used rest)

expect_at : (m : Inner) (k : List Item) (ps qs : List Part) (ts : List Tok) → walk (expect m ∷ k) ps ts ≡ good qs → (p : ℕ) × (rest : List Tok) × (ts ≡ tok (sign (sign_of m)) p ∷ rest) × (walk k ps rest ≡ good qs)
expect_at m k ps qs [] h = absurd (bad h)
expect_at m k ps qs (tok s p ∷ ts) h = go (is (sign_of m) s) refl h
  where
    go : (b : Bool) → is (sign_of m) s ≡ b → follow (after (cond b (take [] []) stop) k ps dead) (λ j qs. walk j qs ts) (tok s p ∷ ts) ≡ good qs → (r : ℕ) × (rest : List Tok) × (tok s p ∷ ts ≡ tok (sign (sign_of m)) r ∷ rest) × (walk k ps rest ≡ good qs)
    go true e h = (p, ts, ap (λ x. tok x p ∷ ts) (is_sign (sign_of m) s e), h)
    go false e h = absurd (bad h)

variable_from : (k : List Item) (ps qs : List Part) (ts : List Tok) → walk (a_variable ∷ k) ps ts ≡ good qs → (v : ℕ) × (p : ℕ) × (rest : List Tok) × (ts ≡ tok (variable v) p ∷ rest) × (walk k (a_var v ∷ ps) rest ≡ good qs)
variable_from k ps qs [] h = absurd (bad h)
variable_from k ps qs (tok (name w) p ∷ ts) h = absurd (bad h)
variable_from k ps qs (tok (variable v) p ∷ ts) h = (v, p, ts, refl, h)
variable_from k ps qs (tok (sign s) p ∷ ts) h = absurd (bad h)

action_from : (k : List Item) (ps qs : List Part) (ts : List Tok) → walk (an_action ∷ k) ps ts ≡ good qs → (w : List ℕ) × (p : ℕ) × (rest : List Tok) × (ts ≡ tok (name w) p ∷ rest) × (walk k (a_name w p ∷ ps) rest ≡ good qs)
action_from k ps qs [] h = absurd (bad h)
action_from k ps qs (tok (name w) p ∷ ts) h = (w, p, ts, refl, h)
action_from k ps qs (tok (variable v) p ∷ ts) h = absurd (bad h)
action_from k ps qs (tok (sign s) p ∷ ts) h = absurd (bad h)

record Sound (n : ℕ) : Type 0 where
  units : (l : Level) (k : List Item) (ps qs : List Part) (ts : List Tok) → length ts ≤ n → walk (unit l ∷ k) ps ts ≡ good qs → Got (UnitOf l) Any k ps qs ts
  parts : (l : Level) {e : Ending} {u : List Tok} {a : Tree} → AndPartOf l e u a → (k : List Item) (ps qs : List Part) (ts : List Tok) → length ts ≤ n → Ended e ts → walk (and_tail l ∷ k) (a_tree a ∷ ps) ts ≡ good qs → Got (λ f w b. AndPartOf l f (u ++ w) b) (NotNext And) k ps qs ts
  phrases : (l : Level) {e : Ending} {u : List Tok} {a : Tree} → PhraseOf l e u a → (k : List Item) (ps qs : List Part) (ts : List Tok) → length ts ≤ n → Ended e ts → NotNext And ts → walk (or_tail l ∷ k) (a_tree a ∷ ps) ts ≡ good qs → Got (λ f w b. PhraseOf l f (u ++ w) b) Stops k ps qs ts

-- a unit, and then the rest of its part and the rest of the parts
whole_from : (n : ℕ) → Sound n → (l : Level) (k : List Item) (ps qs : List Part) (ts : List Tok) → length ts ≤ n → walk (whole l k) ps ts ≡ good qs → Got (PhraseOf l) Stops k ps qs ts
whole_from n ih l k ps qs ts le h =
    let g = ih.units l (and_tail l ∷ or_tail l ∷ k) ps qs ts le h in
    let l1 = short ts g.used g.rest g.split in
    let p = ih.parts l (one_unit g.is) (or_tail l ∷ k) ps qs g.rest (omega arith) g.ended g.on in
    let l2 = short g.rest p.used p.rest p.split in
    let f = ih.phrases l (one_part p.is) k ps qs p.rest (omega arith) p.ended p.exit p.on in
    record {
      how = f.how;
      used = (g.used ++ p.used) ++ f.used;
      rest = f.rest;
      tree = f.tree;
      split = g.split ∙ ap (λ x. g.used ++ x) (p.split ∙ ap (λ x. p.used ++ x) f.split) ∙ sym (append_assoc g.used p.used (f.used ++ f.rest)) ∙ sym (append_assoc (g.used ++ p.used) f.used f.rest);
      is = f.is;
      ended = f.ended;
      exit = f.exit;
      on = f.on;
    }

pub closing_is : (m : Modality) → sign_of (inner_of m) ≡ closing m
closing_is diamond = refl
closing_is box = refl

modal_more : (n : ℕ) → Sound n → (l : Level) (m : Modality) (k : List Item) (ps qs : List Part) (p : ℕ) (ts : List Tok) → length ts ≤ n → follow (after (at_modality l m) k ps dead) (λ j qs. walk j qs ts) (tok (sign (opening m)) p ∷ ts) ≡ good qs → Got (UnitOf l) Any k ps qs (tok (sign (opening m)) p ∷ ts)
modal_more n ih expression m k ps qs p ts le h = absurd (bad h)
modal_more n ih formula m k ps qs p ts le h =
    let a = action_from (expect bar ∷ whole expression (expect (inner_of m) ∷ unit formula ∷ make_modal m ∷ k)) ps qs ts h in
    let l0 = ap length a.3 in
    let b = expect_at bar (whole expression (expect (inner_of m) ∷ unit formula ∷ make_modal m ∷ k)) (a_name a.0 a.1 ∷ ps) qs a.2 a.4 in
    let l1 = ap length b.2 in
    let e = whole_from n ih expression (expect (inner_of m) ∷ unit formula ∷ make_modal m ∷ k) (a_name a.0 a.1 ∷ ps) qs b.1 (omega arith) b.3 in
    let l2 = short b.1 e.used e.rest e.split in
    let z = expect_at (inner_of m) (unit formula ∷ make_modal m ∷ k) (a_tree e.tree ∷ a_name a.0 a.1 ∷ ps) qs e.rest e.on in
    let l3 = ap length z.2 in
    let u = ih.units formula (make_modal m ∷ k) (a_tree e.tree ∷ a_name a.0 a.1 ∷ ps) qs z.1 (omega arith) z.3 in
    record {
      how = u.how;
      used = tok (sign (opening m)) p ∷ tok (name a.0) a.1 ∷ tok (sign Bar) b.0 ∷ (e.used ++ tok (sign (closing m)) z.0 ∷ u.used);
      rest = u.rest;
      tree = modal m a.0 a.1 e.tree u.tree;
      split =
          ap (λ x. tok (sign (opening m)) p ∷ x) a.3
          ∙ ap (λ x. tok (sign (opening m)) p ∷ tok (name a.0) a.1 ∷ x) b.2
          ∙ ap (λ x. tok (sign (opening m)) p ∷ tok (name a.0) a.1 ∷ tok (sign Bar) b.0 ∷ x)
          (e.split ∙ ap (λ x. e.used ++ x) (z.2 ∙ ap (λ x. tok (sign x) z.0 ∷ z.1) (closing_is m) ∙ ap (λ x. tok (sign (closing m)) z.0 ∷ x) u.split) ∙ sym (append_assoc e.used (tok (sign (closing m)) z.0 ∷ u.used) u.rest));
      is = is_modal m a.0 p a.1 b.0 z.0 e.is u.is;
      ended = u.ended;
      exit = tt;
      on = sym (past_make _ k (a_tree u.tree ∷ a_tree e.tree ∷ a_name a.0 a.1 ∷ ps) u.rest) ∙ u.on;
    }

fixpoint_more : (n : ℕ) → Sound n → (l : Level) (x : Fixpoint) (k : List Item) (ps qs : List Part) (p : ℕ) (ts : List Tok) → length ts ≤ n → follow (after (at_fixpoint l x) k ps dead) (λ j qs. walk j qs ts) (tok (sign (word x)) p ∷ ts) ≡ good qs → Got (UnitOf l) Any k ps qs (tok (sign (word x)) p ∷ ts)
fixpoint_more n ih expression x k ps qs p ts le h = absurd (bad h)
fixpoint_more n ih formula x k ps qs p ts le h =
    let a = variable_from (expect dot ∷ whole formula (make_fixpoint x ∷ k)) ps qs ts h in
    let l0 = ap length a.3 in
    let b = expect_at dot (whole formula (make_fixpoint x ∷ k)) (a_var a.0 ∷ ps) qs a.2 a.4 in
    let l1 = ap length b.2 in
    let f = whole_from n ih formula (make_fixpoint x ∷ k) (a_var a.0 ∷ ps) qs b.1 (omega arith) b.3 in
    record {
      how = bound;
      used = tok (sign (word x)) p ∷ tok (variable a.0) a.1 ∷ tok (sign Dot) b.0 ∷ f.used;
      rest = f.rest;
      tree = fixpoint x a.0 f.tree;
      split = ap (λ y. tok (sign (word x)) p ∷ y) a.3 ∙ ap (λ y. tok (sign (word x)) p ∷ tok (variable a.0) a.1 ∷ y) (b.2 ∙ ap (λ y. tok (sign Dot) b.0 ∷ y) f.split);
      is = is_fixpoint x a.0 p a.1 b.0 f.is;
      ended = f.exit;
      exit = tt;
      on = sym (past_make _ k (a_tree f.tree ∷ a_var a.0 ∷ ps) f.rest) ∙ f.on;
    }

not_more : (n : ℕ) → Sound n → (l : Level) (k : List Item) (ps qs : List Part) (p : ℕ) (ts : List Tok) → length ts ≤ n → walk (unit l ∷ make_not ∷ k) ps ts ≡ good qs → Got (UnitOf l) Any k ps qs (tok (sign Not) p ∷ ts)
not_more n ih l k ps qs p ts le h =
    let g = ih.units l (make_not ∷ k) ps qs ts le h in
    record { how = g.how; used = tok (sign Not) p ∷ g.used; rest = g.rest; tree = negation g.tree; split = ap (λ r. tok (sign Not) p ∷ r) g.split; is = is_not p g.is; ended = g.ended; exit = tt; on = sym (past_make _ k (a_tree g.tree ∷ ps) g.rest) ∙ g.on }

parens_more : (n : ℕ) → Sound n → (l : Level) (k : List Item) (ps qs : List Part) (p : ℕ) (ts : List Tok) → length ts ≤ n → walk (whole l (expect close ∷ k)) ps ts ≡ good qs → Got (UnitOf l) Any k ps qs (tok (sign Open) p ∷ ts)
parens_more n ih l k ps qs p ts le h =
    let f = whole_from n ih l (expect close ∷ k) ps qs ts le h in
    let s = expect_at close k (a_tree f.tree ∷ ps) qs f.rest f.on in
    record { how = free; used = tok (sign Open) p ∷ (f.used ++ tok (sign Close) s.0 ∷ []); rest = s.1; tree = f.tree; split = ap (λ r. tok (sign Open) p ∷ r) (f.split ∙ ap (λ r. f.used ++ r) s.2 ∙ sym (append_assoc f.used (tok (sign Close) s.0 ∷ []) s.1)); is = is_parens p s.0 f.is; ended = tt; exit = tt; on = s.3 }

sign_more : (n : ℕ) → Sound n → (l : Level) (k : List Item) (ps qs : List Part) (s : Sign) (p : ℕ) (ts : List Tok) → length ts ≤ n → follow (after (at_sign l s) k ps dead) (λ j qs. walk j qs ts) (tok (sign s) p ∷ ts) ≡ good qs → Got (UnitOf l) Any k ps qs (tok (sign s) p ∷ ts)
sign_more n ih l k ps qs Mu p ts le h = fixpoint_more n ih l least k ps qs p ts le h
sign_more n ih l k ps qs Nu p ts le h = fixpoint_more n ih l greatest k ps qs p ts le h
sign_more n ih l k ps qs True p ts le h = record { how = free; used = tok (sign True) p ∷ []; rest = ts; tree = top; split = refl; is = is_true p; ended = tt; exit = tt; on = h }
sign_more n ih l k ps qs False p ts le h = record { how = free; used = tok (sign False) p ∷ []; rest = ts; tree = bottom; split = refl; is = is_false p; ended = tt; exit = tt; on = h }
sign_more n ih l k ps qs Not p ts le h = not_more n ih l k ps qs p ts le h
sign_more n ih l k ps qs And p ts le h = absurd (bad h)
sign_more n ih l k ps qs Or p ts le h = absurd (bad h)
sign_more n ih l k ps qs Bar p ts le h = absurd (bad h)
sign_more n ih l k ps qs Less p ts le h = modal_more n ih l diamond k ps qs p ts le h
sign_more n ih l k ps qs Greater p ts le h = absurd (bad h)
sign_more n ih l k ps qs LeftBracket p ts le h = modal_more n ih l box k ps qs p ts le h
sign_more n ih l k ps qs RightBracket p ts le h = absurd (bad h)
sign_more n ih l k ps qs Open p ts le h = parens_more n ih l k ps qs p ts le h
sign_more n ih l k ps qs Close p ts le h = absurd (bad h)
sign_more n ih l k ps qs Dot p ts le h = absurd (bad h)

unit_more : (n : ℕ) → Sound n → (l : Level) (k : List Item) (ps qs : List Part) (ts : List Tok) → length ts ≤ suc n → walk (unit l ∷ k) ps ts ≡ good qs → Got (UnitOf l) Any k ps qs ts
unit_more n ih l k ps qs [] le h = absurd (bad h)
unit_more n ih formula k ps qs (tok (name w) p ∷ ts) le h = absurd (bad h)
unit_more n ih expression k ps qs (tok (name w) p ∷ ts) le h = record { how = free; used = tok (name w) p ∷ []; rest = ts; tree = feature w p; split = refl; is = is_feature w p; ended = tt; exit = tt; on = h }
unit_more n ih formula k ps qs (tok (variable v) p ∷ ts) le h = record { how = free; used = tok (variable v) p ∷ []; rest = ts; tree = var v; split = refl; is = is_variable v p; ended = tt; exit = tt; on = h }
unit_more n ih expression k ps qs (tok (variable v) p ∷ ts) le h = absurd (bad h)
unit_more n ih l k ps qs (tok (sign s) p ∷ ts) le h = sign_more n ih l k ps qs s p ts (omega arith) h

parts_stay : (l : Level) {e : Ending} {u : List Tok} {a : Tree} → AndPartOf l e u a → (k : List Item) (ps qs : List Part) (ts : List Tok) → Ended e ts → NotNext And ts → walk k (a_tree a ∷ ps) ts ≡ good qs → Got (λ f w b. AndPartOf l f (u ++ w) b) (NotNext And) k ps qs ts
parts_stay l {e} {u} {a} d k ps qs ts w x h = record { how = e; used = []; rest = ts; tree = a; split = refl; is = subst (λ y. AndPartOf l e y a) (sym (append-nil u)) d; ended = w; exit = x; on = h }

phrases_stay : (l : Level) {e : Ending} {u : List Tok} {a : Tree} → PhraseOf l e u a → (k : List Item) (ps qs : List Part) (ts : List Tok) → Ended e ts → Stops ts → walk k (a_tree a ∷ ps) ts ≡ good qs → Got (λ f w b. PhraseOf l f (u ++ w) b) Stops k ps qs ts
phrases_stay l {e} {u} {a} d k ps qs ts w x h = record { how = e; used = []; rest = ts; tree = a; split = refl; is = subst (λ y. PhraseOf l e y a) (sym (append-nil u)) d; ended = w; exit = x; on = h }

parts_go : (n : ℕ) → Sound n → (l : Level) (q : ℕ) {u : List Tok} {a : Tree} → AndPartOf l free u a → (k : List Item) (ps qs : List Part) (ts : List Tok) → length ts ≤ n → walk (unit l ∷ make_both conjunction ∷ and_tail l ∷ k) (a_tree a ∷ ps) ts ≡ good qs → Got (λ f w b. AndPartOf l f (u ++ w) b) (NotNext And) k ps qs (tok (sign And) q ∷ ts)
parts_go n ih l q {u} {a} d k ps qs ts le h =
    let g = ih.units l (make_both conjunction ∷ and_tail l ∷ k) (a_tree a ∷ ps) qs ts le h in
    let l1 = short ts g.used g.rest g.split in
    let p = ih.parts l (more_units q d g.is) k ps qs g.rest (omega arith) g.ended (sym (past_make _ (and_tail l ∷ k) (a_tree g.tree ∷ a_tree a ∷ ps) g.rest) ∙ g.on) in
    record {
      how = p.how;
      used = tok (sign And) q ∷ (g.used ++ p.used);
      rest = p.rest;
      tree = p.tree;
      split = ap (λ r. tok (sign And) q ∷ r) (g.split ∙ ap (λ r. g.used ++ r) p.split ∙ sym (append_assoc g.used p.used p.rest));
      is = subst (λ y. AndPartOf l p.how y p.tree) (append_assoc u (tok (sign And) q ∷ g.used) p.used) p.is;
      ended = p.ended;
      exit = p.exit;
      on = p.on;
    }

phrases_go : (n : ℕ) → Sound n → (l : Level) (q : ℕ) {u : List Tok} {a : Tree} → PhraseOf l free u a → (k : List Item) (ps qs : List Part) (ts : List Tok) → length ts ≤ n → walk (unit l ∷ and_tail l ∷ make_both disjunction ∷ or_tail l ∷ k) (a_tree a ∷ ps) ts ≡ good qs → Got (λ f w b. PhraseOf l f (u ++ w) b) Stops k ps qs (tok (sign Or) q ∷ ts)
phrases_go n ih l q {u} {a} d k ps qs ts le h =
    let g = ih.units l (and_tail l ∷ make_both disjunction ∷ or_tail l ∷ k) (a_tree a ∷ ps) qs ts le h in
    let l1 = short ts g.used g.rest g.split in
    let p = ih.parts l (one_unit g.is) (make_both disjunction ∷ or_tail l ∷ k) (a_tree a ∷ ps) qs g.rest (omega arith) g.ended g.on in
    let l2 = short g.rest p.used p.rest p.split in
    let f = ih.phrases l (more_parts q d p.is) k ps qs p.rest (omega arith) p.ended p.exit (sym (past_make _ (or_tail l ∷ k) (a_tree p.tree ∷ a_tree a ∷ ps) p.rest) ∙ p.on) in
    record {
      how = f.how;
      used = tok (sign Or) q ∷ ((g.used ++ p.used) ++ f.used);
      rest = f.rest;
      tree = f.tree;
      split = ap (λ r. tok (sign Or) q ∷ r) (g.split ∙ ap (λ x. g.used ++ x) (p.split ∙ ap (λ x. p.used ++ x) f.split) ∙ sym (append_assoc g.used p.used (f.used ++ f.rest)) ∙ sym (append_assoc (g.used ++ p.used) f.used f.rest));
      is = subst (λ y. PhraseOf l f.how y f.tree) (append_assoc u (tok (sign Or) q ∷ (g.used ++ p.used)) f.used) f.is;
      ended = f.ended;
      exit = f.exit;
      on = f.on;
    }

-- a phrase that ends in the formula of a fixpoint is not followed by an operator
pub not_bound_and : (R : Ending → Type 0) (e : Ending) (s : Sym) (p : ℕ) (ts : List Tok) → is And s ≡ true → Ended e (tok s p ∷ ts) → R e → R free
not_bound_and R free s p ts h w d = d
not_bound_and R bound s p ts h w d = let x = w.0 in let z : ◌≡◌ {A = ℕ} 0 1 = cc in absurd (omega arith)

pub not_bound_or : (R : Ending → Type 0) (e : Ending) (s : Sym) (p : ℕ) (ts : List Tok) → is Or s ≡ true → Ended e (tok s p ∷ ts) → R e → R free
not_bound_or R free s p ts h w d = d
not_bound_or R bound s p ts h w d = let x = w.1 in let z : ◌≡◌ {A = ℕ} 0 1 = cc in absurd (omega arith)

parts_more : (n : ℕ) → Sound n → (l : Level) {e : Ending} {u : List Tok} {a : Tree} → AndPartOf l e u a → (k : List Item) (ps qs : List Part) (ts : List Tok) → length ts ≤ suc n → Ended e ts → walk (and_tail l ∷ k) (a_tree a ∷ ps) ts ≡ good qs → Got (λ f w b. AndPartOf l f (u ++ w) b) (NotNext And) k ps qs ts
parts_more n ih l d k ps qs [] le w h = parts_stay l d k ps qs [] w tt h
parts_more n ih l {e} {u} {a} d k ps qs (tok s p ∷ ts) le w h = go (is And s) refl h
  where
    go : (b : Bool) → is And s ≡ b → follow (after (cond b (take [] (unit l ∷ make_both conjunction ∷ and_tail l ∷ [])) skip) k (a_tree a ∷ ps) (step k (a_tree a ∷ ps) s p)) (λ j qs. walk j qs ts) (tok s p ∷ ts) ≡ good qs → Got (λ f w b. AndPartOf l f (u ++ w) b) (NotNext And) k ps qs (tok s p ∷ ts)
    go true x h = subst (λ y. Got (λ f w b. AndPartOf l f (u ++ w) b) (NotNext And) k ps qs (tok y p ∷ ts)) (sym (is_sign And s x)) (parts_go n ih l p (not_bound_and (λ f. AndPartOf l f u a) e s p ts x w d) k ps qs ts (omega arith) h)
    go false x h = parts_stay l d k ps qs (tok s p ∷ ts) w x h

phrases_more : (n : ℕ) → Sound n → (l : Level) {e : Ending} {u : List Tok} {a : Tree} → PhraseOf l e u a → (k : List Item) (ps qs : List Part) (ts : List Tok) → length ts ≤ suc n → Ended e ts → NotNext And ts → walk (or_tail l ∷ k) (a_tree a ∷ ps) ts ≡ good qs → Got (λ f w b. PhraseOf l f (u ++ w) b) Stops k ps qs ts
phrases_more n ih l d k ps qs [] le w y h = phrases_stay l d k ps qs [] w (tt, tt) h
phrases_more n ih l {e} {u} {a} d k ps qs (tok s p ∷ ts) le w y h = go (is Or s) refl h
  where
    go : (b : Bool) → is Or s ≡ b → follow (after (cond b (take [] (unit l ∷ and_tail l ∷ make_both disjunction ∷ or_tail l ∷ [])) skip) k (a_tree a ∷ ps) (step k (a_tree a ∷ ps) s p)) (λ j qs. walk j qs ts) (tok s p ∷ ts) ≡ good qs → Got (λ f w b. PhraseOf l f (u ++ w) b) Stops k ps qs (tok s p ∷ ts)
    go true x h = subst (λ y. Got (λ f w b. PhraseOf l f (u ++ w) b) Stops k ps qs (tok y p ∷ ts)) (sym (is_sign Or s x)) (phrases_go n ih l p (not_bound_or (λ f. PhraseOf l f u a) e s p ts x w d) k ps qs ts (omega arith) h)
    go false x h = phrases_stay l d k ps qs (tok s p ∷ ts) w (y, x) h

units_none : (l : Level) (k : List Item) (ps qs : List Part) (ts : List Tok) → length ts ≤ 0 → walk (unit l ∷ k) ps ts ≡ good qs → Got (UnitOf l) Any k ps qs ts
units_none l k ps qs [] le h = absurd (bad h)
units_none l k ps qs (t ∷ ts) le h = absurd (omega arith)

parts_none : (l : Level) {e : Ending} {u : List Tok} {a : Tree} → AndPartOf l e u a → (k : List Item) (ps qs : List Part) (ts : List Tok) → length ts ≤ 0 → Ended e ts → walk (and_tail l ∷ k) (a_tree a ∷ ps) ts ≡ good qs → Got (λ f w b. AndPartOf l f (u ++ w) b) (NotNext And) k ps qs ts
parts_none l d k ps qs [] le w h = parts_stay l d k ps qs [] w tt h
parts_none l d k ps qs (t ∷ ts) le w h = absurd (omega arith)

phrases_none : (l : Level) {e : Ending} {u : List Tok} {a : Tree} → PhraseOf l e u a → (k : List Item) (ps qs : List Part) (ts : List Tok) → length ts ≤ 0 → Ended e ts → NotNext And ts → walk (or_tail l ∷ k) (a_tree a ∷ ps) ts ≡ good qs → Got (λ f w b. PhraseOf l f (u ++ w) b) Stops k ps qs ts
phrases_none l d k ps qs [] le w y h = phrases_stay l d k ps qs [] w (tt, tt) h
phrases_none l d k ps qs (t ∷ ts) le w y h = absurd (omega arith)

sound : (n : ℕ) → Sound n
sound zero = record { units = units_none; parts = parts_none; phrases = phrases_none }
sound (suc n) = record { units = unit_more n (sound n); parts = parts_more n (sound n); phrases = phrases_more n (sound n) }

pub phrase_from : (l : Level) (k : List Item) (ps qs : List Part) (ts : List Tok) → walk (whole l k) ps ts ≡ good qs → Got (PhraseOf l) Stops k ps qs ts
phrase_from l k ps qs ts h = whole_from (length ts) (sound (length ts)) l k ps qs ts (omega arith) h

-- How phrases are put together, in the tokens and in the tables.
use Rattle.std.proofs.Common.{◌≡◌, ℕ, false, List, [], ◌∷◌, ◌++◌, Ok, Err, MatchResult, Result, sym, refl, ap, ◌∙◌, subst, append_assoc, arith}
use Rattle.lexer.specs.Tokens.{Sym, name, variable, sign, Tok, tok}
use Rattle.lexer.specs.Texts.{toks}
use Rattle.lexer.specs.declared.Sign.{Sign}
use Rattle.lexer.specs.declared.Sign.TheVariants.{Not, And, Or, Bar, Less, LeftBracket, Mu, Nu, Open, Close, Dot}
use Rattle.grammar.specs.Grammar.{Modality, diamond, box, Fixpoint, least, greatest, Tree, negation, disjunction, conjunction, modal, fixpoint, opening, closing, word, Ending, free, bound, UnitOf, is_feature, is_variable, is_not, is_parens, is_modal, is_fixpoint, AndPartOf, one_unit, more_units, PhraseOf, one_part, more_parts}
use Rattle.grammar.specs.declared.Level.{Level}
use Rattle.grammar.specs.declared.Level.TheVariants.{Formula as formula, Expression as expression}
use Rattle.grammar.specs.Machine.{a_tree, a_var, a_name, Inner, close, sign_of, inner_of, bar, greater, bracket, dot, Item, unit, and_tail, or_tail, expect, a_variable, an_action, make_not, make_both, make_modal, make_fixpoint, whole, walk, NotNext, Stops, Any, Ended}
use Rattle.grammar.proofs.Complete.{unit_read, part_read, parts_read, phrase_read}
use Rattle.grammar.proofs.Sound.{not_bound_and, not_bound_or}
use Rattle.grammar.proofs.Prefix.{expected}
use Rattle.formulas.specs.declared.Node.TheVariants as nd
use Rattle.words.specs.Words.{number}
use Rattle.reader.specs.Numbering.{Tables, note, put_node, put, last, modal_node, fixpoint_node}
use Rattle.reader.specs.Reading.{State, left, entered, Keeps, Onto, Enters, feature_at, PhraseIn, Did, Stuck, Takes, Passes, Operates, Variables, Heads, Actions}
use Rattle.reader.specs.declared.parser.Reader.{Reader}
use Rattle.reader.specs.declared.refusals.Offence.{Offence}
use Rattle.reader.proofs.Steps.{stuck_token, stop_name, Goes, goes_then, goes_token}

pub other_level : expression ≡ formula → ⊥
other_level e = let z : ◌≡◌ {A = ℕ} 0 1 = cc in omega arith

-- ---- phrases in the tokens

module _ {R : Ending → List Tok → Tree → Type 0} {E : List Tok → Type 0} {f : Tree} where
  -- a phrase in the same tokens under other names
  located : {ts us rest on : List Tok} → ts ≡ us → on ≡ rest → PhraseIn R E us rest f → PhraseIn R E ts on f
  located {us = us} {on = on} e i d = subst (λ x. PhraseIn R E x on f) (sym e)
      (subst (λ x. PhraseIn R E us x f) (sym i) d)

in_not : {l : Level} (p : ℕ) {ts rest : List Tok} {f : Tree} → PhraseIn (UnitOf l) Any ts rest f → PhraseIn
    (UnitOf l) Any (tok (sign Not) p ∷ ts) rest (negation f)
in_not p d = record {
  how = d.how;
  used = tok (sign Not) p ∷ d.used;
  split = ap (λ r. tok (sign Not) p ∷ r)
      d.split;
  is = is_not p d.is;
  ended = d.ended;
  exit = tt;
}

in_parens : {l : Level} (p q : ℕ) {ts us rest : List Tok} {f : Tree} → PhraseIn (PhraseOf l) Stops ts us f →
    us ≡ tok (sign Close) q ∷ rest → PhraseIn (UnitOf l) Any (tok (sign Open) p ∷ ts) rest f
in_parens p q {rest = rest} d e = record {
  how = free;
  used = tok (sign Open) p ∷ (d.used ++ tok (sign Close) q ∷ []);
  split = ap (λ r. tok (sign Open) p ∷ r)
      (d.split ∙ ap (λ r. d.used ++ r) e ∙ sym (append_assoc d.used (tok (sign Close) q ∷ []) rest));
  is = is_parens p q d.is;
  ended = tt;
  exit = tt;
}

in_modal : (m : Modality) (w : List ℕ) (p q r s : ℕ) {ts us vs rest : List Tok} {c f : Tree} → PhraseIn
    (PhraseOf expression) Stops ts us c → us ≡ tok (sign (closing m)) s ∷ vs → PhraseIn (UnitOf formula) Any
    vs rest f
    → PhraseIn (UnitOf formula) Any (tok (sign (opening m)) p ∷ tok (name w) q ∷ tok (sign Bar) r ∷ ts) rest
    (modal m w q c f)
in_modal m w p q r s {rest = rest} x e u = record {
  how = u.how;
  used = tok (sign (opening m)) p ∷ tok (name w) q ∷ tok (sign Bar) r ∷
      (x.used ++ tok (sign (closing m)) s ∷ u.used);
  split =
      ap (λ y. tok (sign (opening m)) p ∷ tok (name w) q ∷ tok (sign Bar) r ∷ y)
      (x.split ∙ ap (λ y. x.used ++ y) (e ∙ ap (λ y. tok (sign (closing m)) s ∷ y) u.split) ∙ sym
      (append_assoc x.used (tok (sign (closing m)) s ∷ u.used) rest));
  is = is_modal m w p q r s x.is u.is;
  ended = u.ended;
  exit = tt;
}

in_fixpoint : (x : Fixpoint) (v p q r : ℕ) {ts rest : List Tok} {f : Tree} → PhraseIn (PhraseOf formula)
    Stops ts rest f → PhraseIn (UnitOf formula) Any
    (tok (sign (word x)) p ∷ tok (variable v) q ∷ tok (sign Dot) r ∷ ts) rest (fixpoint x v f)
in_fixpoint x v p q r d = record {
  how = bound;
  used = tok (sign (word x)) p ∷ tok (variable v) q ∷ tok (sign Dot) r ∷ d.used;
  split = ap (λ y. tok (sign (word x)) p ∷ tok (variable v) q ∷ tok (sign Dot) r ∷ y) d.split;
  is = is_fixpoint x v p q r d.is;
  ended = d.exit;
  exit = tt;
}

-- a phrase that goes on past an operator, by an operand
in_and : {l : Level} (p : ℕ) {ts us vs rest : List Tok} {f g : Tree} → PhraseIn (AndPartOf l) Any ts us f →
    us ≡ tok (sign And) p ∷ vs → PhraseIn (UnitOf l) Any vs rest g → PhraseIn (AndPartOf l) Any ts rest
    (conjunction f g)
in_and {l} p {vs = vs} {rest = rest} {f = f} d e o = record {
  how = o.how;
  used = d.used ++ (tok (sign And) p ∷ o.used);
  split = d.split ∙ ap (λ y. d.used ++ y) (e ∙ ap (λ y. tok (sign And) p ∷ y) o.split) ∙ sym
      (append_assoc d.used (tok (sign And) p ∷ o.used) rest);
  is = more_units p (not_bound_and (λ h. AndPartOf l h d.used f) d.how (sign And) p vs refl
      (subst (Ended d.how) e d.ended) d.is) o.is;
  ended = o.ended;
  exit = tt;
}

in_or : {l : Level} (p : ℕ) {ts us vs rest : List Tok} {f g : Tree} → PhraseIn (PhraseOf l) (NotNext And) ts
    us f → us ≡ tok (sign Or) p ∷ vs → PhraseIn (AndPartOf l) (NotNext And) vs rest g → PhraseIn
    (PhraseOf l) (NotNext And) ts rest (disjunction f g)
in_or {l} p {vs = vs} {rest = rest} {f = f} d e o = record {
  how = o.how;
  used = d.used ++ (tok (sign Or) p ∷ o.used);
  split = d.split ∙ ap (λ y. d.used ++ y) (e ∙ ap (λ y. tok (sign Or) p ∷ y) o.split) ∙ sym
      (append_assoc d.used (tok (sign Or) p ∷ o.used) rest);
  is = more_parts p (not_bound_or (λ h. PhraseOf l h d.used f) d.how (sign Or) p vs refl
      (subst (Ended d.how) e d.ended) d.is) o.is;
  ended = o.ended;
  exit = o.exit;
}

-- ---- how the machine goes on, with the items i after those of the part

module _ {k i : List Item} {a b c : Reader} where
  pub then_unit : (l : Level) (n : ℕ) → Goes k (unit l ∷ i) a b → Onto b c → Did l (UnitOf l) Any b c n →
      Goes k i a c
  then_unit l n g on d = goes_then g
      (record {
        end = on.end;
        run = λ j ps. (
          a_tree d.tree ∷ ps,
          ap (λ y. walk (unit l ∷ (i ++ j)) ps y) d.reads.split ∙ unit_read d.reads.is
              (i ++ j) ps (left c) d.reads.ended,
        );
      })

  pub then_phrase : (l : Level) (n : ℕ) → Goes k (whole l i) a b → Onto b c → Did l (PhraseOf l) Stops b c n
      → Goes k i a c
  then_phrase l n g on d = goes_then g
      (record {
        end = on.end;
        run = λ j ps. (
          a_tree d.tree ∷ ps,
          ap (λ y. walk (whole l (i ++ j)) ps y) d.reads.split ∙ phrase_read d.reads.is
              (i ++ j) ps (left c) d.reads.exit d.reads.ended,
        );
      })

  pub then_expect : (m : Inner) → Goes k (expect m ∷ i) a b → Onto b c → Passes (sign_of m) b c → Goes k i a c
  then_expect m g on d = goes_then g
      (record {
        end = on.end;
        run = λ j ps.
            (ps, ap (λ y. walk (expect m ∷ (i ++ j)) ps y) d.1.next ∙ expected m d.0 (i ++ j) ps (left c));
      })

  pub then_variable : (v : ℕ) → Goes k (a_variable ∷ i) a b → Onto b c → Variables b c v → Goes k i a c
  then_variable v g on d = goes_then g
      (record {
        end = on.end;
        run = λ j ps.
            (a_var v ∷ ps, ap (λ y. walk (a_variable ∷ (i ++ j)) ps y) d.1.next);
      })

  pub then_head : (v : ℕ) → Goes k (a_variable ∷ expect dot ∷ i) a b → Onto b c → Heads b c v → Goes k i a c
  then_head v g on d = goes_then g
      (record {
        end = on.end;
        run = λ j ps.
            (a_var v ∷ ps, ap (λ y. walk (a_variable ∷ expect dot ∷ (i ++ j)) ps y) d.next);
      })

  pub then_action : (n : ℕ) → Goes k (an_action ∷ i) a b → Onto b c → Actions b c n → Goes k i a c
  then_action n g on d = goes_then g
      (record {
        end = on.end;
        run = λ j ps.
            (a_name d.action d.place ∷ ps, ap (λ y. walk (an_action ∷ (i ++ j)) ps y) d.next);
      })

-- up to the right operand
pub goes_and : (l : Level) (a b c : Reader) (n : ℕ) → Onto a b → Did l (AndPartOf l) Any a b n → Onto b c →
    Passes And b c → Goes (unit l ∷ and_tail l ∷ []) (unit l ∷ make_both conjunction ∷ and_tail l ∷ []) a c
goes_and l a b c n on d onto o = record {
  end = onto.end ∙ on.end;
  run = λ j ps. (
    a_tree d.tree ∷ ps,
    ap (λ y. walk (unit l ∷ and_tail l ∷ j) ps y)
        (d.reads.split ∙ ap (λ y. d.reads.used ++ y) o.1.next) ∙ part_read d.reads.is j ps
        (tok (sign And) o.0 ∷ left c) (subst (Ended d.reads.how) o.1.next d.reads.ended),
  );
}

pub goes_or : (l : Level) (a b c : Reader) (n : ℕ) → Onto a b → Did l (PhraseOf l) (NotNext And) a b n →
    Onto b c → Passes Or b c → Goes (whole l [])
    (unit l ∷ and_tail l ∷ make_both disjunction ∷ or_tail l ∷ []) a c
goes_or l a b c n on d onto o = record {
  end = onto.end ∙ on.end;
  run = λ j ps. (
    a_tree d.tree ∷ ps,
    ap (λ y. walk (whole l j) ps y)
        (d.reads.split ∙ ap (λ y. d.reads.used ++ y) o.1.next) ∙ parts_read d.reads.is j ps
        (tok (sign Or) o.0 ∷ left c) refl (subst (Ended d.reads.how) o.1.next d.reads.ended),
  );
}

-- ---- how the machine begins a unit

module _ (l : Level) (a b : Reader) (p : ℕ) (e : b.end ≡ a.end) where
  pub begins_not : Takes (sign Not) p a b → Goes (unit l ∷ []) (unit l ∷ make_not ∷ []) a b
  begins_not t = goes_token (unit l) (unit l ∷ make_not ∷ []) a b (sign Not) p t e (λ k ps. refl)

  pub begins_parens : Takes (sign Open) p a b → Goes (unit l ∷ []) (whole l (expect close ∷ [])) a b
  begins_parens t = goes_token (unit l) (whole l (expect close ∷ [])) a b (sign Open) p t e (λ k ps. refl)

pub begins_modal : (l : Level) (m : Modality) (a b : Reader) (p : ℕ) → l ≡ formula → b.end ≡ a.end → Takes
    (sign (opening m)) p a b → Goes (unit l ∷ [])
    (an_action ∷ expect bar ∷ whole expression (expect (inner_of m) ∷ unit l ∷ make_modal m ∷ [])) a b
begins_modal formula diamond a b p h e t = goes_token (unit formula)
    (an_action ∷ expect bar ∷ whole expression (expect greater ∷ unit formula ∷ make_modal diamond ∷ [])) a
    b (sign Less) p t e (λ k ps. refl)
begins_modal formula box a b p h e t = goes_token (unit formula)
    (an_action ∷ expect bar ∷ whole expression (expect bracket ∷ unit formula ∷ make_modal box ∷ [])) a b
    (sign LeftBracket) p t e (λ k ps. refl)
begins_modal expression m a b p h e t = absurd (other_level h)

pub begins_fixpoint : (l : Level) (f : Fixpoint) (a b : Reader) (p : ℕ) → l ≡ formula → b.end ≡ a.end →
    Takes (sign (word f)) p a b → Goes (unit l ∷ [])
    (a_variable ∷ expect dot ∷ whole l (make_fixpoint f ∷ [])) a b
begins_fixpoint formula least a b p h e t = goes_token (unit formula)
    (a_variable ∷ expect dot ∷ whole formula (make_fixpoint least ∷ [])) a b (sign Mu) p t e (λ k ps. refl)
begins_fixpoint formula greatest a b p h e t = goes_token (unit formula)
    (a_variable ∷ expect dot ∷ whole formula (make_fixpoint greatest ∷ [])) a b (sign Nu) p t e (λ k ps. refl)
begins_fixpoint expression f a b p h e t = absurd (other_level h)

-- ---- what a part of the reader did

module _ {l : Level} {a m b : Reader} {p n : ℕ} where
  pub did_leaf : {s : Sym} {f : Tree} → Takes s p a m → UnitOf l free (tok s p ∷ []) f → Keeps m b → Enters
      l (λ x. entered x l f) m b n → Did l (UnitOf l) Any a b n
  did_leaf {s} {f} t is k ent = record {
    tree = f;
    reads = located t.next (ap toks k.tokens)
        (record { how = free; used = tok s p ∷ []; split = refl; is = is; ended = tt; exit = tt });
    enters = λ x u st. ent x u (t.same x u st);
  }

pub did_variable : (l : Level) (a m b : Reader) (p v n : ℕ) → l ≡ formula → Takes (variable v) p a m → Keeps
    m b → Enters formula (λ x. put_node (nd.Variable v)) m b n → Did l (UnitOf l) Any a b n
did_variable formula a m b p v n h t k ent = did_leaf t (is_variable v p) k ent
did_variable expression a m b p v n h t k ent = absurd (other_level h)

pub did_not : (l : Level) (a m c b : Reader) (p i n : ℕ) → Takes (sign Not) p a m → Did l (UnitOf l) Any m c
    i → Keeps c b → Enters l (λ x. put l (nd.Not i)) c b n → Did l (UnitOf l) Any a b n
did_not l a m c b p i n t d k ent = record {
  tree = negation d.tree;
  reads = located t.next (ap toks k.tokens) (in_not p d.reads);
  enters = λ x u st.
      let y = d.enters x u (t.same x u st) in
      subst (λ i. State x b (put l (nd.Not i) (entered x l d.tree u)) ×
      (n ≡ last l (put l (nd.Not i) (entered x l d.tree u)))) y.1 (ent x _ y.0);
}

pub did_parens : (l : Level) (a m c b : Reader) (p n : ℕ) → Takes (sign Open) p a m → Did l (PhraseOf l)
    Stops m c n → Passes Close c b → Did l (UnitOf l) Any a b n
did_parens l a m c b p n t d o = record {
  tree = d.tree;
  reads = located t.next refl (in_parens p o.0 d.reads o.1.next);
  enters = λ x u st. let y = d.enters x u (t.same x u st) in (o.1.same x _ y.0, y.1);
}

-- a feature's name is a unit of expressions alone
pub reads_feature : (l : Level) (a m b : Reader) (p : ℕ) (w : List ℕ) (r : Result ℕ Offence) → Takes
    (name w) p a m → Keeps m b → MatchResult r
    (λ n. (l ≡ expression) × Enters expression (feature_at w p) m b n) (λ o. (l ≡ expression → ⊥) × (o.0 ≡ p))
    → MatchResult r (Did l (UnitOf l) Any a b) (λ o. Stuck (unit l ∷ []) a o.0)
reads_feature formula a m b p w (Ok n) t k h = absurd (other_level (sym h.0))
reads_feature expression a m b p w (Ok n) t k h = did_leaf t (is_feature w p) k h.1
reads_feature l a m b p w (Err o) t k h = subst (λ q. Stuck (unit l ∷ []) a q) (sym h.1)
    (stuck_token (unit l) a m (name w) p t (stop_name l h.0 w p))

pub did_modal : (l : Level) (v : Modality) (a b c d e f g h : Reader) (p k i j n : ℕ) → l ≡ formula → Takes
    (sign (opening v)) p a b → Actions b c k → Passes Bar c d → Did expression (PhraseOf expression) Stops d
    e i → Passes (closing v) e f → Did l (UnitOf l) Any f g j
    → Keeps g h → Enters formula (λ x. put_node (modal_node v k i j)) g h n → Did l (UnitOf l) Any a h n
did_modal formula v a b c d e f g h p k i j n z t act o y s u q ent = record {
  tree = modal v act.action act.place y.tree u.tree;
  reads = located (t.next ∙ ap (λ r. tok (sign (opening v)) p ∷ r)
      (act.next ∙ ap (λ r. tok (name act.action) act.place ∷ r) o.1.next)) (ap toks q.tokens)
      (in_modal v act.action p act.place o.0 s.0 y.reads s.1.next u.reads);
  enters = λ x w st.
      let t1 : Tables = note (number x.action_names act.action) act.place w in
      let t2 : Tables = entered x expression y.tree t1 in
      let t3 : Tables = entered x formula u.tree t2 in
      let y0 = act.notes x w (t.same x w st) in
      let y1 = y.enters x t1 (o.1.same x t1 y0.0) in
      let y2 = u.enters x t2 (s.1.same x t2 y1.0) in
      let P : ℕ → ℕ → ℕ → Type 0 = λ k i j. State x h (put_node (modal_node v k i j) t3) ×
      (n ≡ last formula (put_node (modal_node v k i j) t3)) in
      subst (λ k. P k (last expression t2) (last formula t3)) y0.1
      (subst (λ i. P k i (last formula t3)) y1.1 (subst (λ j. P k i j) y2.1 (ent x t3 y2.0)));
}
did_modal expression v a b c d e f g h p k i j n z t act o y s u q ent = absurd (other_level z)

pub did_fixpoint : (l : Level) (f : Fixpoint) (a b c d e : Reader) (p v i n : ℕ) → l ≡ formula → Takes
    (sign (word f)) p a b → Heads b c v → Did l (PhraseOf l) Stops c d i → Keeps d e → Enters formula
    (λ x. put_node (fixpoint_node f v i)) d e n → Did l (UnitOf l) Any a e n
did_fixpoint formula f a b c d e p v i n z t h y q ent = record {
  tree = fixpoint f v y.tree;
  reads = located (t.next ∙ ap (λ r. tok (sign (word f)) p ∷ r) h.next) (ap toks q.tokens)
      (in_fixpoint f v p h.place h.dot_at y.reads);
  enters = λ x w st.
      let y1 = y.enters x w (h.same x w (t.same x w st)) in
      subst (λ i. State x e (put_node (fixpoint_node f v i) (entered x formula y.tree w)) ×
      (n ≡ last formula (put_node (fixpoint_node f v i) (entered x formula y.tree w)))) y1.1
      (ent x _ y1.0);
}
did_fixpoint expression f a b c d e p v i n z t h y q ent = absurd (other_level z)

-- ---- loops over operators

module _ (l : Level) (a b : Reader) (n : ℕ) where
  pub one_of_units : Did l (UnitOf l) Any a b n → Did l (AndPartOf l) Any a b n
  one_of_units d = let r = d.reads in record {
    tree = d.tree;
    reads = record
        { how = r.how; used = r.used; split = r.split; is = one_unit r.is; ended = r.ended; exit = tt };
    enters = d.enters;
  }

  pub one_of_parts : Did l (AndPartOf l) (NotNext And) a b n → Did l (PhraseOf l) (NotNext And) a b n
  one_of_parts d = let r = d.reads in record {
    tree = d.tree;
    reads = record
        { how = r.how; used = r.used; split = r.split; is = one_part r.is; ended = r.ended; exit = r.exit };
    enters = d.enters;
  }

  -- no operator comes next
  pub no_more : (R : Ending → List Tok → Tree → Type 0) (E F : List Tok → Type 0) (o : Sign) (c : Reader) →
      (NotNext o (left c) → E (left c) → F (left c)) → Did l R E a b n → Operates o b c false → Did l R F a
      c n
  no_more R E F o c exit d past = record {
    tree = d.tree;
    reads = let r = located {R = R} {E = E} refl (sym past.1) d.reads in record {
      how = r.how;
      used = r.used;
      split = r.split;
      is = r.is;
      ended = r.ended;
      exit = exit past.0 r.exit;
    };
    enters = λ x t st. let y = d.enters x t st in (past.2 x _ y.0, y.1);
  }

  module _ (c d e : Reader) (k r : ℕ) (keeps : Keeps d e) where
    pub and_more : Did l (AndPartOf l) Any a b n → Passes And b c → Did l (UnitOf l) Any c d k → Enters l
        (λ x. put l (nd.And n k)) d e r → Did l (AndPartOf l) Any a e r
    and_more f o g ent = record {
      tree = conjunction f.tree g.tree;
      reads = located refl (ap toks keeps.tokens) (in_and o.0 f.reads o.1.next g.reads);
      enters = λ x t st.
          let y = f.enters x t st in
          let z = g.enters x _ (o.1.same x _ y.0) in
          let both : Tables = entered x l g.tree (entered x l f.tree t) in
          let P : ℕ → ℕ → Type 0 = λ i j. State x e (put l (nd.And i j) both) ×
          (r ≡ last l (put l (nd.And i j) both)) in
          subst (λ i. P i (last l both)) y.1 (subst (λ j. P n j) z.1 (ent x _ z.0));
    }

    pub or_more : Did l (PhraseOf l) (NotNext And) a b n → Passes Or b c → Did l (AndPartOf l) (NotNext And)
        c d k → Enters l (λ x. put l (nd.Or n k)) d e r → Did l (PhraseOf l) (NotNext And) a e r
    or_more f o g ent = record {
      tree = disjunction f.tree g.tree;
      reads = located refl (ap toks keeps.tokens) (in_or o.0 f.reads o.1.next g.reads);
      enters = λ x t st.
          let y = f.enters x t st in
          let z = g.enters x _ (o.1.same x _ y.0) in
          let both : Tables = entered x l g.tree (entered x l f.tree t) in
          let P : ℕ → ℕ → Type 0 = λ i j. State x e (put l (nd.Or i j) both) ×
          (r ≡ last l (put l (nd.Or i j) both)) in
          subst (λ i. P i (last l both)) y.1 (subst (λ j. P n j) z.1 (ent x _ z.0));
    }

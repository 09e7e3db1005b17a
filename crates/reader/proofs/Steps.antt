-- How the machine goes on as the reader does, and where both stop.
use Rattle.std.proofs.Common.{◌≡◌, ℕ, cond, List, [], ◌∷◌, ◌++◌, ◌⊎◌, inl, inr, refl, ap, ◌∙◌, subst, append_assoc}
use Rattle.lexer.specs.Tokens.{Sym, name, variable, sign, tok}
use Rattle.lexer.specs.Cuts.{sym_of, place_of}
use Rattle.lexer.specs.declared.Sign.{Sign}
use Rattle.lexer.specs.declared.Sign.TheVariants.{Mu, Nu, True, False, Not, Less, LeftBracket, Open}
use Rattle.lexer.specs.declared.Token.{Token}
use Rattle.lexer.specs.declared.Token.TheVariants as tk
use Rattle.std.specs.Borrow.{Bor}
use Rattle.grammar.specs.Grammar.{Modality, diamond, box, Fixpoint, least, greatest, opening, word}
use Rattle.grammar.specs.declared.Level.{Level}
use Rattle.grammar.specs.declared.Level.TheVariants.{Formula as formula, Expression as expression}
use Rattle.grammar.specs.Machine.{take, stop, after, Part, Inner, sign_of, Item, unit, expect, a_variable, an_action, goes, dead, step, ends, fail, follow, walk}
use Rattle.grammar.proofs.Signs.{not_sign}
use Rattle.reader.specs.Reading.{left, place_from, Stuck, Takes, Passes}
use Rattle.reader.specs.declared.parser.Reader.{Reader}

-- the machine stops at a token
pub stuck_token : (i : Item) (a b : Reader) (s : Sym) (p : ℕ) → Takes s p a b →
    ((k : List Item) (ps : List Part) → step (i ∷ k) ps s p ≡ dead) → Stuck (i ∷ []) a p
stuck_token i a b s p t h = record {
  rest = tok s p ∷ left b;
  fails = λ k ps. ap (λ y. walk (i ∷ k) ps y) t.next ∙ ap
      (λ n. follow n (λ j qs. walk j qs (left b)) (tok s p ∷ left b)) (h k ps);
  place = refl;
}

-- no token is left
pub stuck_end : (i : Item) (a : Reader) (p : ℕ) →
    ((k : List Item) (ps : List Part) → ends (i ∷ k) ps ≡ fail []) → (left a ≡ []) × (p ≡ a.end) → Stuck
    (i ∷ []) a p
stuck_end i a p h e = record {
  rest = [];
  fails = λ k ps. ap (λ y. walk (i ∷ k) ps y) e.0 ∙ h k ps;
  place =
      e.1;
}

-- the machine goes on from the items k to the items l as the reader goes on from a to b
pub record Goes (k l : List Item) (a b : Reader) : Type 0 where
  pub end : b.end ≡ a.end
  pub run : (j : List Item) (ps : List Part) → (qs : List Part) ×
      (walk (k ++ j) ps (left a) ≡ walk (l ++ j) qs (left b))

pub goes_here : (k : List Item) (a : Reader) → Goes k k a a
goes_here k a = record { end = refl; run = λ j ps. (ps, refl) }

pub goes_then : {k l m : List Item} {a b c : Reader} → Goes k l a b → Goes l m b c → Goes k m a c
goes_then g h = record {
  end = h.end ∙ g.end;
  run = λ j ps. let v = g.run j ps in let w = h.run j v.0 in
      (w.0, v.1 ∙ w.1);
}

pub goes_token : (i : Item) (is : List Item) (a b : Reader) (s : Sym) (p : ℕ) → Takes s p a b → b.end ≡
    a.end → ((k : List Item) (ps : List Part) → step (i ∷ k) ps s p ≡ goes (is ++ k) ps) → Goes (i ∷ []) is
    a b
goes_token i is a b s p t e h = record {
  end = e;
  run = λ k ps. (
    ps,
    ap (λ y. walk (i ∷ k) ps y) t.next ∙ ap
        (λ n. follow n (λ j qs. walk j qs (left b)) (tok s p ∷ left b)) (h k ps),
  );
}

-- it has gone on, and stops at the items l
pub stuck : (l i : List Item) {k : List Item} {a b : Reader} {p : ℕ} → Goes k (l ++ i) a b → Stuck l b p →
    Stuck k a p
stuck l i {b = b} g z = record {
  rest = z.rest;
  fails = λ j ps. let w = g.run j ps in w.1 ∙ ap
      (λ n. walk n w.0 (left b)) (append_assoc l i j) ∙ z.fails (i ++ j) w.0;
  place = z.place ∙ ap
      (λ e. place_from e z.rest) g.end;
}

-- ---- signs

-- a token under the name that a match gave it
pub takes_as : {a b : Reader} {t u : Token} → t ≡ u → Takes (sym_of t) (place_of t) a b → Takes (sym_of u)
    (place_of u) a b
takes_as {a} {b} e h = subst (λ t. Takes (sym_of t) (place_of t) a b) e h

pub takes_sign : {a b : Reader} {t : Token} {s o : Sign} {p : ℕ} → t ≡ tk.Sign p s → s ≡ o → Takes
    (sym_of t) (place_of t) a b → Takes (sign o) p a b
takes_sign {p = p} e i h = takes_as (e ∙ ap (λ s. tk.Sign p s) i) h

-- a token that is this sign
pub as_sign : {a b : Reader} (o : Sign) (t : Token) → sym_of t ≡ sign o → Takes (sym_of t) (place_of t) a b
    → Passes o a b
as_sign {a} {b} o t e h = (place_of t, subst (λ s. Takes s (place_of t) a b) e h)

pub expect_stops : (m : Inner) (s : Sym) (p : ℕ) → (s ≡ sign (sign_of m) → ⊥) → (k : List Item)
    (ps : List Part) → step (expect m ∷ k) ps s p ≡ dead
expect_stops m s p e k ps = ap (λ b. after (cond b (take [] []) stop) k ps dead) (not_sign (sign_of m) s e)

-- tokens that are no variable, or no name
pub no_variable : (t : Token) → ((p v : ℕ) → t ≡ tk.Variable p v → ⊥) → (k : List Item) (ps : List Part) →
    step (a_variable ∷ k) ps (sym_of t) (place_of t) ≡ dead
no_variable (tk.Name q w) h k ps = refl
no_variable (tk.Variable q v) h k ps = absurd (h q v refl)
no_variable (tk.Sign q s) h k ps = refl

pub no_name : (t : Token) → ((q : ℕ) (w : Bor (List ℕ)) → t ≡ tk.Name q w → ⊥) → (k : List Item)
    (ps : List Part) → step (an_action ∷ k) ps (sym_of t) (place_of t) ≡ dead
no_name (tk.Name q w) h k ps = absurd (h q w refl)
no_name (tk.Variable q v) h k ps = refl
no_name (tk.Sign q s) h k ps = refl

-- what begins no unit of a level
pub stop_name : (l : Level) → (l ≡ expression → ⊥) → (w : List ℕ) (p : ℕ) (k : List Item) (ps : List Part) →
    step (unit l ∷ k) ps (name w) p ≡ dead
stop_name formula h w p k ps = refl
stop_name expression h w p k ps = absurd (h refl)

pub stop_variable : (l : Level) → (l ≡ formula → ⊥) → (v : ℕ) (p : ℕ) (k : List Item) (ps : List Part) →
    step (unit l ∷ k) ps (variable v) p ≡ dead
stop_variable formula h v p k ps = absurd (h refl)
stop_variable expression h v p k ps = refl

pub stop_modality : (l : Level) → (l ≡ formula → ⊥) → (m : Modality) (p : ℕ) (k : List Item)
    (ps : List Part) → step (unit l ∷ k) ps (sign (opening m)) p ≡ dead
stop_modality formula h m p k ps = absurd (h refl)
stop_modality expression h diamond p k ps = refl
stop_modality expression h box p k ps = refl

pub stop_fixpoint : (l : Level) → (l ≡ formula → ⊥) → (f : Fixpoint) (p : ℕ) (k : List Item)
    (ps : List Part) → step (unit l ∷ k) ps (sign (word f)) p ≡ dead
stop_fixpoint formula h f p k ps = absurd (h refl)
stop_fixpoint expression h least p k ps = refl
stop_fixpoint expression h greatest p k ps = refl

-- the signs at which no unit begins
pub stop_sign : (l : Level) (s : Sign) (p : ℕ) → (s ≡ True → ⊥) → (s ≡ False → ⊥) → (s ≡ Not → ⊥) →
    (s ≡ Open → ⊥) → (s ≡ Less → ⊥) → (s ≡ LeftBracket → ⊥) → (s ≡ Mu → ⊥) → (s ≡ Nu → ⊥) → (k : List Item)
    (ps : List Part) → step (unit l ∷ k) ps (sign s) p ≡ dead
stop_sign l Mu p h0 h1 h2 h3 h4 h5 h6 h7 k ps = absurd (h6 refl)
stop_sign l Nu p h0 h1 h2 h3 h4 h5 h6 h7 k ps = absurd (h7 refl)
stop_sign l True p h0 h1 h2 h3 h4 h5 h6 h7 k ps = absurd (h0 refl)
stop_sign l False p h0 h1 h2 h3 h4 h5 h6 h7 k ps = absurd (h1 refl)
stop_sign l Not p h0 h1 h2 h3 h4 h5 h6 h7 k ps = absurd (h2 refl)
stop_sign l Less p h0 h1 h2 h3 h4 h5 h6 h7 k ps = absurd (h4 refl)
stop_sign l LeftBracket p h0 h1 h2 h3 h4 h5 h6 h7 k ps = absurd (h5 refl)
stop_sign l Open p h0 h1 h2 h3 h4 h5 h6 h7 k ps = absurd (h3 refl)
stop_sign l _ p h0 h1 h2 h3 h4 h5 h6 h7 k ps = refl

-- the modality or the fixpoint that a sign begins
pub modality_of : (s : Sign) → (s ≡ Less) ⊎ (s ≡ LeftBracket) → (m : Modality) × (s ≡ opening m)
modality_of s (inl e) = (diamond, e)
modality_of s (inr e) = (box, e)

pub fixpoint_of : (s : Sign) → (s ≡ Mu) ⊎ (s ≡ Nu) → (f : Fixpoint) × (s ≡ word f)
fixpoint_of s (inl e) = (least, e)
fixpoint_of s (inr e) = (greatest, e)

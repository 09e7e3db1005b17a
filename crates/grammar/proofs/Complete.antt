-- The machine reads each phrase and builds its tree.
use Rattle.std.proofs.Common.{◌≡◌, ℕ, List, [], ◌∷◌, ◌++◌, refl, ap, ◌∙◌, append_assoc}
use Rattle.grammar.specs.Grammar.{Modality, diamond, box, Fixpoint, least, greatest, Tree, conjunction, disjunction, opening, closing, word, Ending, free, bound, UnitOf, is_true, is_false, is_not, is_parens, is_feature, is_variable, is_modal, is_fixpoint, AndPartOf, one_unit, more_units, PhraseOf, one_part, more_parts}
use Rattle.grammar.specs.declared.Level.{Level}
use Rattle.grammar.specs.declared.Level.TheVariants.{Formula as formula, Expression as expression}
use Rattle.grammar.specs.Machine.{Part, a_var, a_name, a_tree, close, inner_of, Item, unit, and_tail, or_tail, expect, make, make_not, make_both, make_modal, make_fixpoint, whole, walk, NotNext, Stops, Ended}
use Rattle.lexer.specs.Tokens.{name, variable, sign, Tok, tok}
use Rattle.lexer.specs.declared.Sign.TheVariants.{And, Or, Close, Bar, Dot}

-- an operator that does not come next is passed over
pub past_and : (l : Level) (k : List Item) (ps : List Part) (rest : List Tok) → NotNext And rest → walk (and_tail l ∷ k) ps rest ≡ walk k ps rest
past_and l k ps [] h = refl
past_and l k ps (tok s p ∷ rest) h = rw h

pub past_or : (l : Level) (k : List Item) (ps : List Part) (rest : List Tok) → NotNext Or rest → walk (or_tail l ∷ k) ps rest ≡ walk k ps rest
past_or l k ps [] h = refl
past_or l k ps (tok s p ∷ rest) h = rw h

pub past_make : (f : List Part → List Part) (k : List Item) (ps : List Part) (rest : List Tok) → walk (make f ∷ k) ps rest ≡ walk k (f ps) rest
past_make f k ps [] = refl
past_make f k ps (tok s p ∷ rest) = refl

pub stops_ended : (e : Ending) (rest : List Tok) → Stops rest → Ended e rest
stops_ended free rest h = tt
stops_ended bound rest h = h

inner_stops : (m : Modality) (p : ℕ) (rest : List Tok) → Stops (tok (sign (closing m)) p ∷ rest)
inner_stops diamond p rest = (refl, refl)
inner_stops box p rest = (refl, refl)

-- a modality up to its expression
open_modal : (m : Modality) (w : List ℕ) (p q r : ℕ) (k : List Item) (ps : List Part) (rest : List Tok) → walk (unit formula ∷ k) ps (tok (sign (opening m)) p ∷ tok (name w) q ∷ tok (sign Bar) r ∷ rest) ≡ walk (whole expression (expect (inner_of m) ∷ unit formula ∷ make_modal m ∷ k)) (a_name w q ∷ ps) rest
open_modal diamond w p q r k ps rest = refl
open_modal box w p q r k ps rest = refl

close_modal : (m : Modality) (s : ℕ) (k : List Item) (ps : List Part) (rest : List Tok) → walk (expect (inner_of m) ∷ k) ps (tok (sign (closing m)) s ∷ rest) ≡ walk k ps rest
close_modal diamond s k ps rest = refl
close_modal box s k ps rest = refl

open_fixpoint : (x : Fixpoint) (v p q r : ℕ) (k : List Item) (ps : List Part) (rest : List Tok) → walk (unit formula ∷ k) ps (tok (sign (word x)) p ∷ tok (variable v) q ∷ tok (sign Dot) r ∷ rest) ≡ walk (whole formula (make_fixpoint x ∷ k)) (a_var v ∷ ps) rest
open_fixpoint least v p q r k ps rest = refl
open_fixpoint greatest v p q r k ps rest = refl

mutual
  pub unit_read : {l : Level} {e : Ending} {u : List Tok} {a : Tree} → UnitOf l e u a → (k : List Item) (ps : List Part) (rest : List Tok) → Ended e rest → walk (unit l ∷ k) ps (u ++ rest) ≡ walk k (a_tree a ∷ ps) rest
  unit_read (is_true p) k ps rest h = refl
  unit_read (is_false p) k ps rest h = refl
  unit_read (is_feature w p) k ps rest h = refl
  unit_read (is_variable v p) k ps rest h = refl
  unit_read (is_not p {e} {u} {a} d) k ps rest h = unit_read d (make_not ∷ k) ps rest h ∙ past_make _ k (a_tree a ∷ ps) rest
  unit_read (is_parens {l} p q {e} {u} {a} d) k ps rest h =
      ap (λ x. walk (whole l (expect close ∷ k)) ps x) (append_assoc u (tok (sign Close) q ∷ []) rest) ∙ parts_read d (expect close ∷ k) ps (tok (sign Close) q ∷ rest) refl (stops_ended e (tok (sign Close) q ∷ rest) (refl, refl))
  unit_read (is_modal m w p q r s {d} {e} {x} {u} {c} {a} y z) k ps rest h =
      open_modal m w p q r k ps ((x ++ tok (sign (closing m)) s ∷ u) ++ rest)
      ∙ ap (λ i. walk (whole expression (expect (inner_of m) ∷ unit formula ∷ make_modal m ∷ k)) (a_name w q ∷ ps) i) (append_assoc x (tok (sign (closing m)) s ∷ u) rest)
      ∙ parts_read y (expect (inner_of m) ∷ unit formula ∷ make_modal m ∷ k) (a_name w q ∷ ps) (tok (sign (closing m)) s ∷ (u ++ rest)) (inner_stops m s (u ++ rest)).0 (stops_ended d _ (inner_stops m s (u ++ rest)))
      ∙ past_or expression (expect (inner_of m) ∷ unit formula ∷ make_modal m ∷ k) (a_tree c ∷ a_name w q ∷ ps) (tok (sign (closing m)) s ∷ (u ++ rest)) (inner_stops m s (u ++ rest)).1
      ∙ close_modal m s (unit formula ∷ make_modal m ∷ k) (a_tree c ∷ a_name w q ∷ ps) (u ++ rest)
      ∙ unit_read z (make_modal m ∷ k) (a_tree c ∷ a_name w q ∷ ps) rest h
      ∙ past_make _ k (a_tree a ∷ a_tree c ∷ a_name w q ∷ ps) rest
  unit_read (is_fixpoint x v p q r {e} {u} {a} d) k ps rest h =
      open_fixpoint x v p q r k ps (u ++ rest) ∙ parts_read d (make_fixpoint x ∷ k) (a_var v ∷ ps) rest h.0 (stops_ended e rest h) ∙ past_or formula (make_fixpoint x ∷ k) (a_tree a ∷ a_var v ∷ ps) rest h.1 ∙ past_make _ k (a_tree a ∷ a_var v ∷ ps) rest

  pub part_read : {l : Level} {e : Ending} {u : List Tok} {a : Tree} → AndPartOf l e u a → (k : List Item) (ps : List Part) (rest : List Tok) → Ended e rest → walk (unit l ∷ and_tail l ∷ k) ps (u ++ rest) ≡ walk (and_tail l ∷ k) (a_tree a ∷ ps) rest
  part_read (one_unit {l} d) k ps rest h = unit_read d (and_tail l ∷ k) ps rest h
  part_read (more_units {l} p {e} {u} {w} {a} {b} c d) k ps rest h =
      ap (λ x. walk (unit l ∷ and_tail l ∷ k) ps x) (append_assoc u (tok (sign And) p ∷ w) rest)
      ∙ part_read c k ps (tok (sign And) p ∷ (w ++ rest)) tt
      ∙ unit_read d (make_both conjunction ∷ and_tail l ∷ k) (a_tree a ∷ ps) rest h
      ∙ past_make _ (and_tail l ∷ k) (a_tree b ∷ a_tree a ∷ ps) rest

  pub parts_read : {l : Level} {e : Ending} {u : List Tok} {a : Tree} → PhraseOf l e u a → (k : List Item) (ps : List Part) (rest : List Tok) → NotNext And rest → Ended e rest → walk (whole l k) ps (u ++ rest) ≡ walk (or_tail l ∷ k) (a_tree a ∷ ps) rest
  parts_read (one_part {l} {e} {u} {a} d) k ps rest n h = part_read d (or_tail l ∷ k) ps rest h ∙ past_and l (or_tail l ∷ k) (a_tree a ∷ ps) rest n
  parts_read (more_parts {l} p {e} {u} {w} {a} {b} c d) k ps rest n h =
      ap (λ x. walk (whole l k) ps x) (append_assoc u (tok (sign Or) p ∷ w) rest)
      ∙ parts_read c k ps (tok (sign Or) p ∷ (w ++ rest)) refl tt
      ∙ part_read d (make_both disjunction ∷ or_tail l ∷ k) (a_tree a ∷ ps) rest h
      ∙ past_and l (make_both disjunction ∷ or_tail l ∷ k) (a_tree b ∷ a_tree a ∷ ps) rest n
      ∙ past_make _ (or_tail l ∷ k) (a_tree b ∷ a_tree a ∷ ps) rest

pub phrase_read : {l : Level} {e : Ending} {u : List Tok} {a : Tree} → PhraseOf l e u a → (k : List Item) (ps : List Part) (rest : List Tok) → Stops rest → Ended e rest → walk (whole l k) ps (u ++ rest) ≡ walk k (a_tree a ∷ ps) rest
phrase_read {l} {e} {u} {a} d k ps rest h i = parts_read d k ps rest h.0 i ∙ past_or l k (a_tree a ∷ ps) rest h.1

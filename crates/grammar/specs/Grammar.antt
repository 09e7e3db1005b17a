-- The grammar: which lists of tokens are formulas and expressions, and the tree of each.
use Rattle.std.specs.Prelude.{ℕ, List, [], ◌∷◌, ◌++◌}
use Rattle.lexer.specs.Tokens.{Tok, tok, name, variable, sign}
use Rattle.lexer.specs.declared.Sign.{Sign}
use Rattle.lexer.specs.declared.Sign.TheVariants.{Mu, Nu, True, False, Not, And, Or, Bar, Less, Greater, LeftBracket, RightBracket, Open, Close, Dot}
use Rattle.grammar.specs.declared.Level.{Level}
use Rattle.grammar.specs.declared.Level.TheVariants.{Formula as formula, Expression as expression}

pub data Modality : Type 0 where
  diamond box : Modality

pub data Fixpoint : Type 0 where
  least greatest : Fixpoint

-- Trees in which actions and features are still names, each with its place.
pub data Tree : Type 0 where
  bottom top : Tree
  negation : Tree → Tree
  disjunction conjunction : Tree → Tree → Tree
  feature : List ℕ → ℕ → Tree
  var : ℕ → Tree
  modal : Modality → List ℕ → ℕ → Tree → Tree → Tree
  fixpoint : Fixpoint → ℕ → Tree → Tree

abbrev pub opening : Modality → Sign
opening diamond = Less
opening box = LeftBracket

abbrev pub closing : Modality → Sign
closing diamond = Greater
closing box = RightBracket

abbrev pub word : Fixpoint → Sign
word least = Mu
word greatest = Nu

-- Whether a phrase ends in the formula of a fixpoint, which reaches as far right as it can.
pub data Ending : Type 0 where
  free bound : Ending

-- A unit, units joined by `&&`, and those joined by `||`. Both operators group to the left. A left operand does not end
-- in the formula of a fixpoint, since that formula would reach on past the operator.
mutual
  pub data UnitOf : Level → Ending → List Tok → Tree → Type 0 where
    is_true : {l : Level} (p : ℕ) → UnitOf l free (tok (sign True) p ∷ []) top
    is_false : {l : Level} (p : ℕ) → UnitOf l free (tok (sign False) p ∷ []) bottom
    is_not : {l : Level} (p : ℕ) {e : Ending} {u : List Tok} {a : Tree} → UnitOf l e u a → UnitOf l e (tok (sign Not) p ∷ u) (negation a)
    is_parens : {l : Level} (p q : ℕ) {e : Ending} {u : List Tok} {a : Tree} → PhraseOf l e u a → UnitOf l free (tok (sign Open) p ∷ (u ++ tok (sign Close) q ∷ [])) a
    is_feature : (w : List ℕ) (p : ℕ) → UnitOf expression free (tok (name w) p ∷ []) (feature w p)
    is_variable : (v p : ℕ) → UnitOf formula free (tok (variable v) p ∷ []) (var v)
    is_modal : (m : Modality) (w : List ℕ) (p q r s : ℕ) {d e : Ending} {x u : List Tok} {c a : Tree} → PhraseOf expression d x c → UnitOf formula e u a
        → UnitOf formula e (tok (sign (opening m)) p ∷ tok (name w) q ∷ tok (sign Bar) r ∷ (x ++ tok (sign (closing m)) s ∷ u)) (modal m w q c a)
    is_fixpoint : (x : Fixpoint) (v p q r : ℕ) {e : Ending} {u : List Tok} {a : Tree} → PhraseOf formula e u a
        → UnitOf formula bound (tok (sign (word x)) p ∷ tok (variable v) q ∷ tok (sign Dot) r ∷ u) (fixpoint x v a)

  pub data AndPartOf : Level → Ending → List Tok → Tree → Type 0 where
    one_unit : {l : Level} {e : Ending} {u : List Tok} {a : Tree} → UnitOf l e u a → AndPartOf l e u a
    more_units : {l : Level} (p : ℕ) {e : Ending} {u w : List Tok} {a b : Tree} → AndPartOf l free u a → UnitOf l e w b → AndPartOf l e (u ++ tok (sign And) p ∷ w) (conjunction a b)

  pub data PhraseOf : Level → Ending → List Tok → Tree → Type 0 where
    one_part : {l : Level} {e : Ending} {u : List Tok} {a : Tree} → AndPartOf l e u a → PhraseOf l e u a
    more_parts : {l : Level} (p : ℕ) {e : Ending} {u w : List Tok} {a b : Tree} → PhraseOf l free u a → AndPartOf l e w b → PhraseOf l e (u ++ tok (sign Or) p ∷ w) (disjunction a b)

-- The tokens are a formula with this tree.
abbrev pub FormulaOf : List Tok → Tree → Type 0
FormulaOf ts f = (e : Ending) × PhraseOf formula e ts f

-- A stack machine that reads a formula token by token and builds its tree. The contracts of the reader's functions say by it where they stop.
use Rattle.std.specs.Prelude.{◌≡◌, ℕ, Bool, false, cond, List, [], ◌∷◌, ◌++◌, ◌==◌}
use Rattle.grammar.specs.Grammar.{Modality, diamond, box, Fixpoint, least, greatest, Tree, bottom, top, negation, disjunction, conjunction, feature, var, modal, fixpoint, Ending, free, bound}
use Rattle.grammar.specs.declared.Level.{Level}
use Rattle.grammar.specs.declared.Level.TheVariants.{Formula as formula, Expression as expression}
use Rattle.lexer.specs.Tokens.{Sym, name, variable, sign, Tok, tok}
use Rattle.lexer.specs.declared.Sign.{Sign}
use Rattle.lexer.specs.declared.Sign.TheVariants.{Mu, Nu, True, False, Not, And, Or, Bar, Less, Greater, LeftBracket, RightBracket, Open, Close, Dot}

abbrev pub index : Sign → ℕ
index Mu = 0
index Nu = 1
index True = 2
index False = 3
index Not = 4
index And = 5
index Or = 6
index Bar = 7
index Less = 8
index Greater = 9
index LeftBracket = 10
index RightBracket = 11
index Open = 12
index Close = 13
index Dot = 14

-- Whether a token is this sign.
abbrev pub is : Sign → Sym → Bool
is s (name w) = false
is s (variable v) = false
is s (sign t) = index s == index t

-- What has been read: a variable, a name with its place, or a tree.
pub data Part : Type 0 where
  a_var : ℕ → Part
  a_name : List ℕ → ℕ → Part
  a_tree : Tree → Part

-- The signs that stand in the midst of a unit or at its end.
pub data Inner : Type 0 where
  bar greater bracket close dot : Inner

abbrev pub sign_of : Inner → Sign
sign_of bar = Bar
sign_of greater = Greater
sign_of bracket = RightBracket
sign_of close = Close
sign_of dot = Dot

abbrev pub inner_of : Modality → Inner
inner_of diamond = greater
inner_of box = bracket

-- What is still to come; and what is then to be made of the parts.
pub data Item : Type 0 where
  unit and_tail or_tail : Level → Item
  expect : Inner → Item
  a_variable an_action : Item
  make : (List Part → List Part) → Item

abbrev pub on_tree : (Tree → List Part → List Part) → List Part → List Part
on_tree f [] = []
on_tree f (a_var v ∷ ps) = []
on_tree f (a_name w p ∷ ps) = []
on_tree f (a_tree a ∷ ps) = f a ps

abbrev pub on_name : (List ℕ → ℕ → List Part → List Part) → List Part → List Part
on_name f [] = []
on_name f (a_var v ∷ ps) = []
on_name f (a_name w p ∷ ps) = f w p ps
on_name f (a_tree a ∷ ps) = []

abbrev pub on_var : (ℕ → List Part → List Part) → List Part → List Part
on_var f [] = []
on_var f (a_var v ∷ ps) = f v ps
on_var f (a_name w p ∷ ps) = []
on_var f (a_tree a ∷ ps) = []

abbrev pub make_not : Item
make_not = make (on_tree (λ a ps. a_tree (negation a) ∷ ps))

abbrev pub make_both : (Tree → Tree → Tree) → Item
make_both f = make (on_tree (λ b. on_tree (λ a ps. a_tree (f a b) ∷ ps)))

abbrev pub make_modal : Modality → Item
make_modal m = make (on_tree (λ a. on_tree (λ c. on_name (λ w p ps. a_tree (modal m w p c a) ∷ ps))))

abbrev pub make_fixpoint : Fixpoint → Item
make_fixpoint x = make (on_tree (λ a. on_var (λ v ps. a_tree (fixpoint x v a) ∷ ps)))

-- What an item does at a token: it takes it, adds parts and gives way to other items; it is left out; or it stops there.
pub data Verdict : Type 0 where
  take : List Part → List Item → Verdict
  skip stop : Verdict

abbrev pub whole : Level → List Item → List Item
whole l k = unit l ∷ and_tail l ∷ or_tail l ∷ k

abbrev pub at_modality : Level → Modality → Verdict
at_modality formula m = take [] (an_action ∷ expect bar ∷ whole expression (expect (inner_of m) ∷ unit formula ∷ make_modal m ∷ []))
at_modality expression m = stop

abbrev pub at_fixpoint : Level → Fixpoint → Verdict
at_fixpoint formula x = take [] (a_variable ∷ expect dot ∷ whole formula (make_fixpoint x ∷ []))
at_fixpoint expression x = stop

abbrev pub at_sign : Level → Sign → Verdict
at_sign l Mu = at_fixpoint l least
at_sign l Nu = at_fixpoint l greatest
at_sign l True = take (a_tree top ∷ []) []
at_sign l False = take (a_tree bottom ∷ []) []
at_sign l Not = take [] (unit l ∷ make_not ∷ [])
at_sign l And = stop
at_sign l Or = stop
at_sign l Bar = stop
at_sign l Less = at_modality l diamond
at_sign l Greater = stop
at_sign l LeftBracket = at_modality l box
at_sign l RightBracket = stop
at_sign l Open = take [] (whole l (expect close ∷ []))
at_sign l Close = stop
at_sign l Dot = stop

abbrev pub at_name : Level → List ℕ → ℕ → Verdict
at_name formula w p = stop
at_name expression w p = take (a_tree (feature w p) ∷ []) []

abbrev pub at_variable : Level → ℕ → Verdict
at_variable formula v = take (a_tree (var v) ∷ []) []
at_variable expression v = stop

abbrev pub at_unit : Level → Sym → ℕ → Verdict
at_unit l (name w) p = at_name l w p
at_unit l (variable v) p = at_variable l v
at_unit l (sign s) p = at_sign l s

abbrev pub variable_at : Sym → Verdict
variable_at (name w) = stop
variable_at (variable v) = take (a_var v ∷ []) []
variable_at (sign s) = stop

abbrev pub action_at : Sym → ℕ → Verdict
action_at (name w) p = take (a_name w p ∷ []) []
action_at (variable v) p = stop
action_at (sign s) p = stop

-- How a reading of tokens comes out: all were read, or which are left from the first that has no place.
pub data Outcome : Type 0 where
  good : List Part → Outcome
  fail : List Tok → Outcome

-- The stack and the parts after one token.
pub data Next : Type 0 where
  goes : List Item → List Part → Next
  dead : Next

abbrev pub after : Verdict → List Item → List Part → Next → Next
after (take qs is) k ps n = goes (is ++ k) (qs ++ ps)
after skip k ps n = n
after stop k ps n = dead

abbrev pub step : List Item → List Part → Sym → ℕ → Next
step [] ps s p = dead
step (unit l ∷ k) ps s p = after (at_unit l s p) k ps dead
step (and_tail l ∷ k) ps s p = after (cond (is And s) (take [] (unit l ∷ make_both conjunction ∷ and_tail l ∷ [])) skip) k ps (step k ps s p)
step (or_tail l ∷ k) ps s p = after (cond (is Or s) (take [] (unit l ∷ and_tail l ∷ make_both disjunction ∷ or_tail l ∷ [])) skip) k ps (step k ps s p)
step (expect m ∷ k) ps s p = after (cond (is (sign_of m) s) (take [] []) stop) k ps dead
step (a_variable ∷ k) ps s p = after (variable_at s) k ps dead
step (an_action ∷ k) ps s p = after (action_at s p) k ps dead
step (make f ∷ k) ps s p = step k (f ps) s p

abbrev pub ends : List Item → List Part → Outcome
ends [] ps = good ps
ends (unit l ∷ k) ps = fail []
ends (and_tail l ∷ k) ps = ends k ps
ends (or_tail l ∷ k) ps = ends k ps
ends (expect m ∷ k) ps = fail []
ends (a_variable ∷ k) ps = fail []
ends (an_action ∷ k) ps = fail []
ends (make f ∷ k) ps = ends k (f ps)

abbrev pub follow : Next → (List Item → List Part → Outcome) → List Tok → Outcome
follow (goes k ps) f rest = f k ps
follow dead f rest = fail rest

abbrev pub walk : List Item → List Part → List Tok → Outcome
walk k ps [] = ends k ps
walk k ps (tok s p ∷ ts) = follow (step k ps s p) (λ j qs. walk j qs ts) (tok s p ∷ ts)

-- The tokens do not go on with this operator.
abbrev pub NotNext : Sign → List Tok → Type 0
NotNext o [] = Unit {0}
NotNext o (tok s p ∷ ts) = is o s ≡ false

-- The tokens do not go on a phrase: they have ended, or have neither operator first.
abbrev pub Stops : List Tok → Type 0
Stops ts = NotNext And ts × NotNext Or ts

abbrev pub Any : List Tok → Type 0
Any ts = Unit {0}

abbrev pub Ended : Ending → List Tok → Type 0
Ended free rest = Unit {0}
Ended bound rest = Stops rest

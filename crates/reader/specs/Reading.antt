-- What the reader's functions do to the reader.
use Rattle.std.specs.Prelude.{◌≡◌, ℕ, ◌+◌, ◌≤◌, Bool, true, false, List, [], ◌∷◌, ◌++◌, length, take, replicate, Some, None, Option}
use Rattle.lexer.specs.Tokens.{Sym, Tok, tok, name, variable, sign}
use Rattle.lexer.specs.Texts.{toks}
use Rattle.lexer.specs.declared.Sign.{Sign}
use Rattle.lexer.specs.declared.Sign.TheVariants.{Dot}
use Rattle.words.specs.Words.{Lines, number}
use Rattle.formulas.specs.declared.Expr.TheVariants as ex
use Rattle.formulas.specs.declared.Node.TheVariants as nd
use Rattle.grammar.specs.Grammar.{Tree, Ending}
use Rattle.grammar.specs.declared.Level.{Level}
use Rattle.grammar.specs.Machine.{Part, Item, fail, walk, NotNext, Ended}
use Rattle.reader.specs.Numbering.{Tables, put_expr, note, or_0, last, enter}
use Rattle.reader.specs.declared.parser.Reader.{Reader}

-- The place of the first of these tokens, or the end of their text.
abbrev pub place_from : ℕ → List Tok → ℕ
place_from end [] = end
place_from end (tok s p ∷ ts) = p

abbrev pub place_of : List ℕ → List Tok → ℕ
place_of bs ts = place_from (length bs) ts

-- What names are known, and how long both tables are.
pub record Source : Type 0 where
  pub action_names : List (List ℕ)
  pub feature_names : List (List ℕ)
  pub nodes : ℕ
  pub exprs : ℕ

abbrev pub entered : Source → Level → Tree → Tables → Tables
entered x l f t = enter (number x.action_names) (number x.feature_names) l f t

-- A table of n entries that starts with these entries, as far as they fit, and is false beyond.
abbrev pub filled : {X : Type 0} → ℕ → X → List X → List X
filled n d xs = take n (xs ++ replicate n d)

abbrev pub first_of : List ℕ → Option ℕ
first_of [] = None
first_of (p ∷ ps) = Some p

-- The tokens that the reader has left.
abbrev pub left : Reader → List Tok
left r = toks r.tokens.now

-- The reader has entered the tables t.
pub record State (x : Source) (r : Reader) (t : Tables) : Type 0 where
  pub actions : Lines r.names.actions.list.now x.action_names
  pub features : Lines r.names.features.list.now x.feature_names
  pub nodes : r.nodes.now.entries.now ≡ filled x.nodes nd.False t.nodes
  pub exprs : r.exprs.now.entries.now ≡ filled x.exprs ex.False t.exprs
  pub node_count : r.nodes.now.count ≡ length t.nodes
  pub expr_count : r.exprs.now.count ≡ length t.exprs
  pub unknown : r.unknown ≡ first_of t.unknown

-- Entries and tokens left are few: an entry is made for a token that is read.
pub record Inside (r : Reader) : Type 0 where
  pub few_nodes : r.nodes.now.count + length r.tokens.now ≤ 1024
  pub few_exprs : r.exprs.now.count + length r.tokens.now ≤ 1024

-- The reader's tables stay those that it was lent.
pub record SameTables (a b : Reader) : Type 0 where
  pub nodes : b.nodes.ghost_name ≡ a.nodes.ghost_name
  pub exprs : b.exprs.ghost_name ≡ a.exprs.ghost_name
  pub node_entries : b.nodes.now.entries.ghost_name ≡ a.nodes.now.entries.ghost_name
  pub expr_entries : b.exprs.now.entries.ghost_name ≡ a.exprs.now.entries.ghost_name

-- The reader stays at its token, and keeps its tables.
pub record Keeps (a b : Reader) : Type 0 where
  pub tokens : b.tokens.now ≡ a.tokens.now
  pub end : b.end ≡ a.end
  pub tables : SameTables a b

-- The reader enters at most one entry.
pub record Grows (a b : Reader) : Type 0 where
  pub nodes : b.nodes.now.count ≤ a.nodes.now.count + 1
  pub exprs : b.exprs.now.count ≤ a.exprs.now.count + 1

-- The reader goes on, enters no more than it reads, and keeps its tables.
pub record Onto (a b : Reader) : Type 0 where
  pub end : b.end ≡ a.end
  pub on : length b.tokens.now ≤ length a.tokens.now
  pub few_nodes : b.nodes.now.count + length b.tokens.now ≤ a.nodes.now.count + length a.tokens.now
  pub few_exprs : b.exprs.now.count + length b.tokens.now ≤ a.exprs.now.count + length a.tokens.now
  pub tables : SameTables a b

-- The reader enters nothing.
abbrev pub Same : Reader → Reader → Type 0
Same a b = (x : Source) (t : Tables) → State x a t → State x b t

-- The reader enters what f says; the entry made last has the number n.
abbrev pub Enters : Level → (Source → Tables → Tables) → Reader → Reader → ℕ → Type 0
Enters l f a b n = (x : Source) (t : Tables) → State x a t → State x b (f x t) × (n ≡ last l (f x t))

-- A feature's name that stands at p is entered.
abbrev pub feature_at : List ℕ → ℕ → Source → Tables → Tables
feature_at w p x t = put_expr (ex.Feature (or_0 (number x.feature_names w)))
    (note (number x.feature_names w) p t)

-- A name that stands at p is noted if it has no number.
abbrev pub Notes : Option ℕ → ℕ → Reader → Reader → Type 0
Notes o p a b = (x : Source) (t : Tables) → State x a t → State x b (note o p t)

-- The tokens ts are a phrase of the kind R, which has the tree f, and then the rest, which is E.
pub record PhraseIn (R : Ending → List Tok → Tree → Type 0) (E : List Tok → Type 0) (ts rest : List Tok)
    (f : Tree) : Type 0 where
  pub how : Ending
  pub used : List Tok
  pub split : ts ≡ used ++ rest
  pub is : R how used f
  pub ended : Ended how rest
  pub exit : E rest

-- The reader goes past such a phrase, whose tree it enters with the number n.
pub record Did (l : Level) (R : Ending → List Tok → Tree → Type 0) (E : List Tok → Type 0) (a b : Reader)
    (n : ℕ) : Type 0 where
  pub tree : Tree
  pub reads : PhraseIn R E (left a) (left b) tree
  pub enters : Enters l (λ x. entered x l tree) a b n

-- The machine that has the items k still to come, and whatever after them, stops at the place p.
pub record Stuck (k : List Item) (a : Reader) (p : ℕ) : Type 0 where
  pub rest : List Tok
  pub fails : (j : List Item) (ps : List Part) → walk (k ++ j) ps (left a) ≡ fail rest
  pub place : p ≡ place_from a.end rest

-- The reader goes past one token.
pub record Takes (s : Sym) (p : ℕ) (a b : Reader) : Type 0 where
  pub next : left a ≡ tok s p ∷ left b
  pub same : Same a b

-- The reader goes past this sign.
abbrev pub Passes : Sign → Reader → Reader → Type 0
Passes o a b = (p : ℕ) × Takes (sign o) p a b

-- Whether the reader goes past an operator that comes next.
abbrev pub Operates : Sign → Reader → Reader → Bool → Type 0
Operates o a b true = Passes o a b
Operates o a b false = NotNext o (left b) × (left a ≡ left b) × Same a b

-- The reader goes past a variable.
abbrev pub Variables : Reader → Reader → ℕ → Type 0
Variables a b v = (p : ℕ) × Takes (variable v) p a b

-- The reader goes past the variable of a fixpoint and the dot after it.
pub record Heads (a b : Reader) (v : ℕ) : Type 0 where
  pub place : ℕ
  pub dot_at : ℕ
  pub next : left a ≡ tok (variable v) place ∷ tok (sign Dot) dot_at ∷ left b
  pub same : Same a b

-- The reader goes past the action of a modality, whose number is k if it has one.
pub record Actions (a b : Reader) (k : ℕ) : Type 0 where
  pub action : List ℕ
  pub place : ℕ
  pub next : left a ≡ tok (name action) place ∷ left b
  pub notes : (x : Source) (t : Tables) → State x a t → State x b
      (note (number x.action_names action) place t) × (k ≡ or_0 (number x.action_names action))

-- Reading by computing: the tokens of a text, and the tree of a list of tokens.
use Rattle.std.proofs.Common.{◌≡◌, ℕ, zero, suc, ◌+◌, ◌<◌, ◌≤◌, List, [], ◌∷◌, ◌++◌, length, sym, refl, ap, ◌∙◌, subst, append-nil, arith}
use Rattle.lexer.specs.Tokens.{Sym, Tok, tok}
use Rattle.lexer.specs.Cuts.{Seen, found, end, bad, cut_at, Lawful}
use Rattle.lexer.proofs.Longest.{law, some_bytes, token_within}
use Rattle.grammar.specs.Grammar.{Tree, bottom, PhraseOf, FormulaOf}
use Rattle.grammar.specs.declared.Level.TheVariants.{Formula as formula}
use Rattle.grammar.specs.Machine.{Part, a_var, a_name, a_tree, Outcome, good, fail, whole, walk}
use Rattle.grammar.proofs.Sound.{phrase_from}
use Rattle.grammar.proofs.Sound as machine
use Rattle.lexer.specs.Texts.{TokensOf, no_more, one_more, NoTokenAt, here, later}

-- The tokens of a text, or the place where none begins.
pub data Lexed : Type 0 where
  tokens : List Tok → Lexed
  no_token : ℕ → Lexed

abbrev pub with_token : Sym → ℕ → Lexed → Lexed
with_token s p (tokens ts) = tokens (tok s p ∷ ts)
with_token s p (no_token q) = no_token q

abbrev pub on_from : (ℕ → Lexed) → Seen → Lexed
on_from lexed (found s p j) = with_token s p (lexed j)
on_from lexed end = tokens []
on_from lexed (bad p) = no_token p

-- Those from a place on, as far as k steps reach.
abbrev pub lexed_to : List ℕ → ℕ → ℕ → Lexed
lexed_to bs zero i = no_token i
lexed_to bs (suc k) i = on_from (lexed_to bs k) (cut_at bs i)

abbrev pub lexed : List ℕ → Lexed
lexed bs = lexed_to bs (suc (length bs)) 0

abbrev pub LexesAs : List ℕ → ℕ → Lexed → Type 0
LexesAs bs i (tokens ts) = TokensOf bs i ts
LexesAs bs i (no_token p) = NoTokenAt bs i p

lexes_to : (bs : List ℕ) (k i : ℕ) → i ≤ length bs → length bs < i + k → LexesAs bs i (lexed_to bs k i)
lexes_to bs zero i le few = absurd (omega arith)
lexes_to bs (suc k) i le few = go (cut_at bs i) (law bs i) (lexes_to bs k)
  where
    more : (s : Sym) (p j : ℕ) → Lawful bs i (found s p j) → (x : Lexed) → LexesAs bs j x → LexesAs bs i (with_token s p x)
    more s p j h (tokens ts) l = one_more i s p h.0 h.1 (subst (λ k. TokensOf bs k ts) h.2 l)
    more s p j h (no_token q) n = later i s p q h.0 h.1 (subst (λ k. NoTokenAt bs k q) h.2 n)

    go : (x : Seen) → Lawful bs i x → ((j : ℕ) → j ≤ length bs → length bs < j + k → LexesAs bs j (lexed_to bs k j))
        → LexesAs bs i (on_from (lexed_to bs k) x)
    go (found s p j) h rest =
        let from = h.0.0 in
        let some = some_bytes s h.1.token in
        let within = token_within bs p s h.1 in
        let at = h.2 in
        more s p j h (lexed_to bs k j) (rest j (omega arith) (omega arith))
    go end h rest = no_more i (h le)
    go (bad p) h rest = here i p h.0 h.1 h.2 h.3

pub lexes : (bs : List ℕ) → LexesAs bs 0 (lexed bs)
lexes bs = lexes_to bs (suc (length bs)) 0 (omega arith) (omega arith)

-- The tree among the parts that are left when all tokens are read.
abbrev pub tree_in : List Part → Tree
tree_in [] = bottom
tree_in (a_var v ∷ ps) = bottom
tree_in (a_name w p ∷ ps) = bottom
tree_in (a_tree f ∷ ps) = f

abbrev pub read_to_end : Outcome → List Part
read_to_end (good ps) = ps
read_to_end (fail rest) = []

pub derived : (ts : List Tok) (ps : List Part) → walk (whole formula []) [] ts ≡ good ps → FormulaOf ts (tree_in ps)
derived ts ps h =
    let g = phrase_from formula [] [] ps ts h in
    let last = ended g.tree g.rest g.on in
    let all : ts ≡ g.used = g.split ∙ ap (λ x. g.used ++ x) last.0 ∙ append-nil g.used in
    (g.how, subst (λ f. PhraseOf formula g.how ts f) last.1 (subst (λ x. PhraseOf formula g.how x g.tree) (sym all) g.is))
  where
    ended : (f : Tree) (rest : List Tok) → walk [] (a_tree f ∷ []) rest ≡ good ps → (rest ≡ []) × (f ≡ tree_in ps)
    ended f [] e = (refl, ap (λ o. tree_in (read_to_end o)) e)
    ended f (tok s p ∷ rest) e = absurd (machine.bad e)

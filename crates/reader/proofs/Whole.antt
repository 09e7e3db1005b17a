-- A formula that is the whole text.
use Rattle.std.proofs.Common.{◌≡◌, ℕ, List, [], ◌∷◌, ◌++◌, replicate, Err, Result, sym, ap, ◌∙◌, subst, refl, append-nil, arith}
use Rattle.std.proofs.lemmas.List.{take-replicate}
use Rattle.lexer.specs.Tokens.{Sym, Tok, tok}
use Rattle.formulas.specs.declared.Expr.{Expr}
use Rattle.formulas.specs.declared.Node.{Node}
use Rattle.grammar.specs.Grammar.{PhraseOf}
use Rattle.grammar.specs.declared.Level.TheVariants.{Formula as formula}
use Rattle.grammar.specs.Machine.{Stops, whole, walk, fail}
use Rattle.grammar.proofs.Prefix.{offends}
use Rattle.reader.specs.Numbering.{Tables, none_entered}
use Rattle.reader.specs.Reading.{place_from, Source, State, left, filled, Onto, Did, Stuck}
use Rattle.reader.specs.Outcome.{Parsed, Judged}
use Rattle.reader.specs.Outcome as oc
use Rattle.reader.specs.declared.parser.Reader.{Reader}
use Rattle.reader.specs.declared.refusals.Refusal.{Refusal}
use Rattle.reader.specs.declared.refusals.Refusal.TheVariants as rf
use Rattle.reader.proofs.Steps.{goes_here}
use Rattle.reader.proofs.Trees.{then_phrase}

module _ (x : Source) (es : List Expr) (ns : List Node) (a : Reader) where
  offended : (rest : List Tok) (p : ℕ) → walk (whole formula []) [] (left a) ≡ fail rest → p ≡ place_from
      a.end rest → Parsed x a.end (left a) es ns (Err (rf.NoFormula p))
  offended rest p h e = subst (λ q. Parsed x a.end (left a) es ns (Err (rf.NoFormula q))) (sym e)
      (oc.offends rest (offends (left a) rest h))

  -- the formula stops short
  pub parsed_stuck : (p : ℕ) → Stuck (whole formula []) a p → Parsed x a.end (left a) es ns
      (Err (rf.NoFormula p))
  parsed_stuck p z = offended z.rest p (z.fails [] []) z.place

  -- a token is left
  pub parsed_more : (b : Reader) (n p : ℕ) → Onto a b → Did formula (PhraseOf formula) Stops a b n →
      (s : Sym) × (rest : List Tok) × (left b ≡ tok s p ∷ rest) → Parsed x a.end (left a) es ns
      (Err (rf.NoFormula p))
  parsed_more b n p on did k =
      let w = (then_phrase formula n (goes_here (whole formula []) a) on did).run [] [] in
      offended (tok k.0 p ∷ k.1) p (w.1 ∙ ap (λ y. walk [] w.0 y) k.2) refl

-- all tokens are read
pub parsed_all : (x : Source) (a b : Reader) (n : ℕ) (r : Result ℕ Refusal) → Did formula (PhraseOf formula)
    Stops a b n → left b ≡ [] → ((x : Source) (t : Tables) → State x b t → Judged t r) → State x a
    none_entered → Parsed x a.end (left a) b.exprs.now.entries.now b.nodes.now.entries.now r
parsed_all x a b n r did none judged st =
    let d = did.reads in
    let y = did.enters x none_entered st in
    oc.parsed did.tree (
      d.how,
      subst (λ l. PhraseOf formula d.how l did.tree)
          (sym (d.split ∙ ap (λ y. d.used ++ y) none ∙ append-nil d.used)) d.is,
    ) y.0.exprs y.0.nodes
    (judged x _ y.0)

-- tables that are all false are filled with nothing
pub filled_none : {X : Type 0} (n : ℕ) (d : X) → replicate n d ≡ filled n d []
filled_none n d = sym (take-replicate n n d (omega arith))

-- What trying to read a text gives.
use Rattle.std.proofs.Common.{◌≡◌, ℕ, zero, suc, ◌+◌, ◌-◌, ◌≤◌, List, [], ◌∷◌, ◌++◌, length, take, replicate, Ok, Err, Result, sym, ap, ◌∙◌, subst, arith}
use Rattle.std.proofs.lemmas.List.{take-replicate}
use Rattle.formulas.specs.declared.Expr.{Expr}
use Rattle.formulas.specs.declared.Node.{Node}
use Rattle.formulas.specs.declared.Expr.TheVariants as ex
use Rattle.formulas.specs.declared.Node.TheVariants as nd
use Rattle.lexer.specs.Tokens.{Tok}
use Rattle.grammar.specs.Grammar.{Tree, FormulaOf}
use Rattle.lexer.specs.Texts.{TokensOf}
use Rattle.reader.specs.Reading.{Source, filled}
use Rattle.reader.specs.Outcome.{numbering, Fit, Formed, Tried, no_formula, unknown_name, too_many, accepted, Attempted, Parsed, offends, parsed, Judged}
use Rattle.reader.specs.declared.refusals.Refusal.{Refusal}
use Rattle.reader.specs.declared.refusals.Refusal.TheVariants as rf

take_past : {X : Type 0} (xs ys : List X) (k n : ℕ) → n ≡ length xs + k → take n (xs ++ ys) ≡ xs ++ take k ys
take_past [] ys k n e = let f : n ≡ k = omega arith in ap (λ i. take i ys) f
take_past (x ∷ xs) ys k zero e = absurd (omega arith)
take_past (x ∷ xs) ys k (suc n) e = ap (λ l. x ∷ l) (take_past xs ys k n (omega arith))

pub filled_fits : {X : Type 0} (n : ℕ) (d : X) (xs : List X) → length xs ≤ n → filled n d xs ≡ xs ++
    replicate (n - length xs) d
filled_fits n d xs le = take_past xs (replicate n d) (n - length xs) n (omega arith) ∙ ap (λ l. xs ++ l)
    (take-replicate (n - length xs) n d (omega arith))

module _ (text actions features : List ℕ) (n m : ℕ) (av fv : List (List ℕ))
    (fit : Fit text actions features av fv) where
  abbrev pub source : Source
  source = record { action_names = av; feature_names = fv; nodes = m; exprs = n }

  module _ (ts : List Tok) (lexed : TokensOf text 0 ts) (room : (64 ≤ n) × (64 ≤ m)) where
    formed : (f : Tree) → FormulaOf ts f → Formed text actions features av fv f
    formed f d = record { fit = fit; tokens = ts; lexed = lexed; derived = d }

    judged : (es : List Expr) (ns : List Node) (f : Tree) → FormulaOf ts f → es ≡ filled n ex.False
        (numbering av fv f).exprs → ns ≡ filled m nd.False (numbering av fv f).nodes →
        (r : Result ℕ Refusal) → Judged (numbering av fv f) r → Attempted text actions features n m es ns r
    judged es ns f d e i (Ok k) j =
        let fe = e ∙ filled_fits n ex.False (numbering av fv f).exprs (omega (arith, j.2, room.0)) in
        let fn = i ∙ filled_fits m nd.False (numbering av fv f).nodes (omega (arith, j.1, room.1)) in
        subst (λ k. Tried text actions features n m 0 k es ns) (sym j.3)
        (subst (λ es. Tried text actions features n m 0 (length (numbering av fv f).nodes) es ns)
        (sym fe) (subst (λ ns. Tried text actions features n m 0 (length (numbering av fv f).nodes)
        ((numbering av fv f).exprs ++ replicate (n - length (numbering av fv f).exprs) ex.False) ns)
        (sym fn) (accepted av fv f (formed f d) j.0 j.1 j.2)))
    judged es ns f d e i (Err rf.ShortTable) j = absurd j
    judged es ns f d e i (Err rf.LongText) j = absurd j
    judged es ns f d e i (Err rf.WordList) j = absurd j
    judged es ns f d e i (Err (rf.NoToken p)) j = absurd j
    judged es ns f d e i (Err (rf.NoFormula p)) j = absurd j
    judged es ns f d e i (Err (rf.UnknownName p)) j = unknown_name av fv f p j.0 (formed f d) j.1
    judged es ns f d e i (Err rf.TooManyEntries) j = too_many av fv f (formed f d) j.0 j.1

    pub attempted : (es : List Expr) (ns : List Node) {r : Result ℕ Refusal} → Parsed source (length text)
        ts es ns r → Attempted text actions features n m es ns r
    attempted es ns (offends rest o) = no_formula av fv ts rest fit lexed o
    attempted es ns (parsed {r} f d e i j) = judged es ns f d e i r j

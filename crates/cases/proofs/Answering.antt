-- Answering by computing: what is answered to a text, over a family and two lists of names, and that it is the answer.
use Rattle.std.proofs.Common.{◌≡◌, ℕ, zero, suc, ◌-◌, ◌<◌, ◌≤◌, Bool, true, cond, ◌||◌, T, eqb, ltb, ◌⊎◌, ◌↔◌, List, [], ◌∷◌, ◌++◌, length, replicate, sym, refl, ap, subst, inl, inr, arith}
use mathlib.Core.Logic.Iff
use Rattle.std.proofs.lemmas.List.{take_at}
use Rattle.std.proofs.lemmas.Bool.{ltb-true, ltb-false, eqb-true, eqb-false, or_cases, or_parts, cond_both}
use Rattle.families.specs.Families.{Family, count, config}
use Rattle.formulas.specs.Trees.{Formula, proper}
use Rattle.formulas.specs.Sound.{Sound}
use Rattle.formulas.specs.declared.Expr.{Expr}
use Rattle.formulas.specs.declared.Expr.TheVariants as ex
use Rattle.formulas.specs.declared.Node.{Node}
use Rattle.formulas.proofs.One.{accepts_sound}
use Rattle.formulas.proofs.Scope.{balanced_proper}
use Rattle.semantics.specs.Entries.{no_states}
use Rattle.semantics.proofs.Finite.{tabulate, at, tabulated}
use Rattle.semantics.proofs.Decide.{own, right}
use Rattle.words.specs.Words.{WordList, number}
use Rattle.lexer.specs.Tokens.{Tok}
use Rattle.grammar.specs.Grammar.{Tree}
use Rattle.grammar.specs.declared.Level.TheVariants.{Formula as formula}
use Rattle.grammar.specs.Machine as machine
use Rattle.grammar.specs.Machine.{good, fail, whole, walk}
use Rattle.grammar.proofs.Prefix.{offends}
use Rattle.reader.specs.Numbering.{Tables, none_entered, last}
use Rattle.reader.specs.Reading.{place_of}
use Rattle.reader.specs.Outcome.{numbering, Fit, Formed, long_text, no_token, no_formula, unknown_name, too_many, accepted}
use Rattle.reader_laws.specs.Results.{formula_of}
use Rattle.reader_laws.proofs.Extends.{same}
use Rattle.reader_laws.proofs.Back.{formula_back}
use Rattle.report.specs.Answers.{Outcome, digits, refused, Has, Digits, Checked, unsound, crowded, answered, Answer, unread, read}
use Rattle.cases.proofs.Settling.{settled, settled_is}
use Rattle.cases.proofs.Judge.{Ruling, ruling, judged}
use Rattle.cases.proofs.Reading.{Lexed, lexed, lexes, LexesAs, tree_in, derived}
use Rattle.cases.proofs.Reading as reading

-- ---- digits

-- Whether a product has a formula in state 0, and the digits of all products.
abbrev pub has : Family → Formula → ℕ → Bool
has F φ p = at (settled F.states (own (config F p) F.transitions) (config F p) φ no_states) 0

abbrev pub row : Family → Formula → List Bool
row F φ = tabulate (count F) (has F φ)

length_tabulate : (n : ℕ) (f : ℕ → Bool) → length (tabulate n f) ≡ n
length_tabulate zero f = refl
length_tabulate (suc n) f = ap suc (length_tabulate n (λ k. f (suc k)))

row_right : (F : Family) → 0 < F.states → (φ : Formula) → T (proper φ) → Digits F φ (row F φ)
row_right F some φ ok = (
  length_tabulate (count F) (has F φ),
  λ p p<. Iff.trans (tabulated (count F) (has F φ) p p<)
      (subst (λ V. T (at V 0) ↔ Has F φ p) (sym (settled_is F.states (own (config F p) F.transitions) (config F p) φ no_states))
      (right F.states F.transitions (config F p) φ ok no_states 0 some)),
)

-- ---- tables

-- A refusal by the rules, or else what is said further on.
abbrev pub by_ruling : Ruling → Outcome → Outcome
by_ruling x further = cond (eqb x.0 0) further (refused x.0 x.1)

abbrev pub on_tables : Family → List Expr → List Node → Formula → Outcome
on_tables F es ns φ = by_ruling (ruling es ns) (cond (ltb 64 (count F)) (refused 17 0) (digits (row F φ)))

checked : (F : Family) → 0 < F.states → (es : List Expr) (ns : List Node) (φ : Formula) → (Sound es ns → T (proper φ))
    → Checked F es ns φ (on_tables F es ns φ)
checked F some es ns φ ok =
    cond_both (eqb (ruling es ns).0 0) _ _ (Checked F es ns φ) (λ e. sound ((accepts_sound es ns (ruling es ns).0 (ruling es ns).1 (judged es ns)).0 (eqb-true _ 0 e)))
    (λ e. unsound (judged es ns) (eqb-false _ 0 e))
  where
    sound : Sound es ns → Checked F es ns φ (cond (ltb 64 (count F)) (refused 17 0) (digits (row F φ)))
    sound s =
        cond_both (ltb 64 (count F)) _ _ (Checked F es ns φ) (λ e. crowded s (ltb-true 64 (count F) e))
        (λ e. answered s (ltb-false 64 (count F) e) (row_right F some φ (ok s)))

-- ---- trees

-- Tables of 64 entries: those that are entered, and false beyond.
abbrev pub table : List Expr → List Expr
table es = es ++ replicate (64 - length es) ex.False

-- The place of the first unknown name, or else what is said further on.
abbrev pub if_known : List ℕ → Outcome → Outcome
if_known [] further = further
if_known (p ∷ ps) further = refused 24 p

abbrev pub on_entered : Family → Tables → Formula → Outcome
on_entered F t φ =
    if_known t.unknown (cond (ltb 64 (length t.nodes) || ltb 64 (length t.exprs)) (refused 25 0) (on_tables F (table t.exprs) t.nodes φ))

abbrev pub on_tree : Family → List (List ℕ) → List (List ℕ) → Tree → Outcome
on_tree F av fv f = on_entered F (numbering av fv f) (formula_of (number av) (number fv) f)

-- ---- texts

abbrev pub on_walk : Family → List (List ℕ) → List (List ℕ) → List ℕ → machine.Outcome → Outcome
on_walk F av fv text (good ps) = on_tree F av fv (tree_in ps)
on_walk F av fv text (fail rest) = refused 23 (place_of text rest)

abbrev pub on_lexed : Family → List (List ℕ) → List (List ℕ) → List ℕ → Lexed → Outcome
on_lexed F av fv text (reading.tokens ts) = on_walk F av fv text (walk (whole formula []) [] ts)
on_lexed F av fv text (reading.no_token p) = refused 22 p

abbrev pub answer : Family → List (List ℕ) → List (List ℕ) → List ℕ → Outcome
answer F av fv text = cond (ltb 1024 (length text)) (refused 20 0) (on_lexed F av fv text (lexed text))

module _ (F : Family) (some : 0 < F.states) (actions features : List ℕ) (av fv : List (List ℕ)) (known_actions : WordList 64 actions av)
    (known_features : WordList 16 features fv) (text : List ℕ) where
  abbrev Right : Outcome → Type 0
  Right o = Answer F actions features text o

  module _ (f : Tree) (formed : Formed text actions features av fv f) where
    abbrev t : Tables
    t = numbering av fv f

    abbrev φ : Formula
    φ = formula_of (number av) (number fv) f

    -- Sound tables stand for proper formulas, and the tree's formula is what these stand for.
    is_proper : Sound (table t.exprs) t.nodes → T (proper φ)
    is_proper s =
        subst (λ (ψ : Formula). T (proper ψ))
        (formula_back (number av) (number fv) f none_entered (table t.exprs) t.nodes (suc (last formula t))
        (record { rest = _; is = refl }) (same t.nodes) (omega arith))
        (balanced_proper (table t.exprs) t.nodes s.even (suc (last formula t)) (last formula t))

    fits : t.unknown ≡ [] → length t.nodes ≤ 64 → length t.exprs ≤ 64 → Right (on_tables F (table t.exprs) t.nodes φ)
    fits none nodes exprs =
        read φ (accepted av fv f formed none nodes exprs) (record { action_names = av; feature_names = fv; tree = f; formed = formed; is = refl })
        (subst (λ ns. Checked F (table t.exprs) ns φ (on_tables F (table t.exprs) t.nodes φ)) (sym (take_at t.nodes _ (length t.nodes) refl))
        (checked F some (table t.exprs) t.nodes φ is_proper))

    many : (ltb 64 (length t.nodes) ≡ true) ⊎ (ltb 64 (length t.exprs) ≡ true) → (64 < length t.nodes) ⊎ (64 < length t.exprs)
    many (inl h) = inl (ltb-true 64 (length t.nodes) h)
    many (inr h) = inr (ltb-true 64 (length t.exprs) h)

    known : (us : List ℕ) → t.unknown ≡ us
        → Right (if_known us (cond (ltb 64 (length t.nodes) || ltb 64 (length t.exprs)) (refused 25 0) (on_tables F (table t.exprs) t.nodes φ)))
    known (p ∷ ps) e = unread (unknown_name av fv f p ps formed e) (λ z. omega arith)
    known [] e =
        cond_both (ltb 64 (length t.nodes) || ltb 64 (length t.exprs)) _ _ Right
        (λ b. unread (too_many av fv f formed e (many (or_cases _ _ b))) (λ z. omega arith))
        (λ b. let h = or_parts _ _ b in fits e (ltb-false 64 (length t.nodes) h.0) (ltb-false 64 (length t.exprs) h.1))

    tree_right : Right (on_tree F av fv f)
    tree_right = known t.unknown refl

  module _ (short : length text ≤ 1024) where
    fit : Fit text actions features av fv
    fit = record { short = short; action_list = known_actions; feature_list = known_features }

    walk_right : (ts : List Tok) → LexesAs text 0 (reading.tokens ts) → (o : machine.Outcome) → walk (whole formula []) [] ts ≡ o
        → Right (on_walk F av fv text o)
    walk_right ts l (good ps) e =
        tree_right (tree_in ps) (record { fit = fit; tokens = ts; lexed = l; derived = derived ts ps e })
    walk_right ts l (fail rest) e = unread (no_formula av fv ts rest fit l (offends ts rest e)) (λ z. omega arith)

    lexed_right : (x : Lexed) → LexesAs text 0 x → Right (on_lexed F av fv text x)
    lexed_right (reading.tokens ts) l = walk_right ts l (walk (whole formula []) [] ts) refl
    lexed_right (reading.no_token p) l = unread (no_token av fv p fit l) (λ z. omega arith)

  -- Whatever the text, the family and the names are, the outcome that is computed is the answer.
  pub answers : Answer F actions features text (answer F av fv text)
  answers =
      cond_both (ltb 1024 (length text)) _ _ Right (λ e. unread (long_text (ltb-true 1024 (length text) e)) (λ z. omega arith))
      (λ e. lexed_right (ltb-false 1024 (length text) e) (lexed text) (lexes text))

use Rattle.std.proofs.Common.{◌≡◌, ℕ, ◌≤◌, List, length, take, Some, None, Option, sym, refl, ap, ◌∙◌, subst, arith}
use Rattle.std.proofs.lemmas.List.{length-take-le}
use Rattle.std.proofs.lemmas.Result.{err_from_is_err_and}
use Rattle.lexer.specs.Texts.{toks, TokensOf, NoTokenAt}
use Rattle.words.specs.Words.{Lines}
use Rattle.words.proofs.Cut.{lines}
use Rattle.reader.specs.Outcome.{Fit, long_text, no_words, no_token, Ready, Parsed}
use Rattle.reader.specs.Vocabularies.{Worded, Knows}
use Rattle.reader.specs.declared.vocabulary.Vocabulary.{Vocabulary}
use Rattle.reader.proofs.Attempts.{source, attempted}
use Rattle.reader.proofs.attempt.Goals as goal

pub returns-in_default : goal.returns-in_default
returns-in_default g c = λ actions features k. long_text c.in_default.ensures

-- where there are no names, a list breaks its form
unworded : (actions features : List ℕ) (names : Option Vocabulary) → ((v : Vocabulary) → names ≡ Some v → ⊥)
    → Knows actions features names → Worded actions features → ⊥
unworded actions features (Some v) none k = absurd (none v refl)
unworded actions features None none k = k

pub returns-in_default-names : goal.returns-in_default-names
returns-in_default-names g c = λ actions features k. no_words c.in-Some.ensures.0
    (unworded actions features c.names.result c.in_default-names.not-Some (k _ c.names.ensures))

-- a short text, and two lists in form
fit : (text actions features : List ℕ) → length text ≤ 1024 → (w : Worded actions features) → Fit text
    actions features w.0.0 w.1.0
fit text actions features le w = record { short = le; action_list = w.0.1; feature_list = w.1.1 }

pub returns-in_err-count : goal.returns-in_err-count
returns-in_err-count g c = λ actions features k.
    let p = err_from_is_err_and c.from_residual.result c.from_residual.ensures.1 in
    let w = (subst (Knows actions features) c.in-Some-names.is (k _ c.names.ensures)).0 in
    rw (p.1, p.2) (no_token w.0.0 w.1.0 _ (fit c.args.text.now actions features c.in-Some.ensures.0 w)
    (subst (λ bs. NoTokenAt bs 0 c.in_err-count.field-0.0.0) c.in-Some.ensures.1
    c.in_err-count.ensures.tokens))

pub slice_bounds-table-end : goal.slice_bounds-table-end
slice_bounds-table-end g c = omega (arith, c.in_ok-count.ensures.tokens.0, c.tokens.ensures.length)

pub slice_bounds-parse-end : goal.slice_bounds-parse-end
slice_bounds-parse-end g c = sym (length-take-le c.in_ok-count.count c.tokens.new.table
    (omega (arith, c.in_ok-count.ensures.tokens.0, c.tokens.ensures.length)))

pub returns : goal.returns
returns g c = λ actions features k.
    let text = c.args.text.now in
    let v = subst (Knows actions features) c.in-Some-names.is (k _ c.names.ensures) in
    let w = v.0 in
    let fits = fit text actions features c.in-Some.ensures.0 w in
    let n = length c.args.exprs.now in
    let m = length c.args.nodes.now in
    let ts = toks (take c.in_ok-count.count c.tokens.new.table) in
    let lexed : TokensOf text 0 ts = subst (λ bs. TokensOf bs 0 ts) c.in-Some.ensures.1
    c.in_ok-count.ensures.tokens.1 in
    let x = source text actions features n m w.0.0 w.1.0 fits in
    let ready : Ready x c.in-Some-names.names c.args.exprs.now c.args.nodes.now = record {
      actions = subst (λ b. Lines b w.0.0) (sym v.1) (lines w.0.1);
      features = subst (λ b. Lines b w.1.0) (sym v.2) (lines w.1.1);
      exprs = c.requires.exprs;
      nodes = c.requires.nodes;
    } in
    let end = c.len.ensures ∙ ap length c.in-Some.ensures.1 in
    attempted text actions features n m w.0.0 w.1.0 fits ts lexed c.requires.room c.parse.new.exprs
    c.parse.new.nodes (subst (λ e. Parsed x e ts c.parse.new.exprs c.parse.new.nodes c.parse.result) end
    (c.parse.ensures x ready))

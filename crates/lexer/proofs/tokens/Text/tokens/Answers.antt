use Rattle.std.proofs.Common.{◌≡◌, ℕ, List, [], ◌∷◌, ◌++◌, length, Some, None, Ok, Option, sym, ap, ◌∙◌, subst, take, append_assoc, append-nil, refl, arith}
use Rattle.std.proofs.lemmas.List.{length-set, take_more_set, map-append}
use Rattle.std.proofs.lemmas.Result.{err_from_is_err_and}
use Rattle.lexer.specs.Tokens.{tok}
use Rattle.lexer.specs.Cuts.{sym_of, place_of, tok_of, seen, end, Lawful, Onward}
use Rattle.lexer.specs.Texts.{TokensOf, no_more, one_more, NoTokenAt, here, later, toks}
use Rattle.lexer.specs.declared.Found.{Found}
use Rattle.lexer.proofs.tokens.Text.tokens.Goals as goal

pub returns-in_err-found-clause-tokens : goal.returns-in_err-found-clause-tokens
returns-in_err-found-clause-tokens c =
    let p = err_from_is_err_and c.from_residual.result c.from_residual.ensures.1 in
    let l = c.in_err-found.ensures.longest in
    rw (p.1, p.2) (c.loop-found.invariant.3 _ (here _ _ l.0 l.1 l.2 l.3))

pub loop-found-preserved : goal.loop-found-preserved
loop-found-preserved c =
    let bs = c.args.self.bytes.now in
    let t = c.in-Some.found.token in
    let n = c.loop-found.count in
    let xs = c.loop-found.table in
    let l = subst (λ o. Lawful bs c.loop-found.at (seen (Ok o))) c.in-Some.is c.in_ok-found.ensures.longest in
    let on = subst (λ o. Onward (Ok o) c.loop-found.at (length bs)) c.in-Some.is
    c.in_ok-found.ensures.onward in
    let place : place_of t ≡ c.in-Some.found.start = on.3 (omega (arith, on.1, on.2, c.args.self.short)) in
    let more = ap toks (take_more_set xs n t (omega (arith, c.loop-found.invariant))) ∙ map-append tok_of
    (take n xs) (t ∷ []) in (
      length-set xs n t ∙ c.loop-found.invariant.0,
      omega (arith, c.loop-found.invariant.1, on.0, on.1),
      on.2,
      λ p h. c.loop-found.invariant.3 p (later _ _ _ _ l.0 l.1 (subst (λ k. NoTokenAt bs k p) l.2 h)),
      λ ts h. subst (λ x. TokensOf bs 0 x)
          (sym (ap (λ x. x ++ ts) more ∙ append_assoc (toks (take n xs)) (tok_of t ∷ []) ts))
          (c.loop-found.invariant.4 _ (subst (λ p. TokensOf bs c.loop-found.at (tok (sym_of t) p ∷ ts))
          (sym place) (one_more _ _ _ l.0 l.1 (subst (λ k. TokensOf bs k ts) l.2 h)))),
    )

-- no token comes next
ended : (bs : List ℕ) (i : ℕ) (next : Option Found) → ((f : Found) → next ≡ Some f → ⊥) → Lawful bs i
    (seen (Ok next)) → Lawful bs i end
ended bs i (Some f) none l = absurd (none f refl)
ended bs i None none l = l

pub returns-clause-tokens : goal.returns-clause-tokens
returns-clause-tokens c =
    let bs = c.args.self.bytes.now in
    let sp = ended bs c.loop-found.at c.in_ok-found.field-0 c.in_default.not-Some
    c.in_ok-found.ensures.longest c.loop-found.invariant.2 in (
      omega (arith, c.loop-found.invariant, c.args.self.short),
      subst (λ x. TokensOf bs 0 x)
          (append-nil (toks (take c.loop-found.count c.loop-found.table)))
          (c.loop-found.invariant.4 [] (no_more _ sp)),
    )

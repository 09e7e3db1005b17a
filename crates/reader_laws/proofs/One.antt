-- Reading has one answer.
use Rattle.std.proofs.Common.{◌≡◌, ℕ, ◌-◌, ◌<◌, ◌≤◌, ◌⊎◌, List, [], ◌∷◌, ◌++◌, length, replicate, sym, refl, ap, ◌∙◌, subst, inl, inr, arith}
use Rattle.words.specs.Words.{WordList, InForm}
use Rattle.words.proofs.Cut.{lines, cut_lines}
use Rattle.formulas.specs.declared.Expr.{Expr}
use Rattle.formulas.specs.declared.Expr.TheVariants as ex
use Rattle.formulas.specs.declared.Node.{Node}
use Rattle.formulas.specs.declared.Node.TheVariants as nd
use Rattle.lexer.specs.Tokens.{Tok}
use Rattle.grammar.specs.Grammar.{Tree, FormulaOf}
use Rattle.grammar.specs.Viable.{Offends}
use Rattle.grammar.proofs.Prefix.{unambiguous, one_offence}
use Rattle.reader.specs.Numbering.{Tables}
use Rattle.reader.specs.Reading.{place_of}
use Rattle.lexer.specs.Texts.{TokensOf}
use Rattle.reader.specs.Outcome.{numbering, Fit, Formed, Tried, long_text, no_words, no_token, no_formula, unknown_name, too_many, accepted, Reading, short_table, tried}
use Rattle.reader_laws.specs.Results.{OneAnswer}
use Rattle.reader_laws.proofs.Same.{same_tokens, not_both, same_bad}

in_form : {text actions features : List ℕ} {av fv : List (List ℕ)} → Fit text actions features av fv → InForm 64 actions × InForm 16 features
in_form {text} {actions} {features} {av} {fv} f = ((av, f.action_list), (fv, f.feature_list))

-- a list has its names in one way
pub same_names : (limit : ℕ) (bs : List ℕ) (ws us : List (List ℕ)) → WordList limit bs ws → WordList limit bs us → ws ≡ us
same_names limit bs ws us a b = sym (cut_lines (lines a)) ∙ cut_lines (lines b)

same_numbering : {text actions features : List ℕ} {av fv aw fw : List (List ℕ)} {f g : Tree} → Formed text actions features av fv f → Formed text actions features aw fw g → numbering av fv f ≡ numbering aw fw g
same_numbering {text} {actions} {features} {av} {fv} {aw} {fw} {f} {g} a b =
    let x : av ≡ aw = same_names 64 actions av aw a.fit.action_list b.fit.action_list in
    let y : fv ≡ fw = same_names 16 features fv fw a.fit.feature_list b.fit.feature_list in
    let t : b.tokens ≡ a.tokens = same_tokens text b.lexed a.lexed refl in
    let z : f ≡ g = unambiguous a.tokens f g a.derived (subst (λ ts. FormulaOf ts g) t b.derived) in
    ap (λ k. numbering k fv f) x ∙ ap (λ k. numbering aw k f) y ∙ ap (λ k. numbering aw fw k) z

same_rest : (text : List ℕ) (ts us rest others : List Tok) → TokensOf text 0 ts → TokensOf text 0 us → Offends ts rest → Offends us others → rest ≡ others
same_rest text ts us rest others l k o i = (one_offence ts).1 rest others o (subst (λ x. Offends x others) (same_tokens text k l refl) i)

no_offence : (text : List ℕ) (ts rest : List Tok) → TokensOf text 0 ts → Offends ts rest → {actions features : List ℕ} {av fv : List (List ℕ)} {f : Tree} → Formed text actions features av fv f → ⊥
no_offence text ts rest l o {actions} {features} {av} {fv} {f} h = (one_offence ts).0 rest (f, subst (λ x. FormulaOf x f) (same_tokens text h.lexed l refl) h.derived) o

same_first : (p q : ℕ) (ps qs : List ℕ) → p ∷ ps ≡ q ∷ qs → p ≡ q
same_first p q ps qs e = cc

known : (p : ℕ) (ps : List ℕ) → p ∷ ps ≡ [] → ⊥
known p ps e = omega (arith, ap length e)

over : {t u : Tables} → (64 < length t.nodes) ⊎ (64 < length t.exprs) → t ≡ u → length u.nodes ≤ 64 → length u.exprs ≤ 64 → ⊥
over {t} {u} (inl h) e a b = omega (arith, ap (λ x. length x.nodes) e)
over {t} {u} (inr h) e a b = omega (arith, ap (λ x. length x.exprs) e)

pub one : (text actions features : List ℕ) (n m : ℕ) {k l v w : ℕ} {fs gs : List Expr} {ms hs : List Node} → Tried text actions features n m k v fs ms → Tried text actions features n m l w gs hs → (k ≡ l) × (v ≡ w) × (fs ≡ gs) × (ms ≡ hs)
one text actions features n m (long_text h1) (long_text h2) = (refl, refl, refl, refl)
one text actions features n m (long_text h1) (no_words h2 n2) = absurd (omega (arith, h1, h2))
one text actions features n m (long_text h1) (no_token av2 fv2 p2 h2 n2) = absurd (omega (arith, h1, h2.short))
one text actions features n m (long_text h1) (no_formula av2 fv2 ts2 rest2 h2 l2 o2) = absurd (omega (arith, h1, h2.short))
one text actions features n m (long_text h1) (unknown_name av2 fv2 f2 p2 ps2 h2 u2) = absurd (omega (arith, h1, h2.fit.short))
one text actions features n m (long_text h1) (too_many av2 fv2 f2 h2 u2 m2) = absurd (omega (arith, h1, h2.fit.short))
one text actions features n m (long_text h1) (accepted av2 fv2 f2 h2 u2 c2 d2) = absurd (omega (arith, h1, h2.fit.short))
one text actions features n m (no_words h1 n1) (long_text h2) = absurd (omega (arith, h2, h1))
one text actions features n m (no_words h1 n1) (no_words h2 n2) = (refl, refl, refl, refl)
one text actions features n m (no_words h1 n1) (no_token av2 fv2 p2 h2 n2) = absurd (n1 (in_form h2))
one text actions features n m (no_words h1 n1) (no_formula av2 fv2 ts2 rest2 h2 l2 o2) = absurd (n1 (in_form h2))
one text actions features n m (no_words h1 n1) (unknown_name av2 fv2 f2 p2 ps2 h2 u2) = absurd (n1 (in_form h2.fit))
one text actions features n m (no_words h1 n1) (too_many av2 fv2 f2 h2 u2 m2) = absurd (n1 (in_form h2.fit))
one text actions features n m (no_words h1 n1) (accepted av2 fv2 f2 h2 u2 c2 d2) = absurd (n1 (in_form h2.fit))
one text actions features n m (no_token av1 fv1 p1 h1 n1) (long_text h2) = absurd (omega (arith, h2, h1.short))
one text actions features n m (no_token av1 fv1 p1 h1 n1) (no_words h2 n2) = absurd (n2 (in_form h1))
one text actions features n m (no_token av1 fv1 p1 h1 n1) (no_token av2 fv2 p2 h2 n2) = (refl, same_bad text n1 n2 refl, refl, refl)
one text actions features n m (no_token av1 fv1 p1 h1 n1) (no_formula av2 fv2 ts2 rest2 h2 l2 o2) = absurd (not_both text n1 l2 refl)
one text actions features n m (no_token av1 fv1 p1 h1 n1) (unknown_name av2 fv2 f2 p2 ps2 h2 u2) = absurd (not_both text n1 h2.lexed refl)
one text actions features n m (no_token av1 fv1 p1 h1 n1) (too_many av2 fv2 f2 h2 u2 m2) = absurd (not_both text n1 h2.lexed refl)
one text actions features n m (no_token av1 fv1 p1 h1 n1) (accepted av2 fv2 f2 h2 u2 c2 d2) = absurd (not_both text n1 h2.lexed refl)
one text actions features n m (no_formula av1 fv1 ts1 rest1 h1 l1 o1) (long_text h2) = absurd (omega (arith, h2, h1.short))
one text actions features n m (no_formula av1 fv1 ts1 rest1 h1 l1 o1) (no_words h2 n2) = absurd (n2 (in_form h1))
one text actions features n m (no_formula av1 fv1 ts1 rest1 h1 l1 o1) (no_token av2 fv2 p2 h2 n2) = absurd (not_both text n2 l1 refl)
one text actions features n m (no_formula av1 fv1 ts1 rest1 h1 l1 o1) (no_formula av2 fv2 ts2 rest2 h2 l2 o2) = (refl, ap (place_of text) (same_rest text ts1 ts2 rest1 rest2 l1 l2 o1 o2), refl, refl)
one text actions features n m (no_formula av1 fv1 ts1 rest1 h1 l1 o1) (unknown_name av2 fv2 f2 p2 ps2 h2 u2) = absurd (no_offence text ts1 rest1 l1 o1 h2)
one text actions features n m (no_formula av1 fv1 ts1 rest1 h1 l1 o1) (too_many av2 fv2 f2 h2 u2 m2) = absurd (no_offence text ts1 rest1 l1 o1 h2)
one text actions features n m (no_formula av1 fv1 ts1 rest1 h1 l1 o1) (accepted av2 fv2 f2 h2 u2 c2 d2) = absurd (no_offence text ts1 rest1 l1 o1 h2)
one text actions features n m (unknown_name av1 fv1 f1 p1 ps1 h1 u1) (long_text h2) = absurd (omega (arith, h2, h1.fit.short))
one text actions features n m (unknown_name av1 fv1 f1 p1 ps1 h1 u1) (no_words h2 n2) = absurd (n2 (in_form h1.fit))
one text actions features n m (unknown_name av1 fv1 f1 p1 ps1 h1 u1) (no_token av2 fv2 p2 h2 n2) = absurd (not_both text n2 h1.lexed refl)
one text actions features n m (unknown_name av1 fv1 f1 p1 ps1 h1 u1) (no_formula av2 fv2 ts2 rest2 h2 l2 o2) = absurd (no_offence text ts2 rest2 l2 o2 h1)
one text actions features n m (unknown_name av1 fv1 f1 p1 ps1 h1 u1) (unknown_name av2 fv2 f2 p2 ps2 h2 u2) = (refl, same_first p1 p2 ps1 ps2 (sym u1 ∙ ap (λ t. t.unknown) (same_numbering h1 h2) ∙ u2), refl, refl)
one text actions features n m (unknown_name av1 fv1 f1 p1 ps1 h1 u1) (too_many av2 fv2 f2 h2 u2 m2) = absurd (known p1 ps1 (sym u1 ∙ ap (λ t. t.unknown) (same_numbering h1 h2) ∙ u2))
one text actions features n m (unknown_name av1 fv1 f1 p1 ps1 h1 u1) (accepted av2 fv2 f2 h2 u2 c2 d2) = absurd (known p1 ps1 (sym u1 ∙ ap (λ t. t.unknown) (same_numbering h1 h2) ∙ u2))
one text actions features n m (too_many av1 fv1 f1 h1 u1 m1) (long_text h2) = absurd (omega (arith, h2, h1.fit.short))
one text actions features n m (too_many av1 fv1 f1 h1 u1 m1) (no_words h2 n2) = absurd (n2 (in_form h1.fit))
one text actions features n m (too_many av1 fv1 f1 h1 u1 m1) (no_token av2 fv2 p2 h2 n2) = absurd (not_both text n2 h1.lexed refl)
one text actions features n m (too_many av1 fv1 f1 h1 u1 m1) (no_formula av2 fv2 ts2 rest2 h2 l2 o2) = absurd (no_offence text ts2 rest2 l2 o2 h1)
one text actions features n m (too_many av1 fv1 f1 h1 u1 m1) (unknown_name av2 fv2 f2 p2 ps2 h2 u2) = absurd (known p2 ps2 (sym u2 ∙ ap (λ t. t.unknown) (same_numbering h2 h1) ∙ u1))
one text actions features n m (too_many av1 fv1 f1 h1 u1 m1) (too_many av2 fv2 f2 h2 u2 m2) = (refl, refl, refl, refl)
one text actions features n m (too_many av1 fv1 f1 h1 u1 m1) (accepted av2 fv2 f2 h2 u2 c2 d2) = absurd (over m1 (same_numbering h1 h2) c2 d2)
one text actions features n m (accepted av1 fv1 f1 h1 u1 c1 d1) (long_text h2) = absurd (omega (arith, h2, h1.fit.short))
one text actions features n m (accepted av1 fv1 f1 h1 u1 c1 d1) (no_words h2 n2) = absurd (n2 (in_form h1.fit))
one text actions features n m (accepted av1 fv1 f1 h1 u1 c1 d1) (no_token av2 fv2 p2 h2 n2) = absurd (not_both text n2 h1.lexed refl)
one text actions features n m (accepted av1 fv1 f1 h1 u1 c1 d1) (no_formula av2 fv2 ts2 rest2 h2 l2 o2) = absurd (no_offence text ts2 rest2 l2 o2 h1)
one text actions features n m (accepted av1 fv1 f1 h1 u1 c1 d1) (unknown_name av2 fv2 f2 p2 ps2 h2 u2) = absurd (known p2 ps2 (sym u2 ∙ ap (λ t. t.unknown) (same_numbering h2 h1) ∙ u1))
one text actions features n m (accepted av1 fv1 f1 h1 u1 c1 d1) (too_many av2 fv2 f2 h2 u2 m2) = absurd (over m2 (same_numbering h2 h1) c1 d1)
one text actions features n m (accepted av1 fv1 f1 h1 u1 c1 d1) (accepted av2 fv2 f2 h2 u2 c2 d2) = let e = same_numbering h1 h2 in (refl, ap (λ t. length t.nodes) e, ap (λ t. t.exprs ++ replicate (n - length t.exprs) ex.False) e, ap (λ t. t.nodes ++ replicate (m - length t.nodes) nd.False) e)

both_read : (text actions features : List ℕ) (es : List Expr) (ns : List Node) {k l v w : ℕ} {fs gs : List Expr} {ms hs : List Node} → Reading text actions features es ns k v fs ms → Reading text actions features es ns l w gs hs → (k ≡ l) × (v ≡ w) × (fs ≡ gs) × (ms ≡ hs)
both_read text actions features es ns (short_table h) (short_table i) = (refl, refl, refl, refl)
both_read text actions features es ns (short_table (inl h)) (tried a b t) = absurd (omega arith)
both_read text actions features es ns (short_table (inr h)) (tried a b t) = absurd (omega arith)
both_read text actions features es ns (tried a b t) (short_table (inl h)) = absurd (omega arith)
both_read text actions features es ns (tried a b t) (short_table (inr h)) = absurd (omega arith)
both_read text actions features es ns (tried a b t) (tried c d u) = one text actions features (length es) (length ns) t u

pub one_answer : OneAnswer
one_answer text actions features es ns k l v w fs gs ms hs a b = both_read text actions features es ns a b

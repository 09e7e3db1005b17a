-- What is kept of a line tells what the whole line does.
use Rattle.std.proofs.Common.{◌≡◌, ℕ, ◌<◌, ◌≤◌, ◌⊎◌, List, [], ◌∷◌, ◌++◌, length, sym, refl, ap, ◌∙◌, subst, inl, inr, arith, length-append, length-take}
use Rattle.std.proofs.lemmas.List.{take_all, take_at}
use Rattle.std.proofs.lemmas.Bool.{cases_lt}
use Rattle.families.specs.Families.{Family}
use Rattle.formulas.specs.declared.Expr.{Expr}
use Rattle.formulas.specs.declared.Node.{Node}
use Rattle.reader.specs.Outcome.{Tried, long_text, no_words, no_token, no_formula, unknown_name, too_many, accepted}
use Rattle.report.specs.Answers.{Outcome, Answer, unread, read}
use Rattle.report.specs.Lines.{Line}
use Rattle.report.specs.Transcripts.{kept}

-- A text above 1,024 bytes is refused for its length alone.
too_long : {text long actions features : List ℕ} {n m k v : ℕ} {es : List Expr} {ns : List Node} → 1024 < length text → 1024 < length long
    → Tried text actions features n m k v es ns → Tried long actions features n m k v es ns × (¬ (k ≡ 0))
too_long h l (long_text i) = (long_text l, λ e. omega arith)
too_long h l (no_words i j) = absurd (omega arith)
too_long h l (no_token av fv p fit j) = absurd (omega (arith, fit.short))
too_long h l (no_formula av fv ts rest fit i j) = absurd (omega (arith, fit.short))
too_long h l (unknown_name av fv f p ps formed i) = absurd (omega (arith, formed.fit.short))
too_long h l (too_many av fv f formed i j) = absurd (omega (arith, formed.fit.short))
too_long h l (accepted av fv f formed i j k) = absurd (omega (arith, formed.fit.short))

long_answer : {F : Family} {actions features text long : List ℕ} {o : Outcome} → 1024 < length text → 1024 < length long
    → Answer F actions features text o → Answer F actions features long o
long_answer h l (unread t bad) = unread (too_long h l t).0 bad
long_answer h l (read φ t d c) = absurd ((too_long h l t).1 refl)

-- So the answer to what is kept is the answer to the line.
pub whole_line : {F : Family} {actions features : List ℕ} (n : ℕ) (seen text : List ℕ) {bytes : List ℕ} → seen ≡ kept text → Line F actions features n seen bytes
    → Line F actions features n text bytes
whole_line {F} {actions} {features} n seen text {bytes} e line = go (cases_lt 1025 (length text))
  where
    go : (1025 < length text) ⊎ (length text ≤ 1025) → Line F actions features n text bytes
    go (inr short) = subst (λ (t : List ℕ). Line F actions features n t bytes) (e ∙ take_all 1025 text short) line
    go (inl long) = (line.0, long_answer (omega (arith, ap length e, length-take 1025 text)) (omega arith) line.1, line.2)

-- One byte more is kept while there is room, and none after that.
pub one_kept : (xs : List ℕ) (b : ℕ) → length xs < 1025 → xs ++ b ∷ [] ≡ kept (xs ++ b ∷ [])
one_kept xs b h = sym (take_all 1025 (xs ++ b ∷ []) (omega (arith, length-append xs (b ∷ []))))

pub none_kept : (xs : List ℕ) (b : ℕ) → length xs ≡ 1025 → xs ≡ kept (xs ++ b ∷ [])
none_kept xs b e = sym (take_at xs (b ∷ []) 1025 e)

pub no_bytes : (xs : List ℕ) → length xs ≡ 0 → xs ≡ []
no_bytes [] e = refl
no_bytes (x ∷ xs) e = absurd (omega arith)

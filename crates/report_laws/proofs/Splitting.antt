-- An input falls into lines in one way, so one list of lines is written for it.
use Rattle.std.proofs.Common.{◌≡◌, ℕ, List, [], ◌∷◌, ◌++◌, length, sym, refl, ap, ◌∙◌, subst, arith, length-append}
use Rattle.families.specs.Families.{Family}
use Rattle.report.specs.Lines.{Line}
use Rattle.report.specs.Transcripts.{next, Unbroken, Transcribed, nothing, last_line, one_line}
use Rattle.report_laws.specs.Laws.{OneTranscript}
use Rattle.report_laws.proofs.Once.{one_line as same_line}

broken : (xs rest : List ℕ) → Unbroken (xs ++ 10 ∷ rest) → ⊥
broken [] rest u = u.0 refl
broken (x ∷ xs) rest u = broken xs rest u.1

not_empty : (xs rest : List ℕ) → [] ≡ xs ++ 10 ∷ rest → ⊥
not_empty xs rest e = omega (arith, ap length e, length-append xs (10 ∷ rest))

first_line : (xs ys rest others : List ℕ) → Unbroken xs → Unbroken ys → xs ++ 10 ∷ rest ≡ ys ++ 10 ∷ others → (xs ≡ ys) × (rest ≡ others)
first_line [] [] rest others u w e = (refl, cc)
first_line [] (y ∷ ys) rest others u w e = absurd (w.0 (let f : 10 ≡ y = cc in sym f))
first_line (x ∷ xs) [] rest others u w e = absurd (u.0 (let f : x ≡ 10 = cc in f))
first_line (x ∷ xs) (y ∷ ys) rest others u w e =
    let head : x ≡ y = cc in
    let tail : xs ++ 10 ∷ rest ≡ ys ++ 10 ∷ others = cc in
    let same = first_line xs ys rest others u.1 w.1 tail in
    (ap (λ z. z ∷ xs) head ∙ ap (λ zs. y ∷ zs) same.0, same.1)

module _ (F : Family) (actions features : List ℕ) where
  one : (n : ℕ) {input other : List ℕ} {xs ys : List (List ℕ)} → Transcribed F actions features n input xs → Transcribed F actions features n other ys
      → input ≡ other → xs ≡ ys
  one n nothing nothing e = refl
  one n nothing (last_line u some l) e = absurd (some (sym e))
  one n nothing (one_line {text = text} {rest = rest} u l t) e = absurd (not_empty text rest e)
  one n (last_line u some l) nothing e = absurd (some e)
  one n (last_line {text = text} {bytes = bytes} u some l) (last_line {text = other} {bytes = others} w more m) e =
      ap (λ b. b ∷ []) (same_line F actions features n other bytes others (subst (λ (t : List ℕ). Line F actions features n t bytes) e l) m)
  one n (last_line u some l) (one_line {text = text} {rest = rest} w m t) e = absurd (broken text rest (subst Unbroken e u))
  one n (one_line {text = text} {rest = rest} u l t) nothing e = absurd (not_empty text rest (sym e))
  one n (one_line {text = text} {rest = rest} u l t) (last_line w some m) e = absurd (broken text rest (subst Unbroken (sym e) w))
  one n (one_line {text = text} {bytes = bytes} {rest = rest} {more = more} u l t) (one_line {text = other} {bytes = others} {rest = left} {more = lines} w m s) e =
      let f = first_line text other rest left u w e in
      ap (λ b. b ∷ more) (same_line F actions features n other bytes others (subst (λ (x : List ℕ). Line F actions features n x bytes) f.0 l) m)
      ∙ ap (λ k. others ∷ k) (one (next n) t s f.1)

pub one_transcript : OneTranscript
one_transcript F actions features n input xs ys a b = one F actions features n a b refl

-- A whole input, byte by byte.
use Rattle.std.proofs.Common.{◌≡◌, ℕ, List, [], ◌∷◌, ◌++◌, vec_items, subst, refl, sym, ap, ◌∙◌, append-nil}
use Rattle.report.specs.Sessions.{family_of, actions_of, features_of}
use Rattle.report.specs.Transcripts.{kept, next, Tells, Transcribed}
use Rattle.report.specs.Conversations.{Answered, begun}
use Rattle.report.specs.Pieces.{Within, Takes, Closes}
use Rattle.report.specs.declared.session.Session.{Session}
use Rattle.report.specs.declared.transcript.Transcript.{Transcript}
use Rattle.report.proofs.Pieces.{answered_then, closes, takes_byte, takes_line, closes_none, closes_line}

-- These bytes were taken, and these are the answers to the lines that have ended in them.
pub record Underway (s : Session) (t : Transcript) (seen : List ℕ) (lines : List (List ℕ)) : Type 0 where
  pub same : t.session ≡ s
  pub left : List ℕ
  pub within : Within t left
  pub answers : Answered (family_of s) (actions_of s) (features_of s) 1 seen lines t.number left

pub at_first : (s : Session) (t : Transcript) (lines : List (List ℕ)) → t.session ≡ s → vec_items t.line ≡ []
    → t.number ≡ 1 → lines ≡ [] → Underway s t [] lines
at_first s t lines same none one e = record {
  same = same;
  left = [];
  within = record { keeps = none; unbroken = tt };
  answers = subst (λ (l : List (List ℕ)). Answered (family_of s) (actions_of s) (features_of s) 1 [] l
      t.number []) (sym e)
      (subst (λ (n : ℕ). Answered (family_of s) (actions_of s) (features_of s) 1 [] [] n []) (sym one)
      (begun tt));
}

module _ (s : Session) (t : Transcript) (seen : List ℕ) (lines : List (List ℕ)) (p : Underway s t seen lines)
    (after : List ℕ) (now : List (List ℕ)) where
  takes_more : (u : Transcript) (bytes written : List ℕ) → u.session ≡ s
      → (q : Takes t.session t u p.left bytes written)
      → after ≡ seen ++ bytes → now ≡ lines ++ q.lines → Underway s u after now
  takes_more u bytes written same q e f = record {
    same = same;
    left = q.left;
    within = q.within;
    answers = subst (λ (l : List ℕ). Answered (family_of s) (actions_of s) (features_of s) 1 l now u.number
        q.left) (sym e)
        (subst (λ (l : List (List ℕ)). Answered (family_of s) (actions_of s) (features_of s) 1
        (seen ++ bytes) l u.number q.left) (sym f)
        (answered_then (family_of s) (actions_of s) (features_of s) 1 t.number u.number seen p.left q.left
        bytes lines q.lines p.answers
        (subst (λ (x : Session). Answered (family_of x) (actions_of x) (features_of x) t.number
        (p.left ++ bytes) q.lines u.number q.left) p.same q.answers)));
  }

  -- A byte within a line, and the end of a line.
  module _ (u : Transcript) (same : u.session ≡ s) (b : ℕ) (e : after ≡ seen ++ b ∷ []) where
    pub then_byte : (b ≡ 10 → ⊥) → vec_items u.line ≡ kept (vec_items t.line ++ b ∷ [])
        → u.number ≡ t.number → now ≡ lines → Underway s u after now
    unfolding takes_byte
    then_byte h grown number f =
        takes_more u (b ∷ []) [] same (takes_byte t u b h grown number p.left p.within) e
        (f ∙ sym (append-nil lines))

    pub then_line : (bytes : List ℕ) → b ≡ 10 → vec_items u.line ≡ [] → u.number ≡ next t.number
        → Tells t.session t.number (vec_items t.line) bytes → now ≡ lines ++ bytes ∷ []
        → Underway s u after now
    unfolding takes_line
    then_line bytes h none number tells f =
        takes_more u (10 ∷ []) (bytes ++ 10 ∷ []) same
        (takes_line t u bytes (bytes ++ 10 ∷ []) none number tells refl p.left p.within)
        (e ∙ ap (λ x. seen ++ x ∷ []) h) f

  closes_all : (written : List ℕ) (q : Closes t.session t p.left written) → after ≡ seen
      → now ≡ lines ++ q.lines → Transcribed (family_of s) (actions_of s) (features_of s) 1 after now
  closes_all written q e f =
      subst (λ (l : List ℕ). Transcribed (family_of s) (actions_of s) (features_of s) 1 l now) (sym e)
      (subst (Transcribed (family_of s) (actions_of s) (features_of s) 1 seen) (sym f)
      (closes (family_of s) (actions_of s) (features_of s) 1 t.number seen p.left lines q.lines p.answers
      (subst (λ (x : Session). Transcribed (family_of x) (actions_of x) (features_of x) t.number p.left
      q.lines) p.same q.transcript)))

  -- The end of the input, between two lines or within one.
  pub then_end : vec_items t.line ≡ [] → after ≡ seen → now ≡ lines
      → Transcribed (family_of s) (actions_of s) (features_of s) 1 after now
  unfolding closes_none
  then_end none e f =
      closes_all [] (closes_none t none p.left p.within) e (f ∙ sym (append-nil lines))

  pub then_last_line : (bytes : List ℕ) → (vec_items t.line ≡ [] → ⊥)
      → Tells t.session t.number (vec_items t.line) bytes → after ≡ seen → now ≡ lines ++ bytes ∷ []
      → Transcribed (family_of s) (actions_of s) (features_of s) 1 after now
  unfolding closes_line
  then_last_line bytes some tells =
      closes_all (bytes ++ 10 ∷ []) (closes_line t bytes (bytes ++ 10 ∷ []) some tells refl p.left p.within)

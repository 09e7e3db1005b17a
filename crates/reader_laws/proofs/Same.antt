-- A text has one list of tokens, or one first place where no token begins.
use Rattle.std.proofs.Common.{◌≡◌, ℕ, ◌+◌, ◌<◌, ◌≤◌, true, List, [], ◌∷◌, length, get_or, take, drop, sym, refl, ap, ◌∙◌, subst, inl, inr, ⊎_elim, arith}
use Rattle.std.specs.Char.{is_ascii_lowercase}
use Rattle.std.proofs.lemmas.List.{get_or-drop, get_or-take}
use Rattle.std.proofs.lemmas.Bool.{cases_order}
use Rattle.std.proofs.lemmas.Bool.Decides.{nat_tests}
use Rattle.lexer.specs.Tokens.{Name, Sym, name, variable, sign, spelling, spell, IsToken, At, Longest, Bad, Spaces, Tok, tok}
use Rattle.lexer.specs.Cuts.{found, first_at}
use Rattle.lexer.specs.declared.Sign.{Sign}
use Rattle.lexer.specs.declared.Sign.TheVariants.{Mu, Nu, True, False, Not, And, Or, Bar, Less, Greater, LeftBracket, RightBracket, Open, Close, Dot}
use Rattle.lexer.proofs.Longest.{some_bytes, token_within}
use Rattle.lexer.specs.Texts.{TokensOf, no_more, one_more, NoTokenAt, here, later}

-- ---- one token is spelled in one way

at_head : (bs : List ℕ) (p : ℕ) (w : List ℕ) → 0 < length w → At bs p w → get_or bs p 0 ≡ get_or w 0 0
at_head bs p w pos e = let z : p ≡ p + 0 = omega arith in ap (λ n. get_or bs n 0) z ∙ sym (get_or-drop p bs 0 0) ∙ sym (get_or-take (length w) (drop p bs) 0 0 pos) ∙ ap (λ l. get_or l 0 0) e

lower_range : (b : ℕ) → is_ascii_lowercase b ≡ true → (97 ≤ b) × (b ≤ 122)
lower_range b h = (grind (arith, nat_tests), grind (arith, nat_tests))

first_byte : (s : Sym) → IsToken s → get_or (spell s) 0 0 ≡ 32 → ⊥
first_byte (name w) i e = omega (arith, (lower_range (get_or w 0 0) i.run.first).0)
first_byte (variable v) i e = omega arith
first_byte (sign Mu) i e = omega arith
first_byte (sign Nu) i e = omega arith
first_byte (sign True) i e = omega arith
first_byte (sign False) i e = omega arith
first_byte (sign Not) i e = omega arith
first_byte (sign And) i e = omega arith
first_byte (sign Or) i e = omega arith
first_byte (sign Bar) i e = omega arith
first_byte (sign Less) i e = omega arith
first_byte (sign Greater) i e = omega arith
first_byte (sign LeftBracket) i e = omega arith
first_byte (sign RightBracket) i e = omega arith
first_byte (sign Open) i e = omega arith
first_byte (sign Close) i e = omega arith
first_byte (sign Dot) i e = omega arith

no_space : (bs : List ℕ) (p : ℕ) (s : Sym) → Longest bs p s → get_or bs p 0 ≡ 32 → ⊥
no_space bs p s l e = first_byte s l.token (sym (at_head bs p (spell s) (some_bytes s l.token) l.here) ∙ e)

not_name : (w : List ℕ) (s : Sign) → Name w → w ≡ spelling s → ⊥
not_name w Mu i e = i.no_word.0 e
not_name w Nu i e = i.no_word.1 e
not_name w True i e = i.no_word.2 e
not_name w False i e = i.no_word.3 e
not_name w Not i e = omega (arith, (lower_range (get_or w 0 0) i.run.first).0, (lower_range (get_or w 0 0) i.run.first).1, ap (λ l. get_or l 0 0) e)
not_name w And i e = omega (arith, (lower_range (get_or w 0 0) i.run.first).0, (lower_range (get_or w 0 0) i.run.first).1, ap (λ l. get_or l 0 0) e)
not_name w Or i e = omega (arith, (lower_range (get_or w 0 0) i.run.first).0, (lower_range (get_or w 0 0) i.run.first).1, ap (λ l. get_or l 0 0) e)
not_name w Bar i e = omega (arith, (lower_range (get_or w 0 0) i.run.first).0, (lower_range (get_or w 0 0) i.run.first).1, ap (λ l. get_or l 0 0) e)
not_name w Less i e = omega (arith, (lower_range (get_or w 0 0) i.run.first).0, (lower_range (get_or w 0 0) i.run.first).1, ap (λ l. get_or l 0 0) e)
not_name w Greater i e = omega (arith, (lower_range (get_or w 0 0) i.run.first).0, (lower_range (get_or w 0 0) i.run.first).1, ap (λ l. get_or l 0 0) e)
not_name w LeftBracket i e = omega (arith, (lower_range (get_or w 0 0) i.run.first).0, (lower_range (get_or w 0 0) i.run.first).1, ap (λ l. get_or l 0 0) e)
not_name w RightBracket i e = omega (arith, (lower_range (get_or w 0 0) i.run.first).0, (lower_range (get_or w 0 0) i.run.first).1, ap (λ l. get_or l 0 0) e)
not_name w Open i e = omega (arith, (lower_range (get_or w 0 0) i.run.first).0, (lower_range (get_or w 0 0) i.run.first).1, ap (λ l. get_or l 0 0) e)
not_name w Close i e = omega (arith, (lower_range (get_or w 0 0) i.run.first).0, (lower_range (get_or w 0 0) i.run.first).1, ap (λ l. get_or l 0 0) e)
not_name w Dot i e = omega (arith, (lower_range (get_or w 0 0) i.run.first).0, (lower_range (get_or w 0 0) i.run.first).1, ap (λ l. get_or l 0 0) e)

not_variable : (v : ℕ) (s : Sign) → v < 26 → (65 + v) ∷ [] ≡ spelling s → ⊥
not_variable v Mu i e = omega (arith, ap (λ l. get_or l 0 0) e)
not_variable v Nu i e = omega (arith, ap (λ l. get_or l 0 0) e)
not_variable v True i e = omega (arith, ap (λ l. get_or l 0 0) e)
not_variable v False i e = omega (arith, ap (λ l. get_or l 0 0) e)
not_variable v Not i e = omega (arith, ap (λ l. get_or l 0 0) e)
not_variable v And i e = omega (arith, ap (λ l. get_or l 0 0) e)
not_variable v Or i e = omega (arith, ap (λ l. get_or l 0 0) e)
not_variable v Bar i e = omega (arith, ap (λ l. get_or l 0 0) e)
not_variable v Less i e = omega (arith, ap (λ l. get_or l 0 0) e)
not_variable v Greater i e = omega (arith, ap (λ l. get_or l 0 0) e)
not_variable v LeftBracket i e = omega (arith, ap (λ l. get_or l 0 0) e)
not_variable v RightBracket i e = omega (arith, ap (λ l. get_or l 0 0) e)
not_variable v Open i e = omega (arith, ap (λ l. get_or l 0 0) e)
not_variable v Close i e = omega (arith, ap (λ l. get_or l 0 0) e)
not_variable v Dot i e = omega (arith, ap (λ l. get_or l 0 0) e)

decoded : (s : Sign) → first_at (spelling s) 0 ≡ found (sign s) 0 (length (spelling s))
decoded Mu = refl
decoded Nu = refl
decoded True = refl
decoded False = refl
decoded Not = refl
decoded And = refl
decoded Or = refl
decoded Bar = refl
decoded Less = refl
decoded Greater = refl
decoded LeftBracket = refl
decoded RightBracket = refl
decoded Open = refl
decoded Close = refl
decoded Dot = refl

same_sign : (s t : Sign) → spelling s ≡ spelling t → sign s ≡ sign t
same_sign s t e = let f : found (sign s) 0 (length (spelling s)) ≡ found (sign t) 0 (length (spelling t)) = sym (decoded s) ∙ ap (λ l. first_at l 0) e ∙ decoded t in cc

same_spelling : (s t : Sym) → IsToken s → IsToken t → spell s ≡ spell t → s ≡ t
same_spelling (name w) (name v) i j e = ap name e
same_spelling (name w) (variable v) i j e = absurd (omega (arith, (lower_range (get_or w 0 0) i.run.first).0, ap (λ l. get_or l 0 0) e))
same_spelling (name w) (sign s) i j e = absurd (not_name w s i e)
same_spelling (variable v) (name w) i j e = absurd (omega (arith, (lower_range (get_or w 0 0) j.run.first).0, ap (λ l. get_or l 0 0) e))
same_spelling (variable u) (variable v) i j e = let f : u ≡ v = omega (arith, ap (λ l. get_or l 0 0) e) in ap variable f
same_spelling (variable v) (sign s) i j e = absurd (not_variable v s i e)
same_spelling (sign s) (name w) i j e = absurd (not_name w s j (sym e))
same_spelling (sign s) (variable v) i j e = absurd (not_variable v s j (sym e))
same_spelling (sign s) (sign t) i j e = same_sign s t e

same_longest : (bs : List ℕ) (p : ℕ) (s t : Sym) → Longest bs p s → Longest bs p t → s ≡ t
same_longest bs p s t l m =
    let n : length (spell s) ≡ length (spell t) = omega (arith, l.longest t m.token m.here, m.longest s l.token l.here) in
    same_spelling s t l.token m.token (sym l.here ∙ ap (λ k. take k (drop p bs)) n ∙ m.here)

-- ---- one place

same_place : (bs : List ℕ) (i j p q : ℕ) → i ≡ j → Spaces bs i p → Spaces bs j q → (get_or bs p 0 ≡ 32 → ⊥) → (get_or bs q 0 ≡ 32 → ⊥) → p ≡ q
same_place bs i j p q e a b np nq =
    ⊎_elim (λ h. h) (λ o. ⊎_elim (λ h. absurd (np (b.1 p (omega (arith, a.0)) h))) (λ h. absurd (nq (a.1 q (omega (arith, b.0)) h))) o) (cases_order p q)

-- spaces up to the end leave no place for a token
no_end : (bs : List ℕ) (i j q : ℕ) → i ≡ j → Spaces bs i (length bs) → Spaces bs j q → q < length bs → (get_or bs q 0 ≡ 32 → ⊥) → ⊥
no_end bs i j q e a b lt nq = nq (a.1 q (omega (arith, b.0)) lt)

inside : (bs : List ℕ) (p : ℕ) (s : Sym) → Longest bs p s → p < length bs
inside bs p s l = omega (arith, token_within bs p s l, some_bytes s l.token)

same_lists : {s t : Sym} {p q : ℕ} {ts us : List Tok} → s ≡ t → p ≡ q → ts ≡ us → tok s p ∷ ts ≡ tok t q ∷ us
same_lists a b c = cc

pub same_tokens : (bs : List ℕ) {i j : ℕ} {ts us : List Tok} → TokensOf bs i ts → TokensOf bs j us → i ≡ j → ts ≡ us
same_tokens bs (no_more i a) (no_more j b) e = refl
same_tokens bs (no_more i a) (one_more j t q b m r) e = absurd (no_end bs i j q e a b (inside bs q t m) (no_space bs q t m))
same_tokens bs (one_more i s p a l r) (no_more j b) e = absurd (no_end bs j i p (sym e) b a (inside bs p s l) (no_space bs p s l))
same_tokens bs (one_more i s p a l r) (one_more j t q b m o) e =
    let x : p ≡ q = same_place bs i j p q e a b (no_space bs p s l) (no_space bs q t m) in
    let y : s ≡ t = same_longest bs p s t l (subst (λ k. Longest bs k t) (sym x) m) in
    let n : p + length (spell s) ≡ q + length (spell t) = ap (λ k. k + length (spell s)) x ∙ ap (λ k. q + length (spell k)) y in
    same_lists y x (same_tokens bs r o n)

bad_token : (bs : List ℕ) (p : ℕ) (s : Sym) → Bad bs p → Longest bs p s → ⊥
bad_token bs p s (inl h) l = l.not_long h
bad_token bs p s (inr h) l = h s l.token l.here

bad_longest : (bs : List ℕ) (i j p q : ℕ) (s : Sym) → i ≡ j → Spaces bs i p → (get_or bs p 0 ≡ 32 → ⊥) → Bad bs p → Spaces bs j q → Longest bs q s → ⊥
bad_longest bs i j p q s e a np b c l = let x : p ≡ q = same_place bs i j p q e a c np (no_space bs q s l) in bad_token bs p s b (subst (λ k. Longest bs k s) (sym x) l)

-- past the same token
next_place : (bs : List ℕ) (i j p q : ℕ) (s t : Sym) → i ≡ j → Spaces bs i p → Longest bs p s → Spaces bs j q → Longest bs q t → p + length (spell s) ≡ q + length (spell t)
next_place bs i j p q s t e a l b m =
    let x : p ≡ q = same_place bs i j p q e a b (no_space bs p s l) (no_space bs q t m) in
    let y : s ≡ t = same_longest bs p s t l (subst (λ k. Longest bs k t) (sym x) m) in
    ap (λ k. k + length (spell s)) x ∙ ap (λ k. q + length (spell k)) y

pub not_both : (bs : List ℕ) {i j q : ℕ} {ts : List Tok} → NoTokenAt bs i q → TokensOf bs j ts → i ≡ j → ⊥
not_both bs (here i p a lt np b) (no_more j c) e = no_end bs j i p (sym e) c a lt np
not_both bs (here i p a lt np b) (one_more j t q c m r) e = bad_longest bs i j p q t e a np b c m
not_both bs (later i s p q a l n) (no_more j c) e = no_end bs j i p (sym e) c a (inside bs p s l) (no_space bs p s l)
not_both bs (later i s p q a l n) (one_more j t r c m o) e = not_both bs n o (next_place bs i j p r s t e a l c m)

pub same_bad : (bs : List ℕ) {i j p q : ℕ} → NoTokenAt bs i p → NoTokenAt bs j q → i ≡ j → p ≡ q
same_bad bs (here i p a lt np b) (here j q c lu nq d) e = same_place bs i j p q e a c np nq
same_bad bs (here i p a lt np b) (later j t r q c m n) e = absurd (bad_longest bs i j p r t e a np b c m)
same_bad bs (later i s r p a l n) (here j q c lu nq d) e = absurd (bad_longest bs j i q r s (sym e) c nq d a l)
same_bad bs (later i s r p a l n) (later j t u q c m o) e = same_bad bs n o (next_place bs i j r u s t e a l c m)

-- The token that is found is the longest.
use Rattle.std.proofs.Common.{◌≡◌, ℕ, suc, ◌+◌, ◌-◌, ◌<◌, ◌≤◌, Bool, true, false, cond, ◌&&◌, eqb, ltb, List, [], ◌∷◌, length, get_or, take, drop, sym, refl, ap, ◌∙◌, subst, inl, inr, arith, length-drop, length-take}
use Rattle.std.specs.Char.{is_ascii_lowercase, is_ascii_uppercase}
use Rattle.std.specs.List.{prefix_len, between, AllByRecursion}
use Rattle.std.proofs.lemmas.List.{get_or-drop, get_or-take, drop_more, length-take-le}
use Rattle.std.proofs.lemmas.List.Sums.{prefix_len-le-length, prefix_len_passes, prefix_len_stops}
use Rattle.std.proofs.lemmas.Bool.{eqb-true, ltb-true, ltb-false, and_parts}
use Rattle.std.proofs.lemmas.Bool.Decides.{nat_tests}
use Rattle.lexer.specs.Tokens.{in_name, Run, Sym, name, variable, sign, spelling, spell, IsToken, At, TooLong, Longest, Bad, Spaces}
use Rattle.lexer.specs.Cuts.{Seen, found, end, bad, space, after_spaces, after_name, word_of, Mark, one, two, none, mark, mark_at, first_at, cut_at, Lawful}
use Rattle.lexer.specs.declared.Sign.{Sign}
use Rattle.lexer.specs.declared.Sign.TheVariants.{Mu, Nu, True, False, Not, And, Or, Bar, Less, Greater, LeftBracket, RightBracket, Open, Close, Dot}
use Rattle.lexer.proofs.Runs.{inside}
use Rattle.lexer.proofs.Names.{Worded, is_name, is_mu, is_nu, is_true, is_false, worded}

-- ---- runs

-- bytes that stand at the front and all pass are within the run
front_leading : (p : ℕ → Bool) (v xs : List ℕ) → take (length v) xs ≡ v → AllByRecursion (λ b. p b ≡ true) v → length v ≤ prefix_len p xs
front_leading p [] xs e h = omega arith
front_leading p (c ∷ v) [] e h = let z = ap length e in absurd (omega arith)
front_leading p (c ∷ v) (x ∷ xs) e h =
    let i : x ≡ c = cc in
    let k : take (length v) xs ≡ v = cc in
    let t : p x ≡ true = ap p i ∙ h.0 in
    rw t (omega (arith, front_leading p v xs k h.1))

run_all : (p : ℕ → Bool) (xs : List ℕ) → AllByRecursion (λ b. p b ≡ true) (take (prefix_len p xs) xs)
run_all p [] = tt
run_all p (x ∷ xs) = go (p x) refl (run_all p xs)
  where
    go : (b : Bool) → p x ≡ b → AllByRecursion (λ b. p b ≡ true) (take (prefix_len p xs) xs) → AllByRecursion (λ b. p b ≡ true) (take (cond b (1 + prefix_len p xs) 0) (x ∷ xs))
    go true e h = subst (λ n. AllByRecursion (λ b. p b ≡ true) (take n (x ∷ xs))) (one_more (prefix_len p xs)) (e, h)
      where
        one_more : (n : ℕ) → suc n ≡ 1 + n
        one_more n = omega arith
    go false e h = tt

-- ---- the first bytes

module _ (bs : List ℕ) (at : ℕ) (lt : at < length bs) where
  cut : drop at bs ≡ get_or bs at 0 ∷ drop (at + 1) bs
  cut = drop_more bs at 0 lt

  head : (c : ℕ) (v : List ℕ) → At bs at (c ∷ v) → get_or bs at 0 ≡ c
  head c v e = let f : take (length (c ∷ v)) (get_or bs at 0 ∷ drop (at + 1) bs) ≡ c ∷ v = ap (λ x. take (length (c ∷ v)) x) (sym cut) ∙ e in cc

  second : (c d : ℕ) → At bs at (c ∷ d ∷ []) → get_or bs (at + 1) 0 ≡ d
  second c d e = sym (get_or-drop at bs 1 0) ∙ sym (get_or-take 2 (drop at bs) 1 0 (omega arith)) ∙ ap (λ x. get_or x 1 0) e

  one_byte : take 1 (drop at bs) ≡ get_or bs at 0 ∷ []
  one_byte = ap (λ x. take 1 x) cut

  two_bytes : at + 1 < length bs → take 2 (drop at bs) ≡ get_or bs at 0 ∷ get_or bs (at + 1) 0 ∷ []
  two_bytes h = ap (λ x. take 2 x) (cut ∙ ap (λ x. get_or bs at 0 ∷ x) (drop_more bs (at + 1) 0 h))

  -- a run begins with a small letter
  run_lower : (w : List ℕ) → Run w → At bs at w → is_ascii_lowercase (get_or bs at 0) ≡ true
  run_lower [] r e = let z = r.first in let n : ◌≡◌ {A = ℕ} 0 1 = cc in absurd (omega arith)
  run_lower (c ∷ w) r e = ap is_ascii_lowercase (head c w e) ∙ r.first

  too_long_lower : TooLong bs at → is_ascii_lowercase (get_or bs at 0) ≡ true
  too_long_lower l = run_lower l.0 l.1.1 l.1.0

-- ---- runs of small letters and digits

is_in_name : (b : ℕ) → is_ascii_lowercase b ≡ true → in_name b ≡ true
is_in_name b h = grind (arith, nat_tests)

lower_range : (b : ℕ) → is_ascii_lowercase b ≡ true → (97 ≤ b) × (b < 123)
lower_range b h = (grind (arith, nat_tests), grind (arith, nat_tests))

-- a sign at a small letter is a word
sign_run : (s : Sign) (b : ℕ) → is_ascii_lowercase b ≡ true → b ≡ get_or (spelling s) 0 0 → AllByRecursion (λ c. in_name c ≡ true) (spelling s)
sign_run Mu b h e = (refl, (refl, tt))
sign_run Nu b h e = (refl, (refl, tt))
sign_run True b h e = (refl, (refl, (refl, (refl, tt))))
sign_run False b h e = (refl, (refl, (refl, (refl, (refl, tt)))))
sign_run _ b h e = absurd (omega (arith, lower_range b h))

-- every sign has a first byte
spelled : (s : Sign) → (c : ℕ) × (v : List ℕ) × (spelling s ≡ c ∷ v)
spelled Mu = (_, _, refl)
spelled _ = (_, _, refl)

-- a token has a byte
pub some_bytes : (t : Sym) → IsToken t → 0 < length (spell t)
some_bytes (name []) i = let f = i.run.first in let z : ◌≡◌ {A = ℕ} 0 1 = cc in absurd (omega arith)
some_bytes (name (c ∷ v)) i = omega arith
some_bytes (variable v) i = omega arith
some_bytes (sign s) i = omega (arith, ap length (spelled s).2)

-- a token ends within the text
pub token_within : (bs : List ℕ) (p : ℕ) (s : Sym) → Longest bs p s → p + length (spell s) ≤ length bs
token_within bs p s l = omega (arith, some_bytes s l.token, ap length l.here, length-take (length (spell s)) (drop p bs), length-drop p bs)

upper_not_lower : (b : ℕ) (v : ℕ) → v < 26 → b ≡ 65 + v → is_ascii_lowercase b ≡ true → ⊥
upper_not_lower b v lt e h = let z : ◌≡◌ {A = ℕ} 0 1 = grind (arith, nat_tests) in omega arith

module _ (bs : List ℕ) (at : ℕ) (lt : at < length bs) where
  sign_head : (s : Sign) → At bs at (spelling s) → get_or bs at 0 ≡ get_or (spelling s) 0 0
  sign_head s e = let p = spelled s in head bs at lt p.0 p.1 (subst (At bs at) p.2 e) ∙ ap (λ x. get_or x 0 0) (sym p.2)

  module _ (low : is_ascii_lowercase (get_or bs at 0) ≡ true) where
    in_run : (t : Sym) → IsToken t → At bs at (spell t) → length (spell t) ≤ prefix_len in_name (drop at bs)
    in_run (name v) n e = front_leading in_name v (drop at bs) e n.run.rest
    in_run (variable v) n e = absurd (upper_not_lower (get_or bs at 0) v n (head bs at lt (65 + v) [] e) low)
    in_run (sign s) n e = front_leading in_name (spelling s) (drop at bs) e (sign_run s (get_or bs at 0) low (sign_head s e))

    run : List ℕ
    run = take (prefix_len in_name (drop at bs)) (drop at bs)

    run_is : between at (after_name bs at) bs ≡ run
    unfolding run
    run_is = let e : after_name bs at - at ≡ prefix_len in_name (drop at bs) = omega arith in ap (λ n. take n (drop at bs)) e

    run_length : length run ≡ prefix_len in_name (drop at bs)
    unfolding run
    run_length = length-take-le (prefix_len in_name (drop at bs)) (drop at bs) (prefix_len-le-length in_name (drop at bs))

    run_at : At bs at run
    unfolding run
    run_at = ap (λ n. take n (drop at bs)) run_length

    some : 0 < prefix_len in_name (drop at bs)
    some = omega (arith, front_leading in_name (get_or bs at 0 ∷ []) (drop at bs) (one_byte bs at lt) (is_in_name (get_or bs at 0) low, tt))

    run_run : Run run
    unfolding run
    run_run = record { first = ap is_ascii_lowercase (get_or-take (prefix_len in_name (drop at bs)) (drop at bs) 0 0 some ∙ get_or-drop at bs 0 0 ∙ ap (λ n. get_or bs n 0) (omega arith)) ∙ low; rest = run_all in_name (drop at bs) }

    not_too_long : prefix_len in_name (drop at bs) ≤ 12 → TooLong bs at → ⊥
    not_too_long few l = omega (arith, front_leading in_name l.0 (drop at bs) l.1.0 l.1.1.rest, l.1.2)

    spelled_longest : prefix_len in_name (drop at bs) ≤ 12 → (s : Sym) → IsToken s → spell s ≡ run → Longest bs at s × (length (spell s) ≡ prefix_len in_name (drop at bs))
    spelled_longest few s i e =
        let n : length (spell s) ≡ prefix_len in_name (drop at bs) = ap length e ∙ run_length in
        (record { token = i; here = subst (At bs at) (sym e) run_at; longest = λ t j h. omega (arith, in_run t j h, n); not_long = not_too_long few }, n)

    -- the run is one of the words, or a name
    word_longest : prefix_len in_name (drop at bs) ≤ 12 → {s : Sym} → Worded run s → Longest bs at s × (length (spell s) ≡ prefix_len in_name (drop at bs))
    word_longest few (is_name h) = spelled_longest few (name run) (record { run = run_run; short = omega (arith, run_length); no_word = h }) refl
    word_longest few (is_mu e) = spelled_longest few (sign Mu) tt (sym e)
    word_longest few (is_nu e) = spelled_longest few (sign Nu) tt (sym e)
    word_longest few (is_true e) = spelled_longest few (sign True) tt (sym e)
    word_longest few (is_false e) = spelled_longest few (sign False) tt (sym e)

-- ---- variables

upper_range : (b : ℕ) → is_ascii_uppercase b ≡ true → (65 ≤ b) × (b < 91)
upper_range b h = (grind (arith, nat_tests), grind (arith, nat_tests))

in_upper : (b v : ℕ) → v < 26 → b ≡ 65 + v → is_ascii_uppercase b ≡ true
in_upper b v lt e = grind (arith, nat_tests)

sign_not_upper : (s : Sign) (b : ℕ) → is_ascii_uppercase b ≡ true → b ≡ get_or (spelling s) 0 0 → ⊥
sign_not_upper Mu b h e = omega (arith, upper_range b h)
sign_not_upper _ b h e = omega (arith, upper_range b h)

variable_longest : (bs : List ℕ) (at : ℕ) → at < length bs → is_ascii_lowercase (get_or bs at 0) ≡ false → is_ascii_uppercase (get_or bs at 0) ≡ true → Longest bs at (variable (get_or bs at 0 - 65))
variable_longest bs at lt low up =
    let r = upper_range (get_or bs at 0) up in
    record {
      token = omega (arith, r.0, r.1);
      here = one_byte bs at lt ∙ ap (λ n. n ∷ []) (back (get_or bs at 0) r.0);
      longest = λ t i e. most t i e;
      not_long = λ l. both (is_ascii_lowercase (get_or bs at 0)) low (too_long_lower bs at lt l);
    }
  where
    back : (b : ℕ) → 65 ≤ b → b ≡ 65 + (b - 65)
    back b h = omega arith

    both : (b : Bool) → b ≡ false → b ≡ true → ⊥
    both b f t = let z : ◌≡◌ {A = ℕ} 0 1 = cc in omega arith

    most : (t : Sym) → IsToken t → At bs at (spell t) → length (spell t) ≤ 1
    most (name v) i e = absurd (both (is_ascii_lowercase (get_or bs at 0)) low (run_lower bs at lt v i.run e))
    most (variable v) i e = omega arith
    most (sign s) i e = absurd (sign_not_upper s (get_or bs at 0) up (sign_head bs at lt s e))

-- ---- other signs

abbrev mark_size : Mark → ℕ
mark_size (one s) = 1
mark_size (two s) = 2
mark_size none = 0

-- how a sign is spelled by the bytes b and n
data Marked (b n : ℕ) : Mark → Type 0 where
  by_one : (s : Sign) → spelling s ≡ b ∷ [] → Marked b n (one s)
  by_two : (s : Sign) → spelling s ≡ b ∷ n ∷ [] → 0 < n → Marked b n (two s)
  by_none : Marked b n none

by_test : {A : Type 0} (P : A → Type 0) (t : Bool) (x y : A) → (t ≡ true → P x) → P y → P (cond t x y)
by_test P true x y f g = f refl
by_test P false x y f g = g

marked : (b n : ℕ) → Marked b n (mark b n)
marked b n =
    by_test (Marked b n) (eqb b 38 && eqb n 38) _ _ (λ h. let p = and_parts (eqb b 38) (eqb n 38) h in let e = eqb-true b 38 p.0 in let f = eqb-true n 38 p.1 in by_two And (cc) (omega arith))
    (by_test (Marked b n) (eqb b 124) _ _ (λ h. let e = eqb-true b 124 h in by_test (Marked b n) (eqb n 124) _ _ (λ k. let f = eqb-true n 124 k in by_two Or (cc) (omega arith)) (by_one Bar (cc)))
    (by_test (Marked b n) (eqb b 33) _ _ (λ h. let e = eqb-true b 33 h in by_one Not (cc))
    (by_test (Marked b n) (eqb b 60) _ _ (λ h. let e = eqb-true b 60 h in by_one Less (cc))
    (by_test (Marked b n) (eqb b 62) _ _ (λ h. let e = eqb-true b 62 h in by_one Greater (cc))
    (by_test (Marked b n) (eqb b 91) _ _ (λ h. let e = eqb-true b 91 h in by_one LeftBracket (cc))
    (by_test (Marked b n) (eqb b 93) _ _ (λ h. let e = eqb-true b 93 h in by_one RightBracket (cc))
    (by_test (Marked b n) (eqb b 40) _ _ (λ h. let e = eqb-true b 40 h in by_one Open (cc))
    (by_test (Marked b n) (eqb b 41) _ _ (λ h. let e = eqb-true b 41 h in by_one Close (cc))
    (by_test (Marked b n) (eqb b 46) _ _ (λ h. let e = eqb-true b 46 h in by_one Dot (cc)) by_none)))))))))

-- no sign at these bytes is longer
fits : (s : Sign) (b n : ℕ) → is_ascii_lowercase b ≡ false → b ≡ get_or (spelling s) 0 0 → (length (spelling s) ≡ 2 → n ≡ get_or (spelling s) 1 0) → length (spelling s) ≤ mark_size (mark b n)
fits Mu b n low e f = let z = subst (λ c. is_ascii_lowercase c ≡ false) e low in let y : ◌≡◌ {A = ℕ} 0 1 = cc in absurd (omega arith)
fits Nu b n low e f = let z = subst (λ c. is_ascii_lowercase c ≡ false) e low in let y : ◌≡◌ {A = ℕ} 0 1 = cc in absurd (omega arith)
fits True b n low e f = let z = subst (λ c. is_ascii_lowercase c ≡ false) e low in let y : ◌≡◌ {A = ℕ} 0 1 = cc in absurd (omega arith)
fits False b n low e f = let z = subst (λ c. is_ascii_lowercase c ≡ false) e low in let y : ◌≡◌ {A = ℕ} 0 1 = cc in absurd (omega arith)
fits And b n low e f = subst (λ c. 2 ≤ mark_size (mark c n)) (sym e) (subst (λ c. 2 ≤ mark_size (mark 38 c)) (sym (f refl)) (omega arith))
fits Or b n low e f = subst (λ c. 2 ≤ mark_size (mark c n)) (sym e) (subst (λ c. 2 ≤ mark_size (mark 124 c)) (sym (f refl)) (omega arith))
fits Bar b n low e f = subst (λ c. 1 ≤ mark_size (mark c n)) (sym e) (by_test (λ m. 1 ≤ mark_size m) (eqb n 124) (two Or) (one Bar) (λ h. omega arith) (omega arith))
fits _ b n low e f = subst (λ c. 1 ≤ mark_size (mark c n)) (sym e) (omega arith)

module _ (bs : List ℕ) (at : ℕ) (lt : at < length bs) (low : is_ascii_lowercase (get_or bs at 0) ≡ false) (up : is_ascii_uppercase (get_or bs at 0) ≡ false) where
  not_low : is_ascii_lowercase (get_or bs at 0) ≡ true → ⊥
  not_low t = let z : ◌≡◌ {A = ℕ} 0 1 = cc in omega arith

  sign_second : (s : Sign) → At bs at (spelling s) → length (spelling s) ≡ 2 → get_or bs (at + 1) 0 ≡ get_or (spelling s) 1 0
  sign_second s e n = sym (get_or-drop at bs 1 0) ∙ sym (get_or-take 2 (drop at bs) 1 0 (omega arith)) ∙ ap (λ x. get_or x 1 0) (ap (λ k. take k (drop at bs)) (sym n) ∙ e)

  mark_most : (t : Sym) → IsToken t → At bs at (spell t) → length (spell t) ≤ mark_size (mark (get_or bs at 0) (get_or bs (at + 1) 0))
  mark_most (name v) i e = absurd (not_low (run_lower bs at lt v i.run e))
  mark_most (variable v) i e = let u = in_upper (get_or bs at 0) v i (head bs at lt (65 + v) [] e) in let z : ◌≡◌ {A = ℕ} 0 1 = cc in absurd (omega arith)
  mark_most (sign s) i e = fits s (get_or bs at 0) (get_or bs (at + 1) 0) low (sign_head bs at lt s e) (sign_second s e)

  -- a mark that is found, or not
  abbrev MarkLaw : Mark → Type 0
  MarkLaw (one s) = Longest bs at (sign s) × (1 ≡ length (spelling s))
  MarkLaw (two s) = Longest bs at (sign s) × (2 ≡ length (spelling s))
  MarkLaw none = Bad bs at

  marked_law : {m : Mark} → Marked (get_or bs at 0) (get_or bs (at + 1) 0) m → ((t : Sym) → IsToken t → At bs at (spell t) → length (spell t) ≤ mark_size m) → MarkLaw m
  marked_law (by_one s e) most = (record { token = tt; here = subst (At bs at) (sym e) (one_byte bs at lt); longest = λ t i h. omega (arith, most t i h, ap length e); not_long = λ l. not_low (too_long_lower bs at lt l) }, sym (ap length e))
  marked_law (by_two s e pos) most = (record { token = tt; here = subst (At bs at) (sym e) (two_bytes bs at lt (inside bs (at + 1) pos)); longest = λ t i h. omega (arith, most t i h, ap length e); not_long = λ l. not_low (too_long_lower bs at lt l) }, sym (ap length e))
  marked_law by_none most = inr (λ t i h. omega (arith, most t i h, some_bytes t i))

-- ---- what is found at a byte

abbrev Here : List ℕ → ℕ → Seen → Type 0
Here bs at (found s p j) = (p ≡ at) × Longest bs at s × (j ≡ at + length (spell s))
Here bs at end = ⊥
Here bs at (bad p) = (p ≡ at) × Bad bs at

first_law : (bs : List ℕ) (at : ℕ) → at < length bs → Here bs at (first_at bs at)
first_law bs at lt = go (is_ascii_lowercase (get_or bs at 0)) refl (is_ascii_uppercase (get_or bs at 0)) refl
  where
    few_law : is_ascii_lowercase (get_or bs at 0) ≡ true → (c : Bool) → ltb 12 (after_name bs at - at) ≡ c → Here bs at (cond c (bad at) (found (word_of (between at (after_name bs at) bs)) at (after_name bs at)))
    few_law low true e = (refl, inl (run bs at lt low, (run_at bs at lt low, run_run bs at lt low, omega (arith, run_length bs at lt low, ltb-true 12 (after_name bs at - at) e))))
    few_law low false e =
        let w = word_longest bs at lt low (omega (arith, ltb-false 12 (after_name bs at - at) e)) (worded (run bs at lt low)) in
        let same : between at (after_name bs at) bs ≡ run bs at lt low = run_is bs at lt low in
        subst (λ r. Here bs at (found (word_of r) at (after_name bs at))) (sym same) (refl, w.0, omega (arith, w.1))

    mark_law : (m : Mark) → is_ascii_lowercase (get_or bs at 0) ≡ false → is_ascii_uppercase (get_or bs at 0) ≡ false → (low : is_ascii_lowercase (get_or bs at 0) ≡ false) (up : is_ascii_uppercase (get_or bs at 0) ≡ false) → MarkLaw bs at lt low up m → Here bs at (mark_at m at)
    mark_law (one s) l u low up h = (refl, h.0, omega (arith, h.1))
    mark_law (two s) l u low up h = (refl, h.0, omega (arith, h.1))
    mark_law none l u low up h = (refl, h)

    go : (a : Bool) → is_ascii_lowercase (get_or bs at 0) ≡ a → (b : Bool) → is_ascii_uppercase (get_or bs at 0) ≡ b → Here bs at (cond a (cond (ltb 12 (after_name bs at - at)) (bad at) (found (word_of (between at (after_name bs at) bs)) at (after_name bs at))) (cond b (found (variable (get_or bs at 0 - 65)) at (at + 1)) (mark_at (mark (get_or bs at 0) (get_or bs (at + 1) 0)) at)))
    go true low b up = few_law low (ltb 12 (after_name bs at - at)) refl
    go false low true up = (refl, variable_longest bs at lt low up, refl)
    go false low false up = mark_law (mark (get_or bs at 0) (get_or bs (at + 1) 0)) low up low up (marked_law bs at lt low up (marked (get_or bs at 0) (get_or bs (at + 1) 0)) (mark_most bs at lt low up))

-- ---- past the spaces

spaces : (bs : List ℕ) (i : ℕ) → Spaces bs i (after_spaces bs i)
spaces bs i = (omega arith, λ k le lt. at k (omega arith) lt)
  where
    at : (k : ℕ) → k ≡ i + (k - i) → k < after_spaces bs i → get_or bs k 0 ≡ 32
    at k e lt = eqb-true (get_or bs k 0) 32 (ap (λ n. space (get_or bs n 0)) e ∙ ap space (sym (get_or-drop i bs (k - i) 0)) ∙ prefix_len_passes space (drop i bs) (k - i) 0 (omega arith))

no_space : (bs : List ℕ) (i : ℕ) → after_spaces bs i < length bs → get_or bs (after_spaces bs i) 0 ≡ 32 → ⊥
no_space bs i lt e =
    let f = prefix_len_stops space (drop i bs) 0 (omega (arith, length-drop i bs)) in
    let g : space 32 ≡ false = ap space (sym e ∙ sym (get_or-drop i bs (prefix_len space (drop i bs)) 0)) ∙ f in
    let z : ◌≡◌ {A = ℕ} 0 1 = cc in
    omega arith

here_law : (bs : List ℕ) (i at : ℕ) → Spaces bs i at → at < length bs → (get_or bs at 0 ≡ 32 → ⊥) → (s : Seen) → Here bs at s → Lawful bs i s
here_law bs i at sp lt ns (found s p j) h = let e = sym h.0 in (subst (Spaces bs i) e sp, subst (λ p. Longest bs p s) e h.1, h.2 ∙ ap (λ n. n + length (spell s)) e)
here_law bs i at sp lt ns end h = absurd h
here_law bs i at sp lt ns (bad p) h = let e = sym h.0 in (subst (Spaces bs i) e sp, subst (λ p. p < length bs) e lt, subst (λ p. get_or bs p 0 ≡ 32 → ⊥) e ns, subst (Bad bs) e h.1)

pub law : (bs : List ℕ) (i : ℕ) → Lawful bs i (cut_at bs i)
law bs i = go (ltb (after_spaces bs i) (length bs)) refl
  where
    go : (b : Bool) → ltb (after_spaces bs i) (length bs) ≡ b → Lawful bs i (cond b (first_at bs (after_spaces bs i)) end)
    go true e = let lt = ltb-true (after_spaces bs i) (length bs) e in here_law bs i (after_spaces bs i) (spaces bs i) lt (no_space bs i lt) (first_at bs (after_spaces bs i)) (first_law bs (after_spaces bs i) lt)
    go false e = λ le. let n : after_spaces bs i ≡ length bs = omega (arith, ltb-false (after_spaces bs i) (length bs) e, prefix_len-le-length space (drop i bs), length-drop i bs) in subst (Spaces bs i) n (spaces bs i)

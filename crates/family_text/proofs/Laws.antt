-- What the words of a line are read as is what they spell.
use Rattle.std.proofs.Common.{IfOk, IfErr, get_or, Bor, ⊎_elim, filter, append_assoc, append-nil}
use Rattle.std.proofs.lemmas.Bool.{cases_lt}
use Rattle.std.specs.Char.{is_ascii_whitespace}
use Rattle.std.proofs.Common.{◌≡◌, ◌≢◌, ℕ, zero, suc, ◌+◌, ◌-◌, ◌*◌, ◌/◌, ◌%◌, ◌^◌, ◌<◌, ◌≤◌, inl, inr, Bool, true, false, not, cond, ◌&&◌, ltb, eqb, List, [], ◌∷◌, ◌++◌, length, take, drop, map, codes, Option, Some, None, Ok, Err, Result, bit_or, refl, sym, ap, ◌∙◌, subst, arith}
use Rattle.std.specs.List.{AllByRecursion, slice_split, before_first}
use Rattle.std.specs.Str.{bytes_eq}
use Rattle.std.specs.Fmt.{decimal}
use Rattle.std.specs.Int.{is_in_range}
use Rattle.std.proofs.lemmas.Fmt.{decimal_digit, decimal_step}
use Rattle.std.proofs.lemmas.Slice.Eq.{bytes_eq-Decides}
use Rattle.std.proofs.lemmas.Bool.Decides.{nat_tests}
use Rattle.families.specs.declared.Transition.{Transition}
use Rattle.book.specs.declared.records.Record.{Record}
use Rattle.book.specs.declared.records.Record.TheVariants.{AddProduct, AddTransition}
use Rattle.words.specs.Words.{number}
use Rattle.family_text.specs.declared.errors.Expected.{Expected}
use Rattle.family_text.specs.declared.errors.Expected.TheVariants.{Key, State, Action, Feature, Condition}
use Rattle.family_text.specs.Words.{Word, word_at, words_of, texts}
use Rattle.family_text.specs.declared.errors.ReadError.{ReadError}
use Rattle.family_text.specs.declared.errors.ReadError.TheVariants.{Line, OutOfMemory}
use Rattle.family_text.specs.Faults.{IsFirstWrong, IsFault}
use Rattle.family_text.proofs.Steps.{next_word, texts_more, length_before}
use Rattle.family_text.specs.Records.{encoding}
use Rattle.family_text.specs.Grammar.{Lists, union, NameSet, IsPart, IsCondition, IsState, Spells, said_by, Says, Tell}
use Rattle.family_text.specs.Reading.{◌>>=◌, or_expected, below_64, state_of, action_of, feature_of, features_from, part_of, before_bars, condition_of, transition_of, record_of}

-- ---- steps that may fail

never : {A B : Type 0} {e : Expected} {y : A} → ◌≡◌ {A = Result A Expected} (Err e) (Ok y) → B
never {A} {B} {e} {y} h = let z : ◌≡◌ {A = ℕ} 0 1 = cc in absurd (omega arith)

ok_is : {A : Type 0} {x y : A} → ◌≡◌ {A = Result A Expected} (Ok x) (Ok y) → x ≡ y
ok_is h = cc

bind_ok : {A B : Type 0} (r : Result A Expected) (f : A → Result B Expected) (y : B) → (r >>= f) ≡ Ok y → (x : A) × (r ≡ Ok x) × (f x ≡ Ok y)
bind_ok (Ok x) f y h = (x, refl, h)
bind_ok (Err e) f y h = never h

expected_ok : (e : Expected) (o : Option ℕ) (n : ℕ) → or_expected e o ≡ Ok n → o ≡ Some n
expected_ok e (Some m) n h = ap Some (ok_is h)
expected_ok e None n h = never h

same_bytes : (x y : List ℕ) → bytes_eq x y ≡ true → x ≡ y
same_bytes x y = (bytes_eq-Decides x y).0

pub bytes_same : (x y : List ℕ) → x ≡ y → bytes_eq x y ≡ true
bytes_same x y = (bytes_eq-Decides x y).1

bytes_differ : (x y : List ℕ) → x ≢ y → bytes_eq x y ≡ false
bytes_differ x y h = go (bytes_eq x y) refl
  where
    go : (b : Bool) → bytes_eq x y ≡ b → bytes_eq x y ≡ false
    go true e = absurd (h (same_bytes x y e))
    go false e = e

-- ---- features

pub features_named : (names : Lists) (ws : List Word) (set r : ℕ) → features_from names set ws ≡ Ok r
    → (ks : List ℕ) × (map (number names.features) ws ≡ map Some ks) × (r ≡ union set ks)
features_named names [] set r h = ([], refl, sym (ok_is h))
features_named names (w ∷ ws) set r h =
    let a = bind_ok (feature_of names w) (λ one. features_from names (bit_or set one) ws) r h in
    let b = bind_ok (or_expected Feature (number names.features w)) (λ k. Ok (2 ^ k)) a.0 a.1 in
    let n = expected_ok Feature (number names.features w) b.0 b.1 in
    let rest = features_named names ws (bit_or set a.0) r a.2 in (
      b.0 ∷ rest.0,
      ap (λ o. o ∷ map (number names.features) ws) n ∙ ap (λ os. Some b.0 ∷ os) rest.1,
      rest.2 ∙ ap (λ one. union (bit_or set one) rest.0) (sym (ok_is b.2)),
    )

head_is : {o p : Option ℕ} {os ps : List (Option ℕ)} → o ∷ os ≡ p ∷ ps → (o ≡ p) × (os ≡ ps)
head_is h = (cc, cc)

pub named_features : (names : Lists) (ws : List Word) (ks : List ℕ) (set : ℕ) → map (number names.features) ws ≡ map Some ks → features_from names set ws ≡ Ok (union set ks)
named_features names [] [] set h = refl
named_features names [] (k ∷ ks) set h = let z : ◌≡◌ {A = ℕ} 0 1 = cc in absurd (omega arith)
named_features names (w ∷ ws) [] set h = let z : ◌≡◌ {A = ℕ} 0 1 = cc in absurd (omega arith)
named_features names (w ∷ ws) (k ∷ ks) set h =
    let e = head_is h in
    ap (λ o. (or_expected Feature o >>= λ k. Ok (2 ^ k)) >>= λ one. features_from names (bit_or set one) ws) e.0
    ∙ named_features names ws ks (bit_or set (2 ^ k)) e.1

-- ---- the parts of a condition

pub part_sound : (names : Lists) (key : Word) (ws : List Word) (set : ℕ) → part_of names key ws ≡ Ok set → IsPart names key ws set
part_sound names key [] set h = inl (refl, sym (ok_is h))
part_sound names key (w ∷ []) set h = go (bytes_eq w key) h
  where
    go : (b : Bool) → ◌≡◌ {A = Result ℕ Expected} (cond b (Err Feature) (Err Condition)) (Ok set) → IsPart names key (w ∷ []) set
    go true e = never e
    go false e = never e
part_sound names key (w ∷ u ∷ us) set h = go (bytes_eq w key) refl h
  where
    go : (b : Bool) → bytes_eq w key ≡ b → cond b (features_from names 0 (u ∷ us)) (Err Condition) ≡ Ok set → IsPart names key (w ∷ u ∷ us) set
    go true e f = inr (u ∷ us, ap (λ x. x ∷ u ∷ us) (same_bytes w key e), (λ z. let y : ◌≡◌ {A = ℕ} 0 1 = cc in omega arith), features_named names (u ∷ us) 0 set f)
    go false e f = never f

pub part_complete : (names : Lists) (key : Word) (ws : List Word) (set : ℕ) → IsPart names key ws set → part_of names key ws ≡ Ok set
part_complete names key ws set (inl e) = ap (part_of names key) e.0 ∙ ap Ok (sym e.1)
part_complete names key ws set (inr p) = ap (part_of names key) p.1 ∙ go p.0 p.2 p.3
  where
    go : (us : List Word) → us ≢ [] → NameSet names us set → part_of names key (key ∷ us) ≡ Ok set
    go [] some n = absurd (some refl)
    go (u ∷ us) some n =
        ap (λ b. cond b (features_from names 0 (u ∷ us)) (Err Condition)) (bytes_same key key refl)
        ∙ named_features names (u ∷ us) n.0 0 n.1 ∙ ap Ok (sym n.2)

take-drop : (n : ℕ) (ws : List Word) → ws ≡ take n ws ++ drop n ws
take-drop zero ws = refl
take-drop (suc n) [] = refl
take-drop (suc n) (w ∷ ws) = ap (λ us. w ∷ us) (take-drop n ws)

pub condition_sound : (names : Lists) (ws : List Word) (p : ℕ × ℕ) → condition_of names ws ≡ Ok p → IsCondition names ws p.0 p.1
unfolding condition_of
condition_sound names ws p h =
    let a = bind_ok (part_of names (codes "needs") (take (before_bars ws) ws)) (λ a. part_of names (codes "bars") (drop (before_bars ws) ws) >>= λ b. Ok (a, b)) p h in
    let b = bind_ok (part_of names (codes "bars") (drop (before_bars ws) ws)) (λ b. Ok (a.0, b)) p a.2 in
    let e = ok_is b.2 in (
      take (before_bars ws) ws,
      drop (before_bars ws) ws,
      take-drop (before_bars ws) ws,
      part_sound names (codes "needs") (take (before_bars ws) ws) p.0 (a.1 ∙ ap (λ (q : ℕ × ℕ). Ok q.0) e),
      part_sound names (codes "bars") (drop (before_bars ws) ws) p.1 (b.1 ∙ ap (λ (q : ℕ × ℕ). Ok q.1) e),
    )

-- no feature is named `bars`
abbrev pub NoBars : Lists → Type 0
NoBars names = number names.features (codes "bars") ≡ None

abbrev Before : List Word → Type 0
Before ws = AllByRecursion (λ w. bytes_eq w (codes "bars") ≡ false) ws

named_before : (names : Lists) → NoBars names → (ws : List Word) (ks : List ℕ) → map (number names.features) ws ≡ map Some ks → Before ws
named_before names none [] ks h = tt
named_before names none (w ∷ ws) [] h = let z : ◌≡◌ {A = ℕ} 0 1 = cc in absurd (omega arith)
named_before names none (w ∷ ws) (k ∷ ks) h =
    let e = head_is h in
    (bytes_differ w (codes "bars") (λ f. some_none (sym e.0 ∙ ap (number names.features) f ∙ none)), named_before names none ws ks e.1)
  where
    some_none : {k : ℕ} → Some k ≡ None → ⊥
    some_none h = let z : ◌≡◌ {A = ℕ} 0 1 = cc in omega arith

before_is : (us vs : List Word) → Before us → before_bars vs ≡ 0 → before_bars (us ++ vs) ≡ length us
before_is [] vs h e = e
before_is (u ∷ us) vs h e =
    ap (λ b. cond (not b) (1 + before_bars (us ++ vs)) 0) h.0 ∙ ap (λ n. 1 + n) (before_is us vs h.1 e) ∙ omega arith

needs_before : (names : Lists) → NoBars names → (ws : List Word) (set : ℕ) → IsPart names (codes "needs") ws set → Before ws
needs_before names none ws set (inl e) = subst Before (sym e.0) tt
needs_before names none ws set (inr p) = subst Before (sym p.1) (refl, named_before names none p.0 p.3.0 p.3.1)

bars_first : (names : Lists) (ws : List Word) (set : ℕ) → IsPart names (codes "bars") ws set → before_bars ws ≡ 0
bars_first names ws set (inl e) = ap before_bars e.0
bars_first names ws set (inr p) = ap before_bars p.1

front : (us vs : List Word) → take (length us) (us ++ vs) ≡ us
front [] vs = refl
front (u ∷ us) vs = ap (λ xs. u ∷ xs) (front us vs)

back : (us vs : List Word) → drop (length us) (us ++ vs) ≡ vs
back [] vs = refl
back (u ∷ us) vs = back us vs

pub condition_complete : (names : Lists) → NoBars names → (ws : List Word) (r x : ℕ) → IsCondition names ws r x → condition_of names ws ≡ Ok (r, x)
unfolding condition_of
condition_complete names none ws r x c = ap (condition_of names) c.2 ∙ go c.0 c.1 c.3 c.4
  where
    go : (us vs : List Word) → IsPart names (codes "needs") us r → IsPart names (codes "bars") vs x → condition_of names (us ++ vs) ≡ Ok (r, x)
    go us vs p q =
        let n = before_is us vs (needs_before names none us r p) (bars_first names vs x q) in
        ap (λ k. part_of names (codes "needs") (take k (us ++ vs)) >>= λ a. part_of names (codes "bars") (drop k (us ++ vs)) >>= λ b. Ok (a, b)) n
        ∙ ap (λ t. part_of names (codes "needs") t >>= λ a. part_of names (codes "bars") (drop (length us) (us ++ vs)) >>= λ b. Ok (a, b)) (front us vs)
        ∙ ap (λ t. part_of names (codes "needs") us >>= λ a. part_of names (codes "bars") t >>= λ b. Ok (a, b)) (back us vs)
        ∙ ap (λ s. s >>= λ a. part_of names (codes "bars") vs >>= λ b. Ok (a, b)) (part_complete names (codes "needs") us r p)
        ∙ ap (λ s. s >>= λ b. Ok (r, b)) (part_complete names (codes "bars") vs x q)

-- ---- states

below_is : (n s : ℕ) → below_64 n ≡ Ok s → (n ≡ s) × (n < 64)
below_is n s h = go (ltb n 64) refl h
  where
    go : (b : Bool) → ltb n 64 ≡ b → ◌≡◌ {A = Result ℕ Expected} (cond b (Ok n) (Err State)) (Ok s) → (n ≡ s) × (n < 64)
    go true t e = (ok_is e, grind (arith, nat_tests))
    go false t e = never e

is_below : (n : ℕ) → n < 64 → below_64 n ≡ Ok n
is_below n h = let t : ltb n 64 ≡ true = grind (arith, nat_tests) in ap (λ b. cond b (Ok n) (Err State)) t

digit : (one : ℕ) → is_in_range 48 57 one ≡ true → (48 ≤ one) × (one < 58)
digit one h = (grind (arith, nat_tests), grind (arith, nat_tests))

lead : (ten : ℕ) → is_in_range 49 54 ten ≡ true → (49 ≤ ten) × (ten < 55)
lead ten h = (grind (arith, nat_tests), grind (arith, nat_tests))

both : (a b : Bool) → (a && b) ≡ true → (a ≡ true) × (b ≡ true)
both true b h = (refl, h)
both false b h = let z : ◌≡◌ {A = ℕ} 0 1 = cc in absurd (omega arith)

pub two_digits : (s : ℕ) → 10 ≤ s → s < 64 → decimal s ≡ (48 + s / 10) ∷ (48 + s % 10) ∷ []
two_digits s low high =
    decimal_step s low (omega arith) ∙ ap (λ ds. ds ++ (48 + s % 10) ∷ []) (decimal_digit (s / 10) (omega arith))

pub state_sound : (w : Word) (s : ℕ) → state_of w ≡ Ok s → IsState w s
state_sound [] s h = never h
state_sound (one ∷ []) s h = go (is_in_range 48 57 one) refl h
  where
    go : (b : Bool) → is_in_range 48 57 one ≡ b → cond b (below_64 (one - 48)) (Err State) ≡ Ok s → IsState (one ∷ []) s
    go true t e =
        let d = digit one t in
        let n = below_is (one - 48) s e in
        (ap (λ x. x ∷ []) (omega arith) ∙ sym (decimal_digit s (omega arith)), omega arith)
    go false t e = never e
state_sound (ten ∷ one ∷ []) s h = go (is_in_range 49 54 ten && is_in_range 48 57 one) refl h
  where
    go : (b : Bool) → (is_in_range 49 54 ten && is_in_range 48 57 one) ≡ b → cond b (below_64 (10 * (ten - 48) + (one - 48))) (Err State) ≡ Ok s → IsState (ten ∷ one ∷ []) s
    go true t e =
        let b = both (is_in_range 49 54 ten) (is_in_range 48 57 one) t in
        let l = lead ten b.0 in
        let d = digit one b.1 in
        let n = below_is (10 * (ten - 48) + (one - 48)) s e in
        let x : ten ≡ 48 + s / 10 = omega arith in
        let y : one ≡ 48 + s % 10 = omega arith in
        (ap (λ v. v ∷ one ∷ []) x ∙ ap (λ v. (48 + s / 10) ∷ v ∷ []) y ∙ sym (two_digits s (omega arith) (omega arith)), omega arith)
    go false t e = never e
state_sound (a ∷ b ∷ c ∷ ws) s h = never h

pub state_complete : (w : Word) (s : ℕ) → IsState w s → state_of w ≡ Ok s
state_complete w s h = ap state_of h.0 ∙ ⊎_elim small large (cases_lt s 10)
  where
    small : s < 10 → state_of (decimal s) ≡ Ok s
    small lt =
        let t : is_in_range 48 57 (48 + s) ≡ true = grind (arith, nat_tests) in
        ap state_of (decimal_digit s lt) ∙ ap (λ b. cond b (below_64 (48 + s - 48)) (Err State)) t
        ∙ ap below_64 (omega arith) ∙ is_below s h.1

    large : 10 ≤ s → state_of (decimal s) ≡ Ok s
    large le =
        let lt : s < 64 = h.1 in
        let t : is_in_range 49 54 (48 + s / 10) ≡ true = grind (arith, nat_tests) in
        let u : is_in_range 48 57 (48 + s % 10) ≡ true = grind (arith, nat_tests) in
        let n : 10 * (48 + s / 10 - 48) + (48 + s % 10 - 48) ≡ s = omega arith in
        ap state_of (two_digits s le lt)
        ∙ ap (λ b. cond (b && is_in_range 48 57 (48 + s % 10)) (below_64 (10 * (48 + s / 10 - 48) + (48 + s % 10 - 48))) (Err State)) t
        ∙ ap (λ b. cond b (below_64 (10 * (48 + s / 10 - 48) + (48 + s % 10 - 48))) (Err State)) u
        ∙ ap below_64 n ∙ is_below s lt

-- ---- transitions

four_words : (ws : List Word) (x : ℕ) → state_of (word_at ws 3) ≡ Ok x → ws ≡ word_at ws 0 ∷ word_at ws 1 ∷ word_at ws 2 ∷ word_at ws 3 ∷ drop 4 ws
four_words [] x h = never h
four_words (a ∷ []) x h = never h
four_words (a ∷ b ∷ []) x h = never h
four_words (a ∷ b ∷ c ∷ []) x h = never h
four_words (a ∷ b ∷ c ∷ d ∷ ws) x h = refl

made : ℕ → ℕ → ℕ → ℕ × ℕ → Transition
made s a t p = record { source = s; action = a; target = t; required = p.0; excluded = p.1 }

pub transition_sound : (names : Lists) (ws : List Word) (t : Transition) → word_at ws 0 ≡ codes "step" → transition_of names ws ≡ Ok t → Spells names ws (AddTransition t)
unfolding transition_of made
transition_sound names ws t key h =
    let a = bind_ok (state_of (word_at ws 1)) (λ s. action_of names (word_at ws 2) >>= λ a. state_of (word_at ws 3) >>= λ t. condition_of names (drop 4 ws) >>= λ p. Ok (made s a t p)) t h in
    let b = bind_ok (action_of names (word_at ws 2)) (λ b. state_of (word_at ws 3) >>= λ t. condition_of names (drop 4 ws) >>= λ p. Ok (made a.0 b t p)) t a.2 in
    let c = bind_ok (state_of (word_at ws 3)) (λ c. condition_of names (drop 4 ws) >>= λ p. Ok (made a.0 b.0 c p)) t b.2 in
    let d = bind_ok (condition_of names (drop 4 ws)) (λ p. Ok (made a.0 b.0 c.0 p)) t c.2 in
    let e = ok_is d.2 in
    let P : Transition → Type 0 = λ t. Spells names ws (AddTransition t) in
    subst P e (
      word_at ws 1,
      word_at ws 2,
      word_at ws 3,
      drop 4 ws,
      four_words ws c.0 c.1 ∙ ap (λ w. w ∷ word_at ws 1 ∷ word_at ws 2 ∷ word_at ws 3 ∷ drop 4 ws) key,
      state_sound (word_at ws 1) a.0 a.1,
      expected_ok Action (number names.actions (word_at ws 2)) b.0 b.1,
      state_sound (word_at ws 3) c.0 c.1,
      condition_sound names (drop 4 ws) d.0 d.1,
    )

-- ---- records

abbrev step_word : Word
step_word = codes "step"

one_word : (ws : List Word) (w : Word) → word_at ws 0 ≡ w → w ≢ [] → ws ≡ w ∷ drop 1 ws
one_word [] w e some = absurd (some (sym e))
one_word (v ∷ ws) w e some = ap (λ x. x ∷ ws) e

pub record_sound : (names : Lists) (ws : List Word) (r : Record) → record_of names ws ≡ Ok (Some r) → Spells names ws r
unfolding record_of
record_sound names ws r h = go (bytes_eq (word_at ws 0) []) (bytes_eq (word_at ws 0) (codes "vat")) (bytes_eq (word_at ws 0) step_word) refl refl h
  where
    some_is : {x y : Record} → ◌≡◌ {A = Result (Option Record) Expected} (Ok (Some x)) (Ok (Some y)) → x ≡ y
    some_is h = cc

    vat : word_at ws 0 ≡ codes "vat" → (features_from names 0 (drop 1 ws) >>= λ set. Ok (Some (AddProduct set))) ≡ Ok (Some r) → Spells names ws r
    vat key e =
        let a = bind_ok (features_from names 0 (drop 1 ws)) (λ set. Ok (Some (AddProduct set))) (Some r) e in
        subst (Spells names ws) (some_is a.2)
        (drop 1 ws, one_word ws (codes "vat") key (λ z. let y : ◌≡◌ {A = ℕ} 0 1 = cc in omega arith), features_named names (drop 1 ws) 0 a.0 a.1)

    step : word_at ws 0 ≡ step_word → (transition_of names ws >>= λ t. Ok (Some (AddTransition t))) ≡ Ok (Some r) → Spells names ws r
    step key e =
        let a = bind_ok (transition_of names ws) (λ t. Ok (Some (AddTransition t))) (Some r) e in
        subst (Spells names ws) (some_is a.2) (transition_sound names ws a.0 key a.1)

    none_some : {B : Type 0} {x : Record} → ◌≡◌ {A = Result (Option Record) Expected} (Ok None) (Ok (Some x)) → B
    none_some h = let z : ◌≡◌ {A = ℕ} 0 1 = cc in absurd (omega arith)

    go : (a b c : Bool) → bytes_eq (word_at ws 0) (codes "vat") ≡ b → bytes_eq (word_at ws 0) step_word ≡ c
        → cond a (Ok None) (cond b (features_from names 0 (drop 1 ws) >>= λ set. Ok (Some (AddProduct set))) (cond c (transition_of names ws >>= λ t. Ok (Some (AddTransition t))) (Err Key))) ≡ Ok (Some r)
        → Spells names ws r
    go true b c e f g = none_some g
    go false true c e f g = vat (same_bytes (word_at ws 0) (codes "vat") e) g
    go false false true e f g = step (same_bytes (word_at ws 0) step_word f) g
    go false false false e f g = never g

-- a line with no record has no first word
pub nothing_sound : (names : Lists) (ws : List Word) → record_of names ws ≡ Ok None → word_at ws 0 ≡ []
unfolding record_of
nothing_sound names ws h = go (bytes_eq (word_at ws 0) []) (bytes_eq (word_at ws 0) (codes "vat")) (bytes_eq (word_at ws 0) step_word) refl h
  where
    some_none : {x : Record} → ◌≡◌ {A = Result (Option Record) Expected} (Ok (Some x)) (Ok None) → ⊥
    some_none h = let z : ◌≡◌ {A = ℕ} 0 1 = cc in omega arith

    go : (a b c : Bool) → bytes_eq (word_at ws 0) [] ≡ a
        → cond a (Ok None) (cond b (features_from names 0 (drop 1 ws) >>= λ set. Ok (Some (AddProduct set))) (cond c (transition_of names ws >>= λ t. Ok (Some (AddTransition t))) (Err Key))) ≡ Ok None
        → word_at ws 0 ≡ []
    go true b c e g = same_bytes (word_at ws 0) [] e
    go false true c e g = absurd (some_none (bind_ok (features_from names 0 (drop 1 ws)) (λ set. Ok (Some (AddProduct set))) None g).2)
    go false false true e g = absurd (some_none (bind_ok (transition_of names ws) (λ t. Ok (Some (AddTransition t))) None g).2)
    go false false false e g = never g

pub record_complete : (names : Lists) → NoBars names → (ws : List Word) (r : Record) → Spells names ws r → record_of names ws ≡ Ok (Some r)
unfolding record_of transition_of
record_complete names none ws (AddProduct configuration) s = ap (record_of names) s.1 ∙ go s.0 s.2
  where
    go : (us : List Word) → NameSet names us configuration → record_of names (codes "vat" ∷ us) ≡ Ok (Some (AddProduct configuration))
    go us n = ap (λ x. x >>= λ set. Ok (Some (AddProduct set))) (named_features names us n.0 0 n.1 ∙ ap Ok (sym n.2))
record_complete names none ws (AddTransition t) s = ap (record_of names) s.4 ∙ go s.0 s.1 s.2 s.3 s.5 s.6 s.7 s.8
  where
    go : (u v w : Word) (cs : List Word) → IsState u t.source → number names.actions v ≡ Some t.action → IsState w t.target → IsCondition names cs t.required t.excluded
        → record_of names (codes "step" ∷ u ∷ v ∷ w ∷ cs) ≡ Ok (Some (AddTransition t))
    go u v w cs a b c d =
        ap (λ x. (x >>= λ s. or_expected Action (number names.actions v) >>= λ a. state_of w >>= λ g. condition_of names cs >>= λ p. Ok (record { source = s; action = a; target = g; required = p.0; excluded = p.1 })) >>= λ t. Ok (Some (AddTransition t))) (state_complete u t.source a)
        ∙ ap (λ x. (or_expected Action x >>= λ a. state_of w >>= λ g. condition_of names cs >>= λ p. Ok (record { source = t.source; action = a; target = g; required = p.0; excluded = p.1 })) >>= λ t. Ok (Some (AddTransition t))) b
        ∙ ap (λ x. (x >>= λ g. condition_of names cs >>= λ p. Ok (record { source = t.source; action = t.action; target = g; required = p.0; excluded = p.1 })) >>= λ t. Ok (Some (AddTransition t))) (state_complete w t.target c)
        ∙ ap (λ x. (x >>= λ p. Ok (record { source = t.source; action = t.action; target = t.target; required = p.0; excluded = p.1 })) >>= λ t. Ok (Some (AddTransition t))) (condition_complete names none cs t.required t.excluded d)

-- ---- lines

first_word : (ws : List Word) → word_at (filter (λ w. ltb 0 (length w)) ws) 0 ≡ [] → filter (λ w. ltb 0 (length w)) ws ≡ []
first_word [] e = refl
first_word (w ∷ ws) e = go (ltb 0 (length w)) refl e (first_word ws)
  where
    go : (b : Bool) → ltb 0 (length w) ≡ b → word_at (cond b (w ∷ filter (λ w. ltb 0 (length w)) ws) (filter (λ w. ltb 0 (length w)) ws)) 0 ≡ []
        → (word_at (filter (λ w. ltb 0 (length w)) ws) 0 ≡ [] → filter (λ w. ltb 0 (length w)) ws ≡ [])
        → cond b (w ∷ filter (λ w. ltb 0 (length w)) ws) (filter (λ w. ltb 0 (length w)) ws) ≡ []
    go true t e f = let z : ltb 0 (length w) ≡ ltb 0 0 = ap (λ x. ltb 0 (length x)) e in let y : ◌≡◌ {A = ℕ} 0 1 = cc in absurd (omega arith)
    go false t e f = f e

pub says : (names : Lists) (line : List ℕ) (o : Option Record) → Ok o ≡ record_of names (words_of line) → Says names line (said_by o)
says names line None e =
    inl (first_word (slice_split is_ascii_whitespace (before_first (λ b. eqb b 35) line)) (nothing_sound names (words_of line) (sym e)), refl)
says names line (Some r) e = inr (r, record_sound names (words_of line) r (sym e), refl)

pub says_read : (names : Lists) → NoBars names → (line : List ℕ) (rs : List Record) → Says names line rs → (o : Option Record) × (record_of names (words_of line) ≡ Ok o) × (rs ≡ said_by o)
unfolding record_of
says_read names none line rs (inl e) = (None, ap (record_of names) e.0 ∙ nothing names, e.1)
  where
    nothing : (names : Lists) → record_of names [] ≡ Ok None
    nothing names = refl
says_read names none line rs (inr p) = (Some p.0, record_complete names none (words_of line) p.0 p.1, p.2)

pub says_same : (names : Lists) → NoBars names → (line : List ℕ) (rs qs : List Record) → Says names line rs → Says names line qs → rs ≡ qs
says_same names none line rs qs a b =
    let x = says_read names none line rs a in
    let y = says_read names none line qs b in
    x.2 ∙ ap said_by (ok_is (sym x.1 ∙ y.1)) ∙ sym y.2

pub says_right : (names : Lists) → NoBars names → (line : List ℕ) (e : Expected) → record_of names (words_of line) ≡ Err e → (rs : List Record) → Says names line rs → ⊥
says_right names none line e h rs s = let x = says_read names none line rs s in never (sym h ∙ x.1)

pub tell_push : (names : Lists) (lines : List (List ℕ)) (line : List ℕ) (rs qs : List Record) → Tell names lines rs → Says names line qs → Tell names (lines ++ line ∷ []) (rs ++ qs)
tell_push names [] line rs qs h s = (qs, [], s, refl, ap (λ x. x ++ qs) h ∙ sym (append-nil qs))
tell_push names (l ∷ ls) line rs qs h s =
    (h.0, h.1 ++ qs, h.2, tell_push names ls line h.1 qs h.3 s, ap (λ x. x ++ qs) h.4 ∙ append_assoc h.0 h.1 qs)

pub tell_same : (names : Lists) → NoBars names → (lines : List (List ℕ)) (rs qs : List Record) → Tell names lines rs → Tell names lines qs → rs ≡ qs
tell_same names none [] rs qs a b = a ∙ sym b
tell_same names none (l ∷ ls) rs qs a b =
    a.4 ∙ ap (λ x. x ++ a.1) (says_same names none l a.0 b.0 a.2 b.2) ∙ ap (λ x. b.0 ++ x) (tell_same names none ls a.1 b.1 a.3 b.3) ∙ sym b.4

pub tell_at : (names : Lists) (before : List (List ℕ)) (line : List ℕ) (after : List (List ℕ)) (rs : List Record) → Tell names (before ++ line ∷ after) rs → (qs : List Record) × Says names line qs
tell_at names [] line after rs h = (h.0, h.2)
tell_at names (b ∷ bs) line after rs h = tell_at names bs line after h.1 h.3

pub next_line : (names : Lists) (lines : List (Bor (List ℕ))) (i : ℕ) (d : Bor (List ℕ)) (rs : List Record) (o : Option Record) → i < length lines → Tell names (take i (texts lines)) rs
    → Ok o ≡ record_of names (words_of (get_or lines i d).now) → Tell names (take (i + 1) (texts lines)) (rs ++ said_by o)
next_line names lines i d rs o lt t e =
    subst (λ ls. Tell names ls (rs ++ said_by o)) (sym (texts_more lines i d lt)) (tell_push names (take i (texts lines)) (get_or lines i d).now rs (said_by o) t (says names (get_or lines i d).now o e))

pub first_wrong : (names : Lists) → NoBars names → (lines : List (Bor (List ℕ))) (i : ℕ) (d : Bor (List ℕ)) (rs : List Record) (e : Expected) → i < length lines → Tell names (take i (texts lines)) rs
    → Err e ≡ record_of names (words_of (get_or lines i d).now) → IsFirstWrong names (texts lines) (i + 1) e
first_wrong names none lines i d rs e lt t h = record {
  before = take i (texts lines);
  line = (get_or lines i d).now;
  after = drop (i + 1) (texts lines);
  here = take-drop i (texts lines) ∙ ap (λ ls. take i (texts lines) ++ ls) (next_word lines i d lt);
  counted = ap (λ n. n + 1) (sym (length_before lines i lt));
  right = (rs, t);
  wrong = says_right names none (get_or lines i d).now e (sym h);
  missing = sym h;
}

pub told_once : (names : Lists) → NoBars names → (lines : List (List ℕ)) (rs : List Record) (n : ℕ) (e : Expected) → Tell names lines rs → IsFirstWrong names lines n e → ⊥
told_once names none lines rs n e t w =
    let s = tell_at names w.before w.line w.after rs (subst (λ ls. Tell names ls rs) w.here t) in w.wrong s.0 s.1

-- what is read of lines that say these records
pub only_these : {V : Type 0} (items : V → List ℕ) (names : Lists) → NoBars names → (lines : List (List ℕ)) (r : Result V ReadError)
    → IfOk r (λ v. (said : List Record) × Tell names lines said × (items v ≡ encoding said)) → IfErr r (IsFault names lines)
    → (said : List Record) → Tell names lines said → IfErr r (λ e. e ≡ OutOfMemory) × IfOk r (λ v. items v ≡ encoding said)
only_these items names none lines (Ok v) p f said t = (tt, p.2 ∙ ap encoding (tell_same names none lines p.0 said p.1 t))
only_these items names none lines (Err (Line n e)) p f said t = absurd (told_once names none lines said n e t f)
only_these items names none lines (Err OutOfMemory) p f said t = (refl, tt)

-- What is printed is read again.
use Rattle.std.proofs.Common.{◌≡◌, ℕ, zero, suc, ◌+◌, ◌*◌, ◌/◌, ◌%◌, ◌^◌, ◌<◌, ◌≤◌, ◌⊎◌, inl, inr, ⊎_elim, Bool, true, false, not, cond, ltb, eqb, List, [], ◌∷◌, ◌++◌, length, map, filter, take, codes, Some, bit_or, refl, sym, ap, ◌∙◌, subst, append_assoc, append-nil, arith}
use Rattle.std.specs.List.{prefix_len, slice_split, before_first, AllByRecursion}
use Rattle.std.specs.Char.{is_ascii_whitespace}
use Rattle.std.specs.Fmt.{decimal}
use Rattle.std.proofs.lemmas.Fmt.{decimal_digit}
use Rattle.std.proofs.lemmas.Nat.{mod-pow-add}
use Rattle.std.specs.Int.Bits.{or_shifted_r}
use Rattle.std.proofs.Math.Nat.{mod-eq_of_lt, mod-lt}
use Rattle.std.proofs.lemmas.Nat.{pow_pos}
use Rattle.std.proofs.lemmas.List.Sums.{fold-append}
use Rattle.std.proofs.lemmas.List.Elements.{All-from_recursion}
use Rattle.std.proofs.lemmas.List.Splits.{slice_split_none, slice_split_at}
use Rattle.std.proofs.lemmas.Bool.{cases_lt, eqb-true}
use Rattle.std.proofs.lemmas.Bool.Decides.{nat_tests}
use Rattle.families.specs.Bits.{bit}
use Rattle.families.specs.declared.Transition.{Transition}
use Rattle.book.specs.declared.records.Record.{Record}
use Rattle.book.specs.declared.records.Record.TheVariants.{AddProduct, AddTransition}
use Rattle.lexer.specs.Tokens.{Name, in_name}
use Rattle.words.specs.Words.{number, WordList}
use Rattle.words.proofs.Numbers.{Numbered, apart_numbered}
use Rattle.family_text.specs.Words.{Word, word_at, words_of, lines_of}
use Rattle.family_text.specs.Grammar.{Lists, union, NameSet, IsPart, Spells, Tell, Describes}
use Rattle.family_text.specs.Printing.{spaced, one_if, features_below, feature_words, part_words, transition_words, line_for, text_for, Named, IsPrintable}
use Rattle.family_text.proofs.Laws.{two_digits}

-- ---- words of small letters and digits

abbrev pub Plain : Word → Type 0
Plain w = (0 < length w) × AllByRecursion (λ b. in_name b ≡ true) w

abbrev NoHash : List ℕ → Type 0
NoHash bs = AllByRecursion (λ b. eqb b 35 ≡ false) bs

abbrev OneLine : List ℕ → Type 0
OneLine bs = AllByRecursion (λ b. eqb b 10 ≡ false) bs

weaker : (P Q : ℕ → Type 0) → ((b : ℕ) → P b → Q b) → (bs : List ℕ) → AllByRecursion P bs → AllByRecursion Q bs
weaker P Q f [] h = tt
weaker P Q f (b ∷ bs) h = (f b h.0, weaker P Q f bs h.1)

both_parts : (P : ℕ → Type 0) (xs ys : List ℕ) → AllByRecursion P xs → AllByRecursion P ys → AllByRecursion P (xs ++ ys)
both_parts P [] ys a b = b
both_parts P (x ∷ xs) ys a b = (a.0, both_parts P xs ys a.1 b)

no_white : (b : ℕ) → in_name b ≡ true → is_ascii_whitespace b ≡ false
no_white b h = grind (arith, nat_tests)

no_hash : (b : ℕ) → in_name b ≡ true → eqb b 35 ≡ false
no_hash b h = grind (arith, nat_tests)

no_end : (b : ℕ) → in_name b ≡ true → eqb b 10 ≡ false
no_end b h = grind (arith, nat_tests)

-- a test that fails at each byte of plain words and at spaces fails at all bytes of a line
in_line : (P : ℕ → Type 0) → P 32 → ((b : ℕ) → in_name b ≡ true → P b) → (ws : List Word) → AllByRecursion Plain ws → AllByRecursion P (spaced ws)
in_line P space f [] h = tt
in_line P space f (w ∷ ws) h = (space, both_parts P w (spaced ws) (weaker (λ b. in_name b ≡ true) P f w h.0.1) (in_line P space f ws h.1))

line_all : (P : ℕ → Type 0) → P 32 → ((b : ℕ) → in_name b ≡ true → P b) → (w : Word) (ws : List Word) → Plain w → AllByRecursion Plain ws → AllByRecursion P (w ++ spaced ws)
line_all P space f w ws p h = both_parts P w (spaced ws) (weaker (λ b. in_name b ≡ true) P f w p.1) (in_line P space f ws h)

-- ---- the words of a line

split_words : (w : Word) (ws : List Word) → Plain w → AllByRecursion Plain ws → slice_split is_ascii_whitespace (w ++ spaced ws) ≡ w ∷ ws
split_words w [] p h =
    ap (slice_split is_ascii_whitespace) (append-nil w)
    ∙ slice_split_none is_ascii_whitespace w (All-from_recursion (λ b. is_ascii_whitespace b ≡ false) w (weaker (λ b. in_name b ≡ true) (λ b. is_ascii_whitespace b ≡ false) no_white w p.1))
split_words w (v ∷ vs) p h =
    slice_split_at is_ascii_whitespace w 32 (v ++ spaced vs) (All-from_recursion (λ b. is_ascii_whitespace b ≡ false) w (weaker (λ b. in_name b ≡ true) (λ b. is_ascii_whitespace b ≡ false) no_white w p.1)) refl
    ∙ ap (λ us. w ∷ us) (split_words v vs h.0 h.1)

kept : (ws : List Word) → AllByRecursion Plain ws → filter (λ w. ltb 0 (length w)) ws ≡ ws
kept [] h = refl
kept (w ∷ ws) h =
    let lt : 0 < length w = h.0.0 in
    let t : ltb 0 (length w) ≡ true = grind (arith, nat_tests) in
    ap (λ b. cond b (w ∷ filter (λ w. ltb 0 (length w)) ws) (filter (λ w. ltb 0 (length w)) ws)) t ∙ ap (λ us. w ∷ us) (kept ws h.1)

uncut : (bs : List ℕ) → NoHash bs → before_first (λ b. eqb b 35) bs ≡ bs
uncut [] h = refl
uncut (b ∷ bs) h =
    let m : 1 + prefix_len (λ b. not (eqb b 35)) bs ≡ suc (prefix_len (λ b. not (eqb b 35)) bs) = omega arith in
    ap (λ t. take (cond (not t) (1 + prefix_len (λ b. not (eqb b 35)) bs) 0) (b ∷ bs)) h.0
    ∙ ap (λ n. take n (b ∷ bs)) m ∙ ap (λ cs. b ∷ cs) (uncut bs h.1)

pub words_again : (w : Word) (ws : List Word) → Plain w → AllByRecursion Plain ws → words_of (w ++ spaced ws) ≡ w ∷ ws
words_again w ws p h =
    ap (λ bs. filter (λ w. ltb 0 (length w)) (slice_split is_ascii_whitespace bs)) (uncut (w ++ spaced ws) (line_all (λ b. eqb b 35 ≡ false) refl no_hash w ws p h))
    ∙ ap (filter (λ w. ltb 0 (length w))) (split_words w ws p h) ∙ kept (w ∷ ws) (p, h)

-- ---- names and numbers

plain_name : (w : Word) → Name w → Plain w
plain_name [] n = let e : false ≡ true = n.run.first in let z : ◌≡◌ {A = ℕ} 0 1 = cc in absurd (omega arith)
plain_name (b ∷ bs) n = (omega arith, n.run.rest)

plain_names : (ws : List Word) → AllByRecursion Name ws → AllByRecursion Plain ws
plain_names [] h = tt
plain_names (w ∷ ws) h = (plain_name w h.0, plain_names ws h.1)

digit_plain : (d : ℕ) → d < 10 → in_name (48 + d) ≡ true
digit_plain d h = grind (arith, nat_tests)

plain_decimal : (s : ℕ) → s < 64 → Plain (decimal s)
plain_decimal s h = ⊎_elim small large (cases_lt s 10)
  where
    small : s < 10 → Plain (decimal s)
    small lt = subst Plain (sym (decimal_digit s lt)) (omega arith, (digit_plain s lt, tt))

    large : 10 ≤ s → Plain (decimal s)
    large le = subst Plain (sym (two_digits s le h)) (omega arith, (digit_plain (s / 10) (omega arith), (digit_plain (s % 10) (omega arith), tt)))

-- Two lists of plain names, each at its number.
pub record Known (names : Lists) : Type 0 where
  pub actions : AllByRecursion Plain names.actions
  pub features : AllByRecursion Plain names.features
  pub action_numbers : Numbered names.actions
  pub feature_numbers : Numbered names.features

pub known : {m n : ℕ} {bs cs : List ℕ} (names : Lists) → WordList m bs names.actions → WordList n cs names.features → Known names
known names a f = record {
  actions = plain_names names.actions a.names;
  features = plain_names names.features f.names;
  action_numbers = apart_numbered names.actions a.apart;
  feature_numbers = apart_numbered names.features f.apart;
}

at : (ws : List Word) (k : ℕ) → k < length ws → AllByRecursion Plain ws → Plain (word_at ws k)
at [] k lt h = absurd (omega arith)
at (w ∷ ws) zero lt h = h.0
at (w ∷ ws) (suc k) lt h = at ws k (omega arith) h.1

-- ---- sets

abbrev In : Lists → List ℕ → Type 0
In names ks = AllByRecursion (λ k. k < length names.features) ks

below_in : (names : Lists) (set n : ℕ) → n ≤ 16 → Named names set → In names (features_below set n)
unfolding features_below
below_in names set zero le h = tt
below_in names set (suc n) le h = both_parts (λ k. k < length names.features) (features_below set n) (one_if (bit set n) n) (below_in names set n (omega arith) h) (one (bit set n) refl)
  where
    one : (b : Bool) → bit set n ≡ b → In names (one_if b n)
    one true e = (h.1 n (omega arith) e, tt)
    one false e = tt

words_plain : (names : Lists) → Known names → (ks : List ℕ) → In names ks → AllByRecursion Plain (map (word_at names.features) ks)
words_plain names n [] h = tt
words_plain names n (k ∷ ks) h = (at names.features k h.0 n.features, words_plain names n ks h.1)

numbers_again : (names : Lists) → Known names → (ks : List ℕ) → In names ks → map (number names.features) (map (word_at names.features) ks) ≡ map Some ks
numbers_again names n [] h = refl
numbers_again names n (k ∷ ks) h =
    ap (λ o. o ∷ map (number names.features) (map (word_at names.features) ks)) (n.feature_numbers k h.0) ∙ ap (λ os. Some k ∷ os) (numbers_again names n ks h.1)

digit_cases : (n : ℕ) → (n % 2 ≡ 0) ⊎ (n % 2 ≡ 1)
digit_cases n = ⊎_elim (λ a. inl (omega arith)) (λ b. inr (omega arith)) (cases_lt (n % 2) 1)

union_below : (set n : ℕ) → union 0 (features_below set n) ≡ set % 2 ^ n
unfolding features_below
union_below set zero = omega arith
union_below set (suc n) =
    fold-append (λ s k. bit_or s (2 ^ k)) 0 (features_below set n) (one_if (bit set n) n)
    ∙ ap (λ s. union s (one_if (bit set n) n)) (union_below set n) ∙ go (digit_cases (set / 2 ^ n))
  where
    top : set % 2 ^ suc n ≡ set / 2 ^ n % 2 * 2 ^ n + set % 2 ^ n
    top = let e : suc n ≡ 1 + n = omega arith in ap (λ k. set % 2 ^ k) e ∙ mod-pow-add set 1 n

    go : (set / 2 ^ n % 2 ≡ 0) ⊎ (set / 2 ^ n % 2 ≡ 1) → union (set % 2 ^ n) (one_if (bit set n) n) ≡ set % 2 ^ suc n
    go (inl e) =
        let z : 0 * 2 ^ n + set % 2 ^ n ≡ set % 2 ^ n = omega arith in
        ap (λ d. union (set % 2 ^ n) (one_if (eqb d 1) n)) e ∙ sym (top ∙ ap (λ d. d * 2 ^ n + set % 2 ^ n) e ∙ z)
    go (inr e) =
        let one : 2 ^ n ≡ 1 * 2 ^ n = omega arith in
        ap (λ d. union (set % 2 ^ n) (one_if (eqb d 1) n)) e
        ∙ ap (bit_or (set % 2 ^ n)) one ∙ or_shifted_r 1 n (set % 2 ^ n) (mod-lt set (pow_pos n))
        ∙ sym (top ∙ ap (λ d. d * 2 ^ n + set % 2 ^ n) e)

union_again : (set : ℕ) → set < 2 ^ 16 → union 0 (features_below set 16) ≡ set
union_again set h = union_below set 16 ∙ mod-eq_of_lt h

set_again : (names : Lists) → Known names → (set : ℕ) → Named names set → NameSet names (feature_words names set) set
set_again names n set h =
    (features_below set 16, numbers_again names n (features_below set 16) (below_in names set 16 (omega arith) h), sym (union_again set h.0))

set_plain : (names : Lists) → Known names → (set : ℕ) → Named names set → AllByRecursion Plain (feature_words names set)
set_plain names n set h = words_plain names n (features_below set 16) (below_in names set 16 (omega arith) h)

no_words : (names : Lists) (set : ℕ) → set < 2 ^ 16 → feature_words names set ≡ [] → set ≡ 0
no_words names set h e = sym (union_again set h) ∙ ap (union 0) (none (features_below set 16) e)
  where
    none : (ks : List ℕ) → map (word_at names.features) ks ≡ [] → ks ≡ []
    none [] e = refl
    none (k ∷ ks) e = let z : ◌≡◌ {A = ℕ} 0 1 = cc in absurd (omega arith)

part_again : (names : Lists) → Known names → (key : Word) (set : ℕ) → Named names set → IsPart names key (part_words names key set) set
part_again names n key set h = go (eqb set 0) refl
  where
    go : (b : Bool) → eqb set 0 ≡ b → IsPart names key (cond b [] (key ∷ feature_words names set)) set
    go true e = inl (refl, eqb-true set 0 e)
    go false e = inr (feature_words names set, refl, (λ z. let y = no_words names set h.0 z in let x : eqb set 0 ≡ true = ap (λ s. eqb s 0) y in let v : ◌≡◌ {A = ℕ} 0 1 = cc in omega arith), set_again names n set h)

part_plain : (names : Lists) → Known names → (key : Word) (set : ℕ) → Plain key → Named names set → AllByRecursion Plain (part_words names key set)
part_plain names n key set p h = go (eqb set 0)
  where
    go : (b : Bool) → AllByRecursion Plain (cond b [] (key ∷ feature_words names set))
    go true = tt
    go false = (p, set_plain names n set h)

words_parts : (us vs : List Word) → AllByRecursion Plain us → AllByRecursion Plain vs → AllByRecursion Plain (us ++ vs)
words_parts [] vs a b = b
words_parts (u ∷ us) vs a b = (a.0, words_parts us vs a.1 b)

-- ---- records

abbrev PlainKeys : Type 0
PlainKeys = (Plain (codes "vat")) × (Plain (codes "step")) × (Plain (codes "needs")) × (Plain (codes "bars"))

plain_key : PlainKeys
plain_key = (
  (omega arith, (refl, (refl, (refl, tt)))),
  (omega arith, (refl, (refl, (refl, (refl, tt))))),
  (omega arith, (refl, (refl, (refl, (refl, (refl, tt)))))),
  (omega arith, (refl, (refl, (refl, (refl, tt))))),
)

transition_plain : (names : Lists) → Known names → (t : Transition) → IsPrintable names (AddTransition t) → AllByRecursion Plain (transition_words names t)
transition_plain names n t h = (
  plain_decimal t.source h.0,
  (
    at names.actions t.action h.1 n.actions,
    (
      plain_decimal t.target h.2,
      words_parts (part_words names (codes "needs") t.required) (part_words names (codes "bars") t.excluded)
          (part_plain names n (codes "needs") t.required plain_key.2 h.3) (part_plain names n (codes "bars") t.excluded plain_key.3 h.4),
    ),
  ),
)

spelled : (names : Lists) → Known names → (r : Record) → IsPrintable names r → Spells names (words_of (line_for names r)) r
spelled names n (AddProduct set) h =
    (feature_words names set, words_again (codes "vat") (feature_words names set) plain_key.0 (set_plain names n set h), set_again names n set h)
spelled names n (AddTransition t) h = (
  decimal t.source,
  word_at names.actions t.action,
  decimal t.target,
  part_words names (codes "needs") t.required ++ part_words names (codes "bars") t.excluded,
  words_again (codes "step") (transition_words names t) plain_key.1 (transition_plain names n t h),
  (refl, h.0),
  n.action_numbers t.action h.1,
  (refl, h.2),
  (
    part_words names (codes "needs") t.required,
    part_words names (codes "bars") t.excluded,
    refl,
    part_again names n (codes "needs") t.required h.3,
    part_again names n (codes "bars") t.excluded h.4,
  ),
)

one_line : (names : Lists) → Known names → (r : Record) → IsPrintable names r → OneLine (line_for names r)
one_line names n (AddProduct set) h = line_all (λ b. eqb b 10 ≡ false) refl no_end (codes "vat") (feature_words names set) plain_key.0 (set_plain names n set h)
one_line names n (AddTransition t) h = line_all (λ b. eqb b 10 ≡ false) refl no_end (codes "step") (transition_words names t) plain_key.1 (transition_plain names n t h)

-- ---- texts

lines_again : (names : Lists) → Known names → (rs : List Record) → AllByRecursion (IsPrintable names) rs → lines_of (text_for names rs) ≡ map (line_for names) rs ++ [] ∷ []
lines_again names n [] h = refl
lines_again names n (r ∷ rs) h =
    ap (slice_split (λ b. eqb b 10)) (append_assoc (line_for names r) (10 ∷ []) (text_for names rs))
    ∙ slice_split_at (λ b. eqb b 10) (line_for names r) 10 (text_for names rs) (All-from_recursion (λ b. eqb b 10 ≡ false) (line_for names r) (one_line names n r h.0)) refl
    ∙ ap (λ ls. line_for names r ∷ ls) (lines_again names n rs h.1)

told_again : (names : Lists) → Known names → (rs : List Record) → AllByRecursion (IsPrintable names) rs → Tell names (map (line_for names) rs ++ [] ∷ []) rs
told_again names n [] h = ([], [], inl (refl, refl), refl, refl)
told_again names n (r ∷ rs) h = (r ∷ [], rs, inr (r, spelled names n r h.0, refl), told_again names n rs h.1, refl)

pub described_again : (names : Lists) → Known names → (rs : List Record) → AllByRecursion (IsPrintable names) rs → Describes names (text_for names rs) rs
described_again names n rs h = subst (λ ls. Tell names ls rs) (sym (lines_again names n rs h)) (told_again names n rs h)

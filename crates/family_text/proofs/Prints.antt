-- What is printed, word by word and record by record.
use Rattle.std.proofs.Common.{◌≡◌, ℕ, zero, suc, ◌+◌, ◌*◌, ◌/◌, ◌%◌, take, drop, ◌<◌, ⊎_elim, List, [], ◌∷◌, ◌++◌, length, map, get_or, slice_get, Option, Some, None, Ok, Err, Result, IfOk, Bor, refl, sym, ap, ◌∙◌, subst, add-one, append_assoc, append-nil, length-append, arith}
use Rattle.std.specs.Option.{option_map, unwrap_or}
use Rattle.std.specs.List.{AllByRecursion}
use Rattle.std.proofs.lemmas.Option.{unwrap_or-slice_get}
use Rattle.std.proofs.lemmas.Bool.{cases_lt}
use Rattle.std.proofs.lemmas.Grind.{flat_map-append}
use Rattle.families.specs.Bits.{bit}
use Rattle.book.specs.declared.records.Record.{Record}
use Rattle.book.specs.Records.{record_in, record_from}
use Rattle.book.specs.declared.records.Record.TheVariants.{AddProduct, AddTransition}
use Rattle.std.specs.Simd.{first_chunks}
use Rattle.std.proofs.Math.Seq.{take-append_seam, drop-append_seam}
use Rattle.std.proofs.lemmas.List.{drop-drop}
use Rattle.family_text.specs.declared.errors.Lack.{Lack}
use Rattle.family_text.specs.Words.{Word, word_at}
use Rattle.family_text.specs.Grammar.{Lists}
use Rattle.family_text.specs.Records.{record_bytes, encoding, Begins, Holds}
use Rattle.family_text.specs.Printing.{spaced, one_if, features_below, names_below, line_for, text_for, LacksText}

-- the name of a number
name_is : (ws : List Word) (k : ℕ) (o : Option Word) → o ≡ slice_get ws k → unwrap_or o [] ≡ word_at ws k
name_is ws k o e = ap (λ p. unwrap_or p []) e ∙ unwrap_or-slice_get ws k []

pub named_word : (ws : List Word) (k : ℕ) (r : Option (Bor (List ℕ))) (w : Bor (List ℕ)) → option_map (λ w. w.now) r ≡ slice_get ws k → r ≡ Some w → w.now ≡ word_at ws k
named_word ws k r w e is = name_is ws k (Some w.now) (sym (ap (option_map (λ (w : Bor (List ℕ)). w.now)) is) ∙ e)

pub unnamed_word : (ws : List Word) (k : ℕ) (r : Option (Bor (List ℕ))) → option_map (λ w. w.now) r ≡ slice_get ws k → r ≡ None → [] ≡ word_at ws k
unnamed_word ws k r e is = name_is ws k None (sym (ap (option_map (λ (w : Bor (List ℕ)). w.now)) is) ∙ e)

-- one feature more
map_append : {A B : Type 0} (f : A → B) (xs ys : List A) → map f (xs ++ ys) ≡ map f xs ++ map f ys
map_append f [] ys = refl
map_append f (x ∷ xs) ys = ap (λ zs. f x ∷ zs) (map_append f xs ys)

below_next : (set k : ℕ) → features_below set (k + 1) ≡ features_below set k ++ one_if (bit set k) k
unfolding features_below
below_next set k = ap (features_below set) (add-one k)

pub one_more : (names : Lists) (set k : ℕ) (start : List ℕ) {new old : List ℕ} → old ≡ start ++ spaced (names_below names set k) → new ≡ old ++ spaced (map (word_at names.features) (one_if (bit set k) k))
    → new ≡ start ++ spaced (names_below names set (k + 1))
one_more names set k start {new} {old} e f =
    let one = map (word_at names.features) (one_if (bit set k) k) in
    f ∙ ap (λ bs. bs ++ spaced one) e ∙ append_assoc start (spaced (names_below names set k)) (spaced one)
    ∙ ap (λ bs. start ++ bs) (sym (flat_map-append (λ w. 32 ∷ w) (names_below names set k) one)
    ∙ ap spaced (sym (map_append (word_at names.features) (features_below set k) (one_if (bit set k) k)) ∙ ap (map (word_at names.features)) (sym (below_next set k))))

-- one record more
pub length_more : (rs : List Record) (r : Record) → length (rs ++ r ∷ []) ≡ length rs + 1
length_more rs r = length-append rs (r ∷ [])

get_before : (rs : List Record) (r : Record) (k : ℕ) → k < length rs → slice_get (rs ++ r ∷ []) k ≡ slice_get rs k
get_before [] r k lt = absurd (omega arith)
get_before (x ∷ rs) r zero lt = refl
get_before (x ∷ rs) r (suc k) lt = get_before rs r k (omega arith)

get_last : (rs : List Record) (r : Record) → slice_get (rs ++ r ∷ []) (length rs) ≡ Some r
get_last [] r = refl
get_last (x ∷ rs) r = get_last rs r

pub begins_more : (bytes : List ℕ) (rs : List Record) (r : Record) (i : ℕ) → length rs ≡ i → Begins bytes rs → record_from bytes i ≡ Some r → Begins bytes (rs ++ r ∷ [])
begins_more bytes rs r i n b e = λ k lt. ⊎_elim (λ less. b k less ∙ sym (get_before rs r k less)) (λ more. last k (omega (arith, length_more rs r))) (cases_lt k (length rs))
  where
    last : (k : ℕ) → k ≡ length rs → record_from bytes k ≡ slice_get (rs ++ r ∷ []) k
    last k s = ap (record_from bytes) (s ∙ n) ∙ e ∙ sym (get_last rs r) ∙ ap (slice_get (rs ++ r ∷ [])) (sym s)

pub all_more : (P : Record → Type 0) (rs : List Record) (r : Record) → AllByRecursion P rs → P r → AllByRecursion P (rs ++ r ∷ [])
all_more P [] r a p = (p, tt)
all_more P (x ∷ rs) r a p = (a.0, all_more P rs r a.1 p)

pub text_more : (names : Lists) (rs : List Record) (r : Record) {old : List ℕ} → old ≡ text_for names rs → old ++ (line_for names r ++ 10 ∷ []) ≡ text_for names (rs ++ r ∷ [])
text_more names rs r e =
    ap (λ bs. bs ++ (line_for names r ++ 10 ∷ [])) e
    ∙ ap (λ bs. text_for names rs ++ bs) (sym (append-nil (line_for names r ++ 10 ∷ [])))
    ∙ sym (flat_map-append (λ r. line_for names r ++ 10 ∷ []) rs (r ∷ []))

pub lacks_there : (names : Lists) (lack : Lack) {o p : Option Record} → o ≡ p → LacksText names o lack → LacksText names p lack
lacks_there names lack e l = subst (λ o. LacksText names o lack) e l

-- the record of a number, among all
chunk_at : (bs : List ℕ) (k i : ℕ) (d : List ℕ) → i < k → get_or (first_chunks 8 k bs) i d ≡ take 8 (drop (8 * i) bs)
chunk_at bs zero i d h = absurd (omega arith)
chunk_at bs (suc k) zero d h = refl
chunk_at bs (suc k) (suc i) d h =
    chunk_at (drop 8 bs) k i d (omega arith) ∙ ap (take 8) (drop-drop (8 * i) 8 bs) ∙ ap (λ n. take 8 (drop n bs)) (omega arith)

pub record_at : (bs : List ℕ) (rs : List (List ℕ)) (i : ℕ) (d : List ℕ) → rs ≡ first_chunks 8 (length bs / 8) bs → i < length bs / 8
    → record_in (get_or rs i d) ≡ record_from bs i
record_at bs rs i d e h = ap (λ (l : List (List ℕ)). record_in (get_or l i d)) e ∙ ap record_in (chunk_at bs (length bs / 8) i d h)

-- records as bytes hold these records
front : (xs ys : List ℕ) → length xs ≡ 8 → take 8 (xs ++ ys) ≡ xs
front xs ys e = ap (λ n. take n (xs ++ ys)) (sym e) ∙ take-append_seam xs ys

eight : (r : Record) → length (record_bytes r) ≡ 8
eight (AddProduct c) = refl
eight (AddTransition t) = refl

bytes_back : (n : ℕ) → n % 256 + 256 * (n / 256) ≡ n
bytes_back n = omega arith

same_record : (r : Record) → record_in (record_bytes r) ≡ Some r
same_record (AddProduct c) = ap (λ n. Some (AddProduct n)) (bytes_back c)
same_record (AddTransition t) =
    ap (λ n. Some (AddTransition (record { source = t.source; action = t.action; target = t.target; required = n; excluded = t.excluded % 256 + 256 * (t.excluded / 256) }))) (bytes_back t.required)
    ∙ ap (λ n. Some (AddTransition (record { source = t.source; action = t.action; target = t.target; required = t.required; excluded = n }))) (bytes_back t.excluded)

length_encoding : (rs : List Record) → length (encoding rs) ≡ 8 * length rs
length_encoding [] = refl
length_encoding (r ∷ rs) = omega (arith, length-append (record_bytes r) (encoding rs), eight r, length_encoding rs)

begins_encoding : (rs : List Record) (i : ℕ) → i < length rs → record_from (encoding rs) i ≡ slice_get rs i
begins_encoding [] i lt = absurd (omega arith)
begins_encoding (r ∷ rs) zero lt = ap record_in (front (record_bytes r) (encoding rs) (eight r)) ∙ same_record r
begins_encoding (r ∷ rs) (suc i) lt =
    let n : 8 * suc i ≡ 8 + 8 * i = omega arith in
    let e : drop (8 * suc i) (encoding (r ∷ rs)) ≡ drop (8 * i) (encoding rs) =
    ap (λ k. drop k (encoding (r ∷ rs))) n ∙ sym (drop-drop (8 * i) 8 (encoding (r ∷ rs)) ∙ ap (λ k. drop k (encoding (r ∷ rs))) (omega arith)) ∙ ap (drop (8 * i)) (passed r) in
    ap (λ bs. record_in (take 8 bs)) e ∙ begins_encoding rs i (omega arith)
  where
    passed : (r : Record) → drop 8 (record_bytes r ++ encoding rs) ≡ encoding rs
    passed r = ap (λ k. drop k (record_bytes r ++ encoding rs)) (sym (eight r)) ∙ drop-append_seam (record_bytes r) (encoding rs)

pub holds_encoding : (rs : List Record) → Holds (encoding rs) rs
holds_encoding rs = (length_encoding rs, begins_encoding rs)

pub held : {V E : Type 0} (items : V → List ℕ) (r : Result V E) {Told : List Record → Type 0} → ((said : List Record) → Told said → IfOk r (λ v. items v ≡ encoding said))
    → IfOk r (λ v. (said : List Record) → Told said → Holds (items v) said)
held items (Ok v) f = λ said told. subst (λ bs. Holds bs said) (sym (f said told)) (holds_encoding said)
held items (Err e) f = tt

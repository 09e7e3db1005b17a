-- One step of reading.
use Rattle.std.proofs.Common.{◌≡◌, ℕ, zero, suc, ◌+◌, ◌<◌, Bool, cond, List, [], ◌∷◌, ◌++◌, length, get_or, take, drop, Ok, Err, Result, bit_or, Bor, refl, sym, ap, ◌∙◌, add-one, arith, codes}
use Rattle.std.proofs.Math.Seq.{drop-cons}
use Rattle.std.specs.List.{prefix_len, drop-map, take-map}
use Rattle.family_text.specs.declared.errors.Expected.{Expected}
use Rattle.family_text.specs.Words.{Word, texts}
use Rattle.family_text.specs.Grammar.{Lists}
use Rattle.family_text.specs.Reading.{◌>>=◌, feature_of, features_from, part_of, before_bars, condition_of}

pub texts_drop : (n : ℕ) (ws : List (Bor (List ℕ))) → texts (drop n ws) ≡ drop n (texts ws)
texts_drop n ws = sym (drop-map (λ (w : Bor (List ℕ)). w.now) n ws)

pub texts_take : (n : ℕ) (ws : List (Bor (List ℕ))) → texts (take n ws) ≡ take n (texts ws)
texts_take n ws = sym (take-map (λ (w : Bor (List ℕ)). w.now) n ws)

-- what is left of words begins with the next
pub next_word : (ws : List (Bor (List ℕ))) (i : ℕ) (d : Bor (List ℕ)) → i < length ws → drop i (texts ws) ≡ (get_or ws i d).now ∷ drop (i + 1) (texts ws)
next_word ws i d lt =
    sym (texts_drop i ws) ∙ ap texts (drop-cons ws i d lt)
    ∙ ap (λ us. (get_or ws i d).now ∷ us) (ap (λ n. texts (drop n ws)) (sym (add-one i)) ∙ texts_drop (i + 1) ws)

pub texts_more : (ws : List (Bor (List ℕ))) (i : ℕ) (d : Bor (List ℕ)) → i < length ws → take (i + 1) (texts ws) ≡ take i (texts ws) ++ (get_or ws i d).now ∷ []
texts_more [] i d lt = absurd (omega arith)
texts_more (w ∷ ws) zero d lt = refl
texts_more (w ∷ ws) (suc i) d lt = ap (λ n. take n (texts (w ∷ ws))) (add-one (suc i)) ∙ ap (λ us. w.now ∷ us) (ap (λ n. take n (texts ws)) (sym (add-one i)) ∙ texts_more ws i d (omega arith))

pub length_before : (ws : List (Bor (List ℕ))) (i : ℕ) → i < length ws → length (take i (texts ws)) ≡ i
length_before [] i lt = absurd (omega arith)
length_before (w ∷ ws) zero lt = refl
length_before (w ∷ ws) (suc i) lt = ap suc (length_before ws i (omega arith))

pub prefix_now : (p : Word → Bool) (ws : List (Bor (List ℕ))) → prefix_len (λ (w : Bor (List ℕ)). p w.now) ws ≡ prefix_len p (texts ws)
prefix_now p [] = refl
prefix_now p (w ∷ ws) = ap (λ n. cond (p w.now) (1 + n) 0) (prefix_now p ws)

-- features, word by word
pub feature_taken : (names : Lists) (set one : ℕ) (w : Word) (ws : List Word) → feature_of names w ≡ Ok one → features_from names set (w ∷ ws) ≡ features_from names (bit_or set one) ws
feature_taken names set one w ws e = ap (λ r. r >>= λ k. features_from names (bit_or set k) ws) e

pub feature_wrong : (names : Lists) (set : ℕ) (w : Word) (ws : List Word) (x : Expected) → feature_of names w ≡ Err x → features_from names set (w ∷ ws) ≡ Err x
feature_wrong names set w ws x e = ap (λ r. r >>= λ k. features_from names (bit_or set k) ws) e

-- the two parts of a condition
pub texts_before : (ws : List (Bor (List ℕ))) {us : List (Bor (List ℕ))} {n : ℕ} → us ≡ take n ws → n ≡ before_bars (texts ws) → texts us ≡ take (before_bars (texts ws)) (texts ws)
texts_before ws {us} {n} e m = ap texts e ∙ texts_take n ws ∙ ap (λ k. take k (texts ws)) m

pub texts_from : (ws : List (Bor (List ℕ))) {us : List (Bor (List ℕ))} {n : ℕ} → us ≡ drop n ws → n ≡ before_bars (texts ws) → texts us ≡ drop (before_bars (texts ws)) (texts ws)
texts_from ws {us} {n} e m = ap texts e ∙ texts_drop n ws ∙ ap (λ k. drop k (texts ws)) m

pub needs_wrong : (names : Lists) (ws : List Word) (x : Expected) → part_of names (codes "needs") (take (before_bars ws) ws) ≡ Err x → condition_of names ws ≡ Err x
unfolding condition_of
needs_wrong names ws x e = ap (λ r. r >>= λ a. part_of names (codes "bars") (drop (before_bars ws) ws) >>= λ b. Ok (a, b)) e

pub parts_read : (names : Lists) (ws : List Word) (a : ℕ) (r : Result ℕ Expected) → part_of names (codes "needs") (take (before_bars ws) ws) ≡ Ok a → part_of names (codes "bars") (drop (before_bars ws) ws) ≡ r → condition_of names ws ≡ (r >>= λ b. Ok (a, b))
unfolding condition_of
parts_read names ws a r e f = ap (λ s. s >>= λ a. part_of names (codes "bars") (drop (before_bars ws) ws) >>= λ b. Ok (a, b)) e ∙ ap (λ s. s >>= λ b. Ok (a, b)) f

-- A test for lists of names, which make a word list.
use Rattle.std.proofs.Common.{◌≡◌, ℕ, zero, suc, ◌<◌, Bool, true, not, ◌&&◌, leb, List, [], ◌∷◌, length, get_or, codes, Decides, refl}
use Rattle.std.specs.Char.{is_ascii_lowercase}
use Rattle.std.specs.List.{AllByRecursion}
use Rattle.std.specs.Str.{bytes_eq}
use Rattle.std.proofs.lemmas.Slice.Eq.{bytes_eq-Decides}
use Rattle.std.proofs.lemmas.Bool.{and_parts, leb-true}
use Rattle.std.proofs.lemmas.Bool.Decides.{Decides-not, Decides-below_and}
use Rattle.lexer.specs.Tokens.{in_name, Name}
use Rattle.words.specs.Words.{listed, WordList}

abbrev pub every {ℓ} : {A : Type ℓ} → (A → Bool) → List A → Bool
every f [] = true
every f (x ∷ xs) = f x && every f xs

pub every_passes : {A : Type 0} (f : A → Bool) (P : A → Type 0) → ((x : A) → f x ≡ true → P x) → (xs : List A) → every f xs ≡ true → AllByRecursion P xs
every_passes f P each [] e = tt
every_passes f P each (x ∷ xs) e = let h = and_parts (f x) (every f xs) e in (each x h.0, every_passes f P each xs h.1)

abbrev pub every_below : (ℕ → Bool) → ℕ → Bool
every_below f zero = true
every_below f (suc n) = f n && every_below f n

below_decides : (f : ℕ → Bool) (P : ℕ → Type 0) → ((k : ℕ) → Decides (f k) (P k)) → (n : ℕ) → Decides (every_below f n) ((k : ℕ) → k < n → P k)
below_decides f P each = Decides-below_and f P (every_below f) each refl (λ _. refl)

-- Whether bytes are none of the four words, and whether they are a name.
abbrev pub no_word : List ℕ → Bool
no_word w = not (bytes_eq w (codes "mu")) && (not (bytes_eq w (codes "nu")) && (not (bytes_eq w (codes "true")) && not (bytes_eq w (codes "false"))))

abbrev pub is_name : List ℕ → Bool
is_name w = (is_ascii_lowercase (get_or w 0 0) && every in_name w) && (leb (length w) 12 && no_word w)

other : (w v : List ℕ) → Decides (not (bytes_eq w v)) (w ≡ v → ⊥)
other w v = Decides-not (bytes_eq w v) (bytes_eq-Decides w v)

named : (w : List ℕ) → is_name w ≡ true → Name w
named w e =
    let h = and_parts (is_ascii_lowercase (get_or w 0 0) && every in_name w) (leb (length w) 12 && no_word w) e in
    let run = and_parts (is_ascii_lowercase (get_or w 0 0)) (every in_name w) h.0 in
    let rest = and_parts (leb (length w) 12) (no_word w) h.1 in
    let a = and_parts _ _ rest.1 in
    let b = and_parts _ _ a.1 in
    let c = and_parts _ _ b.1 in
    record {
      run = record { first = run.0; rest = every_passes in_name (λ b. in_name b ≡ true) (λ _ h. h) w run.1 };
      short = leb-true (length w) 12 rest.0;
      no_word = ((other w (codes "mu")).0 a.0, (other w (codes "nu")).0 b.0, (other w (codes "true")).0 c.0, (other w (codes "false")).0 c.1);
    }

-- Whether no name stands twice.
abbrev pub apart : List (List ℕ) → Bool
apart ws = every_below (λ j. every_below (λ i. not (bytes_eq (get_or ws i []) (get_or ws j []))) j) (length ws)

apart_decides : (ws : List (List ℕ))
    → Decides (apart ws) ((j : ℕ) → j < length ws → (i : ℕ) → i < j → get_or ws i [] ≡ get_or ws j [] → ⊥)
apart_decides ws =
    below_decides (λ j. every_below (λ i. not (bytes_eq (get_or ws i []) (get_or ws j []))) j) (λ j. (i : ℕ) → i < j → get_or ws i [] ≡ get_or ws j [] → ⊥)
    (λ j. below_decides (λ i. not (bytes_eq (get_or ws i []) (get_or ws j []))) (λ i. get_or ws i [] ≡ get_or ws j [] → ⊥) (λ i. other (get_or ws i []) (get_or ws j [])) j)
    (length ws)

abbrev pub names_fit : ℕ → List (List ℕ) → Bool
names_fit limit ws = every is_name ws && (apart ws && leb (length ws) limit)

pub word_list : (limit : ℕ) (ws : List (List ℕ)) → names_fit limit ws ≡ true → WordList limit (listed ws) ws
word_list limit ws e =
    let h = and_parts (every is_name ws) (apart ws && leb (length ws) limit) e in
    let k = and_parts (apart ws) (leb (length ws) limit) h.1 in
    record {
      ended = refl;
      names = every_passes is_name Name named ws h.0;
      apart = λ i j less lt. (apart_decides ws).0 k.0 j lt i less;
      few = leb-true (length ws) limit k.1;
    }

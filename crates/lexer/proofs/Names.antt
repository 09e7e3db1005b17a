-- Runs of bytes, and the four words.
use Rattle.std.proofs.Common.{◌≡◌, ℕ, ◌+◌, ◌≤◌, Bool, true, false, cond, List, [], ◌∷◌, length, codes, refl, arith}
use Rattle.std.specs.List.{prefix_len, AllByRecursion}
use Rattle.std.specs.Str.{bytes_eq}
use Rattle.std.proofs.lemmas.Slice.Eq.{bytes_eq-Decides}
use Rattle.lexer.specs.Tokens.{Sym, name, sign, NoWord}
use Rattle.lexer.specs.Cuts.{word_of}
use Rattle.lexer.specs.declared.Sign.TheVariants.{Mu, Nu, True, False}

-- a run that reaches to the end
pub all_leading : (p : ℕ → Bool) (xs : List ℕ) → AllByRecursion (λ x. p x ≡ true) xs → prefix_len p xs ≡ length xs
all_leading p [] h = refl
all_leading p (x ∷ xs) h = rw h.0 (omega (arith, all_leading p xs h.1))

pub leading_all : (p : ℕ → Bool) (xs : List ℕ) → length xs ≤ prefix_len p xs → AllByRecursion (λ x. p x ≡ true) xs
leading_all p [] h = tt
leading_all p (x ∷ xs) h = go (p x) refl h (λ k. leading_all p xs k)
  where
    go : (b : Bool) → p x ≡ b → length (x ∷ xs) ≤ cond b (1 + prefix_len p xs) 0 → (length xs ≤ prefix_len p xs → AllByRecursion (λ x. p x ≡ true) xs) → (p x ≡ true) × AllByRecursion (λ x. p x ≡ true) xs
    go true e h f = (e, f (omega arith))
    go false e h f = absurd (omega arith)

-- a run of small letters and digits that is no word is a name, and the token of a word is spelled like it
pub data Worded (w : List ℕ) : Sym → Type 0 where
  is_name : NoWord w → Worded w (name w)
  is_mu : w ≡ codes "mu" → Worded w (sign Mu)
  is_nu : w ≡ codes "nu" → Worded w (sign Nu)
  is_true : w ≡ codes "true" → Worded w (sign True)
  is_false : w ≡ codes "false" → Worded w (sign False)

differs : (w v : List ℕ) → bytes_eq w v ≡ false → w ≡ v → ⊥
differs w v h e = let t = (bytes_eq-Decides w v).1 e in let z : ◌≡◌ {A = ℕ} 0 1 = cc in omega arith

pub worded : (w : List ℕ) → Worded w (word_of w)
worded w = go (bytes_eq w (codes "mu")) (bytes_eq w (codes "nu")) (bytes_eq w (codes "true")) (bytes_eq w (codes "false")) refl refl refl refl
  where
    go : (a b c d : Bool) → bytes_eq w (codes "mu") ≡ a → bytes_eq w (codes "nu") ≡ b → bytes_eq w (codes "true") ≡ c → bytes_eq w (codes "false") ≡ d → Worded w (cond a (sign Mu) (cond b (sign Nu) (cond c (sign True) (cond d (sign False) (name w)))))
    go true b c d e f g h = is_mu ((bytes_eq-Decides w (codes "mu")).0 e)
    go false true c d e f g h = is_nu ((bytes_eq-Decides w (codes "nu")).0 f)
    go false false true d e f g h = is_true ((bytes_eq-Decides w (codes "true")).0 g)
    go false false false true e f g h = is_false ((bytes_eq-Decides w (codes "false")).0 h)
    go false false false false e f g h = is_name (differs w (codes "mu") e, differs w (codes "nu") f, differs w (codes "true") g, differs w (codes "false") h)

pub name_no_word : (w v : List ℕ) → name v ≡ word_of w → NoWord w
name_no_word w v e = go (worded w) e
  where
    go : {s : Sym} → Worded w s → name v ≡ s → NoWord w
    go (is_name h) e = h
    go _ e = let z : ◌≡◌ {A = ℕ} 0 1 = cc in absurd (omega arith)

pub no_word_name : (w : List ℕ) → NoWord w → word_of w ≡ name w
no_word_name w h = go (worded w)
  where
    go : {s : Sym} → Worded w s → s ≡ name w
    go (is_name x) = refl
    go (is_mu e) = absurd (h.0 e)
    go (is_nu e) = absurd (h.1 e)
    go (is_true e) = absurd (h.2 e)
    go (is_false e) = absurd (h.3 e)

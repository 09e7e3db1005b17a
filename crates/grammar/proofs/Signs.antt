-- What a test on a token says.
use Rattle.std.proofs.Common.{◌≡◌, ℕ, true, false, [], ◌∷◌, get_or, sym, refl, ap, ◌∙◌, arith}
use Rattle.std.proofs.lemmas.Bool.{eqb-true, eq-eqb, ne_eqb}
use Rattle.grammar.specs.Machine.{index, is}
use Rattle.lexer.specs.Tokens.{Sym, name, variable, sign}
use Rattle.lexer.specs.declared.Sign.{Sign}
use Rattle.lexer.specs.declared.Sign.TheVariants.{Mu, Nu, True, False, Not, And, Or, Bar, Less, Greater, LeftBracket, RightBracket, Open, Close, Dot}

numbered : ℕ → Sign
numbered n = get_or (Mu ∷ Nu ∷ True ∷ False ∷ Not ∷ And ∷ Or ∷ Bar ∷ Less ∷ Greater ∷ LeftBracket ∷ RightBracket ∷ Open ∷ Close ∷ Dot ∷ []) n Dot

numbered_index : (s : Sign) → numbered (index s) ≡ s
unfolding numbered
numbered_index Mu = refl
numbered_index Nu = refl
numbered_index True = refl
numbered_index False = refl
numbered_index Not = refl
numbered_index And = refl
numbered_index Or = refl
numbered_index Bar = refl
numbered_index Less = refl
numbered_index Greater = refl
numbered_index LeftBracket = refl
numbered_index RightBracket = refl
numbered_index Open = refl
numbered_index Close = refl
numbered_index Dot = refl

pub is_sign : (s : Sign) (t : Sym) → is s t ≡ true → t ≡ sign s
is_sign s (name w) h = let z : ◌≡◌ {A = ℕ} 0 1 = cc in absurd (omega arith)
is_sign s (variable v) h = let z : ◌≡◌ {A = ℕ} 0 1 = cc in absurd (omega arith)
is_sign s (sign t) h = ap sign (sym (numbered_index t) ∙ ap numbered (sym (eqb-true (index s) (index t) h)) ∙ numbered_index s)

pub sign_is : (s : Sign) (t : Sym) → t ≡ sign s → is s t ≡ true
sign_is s t e = ap (λ x. is s x) e ∙ eq-eqb (index s) (index s) refl

pub not_sign : (s : Sign) (t : Sym) → (t ≡ sign s → ⊥) → is s t ≡ false
not_sign s (name w) h = refl
not_sign s (variable v) h = refl
not_sign s (sign t) h = ne_eqb (index s) (index t) (λ e. h (is_sign s (sign t) (eq-eqb (index s) (index t) e)))

-- The first number below a bound that passes a test.
use Rattle.std.proofs.Common.{◌≡◌, ℕ, zero, suc, ◌<◌, Bool, true, false, cond, Some, None, Option, refl, arith}
use Rattle.semantics.proofs.Finite.{below}

abbrev pub next_of : Option ℕ → Option ℕ
next_of None = None
next_of (Some k) = Some (suc k)

abbrev pub first : ℕ → (ℕ → Bool) → Option ℕ
first zero f = None
first (suc n) f = cond (f 0) (Some 0) (next_of (first n (λ k. f (suc k))))

pub data IsFirst (n : ℕ) (f : ℕ → Bool) : Option ℕ → Type 0 where
  here : (k : ℕ) → k < n → f k ≡ true → ((j : ℕ) → j < k → f j ≡ false) → IsFirst n f (Some k)
  nowhere : ((k : ℕ) → k < n → f k ≡ false) → IsFirst n f None

pub is_first : (n : ℕ) (f : ℕ → Bool) → IsFirst n f (first n f)
is_first zero f = nowhere (λ k lt. absurd (omega arith))
is_first (suc n) f = go (f 0) refl (is_first n (λ k. f (suc k)))
  where
    go : (b : Bool) → f 0 ≡ b → {o : Option ℕ} → IsFirst n (λ k. f (suc k)) o → IsFirst (suc n) f (cond b (Some 0) (next_of o))
    go true e h = here 0 (omega arith) e (λ j lt. absurd (omega arith))
    go false e (here k lt t h) = here (suc k) (omega arith) t (below (λ j. f j ≡ false) k e h)
    go false e (nowhere h) = nowhere (below (λ j. f j ≡ false) n e h)

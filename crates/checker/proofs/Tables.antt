-- Tables that pass are sound, and refusals have numbers other than 0.
use Rattle.std.proofs.Common.{◌≡◌, ℕ, ◌<◌, List, length, get_or, sym, subst, inl, inr, arith}
use Rattle.std.proofs.lemmas.Bool.{cases_lt}
use Rattle.std.proofs.lemmas.List.{get_or_past}
use Rattle.formulas.specs.Trees.{Parity}
use Rattle.formulas.specs.Tables.{entry, Names, Binds, Nearest, last}
use Rattle.formulas.specs.declared.Expr.{Expr}
use Rattle.formulas.specs.declared.Node.{Node}
use Rattle.formulas.specs.declared.Node.TheVariants as nd
use Rattle.formulas.proofs.Trees.{nearest_above}
use Rattle.formulas.proofs.Climbing.{nearest_way, nearest_or_way, nearest_named}
use Rattle.formulas.specs.Judge.{pair_of}
use Rattle.formulas.specs.declared.judge.Unsound.{Unsound}
use Rattle.formulas.specs.declared.judge.Unsound.TheVariants as un
use Rattle.semantics.specs.Evaluation.{NearestAbove}
use Rattle.checker.specs.declared.check.Refusal.{Refusal}
use Rattle.checker.specs.declared.check.Refusal.TheVariants as re
use Rattle.checker.specs.Checks.{refusal_pair}
use Rattle.formulas.specs.Sound.{Sound}
use Rattle.formulas.specs.declared.judge.SoundTables.{SoundTables}
use Rattle.formulas.proofs.Judging.{sound_passed}

pub sound_tables : (t : SoundTables) → Sound t.exprs.now t.nodes.now
sound_tables t = sound_passed t.exprs.now t.nodes.now t.passes

-- A refusal has a number of its own.
pub unsound_number : (reason : Unsound) → ¬ ((pair_of reason).0 ≡ 0)
unsound_number un.BadSize e = omega (arith, e)
unsound_number (un.BadExpr n) e = omega (arith, e)
unsound_number (un.BadNode n) e = omega (arith, e)
unsound_number (un.NotNamedOnce n) e = omega (arith, e)
unsound_number (un.BoundTwice n) e = omega (arith, e)
unsound_number (un.Unbound n) e = omega (arith, e)
unsound_number (un.OddlyBound n) e = omega (arith, e)

pub refusal_number : (refusal : Refusal) → ¬ ((refusal_pair refusal).0 ≡ 0)
refusal_number (re.Unsound reason) e = unsound_number reason e
refusal_number re.TooManyProducts e = omega (arith, e)
refusal_number re.TooFewCells e = omega (arith, e)

-- No fixpoint is above the last entry.
pub top_nearest : (es : List Expr) (ns : List Node) → Sound es ns → (v b : ℕ) (k : Parity) → ¬ Nearest ns v
    b k (last ns)
top_nearest es ns sound v b k near =
    let above = nearest_above ns sound.tree near in
    absurd (subst (λ (x : Node). Names (last ns) x) (get_or_past ns (nearest_named ns v near).0 nd.False
    (omega (arith, sound.tree.lower _ _ (nearest_named ns v near).1))) (nearest_named ns v near).1)

pub none_above : (es : List Expr) (ns : List Node) → Sound es ns → (P : ℕ → ℕ → Type 0) → NearestAbove ns
    (last ns) P
none_above es ns sound P v b k near = absurd (top_nearest es ns sound v b k near)

-- Each variable entry has its nearest fixpoint.
pub nearest_fixpoint : (t : SoundTables) (n v : ℕ) → n < length t.nodes.now → entry t.nodes.now n ≡
    nd.Variable v
    → (k : Parity) × Nearest t.nodes.now v (get_or t.fixpoints n 0) k n
nearest_fixpoint t n v n< e = elim (nearest_or_way t.nodes.now v ((sound_tables t).whole n n<)) [
  | inl x ↦ (x.1, subst (λ (b : ℕ). Nearest t.nodes.now v b x.1 n) (sym (t.bound n v x.0 x.1 e x.2)) x.2)
  | inr y ↦ absurd ((sound_tables t).bound y.0 v n y.1 e)
]

pub nearest_inside : (t : SoundTables) {n v b : ℕ} {k : Parity} → Nearest t.nodes.now v b k n → b < length
    t.nodes.now
nearest_inside t {v = v} {b = b} near = elim (cases_lt b (length t.nodes.now)) [
  | inl h ↦ h
  | inr h ↦ absurd (subst (λ (x : Node). Binds v x) (get_or_past t.nodes.now b nd.False h)
      (nearest_way t.nodes.now v near).0)
]

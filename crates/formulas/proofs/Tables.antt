-- What is so of tables that were judged sound.
use Rattle.std.proofs.Common.{◌≡◌, ℕ, slice_index, sym, subst, inl, inr}
use Rattle.formulas.specs.Trees.{Parity}
use Rattle.formulas.specs.Tables.{entry, Nearest}
use Rattle.formulas.specs.Sound.{Sound}
use Rattle.formulas.specs.declared.Node.TheVariants as nd
use Rattle.formulas.specs.declared.judge.SoundTables.{SoundTables}
use Rattle.formulas.proofs.Climbing.{nearest_or_way}
use Rattle.formulas.proofs.Variables.{variable_in}
use Rattle.formulas.proofs.Judging.{sound_passed}

pub sound_tables : (t : SoundTables) → Sound t.exprs.now t.nodes.now
sound_tables t = sound_passed t.exprs.now t.nodes.now t.passes

-- The entry that they have for a variable is its nearest fixpoint.
pub fixpoint_nearest : (t : SoundTables) (n v : ℕ) → entry t.nodes.now n ≡ nd.Variable v
    → (k : Parity) × Nearest t.nodes.now v (slice_index t.fixpoints n) k n
fixpoint_nearest t n v is =
    let s = sound_tables t in
    elim (nearest_or_way t.nodes.now v (s.whole n (variable_in t.nodes.now n v is))) [
      | inl x ↦ (
        x.1,
        subst (λ (b : ℕ). Nearest t.nodes.now v b x.1 n)
            (sym (t.bound n v x.0 x.1 is x.2)) x.2,
      )
      | inr w ↦ absurd (s.bound w.0 v n w.1 is)
    ]

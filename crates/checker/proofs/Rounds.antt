-- The rounds of a fixpoint.
use Rattle.std.proofs.Common.{◌≡◌, ℕ, ◌+◌, ◌*◌, ◌<◌, Bool, T, List, [], ◌∷◌, length, refl, sym, ◌∙◌, subst}
use Rattle.std.proofs.Common.{inl, inr, arith}
use Rattle.families.specs.Families.{Family}
use Rattle.formulas.specs.Tables.{entry, parts, OneOf, Names, Under, itself}
use Rattle.formulas.specs.Sound.{Sound}
use Rattle.formulas.specs.declared.Expr.{Expr}
use Rattle.formulas.specs.declared.Node.{Node}
use Rattle.formulas.proofs.Trees.{under_top, under_le}
use Rattle.semantics.specs.Evaluation.{SameRow, OnlyProducts, Begins, Rounds, none, round}
use Rattle.semantics.proofs.Evaluation.{evaluation_fills, begins_products, rounds_fewer}
use Rattle.semantics.proofs.FixpointRounds.{rank, rank_same}
use Rattle.product_sets.specs.Kinds.{SetsKept}
use Rattle.product_sets.specs.declared.kind.Kind.{Ghosts}
use Rattle.product_sets.proofs.Cells.{in_same}
use Rattle.product_sets.proofs.Kept.{sets_kept_same, sets_kept_then}
use Rattle.checker.specs.Readings.{Agrees, Reads}
use Rattle.checker.specs.Walks.{rows, InRow, Framed, WritesRow}
use Rattle.checker.specs.Gathered.{family_of, Begun, Walked, Rounded, rows_of}
use Rattle.checker.specs.declared.walk.Walk.{Walk}
use Rattle.checker.proofs.Places.{row_fits}
use Rattle.checker.proofs.Readings.{agrees_self, agrees_before, within_later}
use Rattle.checker.proofs.Tables.{sound_tables, top_nearest}
use Rattle.checker.proofs.Walks.{keep_row, rows_agree, others_same, framed_row, framed_none, framed_then}
use Rattle.checker.proofs.Walks.{framed_part, begun_part, begun_after}

-- What is so before each round of a fixpoint n over the part c.
pub record Round {K X : Type 0} {g : Ghosts K X} (holds : K → X → Type 0) (means : K → X → ℕ → Bool)
    (w : Walk K X g) (n c : ℕ) (base : K) (first : List X)
    (k : K) (xs : List X) : Type 0 where
  pub held : InRow (holds k) w.view.states xs n
  pub products : Reads holds means k (λ m. OnlyProducts (family_of w.view) (rows_of m w xs n))
  pub rounds : Reads holds means k (λ m. Rounds (family_of w.view) w.tables.exprs.now w.tables.nodes.now n c
      (rows_of m w first) (rows_of m w xs))
  pub framed : Framed w.tables.nodes.now w.view.states n first xs
  pub kept : SetsKept holds means base k

module _ {K X : Type 0} {g : Ghosts K X} (holds : K → X → Type 0) (means : K → X → ℕ → Bool)
    (w : Walk K X g) (n c : ℕ)
    (one : parts (entry w.tables.nodes.now n) ≡ c ∷ []) where
  abbrev F : Family
  F = family_of w.view

  abbrev es : List Expr
  es = w.tables.exprs.now

  abbrev ns : List Node
  ns = w.tables.nodes.now

  abbrev S : ℕ
  S = w.view.states

  sound : Sound es ns
  sound = sound_tables w.tables

  pub part : Names c (entry ns n)
  part = subst (λ cs. OneOf cs c) (sym one) refl

  pub part_lower : c < n
  part_lower = sound.tree.lower n c part

  module _ (base : K) (first : List X) (begun : Begun holds means w n base first)
      (begins : Reads holds means base (λ m. Begins F (entry ns n) (rows m S first n))) where
    pub round_first : InRow (holds base) S first n → Round holds means w n c base first base first
    round_first held = record {
      held = held;
      products = λ m agrees. begins_products F es ns sound.tree sound.even (entry ns n) (rows m S first n)
          (begins m agrees);
      rounds = λ m agrees. none;
      framed = framed_none holds means w n first;
      kept = sets_kept_same holds means base;
    }

    module _ (k : K) (xs : List X) (long : length xs ≡ length first) (now : Round holds means w n c base
        first k xs) where
      -- The part can be evaluated.
      pub round_begun : Begun holds means w c k xs
      round_begun =
          begun_part holds means w n c k xs part (λ v b. (now.held, now.products))
          (begun_after holds means w n base k first xs now.kept now.framed long begun)

      module _ (k1 : K) (ys : List X) (walked : Walked holds means w c k xs k1 ys) where
        -- The row of the fixpoint stands while its part is evaluated.
        pub still_held : InRow (holds k1) S ys n
        still_held =
            keep_row (holds k1) S xs ys n (λ s s<. walked.framed.others n s s<
            (λ u. omega (arith, under_le ns sound.tree c n u, part_lower)))
            (within_later holds means k k1 xs (n * S) (n * S + S) walked.kept now.held)

        pub still : (m : X → ℕ → Bool) → SameRow F (rows m S ys n) (rows m S xs n)
        still m s p s< = in_same m xs ys (n * S + s) (n * S + s) p (walked.framed.others n s s<
            (λ u. omega (arith, under_le ns sound.tree c n u, part_lower)))

        pub part_held : InRow (holds k1) S ys c
        part_held = walked.held c itself

        part_products : (m : X → ℕ → Bool) → Agrees holds means k1 m → OnlyProducts F (rows m S ys c)
        part_products m agrees =
            (evaluation_fills F es ns sound.tree sound.even (rows m S xs) (rows m S ys) c
            (walked.evaluated m agrees)).products
            (round_begun.products m (agrees_before holds means k k1 m walked.kept agrees)) c itself

        -- Where the kind says that the rows of the fixpoint and of its part differ, they differ by every
        -- reading.
        differs_by : length ys ≡ length first → (m : X → ℕ → Bool) → Agrees holds means k1 m → ¬ SameRow F
            (rows (means k1) S ys n) (rows (means k1) S ys c)
            → ¬ SameRow F (rows m S ys n) (rows m S ys c)
        differs_by long' m agrees differs same =
            let rn = row_fits n (length ns) S (length ys) begun.inside (omega (arith, begun.room)) in
            let rc = row_fits c (length ns) S (length ys) (omega (arith, begun.inside, part_lower))
            (omega (arith, begun.room)) in
            differs (λ s p s<. sym (rows_agree holds means w k1 m ys n agrees still_held rn s p s<) ∙ same s
            p s< ∙ rows_agree holds means w k1 m ys c agrees part_held rc s p s<)

        -- The last round changed nothing.
        pub round_last : length ys ≡ length first → SameRow F (rows (means k1) S ys n)
            (rows (means k1) S ys c) → Rounded holds means w n c base first k1 ys
        round_last long' same = record {
          held = λ m u. elim (under_top ns sound.tree n m u) [
            | inl e ↦ subst (λ (z : ℕ). InRow (holds k1) S ys z) e still_held
            | inr x ↦ walked.held m (subst (λ (z : ℕ). Under ns z m) (subst (λ cs. OneOf cs x.0) one x.1) x.2)
          ];
          rounds = λ m agrees.
              (let rn = row_fits n (length ns) S (length ys) begun.inside (omega (arith, begun.room)) in
              let rc = row_fits c (length ns) S (length ys) (omega (arith, begun.inside, part_lower))
              (omega (arith, begun.room)) in (
                rows m S xs,
                now.rounds m (agrees_before holds means k k1 m walked.kept agrees),
                walked.evaluated m agrees,
                λ s p s<. rows_agree holds means w k1 m ys n agrees still_held rn s p s< ∙ same s p s< ∙ sym
                    (rows_agree holds means w k1 m ys c agrees part_held rc s p s<),
              ));
          framed = framed_then holds means w n first xs ys now.framed (framed_part holds means w n c xs ys
              part walked.framed);
          kept = sets_kept_then holds means base k k1 now.kept walked.kept;
        }

        module _ (long' : length ys ≡ length first) (differs : ¬ SameRow F (rows (means k1) S ys n)
            (rows (means k1) S ys c)) (k2 : K) (zs : List X)
            (writes : WritesRow holds means S n k1 ys k2 zs) (copied : Reads holds means k2
            (λ m. SameRow F (rows m S zs n) (rows m S ys c))) where
          -- A round more.
          pub round_next : Round holds means w n c base first k2 zs
          round_next = record {
            held = writes.held;
            products = λ m agrees s p s< t. part_products m (agrees_before holds means k1 k2 m writes.kept
                agrees) s p s< (subst T (copied m agrees s p s<) t);
            rounds = λ m agrees.
                (let a1 = agrees_before holds means k1 k2 m writes.kept agrees in
                let a0 = agrees_before holds means k k1 m walked.kept a1 in
                round (now.rounds m a0) (walked.evaluated m a1) (differs_by long' m a1 differs)
                (copied m agrees) (others_same holds means w m n ys zs writes.others));
            framed = framed_then holds means w n first xs zs now.framed
                (framed_then holds means w n xs ys zs (framed_part holds means w n c xs ys part
                walked.framed) (framed_row holds means w n ys zs begun.inside writes.others));
            kept = sets_kept_then holds means base k k2 now.kept (sets_kept_then holds means k k1 k2
                walked.kept writes.kept);
          }

          -- It comes nearer to the end.
          pub round_fewer : rank F (entry ns n) (rows (means k2) S zs n) < rank F (entry ns n)
              (rows (means k) S xs n)
          round_fewer =
              let m = means k2 in
              let a2 : Agrees holds means k2 m = agrees_self holds means k2 in
              let a1 = agrees_before holds means k1 k2 m writes.kept a2 in
              let a0 = agrees_before holds means k k1 m walked.kept a1 in
              let ab = agrees_before holds means base k m now.kept a0 in
              let rn = row_fits n (length ns) S (length xs) begun.inside (omega (arith, begun.room)) in
              let fewer = rounds_fewer F es ns sound.tree sound.even (rows m S zs) part (begins m ab)
              (begun.products m ab) (now.rounds m a0) (walked.evaluated m a1)
              (differs_by long' m a1 differs) (copied m a2) in
              let there = rank_same F (entry ns n) (rows m S xs n) (rows (means k) S xs n)
              (rows_agree holds means w k m xs n a0 now.held rn) in
              omega (arith, fewer, there)

use Rattle.std.proofs.Common.{◌≡◌, [], ◌∷◌, length, refl, sym, ap, ◌∙◌, subst, inl, inr, arith}
use Rattle.std.specs.Prelude.{IsSomeAnd}
use Rattle.std.proofs.lemmas.Bool.{both_ways}
use Rattle.formulas.specs.Tables.{entry, parts, bound_variable, OneOf, Names, Distinct, itself}
use Rattle.formulas.specs.declared.Node.{Node}
use Rattle.semantics.specs.Evaluation.{SameRow, Begins}
use Rattle.checker.specs.Readings.{Reads}
use Rattle.checker.specs.Gathered.{family_of, rows_of, EntryRow}
use Rattle.checker.proofs.Tables.{sound_tables}
use Rattle.checker.proofs.Places.{row_fits}
use Rattle.checker.proofs.Walks.{IsComposed, WalkedAll, is_free, by_form, framed_row, begun_part}
use Rattle.checker.proofs.Walks.{begun_after, walked_none, walked_one, walked_two, walked_composed}
use Rattle.checker.proofs.Walks.{walked_variable, walked_fixpoint}
use Rattle.checker.proofs.Rounds.{part_lower, round_first, round_begun, part_held, round_next, round_fewer}
use Rattle.checker.proofs.Rounds.{round_last}
use Rattle.checker.proofs.walk.Walk.+iterate_walk.Goals as goal

pub walk-walk-requires-in-Not : goal.walk-walk-requires-in-Not
walk-walk-requires-in-Not g t c κs within =
    let holds = g.K.Kind.holds in
    let means = g.K.Kind.means in
    let w = c.args.self.now in
    let ns = w.tables.nodes.now in
    let sound = sound_tables w.tables in
    let base = c.args.kind.now in
    let xs = c.args.cells.now in
    let n = c.args.n in
    let form : (parts (entry ns n) ≡ c.in-Not.c ∷ []) × IsComposed (entry ns n) = elim c.in-Not.is [
      | inl e ↦ by_form ns n _ e tt
      | inr (inl y) ↦ by_form ns n _ y.2 tt
      | inr (inr y) ↦ by_form ns n _ y.2 tt
    ] in
    let nc : Names c.in-Not.c (entry ns n) = subst (λ cs. OneOf cs c.in-Not.c) (sym form.0) refl in
    let low = sound.tree.lower n c.in-Not.c nc in (
      omega (arith, low),
      (
        within.0,
        (
          within.1,
          begun_part holds means w n c.in-Not.c base xs nc
              (λ v b. absurd (is_free (entry ns n) form.1 v b)) c.requires,
        ),
      ),
    )

pub walk-walk-requires : goal.walk-walk-requires
walk-walk-requires g t c κs within =
    let holds = g.K.Kind.holds in
    let means = g.K.Kind.means in
    let w = c.args.self.now in
    let ns = w.tables.nodes.now in
    let sound = sound_tables w.tables in
    let base = c.args.kind.now in
    let xs = c.args.cells.now in
    let n = c.args.n in
    let form : (parts (entry ns n) ≡ c.in-Or.c ∷ c.in-Or.d ∷ []) × IsComposed (entry ns n) = elim c.in-Or.is [
      | inl e ↦ by_form ns n _ e tt
      | inr e ↦ by_form ns n _ e tt
    ] in
    let nc : Names c.in-Or.c (entry ns n) = subst (λ cs. OneOf cs c.in-Or.c) (sym form.0) (inl refl) in
    let nd : Names c.in-Or.d (entry ns n) = subst (λ cs. OneOf cs c.in-Or.d) (sym form.0) (inr refl) in
    let low = sound.tree.lower n c.in-Or.c nc in (
      omega (arith, low),
      (
        within.0,
        (
          within.1,
          begun_part holds means w n c.in-Or.c base xs nc
              (λ v b. absurd (is_free (entry ns n) form.1 v b)) c.requires,
        ),
      ),
    )

pub walk-walk-requires-in-Or : goal.walk-walk-requires-in-Or
walk-walk-requires-in-Or g t c κs within =
    let holds = g.K.Kind.holds in
    let means = g.K.Kind.means in
    let w = c.args.self.now in
    let ns = w.tables.nodes.now in
    let sound = sound_tables w.tables in
    let base = c.args.kind.now in
    let xs = c.args.cells.now in
    let n = c.args.n in
    let form : (parts (entry ns n) ≡ c.in-Or.c ∷ c.in-Or.d ∷ []) × IsComposed (entry ns n) = elim c.in-Or.is [
      | inl e ↦ by_form ns n _ e tt
      | inr e ↦ by_form ns n _ e tt
    ] in
    let nc : Names c.in-Or.c (entry ns n) = subst (λ cs. OneOf cs c.in-Or.c) (sym form.0) (inl refl) in
    let nd : Names c.in-Or.d (entry ns n) = subst (λ cs. OneOf cs c.in-Or.d) (sym form.0) (inr refl) in
    let k1 = c.walk.new.kind in
    let x1 = c.walk.new.cells in
    let one = walked_one holds means w n c.in-Or.c base k1 xs x1 nc c.walk.ensures in
    let low = sound.tree.lower n c.in-Or.d nd in (
      omega (arith, low),
      (
        within.0,
        (
          within.1,
          begun_part holds means w n c.in-Or.d k1 x1 nd (λ v b. absurd (is_free (entry ns n) form.1 v b))
              (begun_after holds means w n base k1 xs x1 one.kept one.framed (omega arith) c.requires),
        ),
      ),
    )

pub walk-enter-requires-clause-parts : goal.walk-enter-requires-clause-parts
walk-enter-requires-clause-parts g t c =
    let w = c.args.self.now in
    let ns = w.tables.nodes.now in
    let n = c.args.n in
    let form : (parts (entry ns n) ≡ []) = elim c.in-False.is [
      | inl e ↦ ap parts e
      | inr (inl e) ↦ ap parts e
      | inr (inr y) ↦ ap parts y.1
    ] in
    λ _ d nd. absurd (subst (λ cs. OneOf cs d) form nd)

pub walk-enter-requires-in-Not-clause-begun : goal.walk-enter-requires-in-Not-clause-begun
walk-enter-requires-in-Not-clause-begun g t c =
    let holds = g.K.Kind.holds in
    let means = g.K.Kind.means in
    let w = c.args.self.now in
    let ns = w.tables.nodes.now in
    let base = c.args.kind.now in
    let xs = c.args.cells.now in
    let n = c.args.n in
    let form : (parts (entry ns n) ≡ c.in-Not.c ∷ []) × IsComposed (entry ns n) = elim c.in-Not.is [
      | inl e ↦ by_form ns n _ e tt
      | inr (inl y) ↦ by_form ns n _ y.2 tt
      | inr (inr y) ↦ by_form ns n _ y.2 tt
    ] in
    let nc : Names c.in-Not.c (entry ns n) = subst (λ cs. OneOf cs c.in-Not.c) (sym form.0) refl in
    let k1 = c.walk-in-Not.new.kind in
    let x1 = c.walk-in-Not.new.cells in
    let all : WalkedAll holds means w n (parts (entry ns n)) base xs k1 x1 =
    subst (λ cs. WalkedAll holds means w n cs base xs k1 x1) (sym form.0)
    (walked_one holds means w n c.in-Not.c base k1 xs x1 nc c.walk-in-Not.ensures) in
    begun_after holds means w n base k1 xs x1 all.kept all.framed (omega arith) c.requires

pub walk-enter-requires-in-Not-clause-parts : goal.walk-enter-requires-in-Not-clause-parts
walk-enter-requires-in-Not-clause-parts g t c =
    let holds = g.K.Kind.holds in
    let means = g.K.Kind.means in
    let w = c.args.self.now in
    let ns = w.tables.nodes.now in
    let base = c.args.kind.now in
    let xs = c.args.cells.now in
    let n = c.args.n in
    let form : (parts (entry ns n) ≡ c.in-Not.c ∷ []) × IsComposed (entry ns n) = elim c.in-Not.is [
      | inl e ↦ by_form ns n _ e tt
      | inr (inl y) ↦ by_form ns n _ y.2 tt
      | inr (inr y) ↦ by_form ns n _ y.2 tt
    ] in
    let nc : Names c.in-Not.c (entry ns n) = subst (λ cs. OneOf cs c.in-Not.c) (sym form.0) refl in
    let k1 = c.walk-in-Not.new.kind in
    let x1 = c.walk-in-Not.new.cells in
    let all : WalkedAll holds means w n (parts (entry ns n)) base xs k1 x1 =
    subst (λ cs. WalkedAll holds means w n cs base xs k1 x1) (sym form.0)
    (walked_one holds means w n c.in-Not.c base k1 xs x1 nc c.walk-in-Not.ensures) in
    λ _ d od. all.held d od d itself

pub walk-enter-requires-in-Or-clause-begun : goal.walk-enter-requires-in-Or-clause-begun
walk-enter-requires-in-Or-clause-begun g t c =
    let holds = g.K.Kind.holds in
    let means = g.K.Kind.means in
    let w = c.args.self.now in
    let ns = w.tables.nodes.now in
    let sound = sound_tables w.tables in
    let base = c.args.kind.now in
    let xs = c.args.cells.now in
    let n = c.args.n in
    let form : (parts (entry ns n) ≡ c.in-Or.c ∷ c.in-Or.d ∷ []) × IsComposed (entry ns n) = elim c.in-Or.is [
      | inl e ↦ by_form ns n _ e tt
      | inr e ↦ by_form ns n _ e tt
    ] in
    let nc : Names c.in-Or.c (entry ns n) = subst (λ cs. OneOf cs c.in-Or.c) (sym form.0) (inl refl) in
    let nd : Names c.in-Or.d (entry ns n) = subst (λ cs. OneOf cs c.in-Or.d) (sym form.0) (inr refl) in
    let k1 = c.walk.new.kind in
    let x1 = c.walk.new.cells in
    let k2 = c.walk-in-Or.new.kind in
    let x2 = c.walk-in-Or.new.cells in
    let apart : ¬ (c.in-Or.c ≡ c.in-Or.d) = (subst Distinct form.0 (sound.tree.apart n)).0 in
    let all : WalkedAll holds means w n (parts (entry ns n)) base xs k2 x2 =
    subst (λ cs. WalkedAll holds means w n cs base xs k2 x2) (sym form.0)
    (walked_two holds means w n c.in-Or.c c.in-Or.d base k1 k2 xs x1 x2 nc nd apart c.walk.ensures
    c.walk-in-Or.ensures) in
    begun_after holds means w n base k2 xs x2 all.kept all.framed (omega arith) c.requires

pub walk-enter-requires-in-Or-clause-parts : goal.walk-enter-requires-in-Or-clause-parts
walk-enter-requires-in-Or-clause-parts g t c =
    let holds = g.K.Kind.holds in
    let means = g.K.Kind.means in
    let w = c.args.self.now in
    let ns = w.tables.nodes.now in
    let sound = sound_tables w.tables in
    let base = c.args.kind.now in
    let xs = c.args.cells.now in
    let n = c.args.n in
    let form : (parts (entry ns n) ≡ c.in-Or.c ∷ c.in-Or.d ∷ []) × IsComposed (entry ns n) = elim c.in-Or.is [
      | inl e ↦ by_form ns n _ e tt
      | inr e ↦ by_form ns n _ e tt
    ] in
    let nc : Names c.in-Or.c (entry ns n) = subst (λ cs. OneOf cs c.in-Or.c) (sym form.0) (inl refl) in
    let nd : Names c.in-Or.d (entry ns n) = subst (λ cs. OneOf cs c.in-Or.d) (sym form.0) (inr refl) in
    let k1 = c.walk.new.kind in
    let x1 = c.walk.new.cells in
    let k2 = c.walk-in-Or.new.kind in
    let x2 = c.walk-in-Or.new.cells in
    let apart : ¬ (c.in-Or.c ≡ c.in-Or.d) = (subst Distinct form.0 (sound.tree.apart n)).0 in
    let all : WalkedAll holds means w n (parts (entry ns n)) base xs k2 x2 =
    subst (λ cs. WalkedAll holds means w n cs base xs k2 x2) (sym form.0)
    (walked_two holds means w n c.in-Or.c c.in-Or.d base k1 k2 xs x1 x2 nc nd apart c.walk.ensures
    c.walk-in-Or.ensures) in
    λ _ d od. all.held d od d itself

pub walk-enter-requires-in-Least-clause-parts : goal.walk-enter-requires-in-Least-clause-parts
walk-enter-requires-in-Least-clause-parts g t c =
    λ free d nd. elim c.in-Least.is [
      | inl y ↦ absurd (subst (λ o. IsSomeAnd o (λ u. y.0 ≡ u)) (sym (ap bound_variable y.1) ∙ free) refl)
      | inr y ↦ absurd (subst (λ o. IsSomeAnd o (λ u. y.0 ≡ u)) (sym (ap bound_variable y.1) ∙ free) refl)
    ]

pub walk-iterate-requires : goal.walk-iterate-requires
walk-iterate-requires g t c κs within =
    let holds = g.K.Kind.holds in
    let means = g.K.Kind.means in
    let w = c.args.self.now in
    let ns = w.tables.nodes.now in
    let base = c.args.kind.now in
    let xs = c.args.cells.now in
    let n = c.args.n in
    let form : parts (entry ns n) ≡ c.in-Least.c ∷ [] = elim c.in-Least.is
    [ inl y ↦ ap parts y.1 | inr y ↦ ap parts y.1 ] in
    let k1 = c.enter-in-Least.new.kind in
    let x1 = c.enter-in-Least.new.cells in
    let writes = c.enter-in-Least.ensures.writes in
    let F = family_of w.view in
    let begins : Reads holds means k1 (λ m. Begins F (entry ns n) (rows_of m w x1 n)) = λ m agrees.
    let value = c.enter-in-Least.ensures.value m agrees in
    elim c.in-Least.is [
      | inl y ↦ subst (λ (z : Node). Begins F z (rows_of m w x1 n)) (sym y.1)
          (subst (λ (z : Node). EntryRow F w.tables.exprs.now ns (rows_of m w xs) n z (rows_of m w x1 n))
          y.1 value)
      | inr y ↦ subst (λ (z : Node). Begins F z (rows_of m w x1 n)) (sym y.1)
          (subst (λ (z : Node). EntryRow F w.tables.exprs.now ns (rows_of m w xs) n z (rows_of m w x1 n))
          y.1 value)
    ] in (
      omega arith,
      (
        within.0,
        (
          within.1,
          (
            begun_after holds means w n base k1 xs x1 writes.kept (framed_row holds means w n xs x1
                c.requires.inside writes.others) (omega arith) c.requires,
            (form, (writes.held, begins)),
          ),
        ),
      ),
    )

pub walk-returns-in-False : goal.walk-returns-in-False
walk-returns-in-False g t c =
    let holds = g.K.Kind.holds in
    let means = g.K.Kind.means in
    let w = c.args.self.now in
    let ns = w.tables.nodes.now in
    let base = c.args.kind.now in
    let xs = c.args.cells.now in
    let n = c.args.n in
    let form : (parts (entry ns n) ≡ []) = elim c.in-False.is [
      | inl e ↦ ap parts e
      | inr (inl e) ↦ ap parts e
      | inr (inr y) ↦ ap parts y.1
    ] in
    let k1 = c.enter.new.kind in
    let x1 = c.enter.new.cells in
    let all = subst (λ cs. WalkedAll holds means w n cs base xs base xs) (sym form)
    (walked_none holds means w n base xs) in
    let composed = λ (is : IsComposed (entry ns n)). walked_composed holds means w n base base k1 xs xs x1
    c.requires.inside is all c.enter.ensures.writes c.enter.ensures.value in
    elim c.in-False.is [
      | inl e ↦ composed (subst IsComposed (sym e) tt)
      | inr (inl e) ↦ composed (subst IsComposed (sym e) tt)
      | inr (inr y) ↦ walked_variable holds means w n y.0 base k1 xs x1 c.requires.inside y.1
          c.enter.ensures.writes c.enter.ensures.value
    ]

pub walk-returns-in-Not : goal.walk-returns-in-Not
walk-returns-in-Not g t c =
    let holds = g.K.Kind.holds in
    let means = g.K.Kind.means in
    let w = c.args.self.now in
    let ns = w.tables.nodes.now in
    let base = c.args.kind.now in
    let xs = c.args.cells.now in
    let n = c.args.n in
    let form : (parts (entry ns n) ≡ c.in-Not.c ∷ []) × IsComposed (entry ns n) = elim c.in-Not.is [
      | inl e ↦ by_form ns n _ e tt
      | inr (inl y) ↦ by_form ns n _ y.2 tt
      | inr (inr y) ↦ by_form ns n _ y.2 tt
    ] in
    let nc : Names c.in-Not.c (entry ns n) = subst (λ cs. OneOf cs c.in-Not.c) (sym form.0) refl in
    let k1 = c.walk-in-Not.new.kind in
    let x1 = c.walk-in-Not.new.cells in
    let all : WalkedAll holds means w n (parts (entry ns n)) base xs k1 x1 =
    subst (λ cs. WalkedAll holds means w n cs base xs k1 x1) (sym form.0)
    (walked_one holds means w n c.in-Not.c base k1 xs x1 nc c.walk-in-Not.ensures) in
    walked_composed holds means w n base k1 c.enter-in-Not.new.kind xs x1 c.enter-in-Not.new.cells
    c.requires.inside form.1 all
    c.enter-in-Not.ensures.writes c.enter-in-Not.ensures.value

pub walk-returns-in-Or : goal.walk-returns-in-Or
walk-returns-in-Or g t c =
    let holds = g.K.Kind.holds in
    let means = g.K.Kind.means in
    let w = c.args.self.now in
    let ns = w.tables.nodes.now in
    let sound = sound_tables w.tables in
    let base = c.args.kind.now in
    let xs = c.args.cells.now in
    let n = c.args.n in
    let form : (parts (entry ns n) ≡ c.in-Or.c ∷ c.in-Or.d ∷ []) × IsComposed (entry ns n) = elim c.in-Or.is [
      | inl e ↦ by_form ns n _ e tt
      | inr e ↦ by_form ns n _ e tt
    ] in
    let nc : Names c.in-Or.c (entry ns n) = subst (λ cs. OneOf cs c.in-Or.c) (sym form.0) (inl refl) in
    let nd : Names c.in-Or.d (entry ns n) = subst (λ cs. OneOf cs c.in-Or.d) (sym form.0) (inr refl) in
    let k1 = c.walk.new.kind in
    let x1 = c.walk.new.cells in
    let k2 = c.walk-in-Or.new.kind in
    let x2 = c.walk-in-Or.new.cells in
    let apart : ¬ (c.in-Or.c ≡ c.in-Or.d) = (subst Distinct form.0 (sound.tree.apart n)).0 in
    let all : WalkedAll holds means w n (parts (entry ns n)) base xs k2 x2 =
    subst (λ cs. WalkedAll holds means w n cs base xs k2 x2) (sym form.0)
    (walked_two holds means w n c.in-Or.c c.in-Or.d base k1 k2 xs x1 x2 nc nd apart c.walk.ensures
    c.walk-in-Or.ensures) in
    walked_composed holds means w n base k2 c.enter-in-Or.new.kind xs x2 c.enter-in-Or.new.cells
    c.requires.inside form.1 all
    c.enter-in-Or.ensures.writes c.enter-in-Or.ensures.value

pub walk-returns-in-Least : goal.walk-returns-in-Least
walk-returns-in-Least g t c =
    let holds = g.K.Kind.holds in
    let means = g.K.Kind.means in
    let w = c.args.self.now in
    let ns = w.tables.nodes.now in
    let base = c.args.kind.now in
    let xs = c.args.cells.now in
    let n = c.args.n in
    let form : parts (entry ns n) ≡ c.in-Least.c ∷ [] = elim c.in-Least.is
    [ inl y ↦ ap parts y.1 | inr y ↦ ap parts y.1 ] in
    let k1 = c.enter-in-Least.new.kind in
    let x1 = c.enter-in-Least.new.cells in
    let writes = c.enter-in-Least.ensures.writes in
    let F = family_of w.view in
    let begins : Reads holds means k1 (λ m. Begins F (entry ns n) (rows_of m w x1 n)) = λ m agrees.
    let value = c.enter-in-Least.ensures.value m agrees in
    elim c.in-Least.is [
      | inl y ↦ subst (λ (z : Node). Begins F z (rows_of m w x1 n)) (sym y.1)
          (subst (λ (z : Node). EntryRow F w.tables.exprs.now ns (rows_of m w xs) n z (rows_of m w x1 n))
          y.1 value)
      | inr y ↦ subst (λ (z : Node). Begins F z (rows_of m w x1 n)) (sym y.1)
          (subst (λ (z : Node). EntryRow F w.tables.exprs.now ns (rows_of m w xs) n z (rows_of m w x1 n))
          y.1 value)
    ] in
    let nc : Names c.in-Least.c (entry ns n) = subst (λ cs. OneOf cs c.in-Least.c) (sym form) refl in
    walked_fixpoint holds means w n c.in-Least.c base k1 c.iterate.new.kind xs x1 c.iterate.new.cells
    c.requires.inside nc writes begins c.iterate.ensures

pub iterate-rounds-init : goal.iterate-rounds-init
iterate-rounds-init g t c =
    let holds = g.K.Kind.holds in
    let means = g.K.Kind.means in
    let w = c.args.self.now in
    let base = c.args.kind.now in
    let first = c.args.cells.now in
    let n = c.args.n in
    let d = c.args.c in
    let one = c.requires.part in
    let begun = c.requires.begun in
    let begins = c.requires.begins in
    let low = part_lower holds means w n d one in
    round_first holds means w n d one base first begun begins c.requires.held

pub iterate-walk-requires : goal.iterate-walk-requires
iterate-walk-requires g t c κs within =
    let holds = g.K.Kind.holds in
    let means = g.K.Kind.means in
    let w = c.args.self.now in
    let base = c.args.kind.now in
    let first = c.args.cells.now in
    let n = c.args.n in
    let d = c.args.c in
    let one = c.requires.part in
    let begun = c.requires.begun in
    let begins = c.requires.begins in
    let low = part_lower holds means w n d one in (
      omega (arith, low),
      (
        within.0,
        (
          within.1,
          round_begun holds means w n d one base first begun begins c.rounds.kind
              c.rounds.cells (omega arith) c.rounds.invariant,
        ),
      ),
    )

pub iterate-same_rows-requires : goal.iterate-same_rows-requires
iterate-same_rows-requires g t c =
    let holds = g.K.Kind.holds in
    let means = g.K.Kind.means in
    let w = c.args.self.now in
    let first = c.args.cells.now in
    let n = c.args.n in
    let d = c.args.c in
    let one = c.requires.part in
    let begun = c.requires.begun in
    let begins = c.requires.begins in
    let low = part_lower holds means w n d one in
    let ys = c.walk.new.cells in
    let S = w.view.states in
    let long = length w.tables.nodes.now in
    let rn = row_fits n long S (length ys) begun.inside (omega (arith, begun.room)) in
    let rc = row_fits d long S (length ys) (omega (arith, begun.inside, low)) (omega (arith, begun.room)) in
    record { fits = (rn, rc) }

pub iterate-copy-requires-clause-fits : goal.iterate-copy-requires-clause-fits
iterate-copy-requires-clause-fits g t c =
    let holds = g.K.Kind.holds in
    let means = g.K.Kind.means in
    let w = c.args.self.now in
    let first = c.args.cells.now in
    let n = c.args.n in
    let d = c.args.c in
    let one = c.requires.part in
    let begun = c.requires.begun in
    let begins = c.requires.begins in
    let low = part_lower holds means w n d one in
    let ys = c.walk.new.cells in
    let S = w.view.states in
    let long = length w.tables.nodes.now in
    let rn = row_fits n long S (length ys) begun.inside (omega (arith, begun.room)) in
    let rc = row_fits d long S (length ys) (omega (arith, begun.inside, low)) (omega (arith, begun.room)) in
    (rn, rc)

pub iterate-copy-requires-clause-held : goal.iterate-copy-requires-clause-held
iterate-copy-requires-clause-held g t c =
    let holds = g.K.Kind.holds in
    let means = g.K.Kind.means in
    let w = c.args.self.now in
    let base = c.args.kind.now in
    let first = c.args.cells.now in
    let n = c.args.n in
    let d = c.args.c in
    let one = c.requires.part in
    let begun = c.requires.begun in
    let begins = c.requires.begins in
    let low = part_lower holds means w n d one in
    let k = c.rounds.kind in
    let xs = c.rounds.cells in
    let k1 = c.walk.new.kind in
    let ys = c.walk.new.cells in
    let S = w.view.states in
    let long = length w.tables.nodes.now in
    let rn = row_fits n long S (length ys) begun.inside (omega (arith, begun.room)) in
    let rc = row_fits d long S (length ys) (omega (arith, begun.inside, low)) (omega (arith, begun.room)) in
    part_held holds means w n d one base first begun begins k xs (omega arith) c.rounds.invariant k1 ys
    c.walk.ensures

pub iterate-rounds-preserved : goal.iterate-rounds-preserved
iterate-rounds-preserved g t c =
    let holds = g.K.Kind.holds in
    let means = g.K.Kind.means in
    let w = c.args.self.now in
    let base = c.args.kind.now in
    let first = c.args.cells.now in
    let n = c.args.n in
    let d = c.args.c in
    let one = c.requires.part in
    let begun = c.requires.begun in
    let begins = c.requires.begins in
    let low = part_lower holds means w n d one in
    let k = c.rounds.kind in
    let xs = c.rounds.cells in
    let k1 = c.walk.new.kind in
    let ys = c.walk.new.cells in
    let S = w.view.states in
    let long = length w.tables.nodes.now in
    let rn = row_fits n long S (length ys) begun.inside (omega (arith, begun.room)) in
    let rc = row_fits d long S (length ys) (omega (arith, begun.inside, low)) (omega (arith, begun.room)) in
    let differs : ¬ SameRow (family_of w.view) (rows_of (means k1) w ys n) (rows_of (means k1) w ys d) =
    λ same. both_ways _ c.if-same_rows.false (c.same_rows.ensures.full same) in
    round_next holds means w n d one base first begun begins k xs (omega arith) c.rounds.invariant k1 ys
    c.walk.ensures (omega arith) differs
    c.copy.new.kind c.copy.new.cells c.copy.ensures.writes c.copy.ensures.value

pub iterate-rounds-smaller : goal.iterate-rounds-smaller
iterate-rounds-smaller g t c =
    let holds = g.K.Kind.holds in
    let means = g.K.Kind.means in
    let w = c.args.self.now in
    let base = c.args.kind.now in
    let first = c.args.cells.now in
    let n = c.args.n in
    let d = c.args.c in
    let one = c.requires.part in
    let begun = c.requires.begun in
    let begins = c.requires.begins in
    let low = part_lower holds means w n d one in
    let k = c.rounds.kind in
    let xs = c.rounds.cells in
    let k1 = c.walk.new.kind in
    let ys = c.walk.new.cells in
    let S = w.view.states in
    let long = length w.tables.nodes.now in
    let rn = row_fits n long S (length ys) begun.inside (omega (arith, begun.room)) in
    let rc = row_fits d long S (length ys) (omega (arith, begun.inside, low)) (omega (arith, begun.room)) in
    let differs : ¬ SameRow (family_of w.view) (rows_of (means k1) w ys n) (rows_of (means k1) w ys d) =
    λ same. both_ways _ c.if-same_rows.false (c.same_rows.ensures.full same) in
    round_fewer holds means w n d one base first begun begins k xs (omega arith) c.rounds.invariant k1 ys
    c.walk.ensures (omega arith) differs
    c.copy.new.kind c.copy.new.cells c.copy.ensures.writes c.copy.ensures.value

pub iterate-returns : goal.iterate-returns
iterate-returns g t c =
    let holds = g.K.Kind.holds in
    let means = g.K.Kind.means in
    let w = c.args.self.now in
    let base = c.args.kind.now in
    let first = c.args.cells.now in
    let n = c.args.n in
    let d = c.args.c in
    let one = c.requires.part in
    let begun = c.requires.begun in
    let begins = c.requires.begins in
    let low = part_lower holds means w n d one in
    let k = c.rounds.kind in
    let xs = c.rounds.cells in
    let k1 = c.walk.new.kind in
    let ys = c.walk.new.cells in
    let S = w.view.states in
    let long = length w.tables.nodes.now in
    let rn = row_fits n long S (length ys) begun.inside (omega (arith, begun.room)) in
    let rc = row_fits d long S (length ys) (omega (arith, begun.inside, low)) (omega (arith, begun.room)) in
    round_last holds means w n d one base first begun begins k xs (omega arith) c.rounds.invariant k1 ys
    c.walk.ensures (omega arith)
    (c.same_rows.ensures.sound c.if-same_rows.true)

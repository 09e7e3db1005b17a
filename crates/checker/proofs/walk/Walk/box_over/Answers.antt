use Rattle.std.proofs.Common.{◌≡◌, ℕ, ◌+◌, ◌*◌, ◌<◌, ◌≤◌, List, length, take, zero-add, length-take, not}
use Rattle.std.proofs.Common.{◌&&◌, sym, ap, ◌∙◌, subst, arith, rules}
use Rattle.std.specs.List.{slice_get, AllWithin}
use borrow.Rule.Slice.PartMut.{put_mid}
use Rattle.semantics.specs.Meaning.{Pairs}
use Rattle.product_sets.specs.Cells.{in_cell}
use Rattle.product_sets.proofs.Cells.{in_same, same_read}
use Rattle.product_sets.proofs.Kept.{sets_kept_then}
use Rattle.checker.specs.Readings.{Builds}
use Rattle.checker.specs.Gathered.{family_of, rows_of}
use Rattle.checker.proofs.Places.{put_cell}
use Rattle.checker.proofs.Readings.{agrees_before}
use Rattle.checker.proofs.Walks.{gathered_later}
use Rattle.checker.proofs.Leading.{box_at}
use Rattle.checker.proofs.walk.Walk.box_over.Goals as goal

-- The row that was lent, as it lies in the array.
laid_at : {X : Type 0} (S : ℕ) (whole row : List X) (u : ℕ) → S ≤ length whole → length row ≡ S → u < S →
    slice_get (put_mid 0 S whole row) u ≡ slice_get row u
laid_at S whole row u fits long u< = subst (λ (k : ℕ). slice_get (put_mid 0 S whole row) k ≡ slice_get row
    u) (zero-add u) (put_cell 0 S whole row u (omega arith) (omega arith) u<)

pub sources-from-requires : goal.sources-from-requires
sources-from-requires g c =
    let holds = g.K.Kind.holds in
    let means = g.K.Kind.means in
    let w = c.args.self.now in
    let S = w.view.states in
    let new = c.write_row.new.kind in
    let lent : length (take S c.row-part.result) ≡ S = simp length-take (omega arith) in
    let long : length c.write_row.new.row ≡ S = omega arith in
    let held : AllWithin (holds new) (put_mid 0 S c.row-part.result c.write_row.new.row) 0 S = λ u d l u<.
    subst (holds new) (sym (same_read c.write_row.new.row (put_mid 0 S c.row-part.result
    c.write_row.new.row) u u d
    (laid_at S c.row-part.result c.write_row.new.row u (omega arith) long u<)))
    (c.write_row.ensures.held u d (omega arith)) in (
      omega (arith, g.met.K.Kind.roomy),
      (gathered_later holds means w c.args.kind.now new c.write_row.ensures.kept c.requires.gathered, held),
    )

pub returns-clause-value : goal.returns-clause-value
returns-clause-value g c = λ m agrees s p h.
    let holds = g.K.Kind.holds in
    let means = g.K.Kind.means in
    let w = c.args.self.now in
    let F = family_of w.view in
    let S = w.view.states in
    let all = w.all in
    let chosen = c.args.chosen in
    let base = c.args.kind.now in
    let k1 = c.write_row.new.kind in
    let k2 = c.sources-from.new.kind in
    let xs = c.args.cells.now in
    let outside-row = put_mid 0 S c.row-part.result c.write_row.new.row in
    let lent : length (take S c.row-part.result) ≡ S = simp length-take (omega arith) in
    let long : length c.write_row.new.row ≡ S = omega arith in
    let a2 = agrees_before holds means k2 c.write.new.kind m c.write.ensures.writes.kept agrees in
    let a1 = agrees_before holds means k1 k2 m c.sources-from.ensures.kept a2 in
    let a0 = agrees_before holds means base k1 m c.write_row.ensures.kept a1 in
    let k02 = sets_kept_then holds means base k1 k2 c.write_row.ensures.kept c.sources-from.ensures.kept in
    let part : Pairs = rows_of m w xs c.args.c in
    let outside : Pairs = in_cell m outside-row in
    let written = c.write.ensures.value m agrees (λ p l r. m all p && not (l && m chosen p))
    (λ k k' l r set later hl hr called ag.
    (let made : Builds holds means k.now k'.now (holds k.now all × holds k.now l × holds k.now chosen)
    (λ m p. m all p && not (m l p && m chosen p)) set = search rules in
    made.value (
      (later all (k02 all c.requires.gathered.all).0).0,
      hl,
      (later chosen
          (k02 chosen c.requires.chosen).0).0,
    ) m ag)) s p h in
    box_at F c.args.action part outside s p
    (m all p) (m chosen p) (in_cell m c.sources-from.result s p) (rows_of m w c.write.new.cells c.args.n s p)
    ((c.requires.gathered.meant m a0).everyone p)
    (λ u u<.
    in_same m c.write_row.new.row outside-row u u p (laid_at S c.row-part.result c.write_row.new.row u
    (omega arith) long u<)
    ∙ c.write_row.ensures.value m a1 (λ p l r. m all p && not l) (λ k k' l r set later hl hr called ag.
    (let made : Builds holds means k.now k'.now (holds k.now all × holds k.now l)
    (λ m p. m all p && not (m l p)) set = search rules in
    made.value ((later all c.requires.gathered.all).0, hl) m ag)) u p (omega arith)
    ∙ ap (λ b. m all p && not b) (in_same m xs c.row-part.result (c.args.c * S + u) u p
    (c.row-part.ensures u u<)))
    (c.sources-from.ensures.value m a2 s p h)
    written

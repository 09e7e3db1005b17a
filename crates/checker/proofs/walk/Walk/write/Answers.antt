use Rattle.std.proofs.Common.{◌≡◌, ℕ, ◌+◌, ◌-◌, ◌*◌, length, take, drop, ◌∙◌, arith, length-drop, length-take}
use borrow.Rule.Slice.PartMut.{put_mid}
use Rattle.product_sets.proofs.Cells.{in_same}
use Rattle.checker.proofs.Places.{put_cell}
use Rattle.checker.proofs.walk.Walk.write.Goals as goal

pub returns-clause-value : goal.returns-clause-value
returns-clause-value g c = λ m agrees rule follows s p l.
    let S : ℕ = c.args.self.now.view.states in
    let a : ℕ = c.args.n * S in
    let xs = c.args.cells.now in
    let row = c.write_row.new.row in
    let part : length (take (a + S - a) (drop a xs)) ≡ S = simp (length-take, length-drop) (omega arith) in
    let long : length row ≡ S = omega arith in
    in_same m row (put_mid a (a + S - a) xs row) s (a + s) p (put_cell a (a + S - a) xs row s (omega arith)
    (omega arith) (omega arith))
    ∙ c.write_row.ensures.value m agrees rule follows s p (omega arith)

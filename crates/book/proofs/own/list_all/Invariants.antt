use Rattle.std.proofs.Common.{take, vec_items}
use Rattle.book.specs.Own.{Listed}
use Rattle.book.proofs.own.list_all.Given as goal

abbrev pub invariant-loop-t : goal.invariant-loop-t
invariant-loop-t l = Listed l.configuration (take l.t-index l.transitions) (vec_items l.list)

use Rattle.std.proofs.Common.{◌≡◌, ℕ, [], vec_items, string_bytes, inl, inr, arith}
use Rattle.report.specs.Pieces.{Finishes}
use Rattle.report.specs.declared.serve.Stopped.TheVariants.{Memory}
use Rattle.report.proofs.Events.{residual, through_none, through_weaker}
use Rattle.report.proofs.Pieces.{finishes_line, finishes_none, without_memory, told, untold, empty_or}
use Rattle.report.proofs.serve.answer_end.Goals as goal

pub returns-in_err-finish : goal.returns-in_err-finish
returns-in_err-finish g c =
    let t = c.args.transcript.now in
    let e = c.in_err-finish.field-0.0 in
    through_none (g.C.Console.known c.args.console.now)
    (residual c.from_residual.result (Memory e) (λ r. Finishes t r []) c.from_residual.ensures.1
    (without_memory t [] e))

pub returns-in-None : goal.returns-in-None
returns-in-None g c =
    let t = c.args.transcript.now in
    elim (empty_or (vec_items t.line)) [
      | inl e ↦ through_none (g.C.Console.known c.args.console.now) (finishes_none t (tt {0}) e)
      | inr n ↦ absurd (untold _ c.in_ok-finish.field-0 c.in-None.is (c.in_ok-finish.ensures.answer n))
    ]

pub returns-in-Some : goal.returns-in-Some
returns-in-Some g c =
    let t = c.args.transcript.now in
    let f = c.in_ok-finish.ensures in
    elim (empty_or (vec_items t.line)) [
      | inl e ↦ absurd (let z : ◌≡◌ {A = ℕ} 0 1 = (let a = (f.empty e).0 in let b = c.in-Some.is in cc) in
          omega arith)
      | inr n ↦ through_weaker (g.C.Console.known c.args.console.now)
          (g.C.Console.known c.answer_line.new.console)
          (λ es says. finishes_line (Unit {0}) t (string_bytes c.in-Some.last)
          (told _ c.in_ok-finish.field-0 c.in-Some.last c.in-Some.is (f.answer n)) n
          c.answer_line.result es says)
          c.answer_line.ensures
    ]

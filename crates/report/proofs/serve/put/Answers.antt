use Rattle.std.proofs.Common.{ℕ, [], ◌∷◌, take, subst}
use Rattle.report.specs.Events.{wrote, Passes}
use Rattle.report.proofs.Events.{put_more, put_again, put_failed, put_stuck}
use Rattle.report.proofs.serve.put.Goals as goal

pub returns-in-Ok-eq0 : goal.returns-in-Ok-eq0
returns-in-Ok-eq0 g c =
    let before = g.C.Console.known c.loop-rest.console in
    let after = g.C.Console.known c.write.new.self in
    put_stuck (g.C.Console.known c.args.console.now) before after c.args.bytes.now c.loop-rest.rest.now
    (Unit {0}) c.new.result c.new.ensures.kind c.loop-rest.invariant
    (subst (λ (n : ℕ). Passes before after (wrote (take n c.loop-rest.rest.now) ∷ []))
    c.in-Ok-eq0.field-0-test c.in-Ok-eq0.ensures-1.event)

pub loop-rest-preserved-in-Ok : goal.loop-rest-preserved-in-Ok
loop-rest-preserved-in-Ok g c =
    put_more (g.C.Console.known c.args.console.now) (g.C.Console.known c.loop-rest.console)
    (g.C.Console.known c.write.new.self) c.args.bytes.now c.loop-rest.rest.now
    c.in-Ok.count c.loop-rest.invariant c.in-Ok.ensures.event

pub loop-rest-preserved : goal.loop-rest-preserved
loop-rest-preserved g c =
    put_again (g.C.Console.known c.args.console.now) (g.C.Console.known c.loop-rest.console)
    (g.C.Console.known c.write.new.self) c.args.bytes.now c.loop-rest.rest.now
    c.in-Err.e c.loop-rest.invariant c.in-Err.ensures.event

pub returns-in-Err-2 : goal.returns-in-Err-2
returns-in-Err-2 g c =
    put_failed (g.C.Console.known c.args.console.now) (g.C.Console.known c.loop-rest.console)
    (g.C.Console.known c.write.new.self) c.args.bytes.now c.loop-rest.rest.now
    (Unit {0}) c.in-Err.e c.loop-rest.invariant c.in-Err.ensures.event

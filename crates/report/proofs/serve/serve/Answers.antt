use Rattle.std.proofs.Common.{ℕ, [], ◌∷◌, ◌++◌, Err, OnOk, take, refl, ap, subst, rules, arith}
use Rattle.std.proofs.Common.{length-append, length-take, length}
use Rattle.report.specs.Events.{read, read_failed, bytes_read, Passes, ReadsAll}
use Rattle.report.specs.Conversations.{Conversation}
use Rattle.report.specs.declared.session.Session.{Session}
use Rattle.report.specs.declared.serve.Stopped.TheVariants.{Input, Memory}
use Rattle.report.proofs.Events.{residual, passes_then, through_none, reads_all}
use Rattle.report.proofs.Conversations.{starts, heard, heard_read, goes_on, ends_first, ends_closed}
use Rattle.report.proofs.Conversations.{ends_within, ends_unread, reads_no_more}
use Rattle.report.proofs.serve.serve.Goals as goal

pub returns-in_err-transcript : goal.returns-in_err-transcript
returns-in_err-transcript g c =
    let e = c.in_err-transcript.field-0.0 in
    let old = g.C.Console.known c.args.console.now in
    through_none old
    (residual c.from_residual.result (Memory e) (λ r. Conversation c.args.session r []
    × OnOk r (ReadsAll old.unread [])) c.from_residual.ensures.1
    (ends_first (Unit {0}) c.args.session e, tt))

pub loop-init : goal.loop-init
loop-init g c =
    let fresh = c.in_ok-transcript.ensures in
    let t = c.in_ok-transcript.transcript in (
      refl,
      through_none (g.C.Console.known c.args.console.now)
          (starts t.session t refl fresh.1 fresh.2, omega arith),
    )

pub returns-in-Ok-eq0 : goal.returns-in-Ok-eq0
returns-in-Ok-eq0 g c =
    let (long, (es, gone, (reached, many))) = c.loop.invariant in
    let (fs, wrote, finishes) = c.answer_end.ensures in
    let s = c.in_ok-transcript.transcript.session in
    let old = g.C.Console.known c.args.console.now in
    let mid = g.C.Console.known c.loop.console in
    let end = g.C.Console.known c.read.new.self in
    let new = g.C.Console.known c.answer_end.new.console in
    let event : Passes mid end (read [] ∷ []) =
    subst (λ (n : ℕ). Passes mid end (read (take n c.read.new.buffer) ∷ [])) c.in-Ok-eq0.field-0-test
    c.in-Ok-eq0.ensures.event in
    let all : Passes old end (es ++ read [] ∷ []) = passes_then old mid end es (read [] ∷ []) gone event in (
      heard es [] fs,
      passes_then old end new (es ++ read [] ∷ []) fs all wrote,
      (
        subst (λ (x : Session). Conversation x c.answer_end.result (heard es [] fs))
            c.in_ok-transcript.ensures.0
            (ends_closed s c.loop.transcript es reached (Unit {0}) c.answer_end.result fs finishes),
        reads_no_more old.unread c.loop.transcript c.answer_end.result (es ++ read [] ∷ []) fs
            (reads_all old.unread end.unread (es ++ read [] ∷ []) all.read
            (c.in-Ok-eq0.ensures.end c.in-Ok-eq0.field-0-test)) finishes,
      ),
    )

pub returns-in_err-answer_piece-in-Ok : goal.returns-in_err-answer_piece-in-Ok
returns-in_err-answer_piece-in-Ok g c =
    let (long, (es, gone, (reached, many))) = c.loop.invariant in
    let (fs, wrote, feeds) = c.in_err-answer_piece-in-Ok.ensures.answer in
    let s = c.in_ok-transcript.transcript.session in
    let why = c.in_err-answer_piece-in-Ok.field-0.0 in
    let piece = take c.in-Ok.count c.read.new.buffer in
    let old = g.C.Console.known c.args.console.now in
    let mid = g.C.Console.known c.loop.console in
    let then = g.C.Console.known c.read.new.self in
    let new = g.C.Console.known c.answer_piece.new.console in (
      heard es piece fs,
      passes_then old then new (es ++ read piece ∷ []) fs
          (passes_then old mid then es (read piece ∷ []) gone c.in-Ok.ensures.event) wrote,
      residual c.from_residual-in_err-answer_piece-in-Ok.result why
          (λ r. Conversation c.args.session r (heard es piece fs)
          × OnOk r (ReadsAll old.unread (heard es piece fs)))
          c.from_residual-in_err-answer_piece-in-Ok.ensures.1 (
            subst (λ (x : Session). Conversation {T = Unit {0}} x (Err why) (heard es piece fs))
                c.in_ok-transcript.ensures.0
                (ends_within s c.loop.transcript es reached (Unit {0})
                (Unit {0}) c.answer_piece.new.transcript piece why fs feeds),
            tt,
          ),
    )

pub returns-in-Err : goal.returns-in-Err
returns-in-Err g c =
    let (long, (es, gone, (reached, many))) = c.loop.invariant in
    let s = c.in_ok-transcript.transcript.session in
    let e = c.in-Err.e in (
      es ++ read_failed e ∷ [],
      passes_then (g.C.Console.known c.args.console.now) (g.C.Console.known c.loop.console)
          (g.C.Console.known c.read.new.self) es (read_failed e ∷ []) gone c.in-Err.ensures.event,
      (
        subst (λ (x : Session). Conversation {T = Unit {0}} x (Err (Input e)) (es ++ read_failed e ∷ []))
            c.in_ok-transcript.ensures.0
            (ends_unread s c.loop.transcript es reached (Unit {0}) e),
        tt,
      ),
    )

pub loop-preserved : goal.loop-preserved
loop-preserved g c =
    let (long, (es, gone, (reached, many))) = c.loop.invariant in
    let took = c.in_ok-answer_piece-in-Ok.ensures in
    let (fs, wrote, feeds) = took.answer in
    let s = c.in_ok-transcript.transcript.session in
    let piece = take c.in-Ok.count c.read.new.buffer in
    let old = g.C.Console.known c.args.console.now in
    let then = g.C.Console.known c.read.new.self in (
      search rules,
      (
        heard es piece fs,
        passes_then old then (g.C.Console.known c.answer_piece.new.console) (es ++ read piece ∷ []) fs
            (passes_then old (g.C.Console.known c.loop.console) then es
            (read piece ∷ []) gone c.in-Ok.ensures.event) wrote,
        (
          goes_on s c.loop.transcript es reached c.answer_piece.new.transcript piece fs took.session feeds.0
              feeds.1,
          omega (
            arith,
            many,
            ap length (heard_read es piece fs feeds.0),
            length-append
                (bytes_read es) piece,
            length-take c.in-Ok.count c.read.new.buffer,
            c.in-Ok.ensures.bound,
            c.in-Ok.count-test,
          ),
        ),
      ),
    )

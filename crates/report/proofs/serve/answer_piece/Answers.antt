use Rattle.std.proofs.Common.{◌≡◌, ℕ, List, [], ◌∷◌, ◌++◌, take, drop, suc, get_or, Ok, Err, sym, refl, ap}
use Rattle.std.proofs.Common.{◌∙◌, subst, append_assoc, drop-cons, take-append-drop, string_bytes}
use Rattle.std.proofs.Common.{inl, inr, arith, ◌<◌, length}
use Rattle.std.proofs.lemmas.Bool.{cases_eq}
use Rattle.std.proofs.lemmas.List.{take_more}
use Rattle.report.specs.Events.{Event, Through}
use Rattle.report.specs.Pieces.{Feeds}
use Rattle.report.specs.declared.serve.Stopped.{Stopped}
use Rattle.report.specs.declared.serve.Stopped.TheVariants.{Memory}
use Rattle.report.specs.declared.transcript.Transcript.{Transcript}
use Rattle.report.proofs.Events.{residual, through_none, through_then, through_weaker}
use Rattle.report.proofs.Pieces.{feeds_none, feeds_then, feeds_more, feeds_byte, feeds_line}
use Rattle.report.proofs.Pieces.{without_memory, told, untold}
use Rattle.report.proofs.serve.answer_piece.Goals.{in-None, in-Some+in_ok-answer_line-in-Some}
use Rattle.report.proofs.serve.answer_piece.Goals as goal

pub loop-byte-init : goal.loop-byte-init
loop-byte-init g c = (
  refl,
  through_none (g.C.Console.known c.args.console.now)
      (feeds_none c.args.transcript.now (tt {0})),
)

-- Where the loop ends within a piece, what was taken so far and the byte at which it ends are a part of it.
whole : (xs : List ℕ) (i : ℕ) → i < length xs → (take i xs ++ get_or xs i 0 ∷ []) ++ drop (suc i) xs ≡ xs
whole xs i l =
    append_assoc (take i xs) (get_or xs i 0 ∷ []) (drop (suc i) xs)
    ∙ ap (λ z. take i xs ++ z) (sym (drop-cons xs i 0 l)) ∙ take-append-drop i xs

ended : (start before after : Transcript) (xs : List ℕ) (i : ℕ) → i < length xs → before.session ≡ start.session
    → (why : Stopped) (es fs : List Event) → Feeds {T = Unit {0}} start before (take i xs) (Ok (tt {0})) es
    → Feeds {T = Unit {0}} before after (get_or xs i 0 ∷ []) (Err why) fs
    → Feeds {T = Unit {0}} start after xs (Err why) (es ++ fs)
ended start before after xs i l same why es fs p q =
    let b : ℕ = get_or xs i 0 in
    subst (λ (z : List ℕ). Feeds {T = Unit {0}} start after z (Err why) (es ++ fs)) (whole xs i l)
    (feeds_more (Unit {0}) start after after (take i xs ++ b ∷ []) (drop (suc i) xs) why (es ++ fs)
    (feeds_then {T = Unit {0}} start before after (take i xs) (b ∷ []) same (tt {0}) (Err why) es fs p q))

pub returns-in_err-feed-clause-answer : goal.returns-in_err-feed-clause-answer
returns-in_err-feed-clause-answer g c =
    let start = c.args.transcript.now in
    let before = c.loop-byte.transcript in
    let after = c.feed.new.self in
    let xs = c.args.piece.now in
    let i = c.loop-byte.byte-index in
    let e = c.in_err-feed.field-0.0 in
    through_then (g.C.Console.known c.args.console.now) (g.C.Console.known c.loop-byte.console)
    (g.C.Console.known c.loop-byte.console)
    (λ es fs p q. residual c.from_residual.result (Memory e) (λ r. Feeds start after xs r (es ++ fs))
    c.from_residual.ensures.1
    (ended start before after xs i c.loop-byte-test.true c.loop-byte.invariant.0 (Memory e) es fs p q))
    c.loop-byte.invariant.1
    (through_none (g.C.Console.known c.loop-byte.console) (without_memory before (get_or xs i 0 ∷ []) e))

pub returns-in_err-answer_line-in-Some-clause-answer : goal.returns-in_err-answer_line-in-Some-clause-answer
returns-in_err-answer_line-in-Some-clause-answer g c =
    let start = c.args.transcript.now in
    let before = c.loop-byte.transcript in
    let after = c.feed.new.self in
    let xs = c.args.piece.now in
    let i = c.loop-byte.byte-index in
    let b : ℕ = get_or xs i 0 in
    let f = c.in_ok-feed.ensures in
    let line = string_bytes c.in-Some.line in
    let why = c.in_err-answer_line-in-Some.field-0.0 in
    elim (cases_eq b 10) [
      | inl e ↦ through_then (g.C.Console.known c.args.console.now) (g.C.Console.known c.loop-byte.console)
          (g.C.Console.known c.answer_line.new.console)
          (λ es fs p q. residual c.from_residual-in_err-answer_line-in-Some.result why
          (λ r. Feeds start after xs r (es ++ fs)) c.from_residual-in_err-answer_line-in-Some.ensures.1
          (ended start before after xs i c.loop-byte-test.true c.loop-byte.invariant.0 why es fs p
          (subst (λ (z : ℕ). Feeds {T = Unit {0}} before after (z ∷ []) (Err why) fs) (sym e)
          (feeds_line (Unit {0}) before line
          (told _ c.in_ok-feed.field-0 c.in-Some.line c.in-Some.is (f.answer e)) after (f.ended e).0
          (f.ended e).1 (Err why) fs q))))
          c.loop-byte.invariant.1 c.in_err-answer_line-in-Some.ensures
      | inr n ↦ absurd (let z : ◌≡◌ {A = ℕ} 0 1 = (let a = (f.within n).0 in let d = c.in-Some.is in cc) in
          omega arith)
    ]

pub loop-byte-preserved : goal.loop-byte-preserved
loop-byte-preserved g c =
    let start = c.args.transcript.now in
    let before = c.loop-byte.transcript in
    let after = c.feed.new.self in
    let xs = c.args.piece.now in
    let i = c.loop-byte.byte-index in
    let b : ℕ = get_or xs i 0 in
    let f = c.in_ok-feed.ensures in
    let same = c.loop-byte.invariant.0 in
    let byte : Through (g.C.Console.known c.loop-byte.console) (g.C.Console.known c.match-branch-2.console)
    (Feeds {T = Unit {0}} before after (b ∷ []) (Ok (tt {0}))) =
    elim c.match-branch-2.branch [
      | in-None w ↦
          elim (cases_eq b 10) [
            | inl e ↦ absurd (untold _ c.in_ok-feed.field-0 w.in-None.is (f.answer e))
            | inr n ↦ subst (λ k. Through (g.C.Console.known c.loop-byte.console) (g.C.Console.known k)
                (Feeds {T = Unit {0}} before after (b ∷ []) (Ok (tt {0})))) (sym w.console-is)
                (through_none (g.C.Console.known c.loop-byte.console)
                (feeds_byte before after b (tt {0}) n (f.within n).1 (f.within n).2))
          ]
      | in-Some+in_ok-answer_line-in-Some w ↦
          elim (cases_eq b 10) [
            | inl e ↦ subst (λ k. Through (g.C.Console.known c.loop-byte.console) (g.C.Console.known k)
                (Feeds {T = Unit {0}} before after (b ∷ []) (Ok (tt {0})))) (sym w.console-is)
                (through_weaker (g.C.Console.known c.loop-byte.console)
                (g.C.Console.known w.answer_line.new.console)
                (λ es says. subst (λ (z : ℕ). Feeds {T = Unit {0}} before after (z ∷ []) (Ok (tt {0})) es) (sym e)
                (feeds_line (Unit {0}) before (string_bytes w.in-Some.line)
                (told _ c.in_ok-feed.field-0 w.in-Some.line w.in-Some.is (f.answer e)) after (f.ended e).0
                (f.ended e).1 (Ok (tt {0})) es says))
                w.in_ok-answer_line-in-Some.ensures)
            | inr n ↦ absurd (let z : ◌≡◌ {A = ℕ} 0 1 = (let a = (f.within n).0 in
                let d = w.in-Some.is in cc) in omega arith)
          ]
    ] in (
      f.session ∙ same,
      through_then (g.C.Console.known c.args.console.now) (g.C.Console.known c.loop-byte.console)
          (g.C.Console.known c.match-branch-2.console)
          (λ es fs p q. subst (λ (l : List ℕ). Feeds {T = Unit {0}} start after l (Ok (tt {0})) (es ++ fs))
          (sym (take_more xs i 0 c.loop-byte-test.true))
          (feeds_then start before after (take i xs) (b ∷ []) same (tt {0}) (Ok (tt {0})) es fs p q))
          c.loop-byte.invariant.1 byte,
    )

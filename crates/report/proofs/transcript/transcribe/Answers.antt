use Rattle.std.proofs.Common.{◌≡◌, ℕ, map, take, get_or, vec_items, string_bytes, sym, ap, ◌∙◌, subst}
use Rattle.std.proofs.Common.{refl, inl, inr, arith}
use Rattle.std.proofs.lemmas.List.{map_push, take_all, take_more}
use Rattle.std.proofs.lemmas.Bool.{cases_eq}
use Rattle.report.specs.Sessions.{family_of, actions_of, features_of}
use Rattle.report.specs.Transcripts.{Transcribed}
use Rattle.report.specs.declared.session.Session.{Session}
use Rattle.report.proofs.Inputs.{at_first, then_byte, then_line, then_end, then_last_line}
use Rattle.report.proofs.Pieces.{empty_or, told, untold}
use Rattle.report.proofs.transcript.transcribe.Goals as goal
use Rattle.report.proofs.transcript.transcribe.Goals.{in-Some+in_ok-push, in_default, in-Some-2+in_ok-push-2}
use Rattle.report.proofs.transcript.transcribe.Goals.{in_default-2}

pub loop-byte-init : goal.loop-byte-init
loop-byte-init c =
    let e = c.in_ok-transcript.ensures in
    at_first c.in_ok-transcript.transcript.session c.in_ok-transcript.transcript _ refl e.1 e.2
    (ap (map string_bytes) c.new-lines.ensures.items)

pub loop-byte-preserved : goal.loop-byte-preserved
loop-byte-preserved c =
    let s = c.in_ok-transcript.transcript.session in
    let xs = c.args.input.now in
    let i = c.loop-byte.byte-index in
    let t = c.loop-byte.transcript in
    let before = map string_bytes (vec_items c.loop-byte.lines) in
    let so_far = c.loop-byte.invariant in
    let f = c.in_ok-line.ensures in
    let same = f.session ∙ so_far.same in
    let more = take_more xs i 0 c.loop-byte-test.true in
    elim (cases_eq (get_or xs i 0) 10) [
      | inl e ↦ elim c.match-branch-3.branch [
        | in-Some+in_ok-push w ↦ then_line s t (take i xs) before so_far _ _ _ same (get_or xs i 0) more
            (string_bytes w.in-Some.line) e (f.ended e).0 (f.ended e).1
            (told _ c.in_ok-line.field-0 w.in-Some.line w.in-Some.is (f.answer e))
            (ap (λ v. map string_bytes (vec_items v)) w.lines-is
            ∙ ap (map string_bytes) w.in_ok-push.ensures.items
            ∙ map_push string_bytes (vec_items c.loop-byte.lines) w.in-Some.line)
        | in_default w ↦ absurd (untold _ c.in_ok-line.field-0 w.in_default.is (f.answer e))
      ]
      | inr n ↦ elim c.match-branch-3.branch [
        | in-Some+in_ok-push w ↦ absurd (let z : ◌≡◌ {A = ℕ} 0 1 = (let a = (f.within n).0 in
            let b = w.in-Some.is in cc) in omega arith)
        | in_default w ↦ then_byte s t (take i xs) before so_far _ _ _ same (get_or xs i 0) more n
            (f.within n).1 (f.within n).2 (ap (λ v. map string_bytes (vec_items v)) w.lines-is)
      ]
    ]

pub returns : goal.returns
returns c =
    let s = c.in_ok-transcript.transcript.session in
    let xs = c.args.input.now in
    let i = c.loop-byte.byte-index in
    let t = c.loop-byte.transcript in
    let before = map string_bytes (vec_items c.loop-byte.lines) in
    let after = map string_bytes (vec_items c.match-branch-6.lines) in
    let so_far = c.loop-byte.invariant in
    let f = c.in_ok-line-2.ensures in
    let all = sym (take_all i xs c.loop-byte-test.false) in
    subst (λ (x : Session). Transcribed (family_of x) (actions_of x) (features_of x) 1 xs after)
    c.in_ok-transcript.ensures.0
    (elim (empty_or (vec_items t.line)) [
      | inl e ↦ elim c.match-branch-6.branch [
        | in-Some-2+in_ok-push-2 w ↦ absurd (let z : ◌≡◌ {A = ℕ} 0 1 = (let a = (f.empty e).0 in
            let b = w.in-Some-2.is in cc) in omega arith)
        | in_default-2 w ↦ then_end s t (take i xs) before so_far xs after e all
            (ap (λ v. map string_bytes (vec_items v)) w.lines-is)
      ]
      | inr n ↦ elim c.match-branch-6.branch [
        | in-Some-2+in_ok-push-2 w ↦ then_last_line s t (take i xs) before so_far xs after
            (string_bytes w.in-Some-2.line) n
            (told _ c.in_ok-line-2.field-0 w.in-Some-2.line w.in-Some-2.is (f.answer n)) all
            (ap (λ v. map string_bytes (vec_items v)) w.lines-is
            ∙ ap (map string_bytes) w.in_ok-push-2.ensures.items
            ∙ map_push string_bytes (vec_items c.loop-byte.lines) w.in-Some-2.line)
        | in_default-2 w ↦ absurd (untold _ c.in_ok-line-2.field-0 w.in_default-2.is (f.answer n))
      ]
    ])

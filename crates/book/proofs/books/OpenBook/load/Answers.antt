use Rattle.std.proofs.Common.{◌≡◌, ◌/◌, true, false, length, Ok, Err, refl, ap, ◌∙◌, arith}
use Rattle.std.proofs.lemmas.Bool.Decides.{nat_tests}
use Rattle.book.specs.Contents.{contents}
use Rattle.book.specs.Loads.{has_bad_length}
use Rattle.book.proofs.Loaded.{record_at, goes_on, stops, beginning-family_with}
use Rattle.book.proofs.LoadLaw.{ill_sized_load, ended_load}
use Rattle.book.proofs.books.OpenBook.load.Goals as goal

pub returns-then-bytes-ne0 : goal.returns-then-bytes-ne0
returns-then-bytes-ne0 c =
    let z : has_bad_length c.args.bytes.now ≡ true = grind (arith, nat_tests) in
    let l = ill_sized_load (contents c.args.self.now) c.args.bytes.now _ z refl in
    rw c.answer.ensures (record { answer = l.0; book = l.1; law = l.2 })

pub loop-i-preserved : goal.loop-i-preserved
loop-i-preserved c =
    goes_on (contents c.args.self.now) c.args.bytes.now (contents c.loop-i.self) _ c.loop-i.i _ _
    c.loop-i.invariant (record_at c.args.bytes.now _ c.loop-i.i _ c.as_chunks.ensures.front (omega arith))
    (ap (λ a. a.0) c.enter-number.ensures.answer) c.enter-number.ensures.book c.if-number-ne-ACCEPTED.false

pub returns-then-number-ne-ACCEPTED : goal.returns-then-number-ne-ACCEPTED
returns-then-number-ne-ACCEPTED c =
    let f = contents c.args.self.now in
    let z : has_bad_length c.args.bytes.now ≡ false = grind (arith, nat_tests) in
    let s = stops f c.args.bytes.now (contents c.loop-i.self) _ c.loop-i.i _ _ c.loop-i.invariant
    (record_at c.args.bytes.now _ c.loop-i.i _ c.as_chunks.ensures.front (omega arith))
    (ap (λ a. a.0) c.enter-number.ensures.answer) c.enter-number.ensures.book c.if-number-ne-ACCEPTED.true
    (omega arith) in
    let same =
    c.cut_back.ensures
    ∙ beginning-family_with f c.args.bytes.now c.loop-i.i _ _ _ s.3 (omega arith) (omega arith) in
    let l = ended_load f c.args.bytes.now (Err (s.0, c.loop-i.i)) (c.enter-number.result.0, c.loop-i.i) _ z
    s.1 (ap (λ n. (n, c.loop-i.i)) s.2) same in
    record { answer = l.0; book = l.1; law = l.2 }

pub returns : goal.returns
returns c =
    let f = contents c.args.self.now in
    let z : has_bad_length c.args.bytes.now ≡ false = grind (arith, nat_tests) in
    let n : c.loop-i.i ≡ length c.args.bytes.now / 8 = omega arith in
    let l = ended_load f c.args.bytes.now (Ok (contents c.loop-i.self)) (0, _) _ z
    (rw (← n) c.loop-i.invariant) (ap (λ n. (0, n)) (omega arith)) refl in
    record { answer = l.0; book = l.1; law = l.2 }

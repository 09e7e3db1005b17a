use Rattle.std.proofs.Common.{◌≡◌, T, [], vec_items, vec_len, refl, subst, arith, eqb→eq}
use Rattle.report.proofs.Kept.{no_bytes}
use Rattle.report.proofs.transcript.Transcript.finish.Goals as goal

pub returns-then-is_empty : goal.returns-then-is_empty
returns-then-is_empty c =
    let z : vec_len c.args.self.now.line ≡ 0 = eqb→eq (vec_len c.args.self.now.line) 0 (subst T c.if-is_empty.ensures tt) in
    let e : vec_items c.args.self.now.line ≡ [] = no_bytes c.args.self.now.line.items (omega (arith, c.args.self.now.line.ok.0)) in
    record {
      session = refl;
      line = e;
      empty = λ _. (refl, refl);
      ended = λ n. absurd (n e);
      answer = λ n. n e;
    }

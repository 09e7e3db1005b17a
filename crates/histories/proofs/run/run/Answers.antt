use Rattle.std.proofs.Common.{◌≡◌, ℕ, ◌+◌, true, List, [], ◌∷◌, ◌++◌, length, sym, ap, ◌∙◌, subst, arith}
use Rattle.std.specs.List.{slice_get}
use Rattle.std.proofs.lemmas.List.{length_push}
use Rattle.std.proofs.lemmas.Option.{none-some}
use Rattle.families.specs.Families.{Family}
use Rattle.histories.specs.declared.calls.Call.TheVariants.{AddProduct}
use Rattle.histories.specs.declared.log.Reply.{Reply}
use Rattle.histories.specs.Ledger.{Standing}
use Rattle.histories.specs.Logs.{AreReplies}
use Rattle.histories.specs.Runs.{none}
use Rattle.histories.proofs.Running.{front_none, front_more, standing_more, runs_more, replies_more}
use Rattle.histories.proofs.Running.{plain_tables}
use Rattle.histories.proofs.run.run.Goals as goal

-- The standing of an open book.
abbrev open_with : Family → Standing
open_with ledger = record { is_open = true; ledger = ledger }

pub returns-in_err-opening-clause-failed : goal.returns-in_err-opening-clause-failed
returns-in_err-opening-clause-failed g c =
    front_none g.K.Kind.holds g.K.Kind.means g.K.Kind.places c.args.history.states c.args.kind.now c.args.cells.now
    c.args.history.calls.now c.from_residual.result

pub loop-call-init : goal.loop-call-init
loop-call-init g c =
    let empty = c.new-replies.ensures.items in
    record {
      standing = ap open_with c.in_ok-opening.ensures.1;
      whole = ap length empty;
      each = λ k call reply is_call is_reply. absurd
          (none-some reply (sym (ap (λ replies. slice_get replies k) empty) ∙ is_reply));
      runs = none;
    }

pub returns-in_err-next-clause-failed : goal.returns-in_err-next-clause-failed
returns-in_err-next-clause-failed g c =
    let before = c.loop-call.invariant in
    front_more c.args.history.states c.args.history.calls.now c.loop-call.call-index (AddProduct 0)
    (omega arith) _ before.standing g.K.Kind.holds g.K.Kind.means g.K.Kind.places _ _ _ _ _ _ before.runs
    c.in_err-next.ensures.left
    c.from_residual-in_err-next.result

pub returns-in_err-push-clause-failed : goal.returns-in_err-push-clause-failed
returns-in_err-push-clause-failed g c =
    let before = c.loop-call.invariant in
    front_more c.args.history.states c.args.history.calls.now c.loop-call.call-index (AddProduct 0)
    (omega arith) _ before.standing g.K.Kind.holds g.K.Kind.means g.K.Kind.places _ _ _ _ _ _ before.runs
    c.in_ok-next.ensures.left
    c.from_residual-in_err-push.result

pub loop-call-preserved : goal.loop-call-preserved
loop-call-preserved g c =
    let states = c.args.history.states in
    let calls = c.args.history.calls.now in
    let i = c.loop-call.call-index in
    let before = c.loop-call.invariant in
    let next = c.in_ok-next.ensures in
    let N = g.K.Kind.places in
    let room = length c.loop-call.cells in
    let pushed : c.push.new.self.items ≡ c.loop-call.replies.items ++ c.in_ok-next.reply ∷ [] =
    c.in_ok-push.ensures.items in
    let each = replies_more states calls i (AddProduct 0) (omega arith) _ before.standing N room
    c.loop-call.replies.items c.in_ok-next.reply before.whole before.each next.reply in
    record {
      standing = standing_more states calls i (AddProduct 0) (omega arith) _ before.standing _ next.standing;
      whole =
          ap length pushed ∙ length_push c.loop-call.replies.items c.in_ok-next.reply
          ∙ ap (λ n. n + 1) before.whole;
      each = subst (λ (n : ℕ). AreReplies N n states calls c.push.new.self.items) (sym c.after.auto.cells)
          (subst (λ (rs : List Reply). AreReplies N room states calls rs) (sym pushed) each);
      runs = runs_more states calls i (AddProduct 0) (omega arith) _ before.standing
          g.K.Kind.holds g.K.Kind.means N _ _ _ _ _ _ before.runs next.left;
    }

pub invariant_of-result : goal.invariant_of-result
invariant_of-result g c = record {
  plain = ∣ plain_tables g.K.Kind.places (length c.loop-call.cells) c.args.history.states
      c.args.history.calls.now c.loop-call.replies.items c.loop-call.invariant.each ∣₁;
}

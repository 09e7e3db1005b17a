use Rattle.std.proofs.Common.{◌≡◌, ℕ, true, if◌then◌else◌, sym, ap, ◌∙◌, subst}
use Rattle.std.specs.Prelude.{◌==◌}
use Rattle.families.specs.Families.{Family}
use Rattle.book.specs.Contents.{contents}
use Rattle.histories.specs.declared.calls.Call.{Call}
use Rattle.histories.specs.Ledger.{Standing, next_standing, ledger_with_records}
use Rattle.histories.proofs.Ledger.{product_ledger, transition_ledger, strike_ledger, load_ledger}
use Rattle.histories.proofs.phase.call_open.Goals.{in-AddProduct, in-AddTransition, in-Strike, in-Load}
use Rattle.histories.proofs.phase.call_open.Goals as goal

-- The standing of an open book.
abbrev open_with : Family → Standing
open_with ledger = record { is_open = true; ledger = ledger }

pub returns-clause-standing : goal.returns-clause-standing
returns-clause-standing c =
    let L = contents c.args.book in
    let P : Call → Type 0 =
    λ call. open_with (contents c.match-call.book) ≡ next_standing (open_with L) call in
    elim c.match-call.branch [
      | in-AddProduct w ↦ subst P (sym w.in-AddProduct.is)
          (ap open_with (ap contents w.book-is ∙ w.add_product.ensures.book ∙ product_ledger L _))
      | in-AddTransition w ↦ subst P (sym w.in-AddTransition.is)
          (ap open_with (ap contents w.book-is ∙ w.add_transition.ensures.book ∙ transition_ledger L _))
      | in-Strike w ↦ subst P (sym w.in-Strike.is)
          (ap open_with (ap contents w.book-is ∙ w.strike.ensures.book ∙ strike_ledger L _))
      | in-Load w ↦
          let bytes = w.in-Load.bytes.now in
          let left : ℕ × ℕ → Family = λ answer. if answer.0 == 0 then ledger_with_records L bytes else L in
          let law = load_ledger L bytes _ _ _ w.load.ensures.law in
          subst P (sym w.in-Load.is)
          (ap open_with (ap contents w.book-is ∙ law ∙ ap left w.load.ensures.answer))
    ]

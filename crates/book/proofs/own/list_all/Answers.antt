use Rattle.std.proofs.Common.{◌≡◌, Bool, true, false, List, [], ◌∷◌, ◌++◌, vec_items, slice_index_or}
use Rattle.std.proofs.Common.{refl, sym, ap, ◌∙◌, subst, arith}
use Rattle.std.proofs.lemmas.List.{take_all, take_more}
use Rattle.families.specs.declared.Transition.{Transition}
use Rattle.book.specs.declared.own.OwnTransition.{OwnTransition}
use Rattle.book.specs.Lists.{is_held}
use Rattle.book.specs.Own.{Listed, Lists, none, more, listed, repeated, unmet, ends, same_ends}
use Rattle.book.proofs.own.list_all.Goals.{then-met_by+then-not-holds+in_ok-push, else-met_by}
use Rattle.book.proofs.own.list_all.Goals.{else-met_by-via-then-met_by+else-not-holds}
use Rattle.book.proofs.own.list_all.Goals.{else-met_by-via-else-met_by}
use Rattle.book.proofs.own.list_all.Goals as goal

abbrev blank : Transition
blank = record { source = 0; action = 0; target = 0; required = 0; excluded = 0 }

pub loop-t-init : goal.loop-t-init
loop-t-init c =
    subst (λ (l : List OwnTransition). Listed c.args.configuration [] l) (sym c.new-list.ensures.items) none

-- the answer of `holds`, of the ends of a transition
seen : (x : Transition) (own : OwnTransition) (os ys : List OwnTransition) (r b : Bool)
    → own ≡ ends x → ys ≡ os → r ≡ is_held same_ends own ys → r ≡ b → is_held same_ends (ends x) os ≡ b
seen x own os ys r b p q e h =
    ap (λ (o : OwnTransition). is_held same_ends o os) (sym p) ∙ ap (is_held same_ends own) (sym q)
    ∙ sym e ∙ h

pub loop-t-preserved : goal.loop-t-preserved
loop-t-preserved c =
    let x = slice_index_or c.args.transitions.now c.loop-t.t-index blank in
    let os = vec_items c.loop-t.list in
    let same : c.from-own.result ≡ ends x = c.from-own.ensures in
    let lists : Lists c.args.configuration x os (vec_items c.if-met_by.list) =
    elim c.if-met_by.branch [
      | then-met_by+then-not-holds+in_ok-push w ↦
          subst (λ (l : List OwnTransition). Lists c.args.configuration x os l)
          (ap (λ (o : OwnTransition). os ++ o ∷ []) (sym same) ∙ sym w.in_ok-push.ensures.items
          ∙ ap vec_items (sym w.list-is))
          (listed (w.if-met_by.ensures.0 refl)
          (seen x _ os _ _ false same w.deref.ensures.value w.holds.ensures w.if-not-holds.true))
      | else-met_by w ↦
          subst (λ (l : List OwnTransition). Lists c.args.configuration x os l) (ap vec_items (sym w.list-is))
          (elim w.else-met_by.branch [
            | else-met_by-via-then-met_by+else-not-holds w' ↦
                repeated (w'.if-met_by.ensures.0 refl)
                (seen x _ os _ _ true same
                w'.deref.ensures.value w'.holds.ensures w'.if-not-holds.false)
            | else-met_by-via-else-met_by w' ↦ unmet (λ m. (let e = w'.if-met_by.ensures.1 m in absurd (cc)))
          ])
    ] in
    subst (λ (l : List Transition). Listed c.args.configuration l (vec_items c.if-met_by.list))
    (sym (take_more c.args.transitions.now c.loop-t.t-index blank (omega arith)))
    (more c.loop-t.invariant lists)

pub returns : goal.returns
returns c =
    subst (λ (l : List Transition). Listed c.args.configuration l (vec_items c.loop-t.list))
    (take_all c.loop-t.t-index c.args.transitions.now (omega arith)) c.loop-t.invariant

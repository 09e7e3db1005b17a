-- A run, call by call.
use Rattle.std.proofs.Common.{◌≡◌, ℕ, ◌+◌, ◌<◌, Bool, true, false, not, List, [], ◌∷◌, ◌++◌, length, get_or}
use Rattle.std.proofs.Common.{take}
use Rattle.std.proofs.Common.{Some, Result, Ok, Err, OnErr, sym, ap, ◌∙◌, subst}
use Rattle.std.specs.Bool.{MatchBool}
use Rattle.std.specs.Borrow.{Bor}
use Rattle.std.specs.List.{slice_get}
use Rattle.std.proofs.lemmas.List.{take_more}
use Rattle.std.proofs.lemmas.List.Sums.{fold_more}
use Rattle.std.proofs.lemmas.Option.{none-some, same_Some, option_and_then_some, slice_get-get_or}
use Rattle.families.specs.Families.{Family}
use Rattle.formulas.specs.declared.Expr.{Expr}
use Rattle.formulas.specs.declared.Node.{Node}
use Rattle.histories.specs.declared.calls.Call.{Call}
use Rattle.histories.specs.declared.calls.Call.TheVariants.{Check}
use Rattle.histories.specs.declared.log.Reply.{Reply}
use Rattle.histories.specs.declared.log.Reply.TheVariants.{NotAdmitted}
use Rattle.histories.specs.declared.table.Table.{Table}
use Rattle.histories.specs.Ledger.{Standing, next_standing, first_standing, standing_at}
use Rattle.histories.specs.Tables.{IsPlainTable}
use Rattle.histories.specs.Logs.{IsReplyToCheck, refused, accepted, IsReply, AreReplies, table_of}
use Rattle.histories.specs.Logs.{HoldsPlainTables}
use Rattle.histories.specs.Runs.{Leaves, Runs, none, more, RunsFront}
use Rattle.histories.proofs.Lists.{each_pushed}

on_err : {X E : Type 0} (r : Result X E) (P : Type 0) → P → OnErr r P
on_err (Ok x) P p = tt
on_err (Err e) P p = p

-- Without a book nothing is run.
pub front_none : {K S X E : Type 0} (holds : K → S → Type 0) (means : K → S → ℕ → Bool) (places states : ℕ)
    (k : K) (xs : List S) (calls : List Call) (r : Result X E) → OnErr r (RunsFront holds means places states k xs calls k xs)
front_none holds means places states k xs calls r =
    on_err r (RunsFront holds means places states k xs calls k xs) (0, none)

-- Call i of a history, in the standing there.
module _ (states : ℕ) (calls : List Call) (i : ℕ) (d : Call) (i< : i < length calls)
    (s : Standing) (at : s ≡ standing_at states calls i) where
  abbrev pub call_i : Call
  call_i = get_or calls i d

  -- The standing after it,
  pub standing_more : (t : Standing) → t ≡ next_standing s call_i → t ≡ standing_at states calls (i + 1)
  standing_more t e =
      e ∙ ap (λ x. next_standing x call_i) at
      ∙ sym (fold_more next_standing (first_standing states) calls i d i<)

  -- the replies with its reply,
  pub replies_more : (places cells : ℕ) (replies : List Reply) (reply : Reply) → length replies ≡ i
      → AreReplies places cells states calls replies → IsReply places cells s call_i reply
      → AreReplies places cells states calls (replies ++ reply ∷ [])
  replies_more places cells replies reply many each last k c r is_c is_r =
      let P : ℕ → Reply → Type 0 =
      λ j y. (b : Call) → slice_get calls j ≡ Some b
      → IsReply places cells (standing_at states calls j) b y in
      let here : P i reply =
      λ b is_b. subst (λ (x : Call). IsReply places cells (standing_at states calls i) x reply)
      (same_Some _ _ (sym (slice_get-get_or calls i d i<) ∙ is_b))
      (subst (λ (x : Standing). IsReply places cells x call_i reply) at last) in
      let end : P (length replies) reply = subst (λ (j : ℕ). P j reply) (sym many) here in
      each_pushed replies reply P (λ j y is_y b is_b. each j b y is_b is_y) end k r is_r c is_c

  module _ {K S : Type 0} (holds : K → S → Type 0) (means : K → S → ℕ → Bool) (places : ℕ) (k k' k'' : K)
      (xs xs' xs'' : List S)
      (run : Runs holds means places states k xs (take i calls) k' xs')
      (leaves : Leaves holds means places s call_i k' xs' k'' xs'') where
    -- the run with it,
    pub runs_more : Runs holds means places states k xs (take (i + 1) calls) k'' xs''
    runs_more =
        let left = subst (λ (x : Standing). Leaves holds means places x call_i k' xs' k'' xs'') at leaves in
        subst (λ (cs : List Call). Runs holds means places states k xs cs k'' xs'') (sym (take_more calls i d i<))
        (more call_i run left)

    -- and what is left if memory ends there.
    pub front_more : {X E : Type 0} (r : Result X E)
        → OnErr r (RunsFront holds means places states k xs calls k'' xs'')
    front_more r = on_err r (RunsFront holds means places states k xs calls k'' xs'') (i + 1, runs_more)

-- The table of a reply to a check is plain checking.
table_is_plain : {places cells : ℕ} (F : Family) (es : List Expr) (ns : List Node) (t : Table) (r : Reply)
    → IsReplyToCheck places cells F es ns r → table_of r ≡ Some t → IsPlainTable F es ns t
table_is_plain F es ns t r (refused off a) e = absurd (none-some _ e)
table_is_plain F es ns t r (accepted p a) e = subst (IsPlainTable F es ns) (same_Some _ _ e) p

reply_is_plain : (places cells : ℕ) (s : Standing) (exprs : Bor (List Expr)) (nodes : Bor (List Node))
    (t : Table) (r : Reply) → IsReply places cells s (Check exprs nodes) r → table_of r ≡ Some t
    → IsPlainTable s.ledger exprs.now nodes.now t
reply_is_plain places cells s exprs nodes t r = go s.is_open
  where
    go : (b : Bool)
        → MatchBool (not b) (IsReplyToCheck places cells s.ledger exprs.now nodes.now r) (r ≡ NotAdmitted)
        → table_of r ≡ Some t → IsPlainTable s.ledger exprs.now nodes.now t
    go true h e = absurd (none-some t (ap table_of (sym h) ∙ e))
    go false h e = table_is_plain s.ledger exprs.now nodes.now t r h e

pub plain_tables : (places cells states : ℕ) (calls : List Call) (replies : List Reply)
    → AreReplies places cells states calls replies → HoldsPlainTables states calls replies
plain_tables places cells states calls replies each k exprs nodes t is_call is_table =
    option_and_then_some table_of (slice_get replies k) t is_table
    (λ r is_r e.
    reply_is_plain places cells (standing_at states calls k) exprs nodes t r (each k _ r is_call is_r) e)

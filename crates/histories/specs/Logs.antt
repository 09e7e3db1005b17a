-- The history law: what every call of a history is answered.
use Rattle.std.specs.Prelude.{◌≡◌, ◌≢◌, ℕ, false, List, length, Option, None, Some, slice_get}
use Rattle.std.specs.Prelude.{option_and_then, MatchBool}
use Rattle.std.specs.Borrow.{Bor}
use Rattle.families.specs.Families.{Family}
use Rattle.formulas.specs.Tables.{last}
use Rattle.formulas.specs.declared.Expr.{Expr}
use Rattle.formulas.specs.declared.Node.{Node}
use Rattle.checker.specs.Checks.{Answered}
use Rattle.book.specs.Rules.{open_answer, product_answer, transition_answer, strike_answer}
use Rattle.book.specs.Loads.{load_answer}
use Rattle.histories.specs.declared.calls.Call.{Call}
use Rattle.histories.specs.declared.calls.Call.TheVariants as call
use Rattle.histories.specs.declared.log.Reply.{Reply}
use Rattle.histories.specs.declared.log.Reply.TheVariants.{NotAdmitted, Done, Answer, Checked}
use Rattle.histories.specs.declared.table.Table.{Table}
use Rattle.histories.specs.Ledger.{Standing, is_admitted, standing_at, ledger_at}
use Rattle.histories.specs.Tables.{holds, IsPlainTable}

-- The reply that tells a rule's number and value.
abbrev pub reply_of : ℕ × ℕ → Reply
reply_of rule = Answer rule.0 rule.1

-- The reply to a check on the ledger F, by a kind with so many places and in so many cells: the refusal by
-- its rule; or how many products have the last entry in state 0, counted in the table beside it, which is
-- plain checking.
pub data IsReplyToCheck (places cells : ℕ) (F : Family) (es : List Expr) (ns : List Node)
    : Reply → Type 0 where
  refused : {number value : ℕ} → number ≢ 0 → Answered F es ns places cells (λ p. false) number value
      → IsReplyToCheck places cells F es ns (Answer number value)
  accepted : {value : ℕ} {table : Table} → IsPlainTable F es ns table
      → Answered F es ns places cells (holds table (last ns) 0) 0 value
      → IsReplyToCheck places cells F es ns (Checked value table)

-- The reply to a call that a book with the ledger F admits.
abbrev pub IsReplyTo : ℕ → ℕ → Family → Call → Reply → Type 0
IsReplyTo places cells F (call.AddProduct c) reply = reply ≡ reply_of (product_answer F c)
IsReplyTo places cells F (call.AddTransition t) reply = reply ≡ reply_of (transition_answer F t)
IsReplyTo places cells F (call.Strike t) reply = reply ≡ reply_of (strike_answer F t)
IsReplyTo places cells F (call.Load bytes) reply = reply ≡ reply_of (load_answer F bytes.now)
IsReplyTo places cells F call.Close reply = reply ≡ Done
IsReplyTo places cells F (call.Check exprs nodes) reply =
    IsReplyToCheck places cells F exprs.now nodes.now reply
IsReplyTo places cells F call.Reopen reply = reply ≡ Done

-- The reply to any call.
abbrev pub IsReply : ℕ → ℕ → Standing → Call → Reply → Type 0
IsReply places cells standing call reply =
    MatchBool (is_admitted standing.is_open call)
    (IsReplyTo places cells standing.ledger call reply) (reply ≡ NotAdmitted)

-- Each reply is the one to its call, in the standing that the calls before it leave.
abbrev pub AreReplies : ℕ → ℕ → ℕ → List Call → List Reply → Type 0
AreReplies places cells states calls replies =
    (k : ℕ) (call : Call) (reply : Reply) → slice_get calls k ≡ Some call → slice_get replies k ≡ Some reply
    → IsReply places cells (standing_at states calls k) call reply

-- The history law. Opening is answered by its rule, and every call of the list has its reply: the one that
-- its rule, or for a check plain checking, gives on the ledger that the calls before it leave.
pub record HistoryLaw (places cells states : ℕ) (calls : List Call) (opening : ℕ × ℕ) (replies : List Reply)
    : Type 0 where
  pub opening_answer : opening ≡ open_answer states
  pub whole : length replies ≡ length calls
  pub each : AreReplies places cells states calls replies

-- The table of a reply, and of the reply at a position.
abbrev pub table_of : Reply → Option Table
table_of NotAdmitted = None
table_of Done = None
table_of (Answer number value) = None
table_of (Checked value table) = Some table

abbrev pub table_at : List Reply → ℕ → Option Table
table_at replies k = option_and_then table_of (slice_get replies k)

-- Every table of a log is plain checking of the tables that its call hands in, on the ledger of that call.
abbrev pub HoldsPlainTables : ℕ → List Call → List Reply → Type 0
HoldsPlainTables states calls replies =
    (k : ℕ) (exprs : Bor (List Expr)) (nodes : Bor (List Node)) (table : Table)
    → slice_get calls k ≡ Some (call.Check exprs nodes) → table_at replies k ≡ Some table
    → IsPlainTable (ledger_at states calls k) exprs.now nodes.now table

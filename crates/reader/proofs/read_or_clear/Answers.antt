use Rattle.std.proofs.Common.{◌≡◌, ℕ, ◌≤◌, true, false, List, length, replicate, is_err, Ok, Err, Result, sym, ap, ◌∙◌, subst, inl, inr, arith}
use lib.ListN.{length-replicate}
use Rattle.formulas.specs.declared.Expr.{Expr}
use Rattle.formulas.specs.declared.Node.{Node}
use Rattle.formulas.specs.declared.Expr.TheVariants as ex
use Rattle.formulas.specs.declared.Node.TheVariants as nd
use Rattle.reader.specs.declared.refusals.Refusal.{Refusal}
use Rattle.reader.specs.Refusals.{answer_number, answer_value}
use Rattle.reader.specs.Outcome.{Tried, Attempted, Reading, short_table, tried}
use Rattle.reader.proofs.read_or_clear.Goals as goal
use Rattle.reader.proofs.read_or_clear.Goals.{then-exprs-lt-MAX_ENTRIES-via-then-exprs-lt-MAX_ENTRIES, then-exprs-lt-MAX_ENTRIES-via-else-exprs-lt-MAX_ENTRIES+then-nodes-lt-MAX_ENTRIES}

pub returns-then-exprs-lt-MAX_ENTRIES : goal.returns-then-exprs-lt-MAX_ENTRIES
returns-then-exprs-lt-MAX_ENTRIES g c = λ actions features k.
    elim c.then-exprs-lt-MAX_ENTRIES.branch [
      | then-exprs-lt-MAX_ENTRIES-via-then-exprs-lt-MAX_ENTRIES w ↦ short_table
          (inl w.if-exprs-lt-MAX_ENTRIES.true)
      | then-exprs-lt-MAX_ENTRIES-via-else-exprs-lt-MAX_ENTRIES+then-nodes-lt-MAX_ENTRIES w ↦ short_table
          (inr w.if-nodes-lt-MAX_ENTRIES.true)
    ]

-- tables that have been cleared, and what was tried with them
after : (text actions features : List ℕ) (es gs : List Expr) (ns hs : List Node) (k v : ℕ) (fs : List Expr)
    (ms : List Node) → 64 ≤ length es → 64 ≤ length ns → gs ≡ replicate (length es) ex.False → hs ≡
    replicate (length ns) nd.False → Tried text actions features (length gs) (length hs) k v fs ms → Reading
    text actions features es ns k v fs ms
after text actions features es gs ns hs k v fs ms le ln eg eh t = tried le ln
    (subst (λ n. Tried text actions features n (length ns) k v fs ms)
    (ap length eg ∙ length-replicate (length es) ex.False)
    (subst (λ m. Tried text actions features (length gs) m k v fs ms)
    (ap length eh ∙ length-replicate (length ns) nd.False) t))

module _ (text actions features : List ℕ) (n m : ℕ) (es : List Expr) (ns : List Node) where
  read_whole : (r : Result ℕ Refusal) → is_err r ≡ false → Attempted text actions features n m es ns r →
      Tried text actions features n m (answer_number r) (answer_value r) es ns
  read_whole (Ok k) e t = t
  read_whole (Err r) e t = let z : ◌≡◌ {A = ℕ} 0 1 = cc in absurd (omega arith)

  refused : (r : Result ℕ Refusal) → is_err r ≡ true → Attempted text actions features n m es ns r →
      (fs : List Expr) (ms : List Node) → fs ≡ replicate n ex.False → ms ≡ replicate m nd.False → Tried text
      actions features n m (answer_number r) (answer_value r) fs ms
  refused (Ok k) e t fs ms ef em = let z : ◌≡◌ {A = ℕ} 0 1 = cc in absurd (omega arith)
  refused (Err r) e t fs ms ef em = subst
      (λ x. Tried text actions features n m (answer_number (Err r)) (answer_value (Err r)) x ms) (sym ef)
      (subst (λ x. Tried text actions features n m (answer_number (Err r)) (answer_value (Err r))
      (replicate n ex.False) x) (sym em) t)

pub returns-else-is_err : goal.returns-else-is_err
returns-else-is_err g c = λ actions features k. after _ _ _ c.args.exprs.now c.clear.new.exprs
    c.args.nodes.now c.clear.new.nodes _ _ _ _ (omega arith) (omega arith) c.clear.ensures.exprs
    c.clear.ensures.nodes (read_whole _ _ _ _ _ _ _ c.attempt-answer.result
    (sym c.is_err.ensures.value ∙ c.if-is_err.false) (c.attempt-answer.ensures actions features k))

pub returns-then-is_err : goal.returns-then-is_err
returns-then-is_err g c = λ actions features k.
    let le : length c.attempt-answer.new.exprs ≡ length c.clear.new.exprs = omega arith in
    let ln : length c.attempt-answer.new.nodes ≡ length c.clear.new.nodes = omega arith in
    after _ _ _ c.args.exprs.now c.clear.new.exprs c.args.nodes.now c.clear.new.nodes _ _ _ _ (omega arith)
    (omega arith) c.clear.ensures.exprs c.clear.ensures.nodes
    (refused _ _ _ _ _ _ _ c.attempt-answer.result (sym c.is_err.ensures.value ∙ c.if-is_err.true)
    (c.attempt-answer.ensures actions features k) _ _
    (c.clear-then-is_err.ensures.exprs ∙ ap (λ n. replicate n ex.False) le)
    (c.clear-then-is_err.ensures.nodes ∙ ap (λ n. replicate n nd.False) ln))

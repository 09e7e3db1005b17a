-- What is written of three runs of a family.
use Rattle.std.specs.Prelude.{◌≡◌, ℕ, List, ◌++◌, codes}
use Rattle.histories.specs.declared.calls.History.{History}
use Rattle.histories.specs.declared.log.Log.{Log}
use Rattle.histories.specs.Logs.{HistoryLaw}
use Rattle.order_report.specs.Lines.{check_lines, Comparison}

-- The log is of this history, and the history law holds for it, with a kind of so many places and 64 cells:
-- each of its replies is what the rule of the call, or plain checking, gives on the ledger of that call.
pub record IsRun (places : ℕ) (history : History) (log : Log) : Type 0 where
  pub of_history : log.history ≡ history
  pub law : HistoryLaw places 64 history.states history.calls.now log.opening log.replies.items

-- A report: the rule, and under their titles the lines of each check and of each comparison.
abbrev pub report_text : (rule given sorted sorted_columns lost lost_columns : List ℕ) → List ℕ
report_text rule given sorted sorted_columns lost lost_columns =
    codes "rule: " ++ (rule
    ++ (codes "\ntransitions in the given order, with the mask kind\n" ++ (given
    ++ (codes "transitions sorted by their condition, with the range kind\n" ++ (sorted
    ++ (codes "compared with the given order\n" ++ (sorted_columns
    ++ (codes "the third transition lost, with the range kind\n" ++ (lost
    ++ (codes "compared with the given order\n" ++ lost_columns))))))))))

-- What is written of three histories and a rule in words: the lines of each one's check, in a log for which
-- the history law holds, and how the columns of the last two compare with those of the first. The first is
-- run with the mask kind and the others with the range kind.
pub record IsReport (rule : List ℕ) (given sorted lost : History) (k : ℕ) (bytes : List ℕ) : Type 0 where
  pub given_log : Log
  pub sorted_log : Log
  pub lost_log : Log
  pub in_given_order : IsRun 64 given given_log
  pub in_sorted_order : IsRun 200 sorted sorted_log
  pub with_one_lost : IsRun 200 lost lost_log
  pub sorted_columns : List ℕ
  pub lost_columns : List ℕ
  pub sorted_compared : Comparison sorted_log given_log k sorted_columns
  pub lost_compared : Comparison lost_log given_log k lost_columns
  pub written : bytes ≡ report_text rule (check_lines given_log k)
      (check_lines sorted_log k) sorted_columns (check_lines lost_log k) lost_columns

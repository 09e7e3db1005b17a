use Rattle.std.proofs.Common.{string_bytes, ◌∙◌}
use Rattle.std.proofs.lemmas.Result.{IfOk-weaker}
use Rattle.order_report.proofs.Reports.{same_report}
use Rattle.order_report.proofs.orders.orders_text.Goals as goal

pub returns : goal.returns
returns c =
    IfOk-weaker c.format.result _ _
    (λ text is. record {
      given_log = c.in_ok-given_log.given_log;
      sorted_log = c.in_ok-sorted_log.sorted_log;
      lost_log = c.in_ok-lost_log.lost_log;
      in_given_order = c.in_ok-given_log.ensures;
      in_sorted_order = c.in_ok-sorted_log.ensures;
      with_one_lost = c.in_ok-lost_log.ensures;
      sorted_columns = string_bytes c.in_ok-sorted_columns.sorted_columns;
      lost_columns = string_bytes c.in_ok-lost_columns.lost_columns;
      sorted_compared = c.in_ok-sorted_columns.ensures;
      lost_compared = c.in_ok-lost_columns.ensures;
      written = is ∙ same_report c.args.rule.now (string_bytes c.in_ok-given_check.given_check)
          (string_bytes c.in_ok-sorted_check.sorted_check)
          (string_bytes c.in_ok-sorted_columns.sorted_columns)
          (string_bytes c.in_ok-lost_check.lost_check) (string_bytes c.in_ok-lost_columns.lost_columns)
          c.in_ok-given_check.ensures c.in_ok-sorted_check.ensures c.in_ok-lost_check.ensures;
    })
    c.format.ensures.ok

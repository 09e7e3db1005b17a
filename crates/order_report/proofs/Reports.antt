-- The texts of a report, replaced by what they are.
use Rattle.std.proofs.Common.{◌≡◌, ℕ, List, ap, ◌∙◌}
use Rattle.order_report.specs.Orders.{report_text}

pub same_report : (rule given sorted sorted_columns lost lost_columns : List ℕ)
    {given' sorted' lost' : List ℕ}
    → given ≡ given' → sorted ≡ sorted' → lost ≡ lost'
    → report_text rule given sorted sorted_columns lost lost_columns
    ≡ report_text rule given' sorted' sorted_columns lost' lost_columns
same_report rule given sorted sorted_columns lost lost_columns {given'} {sorted'} {lost'} g s l =
    ap (λ text. report_text rule text sorted sorted_columns lost lost_columns) g
    ∙ ap (λ text. report_text rule given' text sorted_columns lost lost_columns) s
    ∙ ap (λ text. report_text rule given' sorted' sorted_columns text lost_columns) l

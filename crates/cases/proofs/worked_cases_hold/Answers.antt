use Rattle.cases.proofs.Cases.{files_hold_4, files_hold_64, cases_hold_4, cases_hold_64}
use Rattle.cases.proofs.worked_cases_hold.Goals as goal

pub returns : goal.returns
returns c = record { files = (files_hold_4, files_hold_64); cases = cases_hold_4; cases_of_64 = cases_hold_64 }

mod Growing
mod Reports

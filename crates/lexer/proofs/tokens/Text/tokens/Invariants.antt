use Rattle.std.proofs.Common.{◌≡◌, ℕ, ◌-◌, ◌≤◌, List, ◌++◌, length, take}
use Rattle.lexer.specs.Tokens.{Tok}
use Rattle.lexer.specs.Texts.{TokensOf, NoTokenAt, toks}
use Rattle.lexer.proofs.tokens.Text.tokens.Given as goal

abbrev pub invariant-loop-found : goal.invariant-loop-found
invariant-loop-found l = (length l.table ≡ 1024) × (l.count ≤ l.at) × (l.at ≤ length l.self.bytes.now) ×
    ((p : ℕ) → NoTokenAt l.self.bytes.now l.at p → NoTokenAt l.self.bytes.now 0 p) ×
    ((ts : List Tok) → TokensOf l.self.bytes.now l.at ts → TokensOf l.self.bytes.now 0
    (toks (take l.count l.table) ++ ts))

abbrev pub decreases-loop-found : goal.decreases-loop-found
decreases-loop-found l = length l.self.bytes.now - l.at

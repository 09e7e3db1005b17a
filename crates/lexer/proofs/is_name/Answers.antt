use Rattle.std.proofs.Common.{◌≡◌, length, sym, ◌∙◌, arith, rules}
use Rattle.std.proofs.lemmas.Bool.{eqb-true, eq-eqb}
use Rattle.lexer.specs.Tokens.{in_name}
use Rattle.lexer.proofs.Names.{all_leading, leading_all}
use Rattle.lexer.proofs.is_name.Goals as goal
use Rattle.lexer.proofs.is_name.Goals.{then-bytes-le-LONGEST_NAME, else-bytes-le-LONGEST_NAME, then-past_name-bytes, else-past_name-bytes}

pub returns-then-is_ascii_lowercase : goal.returns-then-is_ascii_lowercase
returns-then-is_ascii_lowercase c = elim c.if-past_name-bytes.branch [
  | then-past_name-bytes w ↦ elim c.if-bytes-le-LONGEST_NAME.branch [
    | then-bytes-le-LONGEST_NAME v ↦ let e : v.past_name.result ≡ length c.args.bytes.now = eqb-true _ _ (sym v.value-is ∙ w.if-past_name-bytes.true) in (λ t. record { run = record { first = search rules; rest = leading_all in_name c.args.bytes.now (omega (arith, v.past_name.ensures.value)) }; short = omega arith; no_word = c.is_no_word.ensures.0 t }, λ n. c.is_no_word.ensures.1 n.no_word)
    | else-bytes-le-LONGEST_NAME v ↦ absurd (search rules)
  ]
  | else-past_name-bytes w ↦ absurd (search rules)
]

pub returns-else-is_ascii_lowercase : goal.returns-else-is_ascii_lowercase
returns-else-is_ascii_lowercase c = elim c.if-past_name-bytes.branch [
  | then-past_name-bytes w ↦ (λ t. absurd (search rules), λ n. absurd (let f = n.run.first in search rules))
  | else-past_name-bytes w ↦ elim c.if-bytes-le-LONGEST_NAME.branch [
    | then-bytes-le-LONGEST_NAME v ↦ (λ t. absurd (search rules), λ n. absurd (let e : v.past_name.result ≡ length c.args.bytes.now = omega (arith, all_leading in_name c.args.bytes.now n.run.rest, v.past_name.ensures.value) in let h = eq-eqb _ _ e in search rules))
    | else-bytes-le-LONGEST_NAME v ↦ (λ t. absurd (search rules), λ n. absurd (omega (arith, n.short)))
  ]
]

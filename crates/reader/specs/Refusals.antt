-- The numbers of refusals and their values.
use Rattle.std.specs.Prelude.{ℕ, Ok, Err, Result}
use Rattle.lexer.specs.declared.NoToken.{NoToken}
use Rattle.reader.specs.declared.refusals.Offence.{Offence}
use Rattle.reader.specs.declared.refusals.Refusal.{Refusal}
use Rattle.reader.specs.declared.refusals.Refusal.TheVariants as rf

abbrev pub refusal_number : Refusal → ℕ
refusal_number rf.ShortTable = 19
refusal_number rf.LongText = 20
refusal_number rf.WordList = 21
refusal_number (rf.NoToken p) = 22
refusal_number (rf.NoFormula p) = 23
refusal_number (rf.UnknownName p) = 24
refusal_number rf.TooManyEntries = 25

abbrev pub refusal_value : Refusal → ℕ
refusal_value rf.ShortTable = 0
refusal_value rf.LongText = 0
refusal_value rf.WordList = 0
refusal_value (rf.NoToken p) = p
refusal_value (rf.NoFormula p) = p
refusal_value (rf.UnknownName p) = p
refusal_value rf.TooManyEntries = 0

-- An answer as a number and a value: 0 and what is counted, or a refusal's.
abbrev pub answer_number : Result ℕ Refusal → ℕ
answer_number (Ok n) = 0
answer_number (Err r) = refusal_number r

abbrev pub answer_value : Result ℕ Refusal → ℕ
answer_value (Ok n) = n
answer_value (Err r) = refusal_value r

-- A place from which a text cannot go on is that of a refusal.
abbrev pub offence_refusal : Offence → Refusal
offence_refusal o = rf.NoFormula o.0

-- So is a place where no token begins.
abbrev pub unread_refusal : NoToken → Refusal
unread_refusal n = rf.NoToken n.0

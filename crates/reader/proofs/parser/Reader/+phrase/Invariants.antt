use Rattle.std.proofs.Common.{◌+◌, ◌*◌, length}
use Rattle.grammar.specs.Grammar.{AndPartOf, PhraseOf}
use Rattle.grammar.specs.Machine.{Any, NotNext}
use Rattle.lexer.specs.declared.Sign.TheVariants.{And}
use Rattle.reader.specs.Reading.{Onto, Did}
use Rattle.reader.proofs.parser.Reader.+phrase.Given as goal

abbrev pub decreases-and_part : goal.decreases-and_part
decreases-and_part l = 3 * length l.self.now.tokens.now + 1

abbrev pub decreases-phrase : goal.decreases-phrase
decreases-phrase l = 3 * length l.self.now.tokens.now + 2

abbrev pub decreases-unit : goal.decreases-unit
decreases-unit l = 3 * length l.self.now.tokens.now

abbrev pub invariant-and_part-loop-level : goal.invariant-and_part-loop-level
invariant-and_part-loop-level l = Onto l.fn.self l.self × Did l.level (AndPartOf l.level) Any l.fn.self
    l.self l.left

abbrev pub decreases-and_part-loop-level : goal.decreases-and_part-loop-level
decreases-and_part-loop-level l = length l.self.tokens.now

abbrev pub invariant-phrase-loop-level : goal.invariant-phrase-loop-level
invariant-phrase-loop-level l = Onto l.fn.self l.self × Did l.level (PhraseOf l.level) (NotNext And)
    l.fn.self l.self l.left

abbrev pub decreases-phrase-loop-level : goal.decreases-phrase-loop-level
decreases-phrase-loop-level l = length l.self.tokens.now

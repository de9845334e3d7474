use Rattle.std.proofs.Common.{◌≡◌, ◌++◌, drop, map}
use Rattle.command_words.proofs.arguments.CommandWords.take_operands.Given as goal

abbrev pub invariant-loop-word : goal.invariant-loop-word
invariant-loop-word l = record {
  options : l.self.options ≡ l.initial.self.options;
  operands : map (λ text. text.now) l.self.operands.items ++ drop l.word-index l.words ≡ map (λ text. text.now) l.initial.self.operands.items ++ l.words;
}

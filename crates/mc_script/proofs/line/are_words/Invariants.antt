use Rattle.std.proofs.Common.{◌≡◌, drop}
use Rattle.std.specs.List.{list_all}
use Rattle.mc_script.specs.Words.{is_word, texts_of}
use Rattle.mc_script.proofs.line.are_words.Given as goal

abbrev pub invariant-loop-word : goal.invariant-loop-word
invariant-loop-word l = list_all is_word (texts_of l.words) ≡ list_all is_word (texts_of (drop l.word-index l.words))

use Rattle.arrow_memory.proofs.Common.{◌≤◌, vec_capacity}
use Rattle.arrow_memory.proofs.GatherLemmas.{AnswersUpTo}
use Rattle.arrow_memory.proofs.bitmap.Bitmap.collect_words.Given as goal

-- the words that were answered so far, and room for all
abbrev pub invariant-loop-j : goal.invariant-loop-j
invariant-loop-j g l = record {
  words : AnswersUpTo (goal.F-post g l.word_at) l.words.items l.j;
  room : l.count ≤ vec_capacity l.words;
}

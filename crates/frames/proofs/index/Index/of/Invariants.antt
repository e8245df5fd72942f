use Rattle.std.proofs.Common.{◌≡◌, ◌++◌, ℕ, List}
use Rattle.frames.specs.Index.{Indexes}
use Rattle.frames.proofs.index.Index.of.Given as goal

-- the words after those that are left are read
abbrev pub invariant-loop-word : goal.invariant-loop-word
invariant-loop-word l = (read : List ℕ) × (l.word-iterator.iter.rest.now ++ read ≡ l.book) × Indexes l.words read

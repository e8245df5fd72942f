use Rattle.std.proofs.Common.{◌≡◌, ◌++◌, ℕ, List}
use Rattle.frames.specs.Book.{heard_sets}
use Rattle.frames.proofs.book.heard_in_round.Given as goal

-- the words after those that are left are read
abbrev pub invariant-loop-word : goal.invariant-loop-word
invariant-loop-word l = (read : List ℕ) × (l.word-iterator.iter.rest.now ++ read ≡ l.words) × (l.sets ≡ heard_sets read l.round)

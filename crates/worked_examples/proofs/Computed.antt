-- Every worked example is computed, or follows from how many letters are heard.
use Rattle.std.proofs.Common.{◌≡◌, [], ◌∷◌, Some, refl}
use Rattle.third_rule.specs.Third.{third}
use Rattle.rules.specs.Rule.{lockstep}
use Rattle.frames.specs.Frame.{frame_word, read_frame}
use Rattle.frames.specs.Book.{entry_word}
use Rattle.frames.specs.Pool.{take_out}
use Rattle.protocol.specs.Steps.{step, after, refusals}
use Rattle.protocol.specs.Tally.{tally, tally_accepted}
use Rattle.worked_examples.specs.Rules.{ThirdExamples, LastExamples, LastRuns}
use Rattle.worked_examples.specs.Words.{WordExamples}
use Rattle.worked_examples.specs.Calls.{begin, run, RunExample, FateExamples, RefusalExamples, CallExamples}
use Rattle.schedule_text.specs.Reading.{pieces, read_lines, read_text}
use Rattle.worked_examples.specs.Texts.{TextExamples}
use Rattle.schedule.specs.Program.{new_shed}
use Rattle.worked_examples.specs.Numbers.{ProgramWords}
use Rattle.worked_examples.proofs.Hearing.{any_two_of_three, any_three_of_four}

pub third_rounds : ThirdExamples
third_rounds = record { rounds = refl; any_two_of_three = any_two_of_three }

pub last_rounds : LastExamples
last_rounds = record { rounds = refl; any_two_of_four = λ s m whole two. rw (whole, two) refl; any_three_of_four = any_three_of_four; stamps = refl }

pub last_runs : LastRuns
unfolding lockstep
last_runs = record { first_phase = refl; stamp_found = refl; free_again = refl }

pub words : WordExamples
unfolding frame_word read_frame entry_word
words = record {
  packed = refl;
  third_reads = refl;
  last_reads = refl;
  no_sender = refl;
  no_letter = refl;
}

pub a_run : RunExample
unfolding after refusals step tally tally_accepted lockstep frame_word read_frame entry_word take_out
a_run = record { refused = refl; hulls = refl; book = refl; triples = refl }

-- the cells of both stations after the run
pub last_cells : (after third begin run).states ≡ record { value = 7; hull = Some 7 } ∷ record { value = 7; hull = Some 7 } ∷ []
unfolding after step lockstep frame_word read_frame entry_word take_out
last_cells = refl

fates : FateExamples
unfolding after step frame_word read_frame entry_word take_out
fates = record {
  taken = refl;
  again = refl;
  late = refl;
  early = refl;
  held_is_heard = refl;
  hold_is_empty = refl;
  moved = refl;
}

refused : RefusalExamples
unfolding after step frame_word read_frame entry_word take_out
refused = record {
  shut_shed = refl;
  open_again = refl;
  no_values = refl;
  no_pool = refl;
  few_states = refl;
  third_station = refl;
  empty_pool = refl;
  another_length = refl;
  unreadable = refl;
  crashed = refl;
  sent_twice = refl;
  turned_fresh = refl;
  holding = refl;
  full_pool = refl;
  full_book = refl;
  last_round = refl;
}

pub calls : CallExamples
calls = record { a_run = a_run; fates = fates; refused = refused }

pub texts : TextExamples
unfolding read_text read_lines pieces
texts = record {
  reads = refl;
  no_text = refl;
  lone_end = refl;
  no_steps = refl;
  wrong_values = refl;
  wrong_step = refl;
  cut_short = refl;
}

pub program_words : ProgramWords
unfolding new_shed
program_words = record { pool = refl; book = refl }

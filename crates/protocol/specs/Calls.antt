-- What each call answers and leaves, by cases.
use Rattle.std.specs.Prelude.{ℕ, zero, suc, ◌+◌, ◌-◌, Bool, cond, not, ◌||◌, List, [], ◌∷◌, ◌++◌, length, slice_index_or, replicate, Some, None, Ok, Err}
use Rattle.std.specs.Prelude.{Option, Result, ◌==◌, nat_lt, slice_index, slice_set}
use Rattle.lists.specs.Lists.{tabulate, written, put}
use Rattle.stations.specs.declared.StationSet.{StationSet}
use Rattle.stations.specs.declared.TheConstants.{STATIONS}
use Rattle.stations.specs.Stations.{contains, none}
use Rattle.rules.specs.Rule.{Behaviour}
use Rattle.protocol.specs.declared.TheConstants.{MAX_POOL, MAX_BOOK}
use Rattle.protocol.specs.declared.types.StationRecord.{StationRecord}
use Rattle.protocol.specs.declared.types.Stand.TheVariants.{Fresh, Down}
use Rattle.protocol.specs.declared.refusal.Refusal.{Refusal}
use Rattle.protocol.specs.declared.refusal.Refusal.TheVariants.{AlreadyOpen, BufferSize, BufferMismatch, Unreadable, PoolFull}
use Rattle.protocol.specs.declared.types.Sight.{Sight}
use Rattle.protocol.specs.declared.types.Fate.{Fate}
use Rattle.protocol.specs.declared.types.Fate.TheVariants.{Late, Again, Taken, Early}
use Rattle.std.specs.List.{slice_get}
use Rattle.frames.specs.Frame.{Frame, frame_word, read_frame}
use Rattle.frames.specs.Book.{entry_word}
use Rattle.frames.specs.Pool.{take_out}
use Rattle.protocol.specs.Refusals.{first_refusal, attempt}
use Rattle.protocol.specs.Rows.{letter_cells, letter_cell, held_cell}
use Rattle.protocol.specs.Tests.{ready_tests, count_tests, place_tests, station_tests, standing_tests, speaker_tests, turner_tests}
use Rattle.protocol.specs.Records.{blank, due, hearing, holding, listened, judged}
use Rattle.protocol.specs.World.{World, station}

-- the letter of one cell copied into another
abbrev pub copied : {L : Type 0} → List L → ℕ → ℕ → List L
copied letters from to = elim (slice_get letters from) [ None ↦ letters | Some l ↦ slice_set letters to l ]

-- the letters when p's held letter has moved into the cell of its sender
abbrev pub taken_in : {L : Type 0} → ℕ → ℕ → Option ℕ → List L → List L
taken_in n p None letters = letters
taken_in n p (Some q) letters = copied letters (held_cell n p) (letter_cell n p q)

-- the letter that p has from q, if it heard q
abbrev pub mail : {L : Type 0} → (n p : ℕ) → StationSet → List L → ℕ → Option L
mail n p heard letters q = cond (contains heard q) (slice_get letters (letter_cell n p q)) None

-- the records when a frame has met its fate: a sender is heard, or a letter is held
abbrev pub received_stations : {L : Type 0} → List StationRecord → Frame L → Fate → List StationRecord
received_stations rs f Late = rs
received_stations rs f Again = rs
received_stations rs f Taken = slice_set rs f.1 (hearing (slice_index_or rs f.1 blank) f.0)
received_stations rs f Early = slice_set rs f.1 (holding (slice_index_or rs f.1 blank) (record { sender = f.0; round = f.2 }))

-- the letters likewise: the frame's letter lies in its sender's cell, or in that of the held letter
abbrev pub received_letters : {L : Type 0} → ℕ → List L → Frame L → Fate → List L
received_letters n ls f Late = ls
received_letters n ls f Again = ls
received_letters n ls f Taken = slice_set ls (letter_cell n f.1 f.0) f.3
received_letters n ls f Early = slice_set ls (held_cell n f.1) f.3

module _ {S L : Type 0} (R : Behaviour S L) where
  -- ---- changes of a world
  abbrev pub with_stations : World S L → List StationRecord → World S L
  with_stations w x = record w { stations = x }

  abbrev pub with_pool : World S L → ℕ → List ℕ → World S L
  with_pool w c x = record w { frames = c; pool = x }

  abbrev pub with_letters : World S L → List L → World S L
  with_letters w x = record w { letters = x }

  -- the frame at place k leaves the pool
  abbrev pub without_frame : World S L → ℕ → World S L
  without_frame w k = with_pool w (w.frames - 1) (take_out 0 w.pool w.frames k)

  -- ---- open
  abbrev pub open_tests : World S L → List ℕ → List (Bool × Refusal)
  open_tests w values =
      let n : ℕ = length values in
      (not (w.n == 0), AlreadyOpen) ∷
      count_tests R.most n ++
      (length w.pool == 0 || nat_lt MAX_POOL (length w.pool) || nat_lt MAX_BOOK (length w.book), BufferSize) ∷
      (nat_lt (length w.states) n || nat_lt (length w.letters) (letter_cells n), BufferMismatch) ∷ []

  abbrev pub open_refusal : World S L → List ℕ → Option Refusal
  open_refusal w values = first_refusal (open_tests w values)

  abbrev pub opened : World S L → List ℕ → World S L
  opened w values =
      let n : ℕ = length values in
      record {
        n = n;
        pool_len = length w.pool;
        book_len = length w.book;
        frames = 0;
        entries = 0;
        stations = replicate STATIONS blank;
        states = written n (λ p. R.first n p (slice_index values p)) w.states;
        letters = w.letters;
        pool = replicate (length w.pool) 0;
        book = replicate (length w.book) 0;
      }

  abbrev pub open_call : World S L → List ℕ → Result ℕ Refusal × World S L
  open_call w values = attempt w (open_refusal w values) (length values) (opened w values)

  -- ---- send
  -- the state at p; the default stands past the end, where no accepted call reads
  abbrev pub state_of : World S L → ℕ → S
  state_of w p = slice_index_or w.states p (R.first w.n p 0)

  -- the frames of the letters that p writes in round k from state s, to m receivers from q on
  abbrev pub frames_from : (n p k : ℕ) → S → (q m : ℕ) → List ℕ
  frames_from n p k s q zero = []
  frames_from n p k s q (suc m) =
      let rest : List ℕ = frames_from n p k s (suc q) m in
      elim (R.letter n p k s q) [ None ↦ rest | Some l ↦ frame_word R (p, q, k, l) ∷ rest ]

  -- the frames of p's letters, by rising receiver
  abbrev pub frames_of : World S L → ℕ → List ℕ
  frames_of w p = frames_from w.n p (station w p).round (state_of w p) 0 w.n

  abbrev pub send_tests : World S L → ℕ → List (Bool × Refusal)
  send_tests w p = ready_tests w ++ speaker_tests w.n p (station w p) ++ (nat_lt (w.pool_len - w.frames) (length (frames_of w p)), PoolFull) ∷ []

  abbrev pub send_refusal : World S L → ℕ → Option Refusal
  send_refusal w p = first_refusal (send_tests w p)

  -- p listens; a held letter of its own round is taken in
  abbrev pub listening : World S L → ℕ → World S L
  listening w p =
      let s : StationRecord = station w p in
      with_letters (with_stations w (slice_set w.stations p (listened s (due s)))) (taken_in w.n p (due s) w.letters)

  abbrev pub sent : World S L → ℕ → World S L
  sent w p = listening (with_pool w (w.frames + length (frames_of w p)) (put w.pool w.frames (frames_of w p))) p

  abbrev pub send_call : World S L → ℕ → Result ℕ Refusal × World S L
  send_call w p = attempt w (send_refusal w p) (length (frames_of w p)) (sent w p)

  -- ---- deliver
  -- what a delivery or a drop asks for
  abbrev pub taking_tests : World S L → ℕ → List (Bool × Refusal)
  taking_tests w k = ready_tests w ++ place_tests w.frames k

  abbrev pub place_refusal : World S L → ℕ → Option Refusal
  place_refusal w k = first_refusal (taking_tests w k)

  abbrev pub frame_at : World S L → ℕ → Option (Frame L)
  frame_at w k = read_frame R w.n (slice_index w.pool k)

  abbrev pub received : World S L → Frame L → Fate → World S L
  received w f x = with_letters (with_stations w (received_stations w.stations f x)) (received_letters w.n w.letters f x)

  -- what the judgement of the frame f at place k comes to
  abbrev pub settled : World S L → ℕ → Frame L → Result Fate Refusal → Result Fate Refusal × World S L
  settled w k f (Err r) = (Err r, w)
  settled w k f (Ok x) = (Ok x, received (without_frame w k) f x)

  -- there is no such place; the word there is no frame; or its receiver judges it
  abbrev pub delivery : World S L → ℕ → Option Refusal → Option (Frame L) → Result Fate Refusal × World S L
  delivery w k (Some r) o = (Err r, w)
  delivery w k None None = (Err Unreadable, w)
  delivery w k None (Some f) = settled w k f (judged (station w f.1) f.0 f.2)

  abbrev pub deliver_call : World S L → ℕ → Result Fate Refusal × World S L
  deliver_call w k = delivery w k (place_refusal w k) (frame_at w k)

  -- ---- drop and repeat
  abbrev pub drop_call : World S L → ℕ → Result ℕ Refusal × World S L
  drop_call w k =
      attempt w (place_refusal w k) 0 (without_frame w k)

  abbrev pub repeat_tests : World S L → ℕ → List (Bool × Refusal)
  repeat_tests w k = ready_tests w ++ place_tests w.frames k ++ ((w.frames == w.pool_len), PoolFull) ∷ []

  abbrev pub repeat_refusal : World S L → ℕ → Option Refusal
  repeat_refusal w k = first_refusal (repeat_tests w k)

  abbrev pub repeat_call : World S L → ℕ → Result ℕ Refusal × World S L
  repeat_call w k =
      attempt w (repeat_refusal w k)
      w.frames
      (with_pool w (w.frames + 1) (slice_set w.pool w.frames (slice_index w.pool k)))

  -- ---- turn
  abbrev pub mailbox_of : World S L → ℕ → List (Option L)
  mailbox_of w p = tabulate w.n (mail w.n p (station w p).heard w.letters)

  abbrev pub turn_tests : World S L → ℕ → List (Bool × Refusal)
  turn_tests w p = ready_tests w ++ turner_tests w.n p (station w p) w.entries w.book_len

  abbrev pub turn_refusal : World S L → ℕ → Option Refusal
  turn_refusal w p = first_refusal (turn_tests w p)

  abbrev pub turned : World S L → ℕ → World S L
  turned w p =
      let s : StationRecord = station w p in
      record w {
        entries = w.entries + 1;
        stations = slice_set w.stations p (record s { round = s.round + 1; stand = Fresh; heard = none });
        states = slice_set w.states p (R.next w.n p s.round (state_of w p) (mailbox_of w p));
        book = slice_set w.book w.entries (entry_word p s.round s.heard);
      }

  abbrev pub turn_call : World S L → ℕ → Result ℕ Refusal × World S L
  turn_call w p = attempt w (turn_refusal w p) ((station w p).round + 1) (turned w p)

  -- ---- crash
  abbrev pub crash_tests : World S L → ℕ → List (Bool × Refusal)
  crash_tests w p = ready_tests w ++ standing_tests w.n p (station w p)

  abbrev pub crash_refusal : World S L → ℕ → Option Refusal
  crash_refusal w p = first_refusal (crash_tests w p)

  abbrev pub crash_call : World S L → ℕ → Result ℕ Refusal × World S L
  crash_call w p =
      let s : StationRecord = station w p in
      attempt w (crash_refusal w p)
      0
      (with_stations w (slice_set w.stations p (record s { stand = Down })))

  -- ---- look
  abbrev pub look_tests : World S L → ℕ → List (Bool × Refusal)
  look_tests w p = ready_tests w ++ station_tests w.n p

  abbrev pub look_refusal : World S L → ℕ → Option Refusal
  look_refusal w p = first_refusal (look_tests w p)

  -- what is seen of station p
  abbrev pub sight_of : World S L → ℕ → Sight
  sight_of w p =
      let s : StationRecord = station w p in
      record { stand = s.stand; round = s.round; hull = R.hull (state_of w p) }

  abbrev pub look_call : World S L → ℕ → Result Sight Refusal × World S L
  look_call w p = attempt w (look_refusal w p) (sight_of w p) w

-- What each request answers and leaves, and what a list of them does.
use Rattle.std.specs.Prelude.{ℕ, ◌+◌, ◌*◌, cond, List, [], ◌∷◌, ◌++◌, length, min, take, drop, replicate}
use Rattle.std.specs.Prelude.{Some, None, Ok, Err, Option, Result, ◌==◌, nat_lt, slice_set}
use Rattle.std.specs.List.{slice_get}
use Rattle.lists.specs.Lists.{put}
use Rattle.rules.specs.declared.TheConstants.{LAST_ROUND}
use Rattle.rules.specs.Rule.{Behaviour}
use Rattle.third_rule.specs.Third.{third}
use Rattle.last_rule.specs.Last.{last}
use Rattle.protocol.specs.declared.types.Fate.{Fate}
use Rattle.protocol.specs.declared.types.Fate.TheVariants.{Late, Again, Taken, Early}
use Rattle.protocol.specs.declared.types.Stand.{Stand}
use Rattle.protocol.specs.declared.types.Stand.TheVariants.{Fresh, Listening, Down}
use Rattle.protocol.specs.declared.types.Sight.{Sight}
use Rattle.protocol.specs.declared.refusal.Refusal.{Refusal}
use Rattle.protocol.specs.Refusals.{attempt, refusal_number}
use Rattle.protocol.specs.World.{World, shut}
use Rattle.protocol.specs.Calls.{open_call, send_call, deliver_call, drop_call, repeat_call, turn_call, crash_call, look_call}
use Rattle.recount.specs.Recount.{run_refusal, recounted}
use Rattle.peer_bridge.specs.declared.TheConstants.{THIRD, STATES, LETTERS}
use Rattle.peer_bridge.specs.declared.request.Request.{Request}
use Rattle.peer_bridge.specs.declared.request.Reply.{Reply}

-- ---- answers as numbers
abbrev pub fate_number : Fate → ℕ
fate_number Late = 0
fate_number Again = 1
fate_number Taken = 2
fate_number Early = 3

abbrev pub stand_number : Stand → ℕ
stand_number Fresh = 0
stand_number Listening = 1
stand_number Down = 2

-- 0 for none, and else one more than the hull
abbrev pub hull_number : Option ℕ → ℕ
hull_number None = 0
hull_number (Some h) = h + 1

abbrev pub sight_number : Sight → ℕ
sight_number s = (hull_number s.hull * 65536 + s.round) * 3 + stand_number s.stand

-- an outcome whose answer is told by its number
abbrev pub as_number : {A W : Type 0} → (A → ℕ) → Result A Refusal × W → Result ℕ Refusal × W
as_number number (Ok a, w) = (Ok (number a), w)
as_number number (Err f, w) = (Err f, w)

abbrev pub reply_of : Result ℕ Refusal → Reply
reply_of (Ok x) = record { refusal = 0; answer = x }
reply_of (Err f) = record { refusal = refusal_number f; answer = 0 }

-- the first k cells, or all; and those after them
abbrev pub front : {A : Type 0} → ℕ → List A → List A
front k cells = take (min k (length cells)) cells

abbrev pub rest : {A : Type 0} → ℕ → List A → List A
rest k cells = drop (min k (length cells)) cells

module _ {S L : Type 0} (R : Behaviour S L) where
  -- ---- the shed's calls
  abbrev pub called : List ℕ → World S L → Request → Result ℕ Refusal × World S L
  called values w q =
      cond (q.kind == 0) (open_call R w (front q.at values))
      (cond (q.kind == 1) (send_call R w q.at)
      (cond (q.kind == 2) (as_number fate_number (deliver_call R w q.at))
      (cond (q.kind == 3) (drop_call R w q.at)
      (cond (q.kind == 4) (repeat_call R w q.at)
      (cond (q.kind == 5) (turn_call R w q.at)
      (cond (q.kind == 6) (crash_call R w q.at)
      (as_number sight_number (look_call R w q.at))))))))

  -- ---- recount, into the states
  abbrev pub recounting : (values book : List ℕ) → List S → (scratch row round : ℕ) → Result ℕ Refusal × List S
  recounting values book states scratch row round =
      attempt states (run_refusal R.most (length values) (min (min (length states) scratch) row) (nat_lt LAST_ROUND round)) round
      (recounted R values book round states)

  -- ---- what is seen of the state in a cell; 0 where there is no such cell
  -- 0 for no letter, and else one more than the packed number
  abbrev pub letter_number : Option L → ℕ
  letter_number None = 0
  letter_number (Some l) = R.pack l + 1

  abbrev pub letter_written : List S → Request → ℕ
  letter_written states q = elim (slice_get states q.at) [ None ↦ 0 | Some s ↦ letter_number (R.letter q.n q.station q.round s q.receiver) ]

  abbrev pub hull_shown : List S → ℕ → ℕ
  hull_shown states k = elim (slice_get states k) [ None ↦ 0 | Some s ↦ hull_number (R.hull s) ]

  -- ---- each request: a call, recount, a state's letter or hull, a letter, or a word that others write
  abbrev pub answered : List ℕ → (scratch row : ℕ) → World S L → Request → Result ℕ Refusal × World S L
  answered values scratch row w q =
      cond (nat_lt q.kind 8) (called values w q)
      (cond (q.kind == 8) (let o = recounting values w.book w.states scratch row q.round in (o.0, record w { states = o.1 }))
      (cond (q.kind == 9) (Ok (letter_written w.states q), w)
      (cond (q.kind == 10) (Ok (hull_shown w.states q.at), w)
      (cond (q.kind == 11) (Ok (letter_number (slice_get w.letters q.at)), w)
      (Ok 0, record w { pool = slice_set w.pool q.at q.word })))))

  -- with the first cells of each buffer alone, as many as a request is lent
  abbrev pub lent : World S L → Request → World S L
  lent w q = record w {
    states = front q.states w.states;
    letters = front q.letters w.letters;
    pool = front q.pool w.pool;
    book = front q.book w.book;
  }

  -- what it leaves of them, and the cells after those as they were
  abbrev pub returned : World S L → Request → World S L → World S L
  returned w q v = record v {
    states = v.states ++ rest q.states w.states;
    letters = v.letters ++ rest q.letters w.letters;
    pool = v.pool ++ rest q.pool w.pool;
    book = v.book ++ rest q.book w.book;
  }

  module _ (values : List ℕ) where
    -- recount's second buffer has as many cells as letters are lent, and its row as many as words of the pool, 17 at most
    abbrev pub made : World S L → Request → Result ℕ Refusal × World S L
    made w q = let o = answered values (min q.letters STATES) (min q.pool STATES) (lent w q) q in (o.0, returned w q o.1)

    -- ---- lists of requests
    unfoldable pub left_by : World S L → List Request → World S L
    left_by w [] = w
    left_by w (q ∷ qs) = left_by (made w q).1 qs

    unfoldable pub replies_to : World S L → List Request → List Reply
    replies_to w [] = []
    replies_to w (q ∷ qs) = reply_of (made w q).0 ∷ replies_to (made w q).1 qs

  -- what a new shed, with a first state and this letter in every cell, leaves of the replies, the pool and the book
  unfoldable pub course : L → List ℕ → List Request → (replies : List Reply) (pool book : List ℕ) → List Reply × List ℕ × List ℕ
  course letter values requests replies pool book =
      let new = shut (replicate STATES (R.first 1 0 0)) (replicate LETTERS letter) pool book in
      let end = left_by values new requests in
      (put replies 0 (replies_to values new requests), end.pool, end.book)

-- by the rule of that number
abbrev pub course_by : ℕ → List ℕ → List Request → (replies : List Reply) (pool book : List ℕ) → List Reply × List ℕ × List ℕ
course_by rule = cond (rule == THIRD) (course third (record { value = 0 })) (course last (record { value = 0; stamp = 0 }))

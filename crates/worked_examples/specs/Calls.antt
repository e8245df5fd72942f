-- Worked examples of the calls: two stations that open with 9 and 7 under OneThirdRule.
use Rattle.std.specs.Prelude.{◌≡◌, ℕ, List, [], ◌∷◌, ◌++◌, map, take, replicate, Some, None, Ok, Option, Result}
use Rattle.stations.specs.Stations.{none, with_station}
use Rattle.third_rule.specs.declared.State.{State}
use Rattle.third_rule.specs.declared.Letter.{Letter}
use Rattle.third_rule.specs.Third.{third}
use Rattle.protocol.specs.declared.refusal.Refusal.{Refusal}
use Rattle.protocol.specs.declared.refusal.Refusal.TheVariants.{Shut, AlreadyOpen, ValueCount, BufferSize, BufferMismatch, NoSuchStation, NoSuchPlace}
use Rattle.protocol.specs.declared.refusal.Refusal.TheVariants.{Unreadable, StationDown, AlreadySent, NotListening, HoldsLetter, PoolFull, BookFull, LastRound}
use Rattle.protocol.specs.declared.types.Fate.{Fate}
use Rattle.protocol.specs.declared.types.Fate.TheVariants.{Late, Again, Taken, Early}
use Rattle.protocol.specs.declared.types.StationRecord.{StationRecord}
use Rattle.protocol.specs.declared.types.Stand.TheVariants.{Listening}
use Rattle.protocol.specs.declared.types.Step.{Step}
use Rattle.protocol.specs.declared.types.Step.TheVariants.{Send, Deliver, Drop, Repeat, Turn, Crash}
use Rattle.protocol.specs.World.{World, station, shut}
use Rattle.protocol.specs.Steps.{step, after, refusals}
use Rattle.protocol.specs.Calls.{open_refusal, opened, with_stations, with_pool, deliver_call}
use Rattle.protocol.specs.Tally.{start, tally}
use Rattle.protocol.specs.Guarantee.{entry}

-- two stations with a pool of `pool` words and a book of `book`
abbrev pub buffers : (pool book : ℕ) → World State Letter
buffers pool book = shut (replicate 2 (record { value = 0; hull = None })) (replicate 6 (record { value = 0 })) (replicate pool 0) (replicate book 0)

abbrev pub values : List ℕ
values = 9 ∷ 7 ∷ []

abbrev pub begin : World State Letter
begin = opened third (buffers 8 6) values

-- ---- a whole run
abbrev pub run : List Step
run =
    Send 0 ∷ Send 1 ∷ Deliver 0 ∷ Deliver 2 ∷ Turn 0 ∷ Send 0 ∷ Deliver 3 ∷ Deliver 0 ∷
    Turn 1 ∷ Send 1 ∷ Deliver 2 ∷ Deliver 3 ∷ Turn 0 ∷ Deliver 2 ∷ Turn 1 ∷ Deliver 0 ∷ []

abbrev pub run_outcomes : List (Option Refusal)
run_outcomes =
    None ∷ None ∷ None ∷ None ∷ None ∷ None ∷ None ∷ Some HoldsLetter ∷
    None ∷ None ∷ None ∷ None ∷ None ∷ None ∷ None ∷ Some NotListening ∷ []

abbrev pub run_hulls : List (Option ℕ)
run_hulls = Some 7 ∷ Some 7 ∷ []

-- the four entries, and what is left of the book
abbrev pub entries : List ℕ
entries = 0x0000C00000000000 ∷ 0x1000000000000000 ∷ 0x0001C00000000000 ∷ 0x1001C00000000000 ∷ []

abbrev pub book_words : List ℕ
book_words = entries ++ (0 ∷ 0 ∷ [])

pub record RunExample : Type 0 where
  pub refused : refusals third begin run ≡ run_outcomes
  pub hulls : map (λ s. s.hull) (after third begin run).states ≡ run_hulls
  pub book : (after third begin run).book ≡ book_words
  pub triples : map entry (tally third values start run run_outcomes).triples ≡ entries

-- ---- fates
abbrev pub fate_after : List Step → ℕ → Result Fate Refusal
fate_after calls k = (deliver_call third (after third begin calls) k).0

-- station 0 is in round 1 and listens, station 1 in round 0; the pool has the frames of 0 in round 0, of 0 in round 1, of 1 in round 0
abbrev pub ahead : List Step
ahead = Send 0 ∷ Turn 0 ∷ Send 0 ∷ Send 1 ∷ []

-- station 1 took in the letter that it held for round 1
abbrev pub held_then_sent : StationRecord
held_then_sent = station (after third begin (Send 0 ∷ Turn 0 ∷ Send 0 ∷ Send 1 ∷ Deliver 3 ∷ Turn 1 ∷ Send 1 ∷ [])) 1

pub record FateExamples : Type 0 where
  pub taken : fate_after (Send 0 ∷ []) 0 ≡ Ok Taken
  pub again : fate_after (Send 0 ∷ Repeat 0 ∷ Deliver 0 ∷ []) 0 ≡ Ok Again
  pub late : fate_after ahead 0 ≡ Ok Late
  pub early : fate_after ahead 3 ≡ Ok Early
  pub held_is_heard : held_then_sent.heard ≡ with_station none 0
  pub hold_is_empty : held_then_sent.hold ≡ None
  -- the last frame moves to the place of the one that is taken out
  pub moved : take 2 (after third begin (Send 0 ∷ Drop 0 ∷ [])).pool ≡ 0x0100000090000000 ∷ 0 ∷ []

-- ---- refusals, each by a call that meets it
abbrev pub refused_after : World State Letter → List Step → Step → Option Refusal
refused_after w calls c = (step third (after third w calls) c).0

-- a station of round 4,095 that listens
abbrev pub at_the_end : World State Letter
at_the_end = with_stations third begin (record { round = 4095; stand = Listening; heard = none; hold = None } ∷ [])

pub record RefusalExamples : Type 0 where
  pub shut_shed : refused_after (buffers 8 6) [] (Send 0) ≡ Some Shut
  pub open_again : open_refusal third begin values ≡ Some AlreadyOpen
  pub no_values : open_refusal third (buffers 8 6) [] ≡ Some ValueCount
  pub no_pool : open_refusal third (buffers 0 6) values ≡ Some BufferSize
  pub few_states : open_refusal third (buffers 8 6) (9 ∷ 7 ∷ 5 ∷ []) ≡ Some BufferMismatch
  pub third_station : refused_after begin [] (Send 2) ≡ Some NoSuchStation
  pub empty_pool : refused_after begin [] (Deliver 0) ≡ Some NoSuchPlace
  pub another_length : refused_after (with_pool third begin 1 (1 ∷ [])) [] (Drop 0) ≡ Some BufferMismatch
  pub unreadable : refused_after (with_pool third begin 1 (replicate 8 1)) [] (Deliver 0) ≡ Some Unreadable
  pub crashed : refused_after begin (Crash 0 ∷ []) (Crash 0) ≡ Some StationDown
  pub sent_twice : refused_after begin (Send 0 ∷ []) (Send 0) ≡ Some AlreadySent
  pub turned_fresh : refused_after begin [] (Turn 0) ≡ Some NotListening
  pub holding : refused_after begin (Send 0 ∷ Turn 0 ∷ Send 0 ∷ Send 1 ∷ Deliver 3 ∷ []) (Deliver 1) ≡ Some HoldsLetter
  pub full_pool : refused_after (opened third (buffers 1 6) values) [] (Send 0) ≡ Some PoolFull
  pub full_book : refused_after (opened third (buffers 8 0) values) (Send 0 ∷ []) (Turn 0) ≡ Some BookFull
  pub last_round : refused_after at_the_end [] (Turn 0) ≡ Some LastRound

pub record CallExamples : Type 0 where
  pub a_run : RunExample
  pub fates : FateExamples
  pub refused : RefusalExamples

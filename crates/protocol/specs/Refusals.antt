-- The refusals and their numbers, and what a refused call leaves.
use Rattle.std.specs.Prelude.{ℕ, Bool, cond, List, [], ◌∷◌, Some, None, Ok, Err, Option, Result}
use Rattle.refusal_numbers.specs.declared.Reason.{Reason}
use Rattle.refusal_numbers.specs.declared.Reason.TheVariants as table
use Rattle.refusal_numbers.specs.Numbers.{number_of}
use Rattle.frames.specs.declared.pool.PoolRefusal.{PoolRefusal}
use Rattle.frames.specs.declared.pool.PoolRefusal.TheVariants as pool
use Rattle.protocol.specs.declared.refusal.Refusal.{Refusal}
use Rattle.protocol.specs.declared.refusal.Refusal.TheVariants.{Shut, AlreadyOpen, ValueCount, BufferSize, BufferMismatch, NoSuchStation, NoSuchPlace}
use Rattle.protocol.specs.declared.refusal.Refusal.TheVariants.{Unreadable, StationDown, AlreadySent, NotListening, HoldsLetter, PoolFull, BookFull}
use Rattle.protocol.specs.declared.refusal.Refusal.TheVariants.{LastRound}

-- the reason that each refusal is, in checking order, and its number
abbrev pub reason : Refusal → Reason
reason Shut = table.Shut
reason AlreadyOpen = table.AlreadyOpen
reason ValueCount = table.ValueCount
reason BufferSize = table.BufferSize
reason BufferMismatch = table.BufferMismatch
reason NoSuchStation = table.NoSuchStation
reason NoSuchPlace = table.NoSuchPlace
reason Unreadable = table.Unreadable
reason StationDown = table.StationDown
reason AlreadySent = table.AlreadySent
reason NotListening = table.NotListening
reason HoldsLetter = table.HoldsLetter
reason PoolFull = table.PoolFull
reason BookFull = table.BookFull
reason LastRound = table.LastRound

abbrev pub refusal_number : Refusal → ℕ
refusal_number f = number_of (reason f)

-- a refusal of the pool, as the shed tells it
abbrev pub of_pool : PoolRefusal → Refusal
of_pool pool.NoSuchPlace = NoSuchPlace
of_pool pool.Unreadable = Unreadable
of_pool pool.Full = PoolFull

-- of an ordered list of tests and refusals, the first whose test holds
abbrev pub first_refusal : List (Bool × Refusal) → Option Refusal
first_refusal [] = None
first_refusal (t ∷ ts) = cond t.0 (Some t.1) (first_refusal ts)

-- of an ordered list of tests and outcomes, the first whose test holds, and the last outcome if none does
abbrev pub first_outcome : {A : Type 0} → List (Bool × A) → A → A
first_outcome [] last = last
first_outcome (t ∷ ts) last = cond t.0 t.1 (first_outcome ts last)

-- a refused call leaves everything as it was
abbrev pub attempt : {A W : Type 0} → W → Option Refusal → A → W → Result A Refusal × W
attempt w None a after = (Ok a, after)
attempt w (Some f) a after = (Err f, w)

-- The pool's words, of which the first c are frames: what each call answers and leaves.
use Rattle.std.specs.Prelude.{ℕ, ◌+◌, ◌-◌, Bool, cond, ◌&&◌, List, length, Ok, Err, Result, nat_le, nat_lt, slice_index, slice_index_or, slice_set}
use Rattle.std.specs.Option.{ok_or}
use Rattle.lists.specs.Lists.{put}
use Rattle.rules.specs.Rule.{Behaviour}
use Rattle.frames.specs.declared.pool.PoolRefusal.{PoolRefusal}
use Rattle.frames.specs.declared.pool.PoolRefusal.TheVariants.{NoSuchPlace, Unreadable, Full}
use Rattle.frames.specs.Frame.{Frame, read_frame}

-- of the first c words the one at place k is taken out: the last moves there, and its own place becomes z
unfoldable pub take_out : {A : Type 0} → A → List A → ℕ → ℕ → List A
take_out z xs c k = slice_set (slice_set xs k (slice_index_or xs (c - 1) z)) (c - 1) z

-- place k is one of the c frames of a pool that has them
abbrev pub has_place : List ℕ → ℕ → ℕ → Bool
has_place pool c k = nat_lt k c && nat_le c (length pool)

-- the frame at place k
abbrev pub found : {S L : Type 0} → Behaviour S L → ℕ → List ℕ → ℕ → ℕ → Result (Frame L) PoolRefusal
found R n pool c k = cond (has_place pool c k) (ok_or (read_frame R n (slice_index pool k)) Unreadable) (Err NoSuchPlace)

-- the frame at place k is taken out, and one frame fewer is left
abbrev pub taken_out : List ℕ → ℕ → ℕ → Result ℕ PoolRefusal × List ℕ
taken_out pool c k = cond (has_place pool c k) (Ok (c - 1), take_out 0 pool c k) (Err NoSuchPlace, pool)

-- frames join at the end, if there is a free place for each
abbrev pub added : List ℕ → ℕ → List ℕ → Result ℕ PoolRefusal × List ℕ
added pool c words = cond (nat_le (c + length words) (length pool)) (Ok (c + length words), put pool c words) (Err Full, pool)

-- a copy of the frame at place k joins at the end, at place c
abbrev pub repeated : List ℕ → ℕ → ℕ → Result ℕ PoolRefusal × List ℕ
repeated pool c k =
    cond (has_place pool c k) (cond (nat_lt c (length pool)) (Ok c, slice_set pool c (slice_index pool k)) (Err Full, pool)) (Err NoSuchPlace, pool)

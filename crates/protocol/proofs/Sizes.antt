-- Every call keeps the number of stations and the lengths of the buffers, so a look at a station is never refused.
use Rattle.std.proofs.lemmas.Bool.Decides.{nat_tests}
use Rattle.std.proofs.Common.{◌≡◌, ℕ, ◌+◌, ◌<◌, ◌≤◌, List, [], ◌∷◌, length, get_or, drop, set, Some, None, Ok, Option, sym, refl, ap, ◌∙◌, arith}
use Rattle.std.specs.List.{slice_get}
use Rattle.std.proofs.lemmas.List.{length-set, length-append, length-replicate}
use Rattle.rules.specs.Rule.{Behaviour}
use Rattle.lists.specs.Lists.{tabulate}
use Rattle.lists.proofs.Tables.{length_put, length_tabulate}
use Rattle.frames.specs.Frame.{Frame}
use Rattle.frames.specs.Pool.{take_out}
use Rattle.protocol.specs.declared.refusal.Refusal.{Refusal}
use Rattle.protocol.specs.declared.types.Fate.{Fate}
use Rattle.protocol.specs.declared.types.Fate.TheVariants.{Late, Again, Taken, Early}
use Rattle.protocol.specs.declared.types.Stand.TheVariants.{Down}
use Rattle.protocol.specs.declared.types.Step.{Step}
use Rattle.protocol.specs.declared.types.Step.TheVariants.{Send, Deliver, Drop, Repeat, Turn, Crash}
use Rattle.protocol.specs.World.{World, station}
use Rattle.protocol.specs.Guarantee.{Sized}
use Rattle.protocol.specs.Refusals.{attempt}
use Rattle.protocol.proofs.Outcomes.{attempt_by, deliver_by}
use Rattle.protocol.specs.Rows.{letter_cells, letter_cell, held_cell}
use Rattle.protocol.specs.Records.{due}
use Rattle.protocol.specs.Steps.{step, after}
use Rattle.protocol.specs.Calls.{taken_in, received_letters, opened, open_refusal, look_refusal, look_call, sight_of, frames_of, sent, send_refusal}
use Rattle.protocol.specs.Calls.{without_frame, received, place_refusal, repeat_refusal, with_pool, with_stations, turned, turn_refusal}
use Rattle.protocol.specs.Calls.{crash_refusal}

-- ---- lengths of cells
length_taken_out : (xs : List ℕ) (c k : ℕ) → length (take_out 0 xs c k) ≡ length xs
unfolding take_out
length_taken_out xs c k = simp length-set

module _ {L : Type 0} where
  length_copied : (ls : List L) (o : Option L) (to : ℕ) → length {A = L} (elim o [ None ↦ ls | Some l ↦ set ls to l ]) ≡ length ls
  length_copied ls None to = refl
  length_copied ls (Some l) to = length-set ls to l

  length_taken_in : (n p : ℕ) (o : Option ℕ) (ls : List L) → length (taken_in n p o ls) ≡ length ls
  length_taken_in n p None ls = refl
  length_taken_in n p (Some q) ls = length_copied ls (slice_get ls (held_cell n p)) (letter_cell n p q)

  length_received : (n : ℕ) (ls : List L) (f : Frame L) (x : Fate) → length (received_letters n ls f x) ≡ length ls
  length_received n ls f Late = refl
  length_received n ls f Again = refl
  length_received n ls f Taken = length-set ls (letter_cell n f.1 f.0) f.3
  length_received n ls f Early = length-set ls (held_cell n f.1) f.3

-- ---- calls
module _ {S L : Type 0} (R : Behaviour S L) where
  -- the number of stations, the lengths at opening, and how long each buffer is
  record SameSizes (w v : World S L) : Type 0 where
    pub n : v.n ≡ w.n
    pub pool_len : v.pool_len ≡ w.pool_len
    pub book_len : v.book_len ≡ w.book_len
    pub states : length v.states ≡ length w.states
    pub letters : length v.letters ≡ length w.letters
    pub pool : length v.pool ≡ length w.pool
    pub book : length v.book ≡ length w.book

  same : (w : World S L) → SameSizes w w
  same w = record { n = refl; pool_len = refl; book_len = refl; states = refl; letters = refl; pool = refl; book = refl }

  then : (u v w : World S L) → SameSizes u v → SameSizes v w → SameSizes u w
  then u v w a b = record {
    n = b.n ∙ a.n;
    pool_len = b.pool_len ∙ a.pool_len;
    book_len = b.book_len ∙ a.book_len;
    states = b.states ∙ a.states;
    letters = b.letters ∙ a.letters;
    pool = b.pool ∙ a.pool;
    book = b.book ∙ a.book;
  }

  kept : {A : Type 0} (w v : World S L) (o : Option Refusal) (a : A) → SameSizes w v → SameSizes w (attempt w o a v).1
  kept w v o a s = attempt_by w v a (λ x. SameSizes w x.1) o (λ f e. same w) (λ e. s)

  sent_sizes : (w : World S L) (p : ℕ) → SameSizes w (sent R w p)
  sent_sizes w p =
      record {
        n = refl;
        pool_len = refl;
        book_len = refl;
        states = refl;
        letters = length_taken_in w.n p (due (station w p)) w.letters;
        pool = length_put (frames_of R w p) w.pool w.frames;
        book = refl;
      }

  without_sizes : (w : World S L) (k : ℕ) → SameSizes w (without_frame R w k)
  without_sizes w k = record {
    n = refl;
    pool_len = refl;
    book_len = refl;
    states = refl;
    letters = refl;
    pool = length_taken_out w.pool w.frames k;
    book = refl;
  }

  received_sizes : (w : World S L) (f : Frame L) (x : Fate) → SameSizes w (received R w f x)
  received_sizes w f x = record {
    n = refl;
    pool_len = refl;
    book_len = refl;
    states = refl;
    letters = length_received w.n w.letters f x;
    pool = refl;
    book = refl;
  }

  turned_sizes : (w : World S L) (p : ℕ) → SameSizes w (turned R w p)
  turned_sizes w p = record {
    n = refl;
    pool_len = refl;
    book_len = refl;
    states = length-set w.states p _;
    letters = refl;
    pool = refl;
    book = length-set w.book w.entries _;
  }

  repeated_sizes : (w : World S L) (k : ℕ) → SameSizes w (with_pool R w (w.frames + 1) (set w.pool w.frames (get_or w.pool k 0)))
  repeated_sizes w k = record { n = refl; pool_len = refl; book_len = refl; states = refl; letters = refl; pool = length-set w.pool w.frames _; book = refl }

  abbrev crashed : World S L → ℕ → World S L
  crashed w p = with_stations R w (set w.stations p
      (record { round = (station w p).round; stand = Down; heard = (station w p).heard; hold = (station w p).hold }))

  crashed_sizes : (w : World S L) (p : ℕ) → SameSizes w (crashed w p)
  crashed_sizes w p = record { n = refl; pool_len = refl; book_len = refl; states = refl; letters = refl; pool = refl; book = refl }

  step_sizes : (w : World S L) (c : Step) → SameSizes w (step R w c).1
  unfolding step
  step_sizes w (Send p) = kept w (sent R w p) (send_refusal R w p) (length (frames_of R w p)) (sent_sizes w p)
  step_sizes w (Deliver k) = deliver_by R w k (λ o. SameSizes w o.1) (λ r. same w)
      (λ e f h y j. then w (without_frame R w k) _ (without_sizes w k) (received_sizes (without_frame R w k) f y))
  step_sizes w (Drop k) = kept w (without_frame R w k) (place_refusal R w k) 0 (without_sizes w k)
  step_sizes w (Repeat k) = kept w (with_pool R w (w.frames + 1) (set w.pool w.frames (get_or w.pool k 0))) (repeat_refusal R w k) w.frames (repeated_sizes w k)
  step_sizes w (Turn p) = kept w (turned R w p) (turn_refusal R w p) ((station w p).round + 1) (turned_sizes w p)
  step_sizes w (Crash p) = kept w (crashed w p) (crash_refusal R w p) 0 (crashed_sizes w p)

  after_sizes : (w : World S L) (cs : List Step) → SameSizes w (after R w cs)
  unfolding after
  after_sizes w [] = same w
  after_sizes w (c ∷ cs) = then w (step R w c).1 (after R (step R w c).1 cs) (step_sizes w c) (after_sizes (step R w c).1 cs)

  -- ---- after an accepted opening
  opened_sized : (new : World S L) (values : List ℕ) → open_refusal R new values ≡ None → Sized R values (opened R new values)
  opened_sized new values fine =
      let n : ℕ = length values in
      let first : ℕ → S = λ p. R.first n p (get_or values p 0) in
      record {
        some = grind (arith, nat_tests, fine);
        few = grind (arith, nat_tests, fine);
        stations = refl;
        states = omega (arith, length-append (tabulate n first) (drop n new.states), length_tabulate n first);
        letters = grind (arith, nat_tests, fine);
        pool = length-replicate (length new.pool) 0;
        pool_some = grind (arith, nat_tests, fine);
        pool_few = grind (arith, nat_tests, fine);
        book = length-replicate (length new.book) 0;
        book_few = grind (arith, nat_tests, fine);
      }

  sized_too : (values : List ℕ) (w v : World S L) → SameSizes w v → Sized R values w → Sized R values v
  sized_too values w v s z = record {
    some = z.some;
    few = z.few;
    stations = s.n ∙ z.stations;
    states = rw s.states z.states;
    letters = rw s.letters z.letters;
    pool = s.pool ∙ z.pool ∙ sym s.pool_len;
    pool_some = rw s.pool_len z.pool_some;
    pool_few = rw s.pool_len z.pool_few;
    book = s.book ∙ z.book ∙ sym s.book_len;
    book_few = rw s.book_len z.book_few;
  }

  pub stays_sized : (new : World S L) (values : List ℕ) (cs : List Step) → open_refusal R new values ≡ None → Sized R values (after R (opened R new values) cs)
  stays_sized new values cs fine =
      let first : World S L = opened R new values in
      sized_too values first (after R first cs) (after_sizes first cs) (opened_sized new values fine)

  look_accepted : (values : List ℕ) (w : World S L) (p : ℕ) → Sized R values w → p < length values → look_refusal R w p ≡ None
  look_accepted values w p z h =
      let states : w.n ≤ length w.states = rw z.stations z.states in
      let letters : letter_cells w.n ≤ length w.letters = rw z.stations z.letters in
      let below : p < w.n = rw z.stations h in
      grind (arith, nat_tests, states, letters, below, z.pool, z.book)

  -- whoever looks at a station sees it
  pub looks : (values : List ℕ) (w : World S L) (p : ℕ) → Sized R values w → p < length values → look_call R w p ≡ (Ok (sight_of R w p), w)
  looks values w p z h = ap (λ o. attempt w o (sight_of R w p) w) (look_accepted values w p z h)

-- A voting rule as functions, its lockstep run, and what every rule has to show.
use Rattle.std.specs.Prelude.{◌≡◌, ℕ, zero, suc, ◌^◌, ◌<◌, ◌≤◌, Bool, cond, ◌||◌, T, List, length, Some, None, Option, ◌==◌, ◌≢◌, nat_le, nat_lt}
use Rattle.std.specs.Prelude.{slice_index, slice_index_or}
use Rattle.std.specs.Borrow.{Array, RattleType}
use Rattle.std.specs.Mem.{FitsInMemory}
use Rattle.std.specs.contracts.option.Option.{the_row as option}
use Rattle.lists.specs.Lists.{tabulate}
use Rattle.stations.specs.declared.TheConstants.{STATIONS}
use Rattle.rules.specs.declared.TheConstants.{LAST_ROUND}

-- ---- a rule
-- n is the number of stations, S the kind of a station's state, L the kind of a letter
pub record Behaviour (S L : Type 0) : Type 0 where
  -- the most stations
  pub most : ℕ
  -- the first state, from the opening value
  pub first : (n station value : ℕ) → S
  -- what a station writes to a receiver in a round, or nothing
  pub letter : (n sender round : ℕ) → S → (receiver : ℕ) → Option L
  -- the state after a round, from the state before it and a mailbox: by sender a letter or nothing
  pub next : (n station round : ℕ) → S → List (Option L) → S
  -- the hull that a state shows, or none
  pub hull : S → Option ℕ
  -- a letter's packed number, and a number's letter or none
  pub pack : L → ℕ
  pub unpack : ℕ → Option L

-- no call speaks of such a station: there are none or too many, none has that number, or the round is past the last
abbrev pub outside : (most n station round : ℕ) → Bool
outside most n station round = n == 0 || nat_lt most n || nat_le n station || nat_lt LAST_ROUND round

-- what a caller may rely on, whatever it asks
pub record Interface {S L : Type 0} (R : Behaviour S L) : Type 0 where
  -- there is a station, and no more than there can be
  pub most_some : 1 ≤ R.most
  pub most_few : R.most ≤ STATIONS
  -- there is no letter where a call speaks of no sender or of no receiver
  pub no_letter : (n sender round receiver : ℕ) (s : S) → T (outside R.most n sender round || nat_le n receiver) → R.letter n sender round s receiver ≡ None
  -- the state stays where a call speaks of no station, or where the mailbox has not a place for each station
  pub stays : (n station round : ℕ) (s : S) (mailbox : List (Option L)) → T (outside R.most n station round) → R.next n station round s mailbox ≡ s
  pub stays_misfit : (n station round : ℕ) (s : S) (mailbox : List (Option L)) → (length mailbox ≢ n) → R.next n station round s mailbox ≡ s

-- ---- the lockstep run
-- whom a station heard in a round: station, round, sender
abbrev pub Heard : Type 0
Heard = ℕ → ℕ → ℕ → Bool

-- one round of n stations: `heard` says whom station p hears, `state` is every station's state before the round
module _ {S L : Type 0} (R : Behaviour S L) (n : ℕ) where
  -- what p has from q: q's letter to p, if p hears q and there is one
  abbrev pub letter_heard : (p k : ℕ) → (heard : ℕ → Bool) → (state : ℕ → S) → (q : ℕ) → Option L
  letter_heard p k heard state q = cond (heard q) (R.letter n q k (state q) p) None

  abbrev pub mailbox : (p k : ℕ) → (heard : ℕ → Bool) → (state : ℕ → S) → List (Option L)
  mailbox p k heard state = tabulate n (letter_heard p k heard state)

  -- p's state after round k
  abbrev pub next_state : (p k : ℕ) → (heard : ℕ → Bool) → (state : ℕ → S) → S
  next_state p k heard state = R.next n p k (state p) (mailbox p k heard state)

module _ {S L : Type 0} (R : Behaviour S L) (values : List ℕ) (H : Heard) where
  -- a station's state when all rounds below the given one are over
  unfoldable pub lockstep : (round station : ℕ) → S
  lockstep zero p = R.first (length values) p (slice_index values p)
  lockstep (suc k) p = next_state R (length values) p k (H p k) (λ q. lockstep k q)

-- ---- the laws
-- opening values that a rule takes
pub record Opening {S L : Type 0} (R : Behaviour S L) (values : List ℕ) : Type 0 where
  pub some : 1 ≤ length values
  pub not_too_many : length values ≤ R.most
  pub small : (p : ℕ) → p < length values → slice_index values p < 2 ^ 16

-- a letter within its ranges survives its packed number, and a packed number its letter
pub record Codec {S L : Type 0} (R : Behaviour S L) (letter_fits : L → Bool) : Type 0 where
  pub small : (l : L) → T (letter_fits l) → R.pack l < 2 ^ 44
  pub back : (l : L) → T (letter_fits l) → R.unpack (R.pack l) ≡ Some l
  pub again : (w : ℕ) (l : L) → R.unpack w ≡ Some l → R.pack l ≡ w

-- a hull once shown is shown by the next state, whatever the mailbox
abbrev pub Stable : {S L : Type 0} → Behaviour S L → Type 0
Stable {S} {L} R =
    (n p k h : ℕ) (s : S) (m : List (Option L)) → R.hull s ≡ Some h → R.hull (R.next n p k s m) ≡ Some h

-- all hulls shown in a lockstep run, by all stations at all rounds, are equal
abbrev pub Agreement : {S L : Type 0} → Behaviour S L → Type 0
Agreement R =
    (values : List ℕ) → Opening R values → (H : Heard) (p q i j a b : ℕ) → p < length values → q < length values →
    R.hull (lockstep R values H i p) ≡ Some a → R.hull (lockstep R values H j q) ≡ Some b → a ≡ b

-- each hull shown in a lockstep run is an opening value
abbrev pub Validity : {S L : Type 0} → Behaviour S L → Type 0
Validity R =
    (values : List ℕ) → Opening R values → (H : Heard) (p i h : ℕ) → p < length values →
    R.hull (lockstep R values H i p) ≡ Some h → (q : ℕ) × (q < length values) × (slice_index values q ≡ h)

pub record Laws {S L : Type 0} (R : Behaviour S L) (letter_fits : L → Bool) : Type 0 where
  pub codec : Codec R letter_fits
  pub stable : Stable R
  pub agreement : Agreement R
  pub validity : Validity R

-- ---- ranges and memory
-- A behaviour is of whole numbers, and a number in a cell has an end. The codec's law is asked of the letters that the
-- cells can hold. It says what it has to of each letter that travels, since what a rule writes is one of those.
abbrev pub MailFits : {L : Type 0} → (L → Bool) → List (Option L) → Type 0
MailFits {L} fits mailbox = (q : ℕ) (l : L) → slice_index_or mailbox q None ≡ Some l → T (fits l)

pub record Ranges {S L : Type 0} (R : Behaviour S L) (letter_fits : L → Bool) : Type 0 where
  -- the states that the cells can hold
  pub state_fits : S → Bool
  -- a first state is one of them, such a state writes letters within their ranges, and its next state is one again
  pub first_fits : (n station value : ℕ) → value < 2 ^ 16 → T (state_fits (R.first n station value))
  pub sent_fits : (n sender round receiver : ℕ) (s : S) (l : L) → T (state_fits s) → R.letter n sender round s receiver ≡ Some l → T (letter_fits l)
  pub next_fits : (n station round : ℕ) (s : S) (m : List (Option L)) → T (state_fits s) → MailFits letter_fits m → T (state_fits (R.next n station round s m))

-- Who makes a mailbox of sixteen places, each with a letter or nothing, does not know how large a letter is: it fits in memory.
abbrev pub MailboxRoom : RattleType → Type 0
MailboxRoom letter = FitsInMemory (Array (option letter) STATIONS)

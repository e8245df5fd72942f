-- A frame: how a letter travels as one word of 64 bits.
use Rattle.std.specs.Prelude.{◌≡◌, ℕ, ◌+◌, ◌*◌, ◌/◌, ◌%◌, ◌^◌, ◌<◌, Bool, cond, ◌&&◌, T, is_some, Some, None, Option, nat_lt}
use Rattle.stations.specs.declared.TheConstants.{STATIONS}
use Rattle.rules.specs.Rule.{Behaviour}
use Rattle.frames.specs.declared.TheConstants.{ROUNDS}

-- a frame: its sender, its receiver, its round and its letter
abbrev pub Frame : Type 0 → Type 0
Frame L = ℕ × ℕ × ℕ × L

-- sender 4 bits, receiver 4, round 12, packed letter 44, the most significant first
unfoldable pub frame_word : {S L : Type 0} → Behaviour S L → Frame L → ℕ
frame_word R f = ((f.0 * STATIONS + f.1) * ROUNDS + f.2) * 2 ^ 44 + R.pack f.3

-- the word of a frame, or none where a number is too large for its bits
abbrev pub packed_frame : {S L : Type 0} → Behaviour S L → Frame L → Option ℕ
packed_frame R f = cond (nat_lt f.0 STATIONS && nat_lt f.1 STATIONS && nat_lt f.2 ROUNDS) (Some (frame_word R f)) None

abbrev pub framed : {L : Type 0} → ℕ → ℕ → ℕ → Option L → Option (Frame L)
framed s r k None = None
framed s r k (Some l) = Some (s, r, k, l)

-- the frame that a word holds: both stations below n, and a packed letter
unfoldable pub read_frame : {S L : Type 0} → Behaviour S L → ℕ → ℕ → Option (Frame L)
read_frame R n w =
    cond (nat_lt (w / 2 ^ 60) n && nat_lt ((w / 2 ^ 56) % STATIONS) n)
    (framed (w / 2 ^ 60) ((w / 2 ^ 56) % STATIONS) ((w / 2 ^ 44) % ROUNDS) (R.unpack (w % 2 ^ 44)))
    None

-- a word is readable exactly when both its stations are below n and the rest unpacks
abbrev pub readable : {S L : Type 0} → Behaviour S L → ℕ → ℕ → Bool
readable R n w = nat_lt (w / 2 ^ 60) n && nat_lt ((w / 2 ^ 56) % STATIONS) n && is_some (R.unpack (w % 2 ^ 44))

-- a frame survives its word: where both stations are below n and the letter is within its ranges, the word reads as it
abbrev pub ReadsBack : {S L : Type 0} → Behaviour S L → (letter_fits : L → Bool) → Frame L → Option ℕ → Type 0
ReadsBack R letter_fits f word = (n w : ℕ) → word ≡ Some w → f.0 < n → f.1 < n → T (letter_fits f.3) → read_frame R n w ≡ Some f

-- a word survives its frame: what it reads as has both stations below n, and is packed into that word
abbrev pub PacksAgain : {S L : Type 0} → Behaviour S L → ℕ → ℕ → Option (Frame L) → Type 0
PacksAgain {S} {L} R n w read = (f : Frame L) → read ≡ Some f → (f.0 < n) × (f.1 < n) × (packed_frame R f ≡ Some w)

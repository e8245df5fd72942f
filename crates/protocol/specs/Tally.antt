-- The tally: what a list of calls should come to, told from the calls and from which were refused, without frames, cells or heard marks.
use Rattle.std.specs.Prelude.{ℕ, zero, suc, ◌+◌, ◌-◌, false, cond, not, ◌&&◌, ◌||◌, List, [], ◌∷◌, ◌++◌, length, slice_index_or, take, Some, None, Option}
use Rattle.std.specs.Prelude.{◌==◌, nat_lt, slice_set}
use Rattle.stations.specs.declared.StationSet.{StationSet}
use Rattle.stations.specs.Stations.{contains, set_of}
use Rattle.rules.specs.Rule.{Behaviour, Heard, lockstep}
use Rattle.protocol.specs.declared.refusal.Refusal.{Refusal}
use Rattle.protocol.specs.declared.types.Step.{Step}
use Rattle.protocol.specs.declared.types.Step.TheVariants.{Send, Deliver, Drop, Repeat, Turn, Crash}

-- a letter on its way
pub record Slip : Type 0 where
  pub sender : ℕ
  pub receiver : ℕ
  pub round : ℕ

-- a finished round of a station, with the senders that it heard
pub record Triple : Type 0 where
  pub station : ℕ
  pub round : ℕ
  pub heard : StationSet

pub record Tally : Type 0 where
  -- each station's round
  pub rounds : ℕ → ℕ
  -- the letters on their way, as they lie in the pool
  pub slips : List Slip
  -- by receiver, round and sender: such a letter was delivered in time
  pub notes : Heard
  -- the finished rounds, in the order of the turns
  pub triples : List Triple

-- whom a station heard in a round, by the first triple for both; nobody if there is none
abbrev pub heard_in : List Triple → Heard
heard_in [] p k q = false
heard_in (t ∷ ts) p k q = cond (t.station == p && t.round == k) (contains t.heard q) (heard_in ts p k q)

-- the element at place k is taken out: the last one moves there
abbrev pub swap_out : {A : Type 0} → A → List A → ℕ → List A
swap_out z xs k = take (length xs - 1) (slice_set xs k (slice_index_or xs (length xs - 1) z))

-- all rounds are 0, and there are no slips, notes or triples
abbrev pub start : Tally
start = record { rounds = λ p. 0; slips = []; notes = λ p k q. false; triples = [] }

-- stands past the end of the slips, where no accepted call looks
abbrev pub nowhere : Slip
nowhere = record { sender = 0; receiver = 0; round = 0 }

module _ {S L : Type 0} (R : Behaviour S L) (values : List ℕ) where
  -- the slips of the letters that p writes in its round, to m receivers from q on, by the run over the triples so far
  abbrev pub slips_from : Tally → ℕ → ℕ → ℕ → List Slip
  slips_from t p q zero = []
  slips_from t p q (suc m) =
      let k : ℕ = t.rounds p in
      let rest : List Slip = slips_from t p (suc q) m in
      elim (R.letter (length values) p k (lockstep R values (heard_in t.triples) k p) q) [
        | None ↦ rest
        | Some l ↦ record {
          sender = p;
          receiver = q;
          round = k;
        } ∷ rest
      ]

  -- what an accepted call adds
  unfoldable pub tally_accepted : Tally → Step → Tally
  tally_accepted t (Send p) = record t { slips = t.slips ++ slips_from t p 0 (length values) }
  tally_accepted t (Deliver k) =
      let s : Slip = slice_index_or t.slips k nowhere in
      record t {
        slips = swap_out nowhere t.slips k;
        notes = λ p r q. t.notes p r q || (s.receiver == p && s.round == r && s.sender == q && not (nat_lt s.round (t.rounds s.receiver)));
      }
  tally_accepted t (Drop k) = record t { slips = swap_out nowhere t.slips k }
  tally_accepted t (Repeat k) = record t { slips = t.slips ++ (slice_index_or t.slips k nowhere ∷ []) }
  tally_accepted t (Turn p) = record t {
    rounds = λ x. cond (x == p) (t.rounds p + 1) (t.rounds x);
    triples = t.triples ++ (record { station = p; round = t.rounds p; heard = set_of (t.notes p (t.rounds p)) } ∷ []);
  }
  tally_accepted t (Crash p) = t

  -- a refused call changes nothing
  unfoldable pub tally : Tally → List Step → List (Option Refusal) → Tally
  tally t [] fs = t
  tally t (c ∷ cs) [] = t
  tally t (c ∷ cs) (None ∷ fs) = tally (tally_accepted t c) cs fs
  tally t (c ∷ cs) (Some f ∷ fs) = tally t cs fs

-- What the program prints of a text.
use Rattle.std.specs.Prelude.{◌≡◌, ℕ, suc, ◌<◌, List, [], ◌∷◌, length, take, replicate, Some, None, Ok, Err, Option, Result, slice_index}
use Rattle.std.specs.List.{slice_get}
use Rattle.lists.specs.Lists.{tabulate}
use Rattle.rules.specs.Rule.{Behaviour}
use Rattle.catalogue.specs.Catalogue.{behaviour_of, states_of, letters_of}
use Rattle.protocol.specs.declared.refusal.Refusal.{Refusal}
use Rattle.protocol.specs.declared.types.Sight.{Sight}
use Rattle.protocol.specs.declared.types.Step.{Step}
use Rattle.protocol.specs.World.{World, shut}
use Rattle.protocol.specs.Steps.{after, refusals}
use Rattle.protocol.specs.Calls.{opened, sight_of}
use Rattle.listing.specs.declared.printer.RefusedStep.{RefusedStep}
use Rattle.schedule_text.specs.declared.types.Fault.{Fault}
use Rattle.schedule.specs.declared.answer.TheConstants.{POOL_WORDS, BOOK_WORDS}
use Rattle.schedule_text.specs.declared.reader.TheConstants.{FIRST_STEP}
use Rattle.listing.specs.Listing.{listing_text, fault_listing_text}
use Rattle.schedule_text.specs.Reading.{Plan, read_text}

-- ---- a run and its listing
-- the refused ones of the steps that stand on the lines from the given one on
abbrev pub refused_from : ℕ → List (Option Refusal) → List RefusedStep
refused_from line [] = []
refused_from line (None ∷ fs) = refused_from (suc line) fs
refused_from line (Some f ∷ fs) = record { line = line; refusal = f } ∷ refused_from (suc line) fs

module _ {S L : Type 0} (R : Behaviour S L) where
  -- what is seen of the first n stations
  abbrev pub sights : World S L → ℕ → List Sight
  sights w n = tabulate n (sight_of R w)

  -- a new shed opens with the values and takes the steps
  module _ (new : World S L) (values : List ℕ) (steps : List Step) where
    abbrev pub begun : World S L
    begun = opened R new values

    abbrev pub over : World S L
    over = after R begun steps

    unfoldable pub run_listing : List ℕ
    run_listing =
        listing_text (refused_from FIRST_STEP (refusals R begun steps)) (sights over (length values)) (take over.entries over.book)

-- ---- the program
-- a new shed with these cells, and a pool and a book of zeros
unfoldable pub new_shed : {S L : Type 0} → List S → List L → World S L
new_shed states letters = shut states letters (replicate POOL_WORDS 0) (replicate BOOK_WORDS 0)

-- the listing of a plan, run by the rule that it names
abbrev pub played : Plan → List ℕ
played p = run_listing (behaviour_of p.rule) (new_shed (states_of p.rule) (letters_of p.rule)) p.values p.steps

-- of a text with a fault that is printed, and of any other the listing of its plan
abbrev pub played_or_fault : Result Plan Fault → List ℕ
played_or_fault (Err f) = fault_listing_text f
played_or_fault (Ok p) = played p

abbrev pub printed : List ℕ → List ℕ
printed text = played_or_fault (read_text text)

-- ---- what is printed inherits the guarantee
-- the hull that a station of a list shows, or none
abbrev pub hull_in : Option Sight → Option ℕ
hull_in None = None
hull_in (Some s) = s.hull

abbrev pub hull_at : List Sight → ℕ → Option ℕ
hull_at stations p = hull_in (slice_get stations p)

-- out lists a station for each value; no two show different hulls, and each hull is one of the values
pub record ListsOneHull (values out : List ℕ) : Type 0 where
  pub refused : List RefusedStep
  pub stations : List Sight
  pub book : List ℕ
  pub is : out ≡ listing_text refused stations book
  pub each : length stations ≡ length values
  pub agreed : (p q a b : ℕ) → hull_at stations p ≡ Some a → hull_at stations q ≡ Some b → a ≡ b
  pub valid : (p h : ℕ) → hull_at stations p ≡ Some h → (q : ℕ) × (q < length values) × (slice_index values q ≡ h)

-- what is printed of a text is its fault, or a listing with at most one hull, from the values of its second line
abbrev pub ToldSafely : Result Plan Fault → List ℕ → Type 0
ToldSafely (Err f) out = out ≡ fault_listing_text f
ToldSafely (Ok p) out = ListsOneHull p.values out

abbrev pub PrintedSafely : List ℕ → List ℕ → Type 0
PrintedSafely text out = ToldSafely (read_text text) out

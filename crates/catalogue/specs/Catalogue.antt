-- What each name stands for.
use Rattle.std.specs.Prelude.{◌≡◌, List, length, replicate}
use Rattle.rules.specs.Rule.{Behaviour}
use Rattle.third_rule.specs.declared.State.{State as ThirdState}
use Rattle.third_rule.specs.declared.Letter.{Letter as ThirdLetter}
use Rattle.third_rule.specs.Third.{third}
use Rattle.last_rule.specs.declared.State.{State as LastState}
use Rattle.last_rule.specs.declared.Letter.{Letter as LastLetter}
use Rattle.last_rule.specs.Last.{last}
use Rattle.protocol.specs.Rows.{letter_cells}
use Rattle.stations.specs.declared.TheConstants.{STATIONS}
use Rattle.catalogue.specs.declared.RuleName.{RuleName}
use Rattle.catalogue.specs.declared.RuleName.TheVariants.{Third, Last}

abbrev pub StateOf : RuleName → Type 0
StateOf Third = ThirdState
StateOf Last = LastState

abbrev pub LetterOf : RuleName → Type 0
LetterOf Third = ThirdLetter
LetterOf Last = LastLetter

abbrev pub behaviour_of : (name : RuleName) → Behaviour (StateOf name) (LetterOf name)
behaviour_of Third = third
behaviour_of Last = last

-- a letter of the rule, for cells that no station has written yet
abbrev pub letter_of : (name : RuleName) → LetterOf name
letter_of Third = record { value = 0 }
letter_of Last = record { value = 0; stamp = 0 }

-- the cells of a new shed: a state for each of as many stations as a rule can have, and the letters' rows that they ask for
abbrev pub new_states : {S L : Type 0} → Behaviour S L → List S
new_states R = replicate STATIONS (R.first 1 0 0)

abbrev pub new_letters : {L : Type 0} → L → List L
new_letters letter = replicate (letter_cells STATIONS) letter

abbrev pub states_of : (name : RuleName) → List (StateOf name)
states_of name = new_states (behaviour_of name)

abbrev pub letters_of : (name : RuleName) → List (LetterOf name)
letters_of name = new_letters (letter_of name)

-- each rule is for up to as many stations, and the cells of a new shed are for them
pub record ForAllStations : Type 0 where
  pub most : (name : RuleName) → (behaviour_of name).most ≡ STATIONS
  pub states : (name : RuleName) → length (states_of name) ≡ STATIONS
  pub letters : (name : RuleName) → length (letters_of name) ≡ letter_cells STATIONS

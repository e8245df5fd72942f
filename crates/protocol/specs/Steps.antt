-- What lists of a planner's calls leave, and which of them are refused.
use Rattle.std.specs.Prelude.{List, [], ◌∷◌, Option, Result}
use Rattle.std.specs.Result.{result_err}
use Rattle.rules.specs.Rule.{Behaviour}
use Rattle.protocol.specs.declared.refusal.Refusal.{Refusal}
use Rattle.protocol.specs.declared.types.Step.{Step}
use Rattle.protocol.specs.declared.types.Step.TheVariants.{Send, Deliver, Drop, Repeat, Turn, Crash}
use Rattle.protocol.specs.World.{World}
use Rattle.protocol.specs.Calls.{send_call, deliver_call, drop_call, repeat_call, turn_call, crash_call}

-- a call's refusal or none, and what it leaves
abbrev pub told : {A W : Type 0} → Result A Refusal × W → Option Refusal × W
told outcome = (result_err outcome.0, outcome.1)

module _ {S L : Type 0} (R : Behaviour S L) where
  unfoldable pub step : World S L → Step → Option Refusal × World S L
  step w (Send p) = told (send_call R w p)
  step w (Deliver k) = told (deliver_call R w k)
  step w (Drop k) = told (drop_call R w k)
  step w (Repeat k) = told (repeat_call R w k)
  step w (Turn p) = told (turn_call R w p)
  step w (Crash p) = told (crash_call R w p)

  -- what a list of calls leaves
  unfoldable pub after : World S L → List Step → World S L
  after w [] = w
  after w (c ∷ cs) = after (step w c).1 cs

  -- which of them are refused, and how
  unfoldable pub refusals : World S L → List Step → List (Option Refusal)
  refusals w [] = []
  refusals w (c ∷ cs) = (step w c).0 ∷ refusals (step w c).1 cs

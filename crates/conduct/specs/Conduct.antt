-- What it comes to that a new shed is opened and a list of steps is made.
use Rattle.std.specs.Prelude.{◌≡◌, ℕ, List, Some, None, Ok, Err, Option, Result}
use Rattle.lists.specs.Lists.{put}
use Rattle.rules.specs.Rule.{Behaviour}
use Rattle.shed_core.specs.declared.shed.Shed.{Shed}
use Rattle.shed_core.specs.declared.buffers.Buffers.{Buffers}
use Rattle.protocol.specs.declared.refusal.Refusal.{Refusal}
use Rattle.protocol.specs.declared.types.Step.{Step}
use Rattle.protocol.specs.World.{World}
use Rattle.shed_core.specs.Of.{world_of}
use Rattle.protocol.specs.Steps.{after, refusals}
use Rattle.protocol.specs.Calls.{open_refusal, opened}
use Rattle.protocol.specs.Guarantee.{Guarantee}

-- the four buffers are as they were
pub record Untouched {S L : Type 0} (before : World S L) (after : Buffers S L) : Type 0 where
  pub same_states : after.states.now ≡ before.states
  pub same_letters : after.letters.now ≡ before.letters
  pub same_pool : after.pool.now ≡ before.pool
  pub same_book : after.book.now ≡ before.book

-- before is a new shed with its buffers, and outcomes are the cells that are lent for the steps' outcomes, as they were
module _ {S L : Type 0} (R : Behaviour S L) (values : List ℕ) (steps : List Step) (before : World S L) (outcomes : List (Option Refusal)) where
  -- the shed refuses to open: nothing is written, neither in the buffers nor in the outcomes
  pub record Halted (why : Refusal) (left : Buffers S L) (told : List (Option Refusal)) : Type 0 where
    pub because : open_refusal R before values ≡ Some why
    pub untouched : Untouched before left
    pub untold : told ≡ outcomes

  -- the shed opened, every step was made or refused as its definition says and its outcome told as far as there are
  -- cells, and the guarantee stands
  pub record CarriedOut (s : Shed) (left : Buffers S L) (told : List (Option Refusal)) : Type 0 where
    pub opens : open_refusal R before values ≡ None
    pub leaves : world_of s left ≡ after R (opened R before values) steps
    pub tells : told ≡ put outcomes 0 (refusals R (opened R before values) steps)
    pub guaranteed : Guarantee R values (opened R before values) steps

  abbrev pub Conducted : Result Shed Refusal → Buffers S L → List (Option Refusal) → Type 0
  Conducted (Err why) = Halted why
  Conducted (Ok s) = CarriedOut s

-- A schedule that was read opens its shed, and what is printed of a text follows.
use Rattle.std.proofs.Common.{◌≡◌, ℕ, ◌<◌, ◌≤◌, List, length, replicate, None, Ok, Err, vec_items, Result, Vec, sym, refl, ap, ◌∙◌, subst}
use Rattle.std.proofs.Common.{mul-le-mul, arith}
use Rattle.std.specs.declared.alloc.Global.{Global}
use Rattle.std.proofs.lemmas.List.{length-replicate}
use Rattle.protocol.specs.Rows.{row_cells, letter_cells}
use Rattle.stations.specs.declared.TheConstants.{STATIONS}
use Rattle.catalogue.specs.Catalogue.{behaviour_of, states_of, letters_of}
use Rattle.catalogue.proofs.Catalogued.{for_all_stations}
use Rattle.schedule_text.specs.declared.reader.TheConstants.{MAX_VALUES}
use Rattle.schedule.specs.declared.answer.TheConstants.{POOL_WORDS, BOOK_WORDS}
use Rattle.lists.proofs.Options.{none_some}
use Rattle.protocol.specs.declared.types.Step.{Step}
use Rattle.protocol.specs.Calls.{open_refusal}
use Rattle.protocol.specs.declared.refusal.Refusal.{Refusal}
use Rattle.schedule_text.specs.declared.halt.Halt.{Halt}
use Rattle.schedule_text.specs.declared.halt.Halt.TheVariants.{Refused, NoMemory}
use Rattle.schedule_text.specs.declared.types.Fault.{Fault}
use Rattle.catalogue.specs.declared.RuleName.{RuleName}
use Rattle.schedule_text.specs.Reading.{Plan, read_text}
use Rattle.listing.specs.Listing.{fault_listing_text}
use Rattle.schedule.specs.Program.{new_shed, played_or_fault, printed, ToldSafely, PrintedSafely}
use Rattle.schedule.specs.Running.{Runs, Unrefused, Plays}
use Rattle.schedule.proofs.Openings.{opens}

-- a new shed's cells, pool and book are long enough for 1 to 16 values
module _ (rule : RuleName) (values : List ℕ) (some : 0 < length values) (few : length values ≤ MAX_VALUES) where
  program_opens : open_refusal (behaviour_of rule) (new_shed (states_of rule) (letters_of rule)) values ≡ None
  unfolding new_shed
  program_opens =
      let R = behaviour_of rule in
      let most : R.most ≡ STATIONS = for_all_stations.most rule in
      let states : length (states_of rule) ≡ STATIONS = for_all_stations.states rule in
      let letters : length (letters_of rule) ≡ letter_cells STATIONS = for_all_stations.letters rule in
      let pool : length (replicate {A = ℕ} POOL_WORDS 0) ≡ POOL_WORDS = length-replicate {A = ℕ} POOL_WORDS 0 in
      let book : length (replicate {A = ℕ} BOOK_WORDS 0) ≡ BOOK_WORDS = length-replicate {A = ℕ} BOOK_WORDS 0 in
      let row : row_cells (length values) ≤ row_cells STATIONS = omega arith in
      let cells : letter_cells (length values) ≤ letter_cells STATIONS = mul-le-mul few row in
      opens R (new_shed (states_of rule) (letters_of rule)) values refl some (rw most few)
      (omega arith) (omega arith) (omega arith) (omega arith) (omega arith)

  -- so its opening is not refused
  pub not_refused :
      (steps : List Step) (r : Result (Vec ℕ Global) (Halt Refusal)) →
      Runs (behaviour_of rule) (new_shed (states_of rule) (letters_of rule)) values steps r → Unrefused r
  not_refused steps (Ok v) ran = tt
  not_refused steps (Err (Refused f)) ran = none_some (sym program_opens ∙ ran)
  not_refused steps (Err NoMemory) ran = tt

pub plays :
    (p : Plan) (r : Result (Vec ℕ Global) (Halt Refusal)) (v : Vec ℕ Global) →
    Runs (behaviour_of p.rule) (new_shed (states_of p.rule) (letters_of p.rule)) p.values p.steps r → r ≡ Ok v → Plays p (vec_items v)
plays p r v ran e =
    let listed = subst (Runs (behaviour_of p.rule) (new_shed (states_of p.rule) (letters_of p.rule)) p.values p.steps) e ran in
    record { is = listed.is; safe = listed.safe }

module _ (text out : List ℕ) where
  pub prints_plan : (p : Plan) → read_text text ≡ Ok p → Plays p out → out ≡ printed text
  prints_plan p e h = h.is ∙ ap played_or_fault (sym e)

  pub safe_plan : (p : Plan) → read_text text ≡ Ok p → Plays p out → PrintedSafely text out
  safe_plan p e h = subst (λ r. ToldSafely r out) (sym e) h.safe

  pub prints_fault : (f : Fault) → read_text text ≡ Err f → out ≡ fault_listing_text f → out ≡ printed text
  prints_fault f e h = h ∙ ap played_or_fault (sym e)

  pub safe_fault : (f : Fault) → read_text text ≡ Err f → out ≡ fault_listing_text f → PrintedSafely text out
  safe_fault f e h = subst (λ r. ToldSafely r out) (sym e) h

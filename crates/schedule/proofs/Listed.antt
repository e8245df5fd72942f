-- A run that was carried out, and the listing that is made of it.
use Rattle.std.proofs.Common.{◌≡◌, ℕ, zero, suc, ◌<◌, ◌≤◌, List, [], ◌∷◌, length, take, Some, None, Ok, Err, Option, sym}
use Rattle.std.proofs.Common.{refl, ap, ◌∙◌, arith}
use Rattle.lists.specs.Lists.{tabulate}
use Rattle.rules.specs.Rule.{Behaviour, Interface}
use Rattle.lists.proofs.Options.{none_some}
use Rattle.lists.proofs.Tables.{length_tabulate, put_whole}
use Rattle.stations.specs.declared.TheConstants.{STATIONS}
use Rattle.protocol.specs.declared.TheConstants.{MAX_BOOK}
use Rattle.protocol.specs.declared.refusal.Refusal.{Refusal}
use Rattle.protocol.specs.declared.types.Sight.{Sight}
use Rattle.protocol.specs.declared.types.Step.{Step}
use Rattle.protocol.specs.declared.TheConstants.{MAX_BOOK}
use Rattle.protocol.specs.World.{World}
use Rattle.protocol.specs.Steps.{step, refusals}
use Rattle.protocol.specs.Calls.{look_refusal, look_call, sight_of}
use Rattle.protocol.proofs.Outcomes.{attempt_laws}
use Rattle.protocol.specs.Guarantee.{Guarantee}
use Rattle.shed_core.specs.declared.shed.Shed.{Shed}
use Rattle.shed_core.specs.declared.buffers.Buffers.{Buffers}
use Rattle.schedule_text.specs.declared.halt.Halt.{Halt}
use Rattle.schedule_text.specs.declared.halt.Halt.TheVariants.{Refused, NoMemory}
use Rattle.shed_core.specs.Of.{world_of}
use Rattle.conduct.specs.Conduct.{CarriedOut}
use Rattle.listing.specs.declared.printer.RefusedStep.{RefusedStep}
use Rattle.listing.specs.Listing.{listing_text}
use Rattle.schedule_text.specs.declared.reader.TheConstants.{FIRST_STEP}
use Rattle.schedule.specs.Program.{refused_from, sights, begun, over, run_listing, hull_at, ListsOneHull}
use Rattle.schedule.specs.Running.{Seen, Listed, Runs}

-- each call of a list has its place in the list of refusals
length_refusals : {S L : Type 0} (R : Behaviour S L) (w : World S L) (steps : List Step) → length (refusals R w steps) ≡ length steps
unfolding refusals
length_refusals R w [] = refl
length_refusals R w (c ∷ cs) = ap suc (length_refusals R (step R w c).1 cs)

-- who stands in a table stands at a place of it
seen_at : (n : ℕ) (f : ℕ → Sight) (p h : ℕ) → hull_at (tabulate n f) p ≡ Some h → (p < n) × ((f p).hull ≡ Some h)
seen_at zero f p h e = none_some e
seen_at (suc n) f zero h e = (omega arith, e)
seen_at (suc n) f (suc p) h e = let r = seen_at n (λ k. f (suc k)) p h e in (omega arith, r.1)

same_listing : {r q : List RefusedStep} {s t : List Sight} {b c : List ℕ} → r ≡ q → s ≡ t → b ≡ c → listing_text r s b ≡ listing_text q t c
same_listing {r} {q} {s} {t} {b} {c} e f g = ap (λ x. listing_text x s b) e ∙ ap (λ x. listing_text q x b) f ∙ ap (listing_text q t) g

module _ {S L : Type 0} (R : Behaviour S L) (new : World S L) (values : List ℕ) (steps : List Step) where
  one_hull : Guarantee R values (begun R new values steps) steps → (refused : List RefusedStep) (book out : List ℕ) →
      out ≡ listing_text refused (sights R (over R new values steps) (length values)) book → ListsOneHull values out
  one_hull g refused book out is =
      let n : ℕ = length values in
      let f : ℕ → Sight = sight_of R (over R new values steps) in
      record {
        refused = refused;
        stations = sights R (over R new values steps) n;
        book = book;
        is = is;
        each = length_tabulate n f;
        agreed = λ x y a b ea eb. let u = seen_at n f x a ea in let v = seen_at n f y b eb in g.agreed x y a b u.0 v.0 u.1 v.1;
        valid = λ x h e. let u = seen_at n f x h e in g.valid x h u.0 u.1;
      }

  module _ (s : Shed) (left : Buffers S L) (blank told : List (Option Refusal))
      (ran : CarriedOut R values steps new blank s left told) where
    look_not_refused : (f : Refusal) → (q : ℕ) × (q < length values) × (look_refusal R (world_of s left) q ≡ Some f) → ⊥
    look_not_refused f at =
        let w : World S L = over R new values steps in
        let seen : look_call R w at.0 ≡ (Ok (sight_of R w at.0), w) = ran.guaranteed.seen at.0 at.1 in
        let fine : look_refusal R w at.0 ≡ None =
        ((attempt_laws w w (sight_of R w at.0)).accepted (look_refusal R w at.0) (sight_of R w at.0) (sym (ap (λ o. o.0) seen))).0 in
        none_some (sym fine ∙ ap (λ w. look_refusal R w at.0) (sym ran.leaves) ∙ at.2)

    -- no look is refused, so only memory stops it
    pub not_seen : (h : Halt Refusal) → Seen R (world_of s left) (length values) (Err h) → Runs R new values steps (Err h)
    not_seen (Refused f) at = absurd (look_not_refused f at)
    not_seen NoMemory at = tt

    book_is : left.book.now ≡ (over R new values steps).book
    book_is = ap (λ w. w.book) ran.leaves

    entries_are : s.entries ≡ (over R new values steps).entries
    entries_are = ap (λ w. w.entries) ran.leaves

    pub within : s.entries ≤ length left.book.now
    within = omega (arith, entries_are, ap length book_is, ran.guaranteed.fits)

    pub values_few : Interface R → length values ≤ STATIONS
    values_few face = omega (arith, face.most_few, ran.guaranteed.sized.few)

    pub book_short : length left.book.now ≤ MAX_BOOK
    book_short = omega (arith, ap length book_is, ran.guaranteed.sized.book, ran.guaranteed.sized.book_few)

    -- where there is a cell for each step, each outcome is told
    all_told : length blank ≡ length steps → told ≡ refusals R (begun R new values steps) steps
    all_told many = ran.tells ∙ put_whole blank _ (many ∙ sym (length_refusals R (begun R new values steps) steps))

    pub listed : length blank ≡ length steps → (refused : List RefusedStep) (seen : List Sight) (out : List ℕ) → refused ≡ refused_from FIRST_STEP told →
        seen ≡ sights R (world_of s left) (length values) → out ≡ listing_text refused seen (take s.entries left.book.now) → Listed R new values steps out
    unfolding run_listing
    listed many refused seen out er es eo =
        let w : World S L = over R new values steps in
        let outcomes : refused ≡ refused_from FIRST_STEP (refusals R (begun R new values steps) steps) = er ∙ ap (refused_from FIRST_STEP) (all_told many) in
        let stations : seen ≡ sights R w (length values) = es ∙ ap (λ v. sights R v (length values)) ran.leaves in
        let entries : take s.entries left.book.now ≡ take w.entries w.book = ap (λ k. take k left.book.now) entries_are ∙ ap (take w.entries) book_is in
        let is : out ≡ run_listing R new values steps = eo ∙ same_listing outcomes stations entries in
        record { is = is; safe = one_hull ran.guaranteed _ _ out is }

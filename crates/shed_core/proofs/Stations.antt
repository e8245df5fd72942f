-- The records of a shed stay sound when one of them changes.
use Rattle.std.proofs.Common.{◌≡◌, ◌∙◌, ℕ, zero, suc, ◌+◌, ◌<◌, ◌≤◌, refl, List, [], ◌∷◌, get_or, set, replicate, sym, subst, inl, inr, arith}
use Rattle.std.proofs.lemmas.Bool.{cases_eq, false≢true}
use Rattle.stations.specs.declared.TheConstants.{STATIONS}
use Rattle.rules.specs.declared.TheConstants.{LAST_ROUND}
use Rattle.lists.proofs.Tables.{get_or_replicate_all}
use Rattle.lists.proofs.Options.{none_some, same_some}
use Rattle.stations.specs.Stations.{none}
use Rattle.stations.proofs.Laws.{set_laws}
use Rattle.protocol.specs.declared.types.Held.{Held}
use Rattle.protocol.specs.declared.types.Stand.TheVariants.{Fresh, Down}
use Rattle.protocol.specs.declared.types.StationRecord.{StationRecord}
use Rattle.protocol.specs.Records.{blank, hearing, holding}
use Rattle.protocol.specs.Sound.{Sound, AllSound}

at_each : (P : ℕ → StationRecord → Type 0) (rs : List StationRecord) (p q : ℕ) (r : StationRecord) →
    P q (get_or rs q blank) → P p r → P q (get_or (set rs p r) q blank)
at_each P [] p q r old new = old
at_each P (z ∷ rs) zero zero r old new = new
at_each P (z ∷ rs) zero (suc q) r old new = old
at_each P (z ∷ rs) (suc p) zero r old new = old
at_each P (z ∷ rs) (suc p) (suc q) r old new = at_each (λ i. P (suc i)) rs p q r old new

pub changed_sound : (n p : ℕ) (rs after : List StationRecord) (r : StationRecord) → after ≡ set rs p r → AllSound n rs → Sound n p r → AllSound n after
changed_sound n p rs after r changed old new = subst (AllSound n) (sym changed) (λ q. at_each (Sound n) rs p q r (old q) new)

-- ---- the record of a station
module _ (n p : ℕ) (there : p < n) (s : StationRecord) (old : Sound n p s) where
  pub hearing_sound : n ≤ STATIONS → (q : ℕ) → q < n → Sound n p (hearing s q)
  hearing_sound few q h = record {
    round = old.round;
    heard = λ x e. elim (cases_eq x q) [ inl is ↦ rw is h | inr other ↦ old.heard x (sym (set_laws.contains_old s.heard q (omega arith) x other) ∙ e) ];
    holder = old.holder;
    holding = old.holding;
    past = λ l. absurd (omega arith);
  }

  pub holding_sound : (h : Held) → h.sender < n → h.round ≤ LAST_ROUND → Sound n p (holding s h)
  holding_sound h sender round = record {
    round = old.round;
    heard = old.heard;
    holder = λ x e. rw (← same_some e) sender;
    holding = λ x e. rw (← same_some e) round;
    past = λ l. absurd (omega arith);
  }

  pub down_sound : Sound n p (record s { stand = Down })
  down_sound = record {
    round = old.round;
    heard = old.heard;
    holder = old.holder;
    holding = old.holding;
    past = λ l. absurd (omega arith);
  }

  pub turned_sound : (s.round ≡ LAST_ROUND → ⊥) → Sound n p (record s { round = s.round + 1; stand = Fresh; heard = none })
  turned_sound more = record {
    round = omega (arith, old.round);
    heard = λ q e. absurd (false≢true (sym (set_laws.contains_none q) ∙ e));
    holder = old.holder;
    holding = old.holding;
    past = λ l. absurd (omega arith);
  }

-- ---- records of stations that did nothing
blank_sound : (n p : ℕ) → Sound n p blank
blank_sound n p = record {
  round = omega arith;
  heard = λ q e. absurd (false≢true (sym (set_laws.contains_none q) ∙ e));
  holder = λ h e. none_some e;
  holding = λ h e. none_some e;
  past = λ l. refl;
}

pub blanks_sound : (n : ℕ) (records : List StationRecord) → records ≡ replicate STATIONS blank → AllSound n records
blanks_sound n records e p = rw (e, get_or_replicate_all STATIONS p blank) (blank_sound n p)

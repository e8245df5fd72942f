-- The ways in which a call can end: refused by the first of its tests that holds, or accepted.
use Rattle.std.proofs.Common.{◌≡◌, ℕ, zero, suc, Bool, true, false, cond, List, [], ◌∷◌, ◌++◌, get_or, Some, None, Ok, Err, Option, Result, refl, arith}
use Rattle.rules.specs.Rule.{Behaviour}
use Rattle.lists.proofs.Options.{none_some, passed}
use Rattle.frames.specs.Frame.{Frame}
use Rattle.protocol.specs.declared.refusal.Refusal.{Refusal}
use Rattle.protocol.specs.declared.refusal.Refusal.TheVariants.{Shut, Unreadable}
use Rattle.protocol.specs.declared.types.Fate.{Fate}
use Rattle.protocol.specs.Refusals.{first_refusal, attempt}
use Rattle.protocol.specs.Outcomes.{TestLaws, AttemptLaws}
use Rattle.protocol.specs.World.{World, station}
use Rattle.protocol.specs.Records.{judged}
use Rattle.protocol.specs.Calls.{without_frame, received, settled, delivery, deliver_call, place_refusal, frame_at}

-- ---- tests
-- a test that holds before others is the first of all that holds
holds_first : (b : Bool) (x f : Refusal) (o p : Option Refusal) → (o ≡ Some f → p ≡ Some f) → cond b (Some x) o ≡ Some f → cond b (Some x) p ≡ Some f
holds_first true x f o p h e = e
holds_first false x f o p h e = h e

pub refused_first : (ts us : List (Bool × Refusal)) (f : Refusal) → first_refusal ts ≡ Some f → first_refusal (ts ++ us) ≡ Some f
refused_first [] us f e = none_some e
refused_first (t ∷ ts) us f e = holds_first t.0 t.1 f (first_refusal ts) (first_refusal (ts ++ us)) (refused_first ts us f) e

-- where nothing is refused, the test at each place fails
pub none_holds : (ts : List (Bool × Refusal)) → first_refusal ts ≡ None → (i : ℕ) → (get_or ts i (false, Shut)).0 ≡ false
none_holds [] e i = refl
none_holds (t ∷ ts) e zero = (passed t.0 t.1 (first_refusal ts) e).0
none_holds (t ∷ ts) e (suc i) = none_holds ts (passed t.0 t.1 (first_refusal ts) e).1 i

pub test_laws : TestLaws
test_laws = record { none_holds = none_holds; refused_first = refused_first }

-- ---- an attempt
module _ {A W : Type 0} (w v : W) (a : A) where
  pub attempt_by :
      (P : Result A Refusal × W → Type 0) (o : Option Refusal) →
      ((f : Refusal) → o ≡ Some f → P (Err f, w)) → (o ≡ None → P (Ok a, v)) → P (attempt w o a v)
  attempt_by P None refused accepted = accepted refl
  attempt_by P (Some f) refused accepted = refused f refl

  was_accepted : (o : Option Refusal) (x : A) → Ok x ≡ (attempt w o a v).0 → (o ≡ None) × (x ≡ a) × ((attempt w o a v).1 ≡ v)
  was_accepted None x e = (refl, cc, refl)
  was_accepted (Some f) x e = absurd (let z : ◌≡◌ {A = ℕ} 0 1 = cc in omega arith)

  was_refused : (o : Option Refusal) (f : Refusal) → Err f ≡ (attempt w o a v).0 → (o ≡ Some f) × ((attempt w o a v).1 ≡ w)
  was_refused None f e = absurd (let z : ◌≡◌ {A = ℕ} 0 1 = cc in omega arith)
  was_refused (Some g) f e = let same : g ≡ f = cc in (rw same, refl)

pub attempt_laws : {A W : Type 0} (w v : W) (a : A) → AttemptLaws w v a
attempt_laws w v a = record { accepted = was_accepted w v a; refused = was_refused w v a }

-- ---- a delivery
module _ {S L : Type 0} (R : Behaviour S L) (w : World S L) (k : ℕ) (P : Result Fate Refusal × World S L → Type 0)
    (refused : (r : Refusal) → P (Err r, w)) where
  settled_by : (f : Frame L) (o : Result Fate Refusal) → ((x : Fate) → o ≡ Ok x → P (Ok x, received R (without_frame R w k) f x)) → P (settled R w k f o)
  settled_by f (Err r) accepted = refused r
  settled_by f (Ok x) accepted = accepted x refl

  delivery_by : (b : Option Refusal) (o : Option (Frame L)) →
      (b ≡ None → (f : Frame L) → o ≡ Some f → (x : Fate) → judged (station w f.1) f.0 f.2 ≡ Ok x → P (Ok x, received R (without_frame R w k) f x)) →
      P (delivery R w k b o)
  delivery_by (Some r) o accepted = refused r
  delivery_by None None accepted = refused Unreadable
  delivery_by None (Some f) accepted = settled_by f (judged (station w f.1) f.0 f.2) (accepted refl f refl)

  -- every refusal leaves all as it was; otherwise a frame leaves the pool and meets the fate that its receiver judges
  pub deliver_by :
      (place_refusal R w k ≡ None → (f : Frame L) → frame_at R w k ≡ Some f → (x : Fate) → judged (station w f.1) f.0 f.2 ≡ Ok x →
      P (Ok x, received R (without_frame R w k) f x)) →
      P (deliver_call R w k)
  deliver_by accepted = delivery_by (place_refusal R w k) (frame_at R w k) accepted

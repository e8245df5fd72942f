-- The phases of a lockstep run one after another: all hulls that are shown are equal, and each is an opening value.
use Rattle.std.specs.Prelude.{◌≡◌, ℕ, zero, suc, ◌+◌, ◌*◌, ◌%◌, ◌<◌, ◌≤◌, List, length, Some, slice_index, refl}
use Rattle.std.proofs.Common.{sym, subst, ◌∙◌, inl, inr, arith, add-one}
use Rattle.std.proofs.lemmas.Bool.{cases_lt, false≢true}
use Rattle.rules.specs.declared.TheConstants.{LAST_ROUND}
use Rattle.rules.specs.Rule.{Opening, Heard, lockstep, Agreement, Validity}
use Rattle.lists.proofs.Options.{none_some}
use Rattle.rules.proofs.Runs.{run_laws}
use Rattle.last_rule.specs.declared.TheConstants.{LAST_STAMP}
use Rattle.last_rule.specs.declared.State.{State}
use Rattle.last_rule.specs.Last.{last, phase}
use Rattle.last_rule.proofs.Calls.{stable}
use Rattle.last_rule.proofs.Phase.{Collects, Adopts, Acknowledges, Decides, collects, adopts, acknowledges, decides, rests}
use Rattle.last_rule.proofs.Locked.{Locked, locked_one, locked_held}
use Rattle.last_rule.proofs.Committed.{Start, Collected, Adopted, Acknowledged, collected_from_start, adopted_from_collected}
use Rattle.last_rule.proofs.Committed.{acknowledged_from_adopted, start_from_acknowledged}

module _ (values : List ℕ) (opening : Opening last values) (H : Heard) where
  abbrev n : ℕ
  n = length values

  abbrev run : ℕ → ℕ → State
  run k p = lockstep last values H k p

  -- an opening value
  abbrev Ours : ℕ → Type 0
  Ours v = (q : ℕ) × (q < n) × (slice_index values q ≡ v)

  -- ---- a phase
  -- the first phase's start
  starts : Start n Ours 0 (run 0)
  unfolding lockstep
  starts = record {
    sound = record { stamps = λ p h. omega arith; values = λ p h. (p, h, refl); hulls = λ p a h e. none_some e };
    committed = λ p v h c. false≢true c.0;
    ready = λ p v h r. false≢true r.0;
  }

  -- round k of phase f: what it makes of the stations
  module _ (f k : ℕ) (early : f < LAST_STAMP) (in_phase : phase k ≡ f) where
    collected : k % 4 ≡ 0 → Start n Ours f (run k) → Collected n Ours f (run (suc k))
    collected which =
        collected_from_start n Ours opening.some f (run k) (run (suc k)) early
        (λ p h. subst (λ g. Collects n g (run k) p (run (suc k) p)) in_phase (collects values opening H k p (omega arith) which h))

    adopted : k % 4 ≡ 1 → Collected n Ours f (run k) → Adopted n Ours f (run (suc k))
    adopted which =
        adopted_from_collected n Ours opening.some f (run k) (run (suc k))
        (λ p h. subst (λ g. Adopts n g (run k) p (run (suc k) p)) in_phase (adopts values opening H k p (omega arith) which h))

    acknowledged : k % 4 ≡ 2 → Adopted n Ours f (run k) → Acknowledged n Ours f (run (suc k))
    acknowledged which =
        acknowledged_from_adopted n Ours opening.some f (run k) (run (suc k)) early
        (λ p h. subst (λ g. Acknowledges n g (run k) p (run (suc k) p)) in_phase (acknowledges values opening H k p (omega arith) which h))

    decided : k % 4 ≡ 3 → Acknowledged n Ours f (run k) → Start n Ours (f + 1) (run (suc k))
    decided which =
        start_from_acknowledged n Ours opening.some f (run k) (run (suc k))
        (λ p h. subst (λ g. Decides n g (run k) p (run (suc k) p)) in_phase (decides values opening H k p (omega arith) which h))

  -- the round after i rounds of phase f
  abbrev round : (f i : ℕ) → ℕ
  round f zero = 4 * f
  round f (suc i) = suc (round f i)

  -- a phase that ends by the last round
  whole_phase : (f : ℕ) → f < LAST_STAMP → Start n Ours f (run (round f 0)) → Start n Ours (f + 1) (run (round f 4))
  whole_phase f early s =
      decided f (round f 3) early (omega arith) (omega arith)
      (acknowledged f (round f 2) early (omega arith) (omega arith)
      (adopted f (round f 1) early (omega arith) (omega arith)
      (collected f (round f 0) early (omega arith) (omega arith) s)))

  -- ---- all phases
  -- past the last round nothing changes
  resting : (k : ℕ) → LAST_ROUND < k → run (suc k) ≡ run k
  resting k late = λ i p. rests values opening H k p late i

  -- a phase of later rounds
  idle_phase : (f : ℕ) → LAST_STAMP ≤ f → Start n Ours f (run (round f 0)) → Start n Ours (f + 1) (run (round f 4))
  idle_phase f late s =
      let still : run (round f 4) ≡ run (round f 0) =
      resting (round f 3) (omega arith) ∙ resting (round f 2) (omega arith) ∙ resting (round f 1) (omega arith) ∙ resting (round f 0) (omega arith) in
      subst (Start n Ours (f + 1)) (sym still) (record {
        sound = record { stamps = λ p h. omega (arith, s.sound.stamps p h); values = s.sound.values; hulls = s.sound.hulls };
        committed = s.committed;
        ready = s.ready;
      })

  -- every phase starts so
  at_start : (f : ℕ) → Start n Ours f (run (4 * f))
  at_start zero = starts
  at_start (suc f) =
      let next : round f 4 ≡ 4 * suc f = omega arith in
      subst (λ k. Start n Ours (suc f) (run k)) next (subst (λ g. Start n Ours g (run (round f 4))) (add-one f) (elim (cases_lt f LAST_STAMP) [
        | inl early ↦ whole_phase f early (at_start f)
        | inr late ↦ idle_phase f late (at_start f)
      ]))

  -- ---- hulls
  -- a hull that is shown is locked at the start of every later phase
  shown_locked : (p i f a : ℕ) → p < n → i ≤ 4 * f → (run i p).hull ≡ Some a → Locked n (run (4 * f)) a
  shown_locked p i f a h le e = (at_start f).sound.hulls p a h ((run_laws last).hull_stays values stable H p a i (4 * f) le e)

pub agreement : Agreement last
agreement values opening H p q i j a b hp hq x y =
    locked_one (length values) (lockstep last values H (4 * (i + j))) a b
    (shown_locked values opening H p i (i + j) a hp (omega arith) x) (shown_locked values opening H q j (i + j) b hq (omega arith) y)

pub validity : Validity last
validity values opening H p i a h x =
    let w = locked_held (length values) (lockstep last values H (4 * i)) a (shown_locked values opening H p i i a h (omega arith) x) in
    subst (Ours values opening H) w.2 ((at_start values opening H i).sound.values w.0 w.1)

-- What each fate tells of the station that judged it so.
use Rattle.std.proofs.Common.{◌≡◌, ℕ, ◌<◌, Bool, true, false, cond, ltb, Some, None, Ok, Err, Option, Result, refl, subst, arith}
use Rattle.std.proofs.lemmas.Bool.{ltb-true, ltb-false, true≢false}
use Rattle.stations.specs.Stations.{contains}
use Rattle.protocol.specs.declared.types.Held.{Held}
use Rattle.protocol.specs.declared.types.StationRecord.{StationRecord}
use Rattle.protocol.specs.declared.types.Fate.{Fate}
use Rattle.protocol.specs.declared.types.Fate.TheVariants.{Late, Again, Taken, Early}
use Rattle.protocol.specs.declared.refusal.Refusal.{Refusal}
use Rattle.protocol.specs.Records.{is_fresh, is_down, holds}
use Rattle.protocol.specs.Records.{judged}

no_hold : (o : Option Held) → holds o ≡ false → o ≡ None
no_hold None e = refl
no_hold (Some h) e = absurd (true≢false e)

not_refused : (t : Bool) (r : Refusal) (rest : Result Fate Refusal) (x : Fate) → cond t (Err r) rest ≡ Ok x → (t ≡ false) × (rest ≡ Ok x)
not_refused true r rest x e = absurd (let z : ◌≡◌ {A = ℕ} 0 1 = cc in omega arith)
not_refused false r rest x e = (refl, e)

fate_by : (P : Fate → Type 0) (t : Bool) (y : Fate) (rest : Result Fate Refusal) (x : Fate) → cond t (Ok y) rest ≡ Ok x → (t ≡ true → P y) →
    (t ≡ false → rest ≡ Ok x → P x) → P x
fate_by P true y rest x e here later = subst P (let same : y ≡ x = cc in same) (here refl)
fate_by P false y rest x e here later = later refl e

-- a station that takes letters and holds none
pub record Taking (s : StationRecord) : Type 0 where
  pub up : is_down s.stand ≡ false
  pub ready : is_fresh s.stand ≡ false
  pub free : s.hold ≡ None

-- of the station s and a frame of round k from q, by the frame's fate
abbrev pub Judged : StationRecord → (q k : ℕ) → Fate → Type 0
Judged s q k Late = k < s.round
Judged s q k Again = Taking s × (k ≡ s.round) × (contains s.heard q ≡ true)
Judged s q k Taken = Taking s × (k ≡ s.round)
Judged s q k Early = Taking s × (s.round < k)

pub judged_so : (s : StationRecord) (q k : ℕ) (x : Fate) → judged s q k ≡ Ok x → Judged s q k x
judged_so s q k x e =
    let a = not_refused (is_down s.stand) _ _ x e in
    let b = not_refused (is_fresh s.stand) _ _ x a.1 in
    let c = not_refused (holds s.hold) _ _ x b.1 in
    let taking : Taking s = record { up = a.0; ready = b.0; free = no_hold s.hold c.0 } in
    fate_by (Judged s q k) (ltb k s.round) Late _ x c.1 (λ late. ltb-true k s.round late) (λ not_late d.
    fate_by (Judged s q k) (ltb s.round k) Early _ x d (λ early. (taking, ltb-true s.round k early)) (λ not_early f.
    let now : k ≡ s.round = omega (arith, ltb-false k s.round not_late, ltb-false s.round k not_early) in
    fate_by (Judged s q k) (contains s.heard q) Again _ x f (λ heard. (taking, now, heard))
    (λ _ g. subst (Judged s q k) (let same : Taken ≡ x = cc in same) (taking, now))))

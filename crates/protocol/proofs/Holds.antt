-- The sender of a held letter of a round.
use Rattle.std.proofs.Common.{◌≡◌, ℕ, eqb, Some, None, Option, sym, refl, ◌∙◌}
use Rattle.std.proofs.lemmas.Bool.{eqb-true, eq-eqb}
use Rattle.lists.proofs.Options.{none_some, only, same_some}
use Rattle.protocol.specs.declared.types.Held.{Held}
use Rattle.protocol.specs.Records.{held_for}

pub held_for_some : (o : Option Held) (k q : ℕ) → held_for o k ≡ Some q → (x : Held) × (o ≡ Some x) × (x.sender ≡ q) × (x.round ≡ k)
held_for_some None k q e = none_some e
held_for_some (Some x) k q e = let d = only (eqb x.round k) (Some x.sender) q e in (x, refl, same_some d.1, eqb-true x.round k d.0)

pub held_for_none : (o : Option Held) (k : ℕ) (x : Held) → held_for o k ≡ None → o ≡ Some x → x.round ≡ k → ⊥
held_for_none o k x e z now =
    let y : held_for (Some x) k ≡ None = rw z at e in
    let d : held_for (Some x) k ≡ Some x.sender = rw (eq-eqb x.round k now) in
    none_some (sym y ∙ d)

-- Two worlds are the same part by part; what a call comes to that nothing refuses, and one that is refused.
use Rattle.std.proofs.Common.{◌≡◌, ℕ, List, IsErrAnd, Some, None, Ok, Err, Option, Result, sym, ap, ◌∙◌}
use Rattle.protocol.specs.declared.types.StationRecord.{StationRecord}
use Rattle.protocol.specs.declared.refusal.Refusal.{Refusal}
use Rattle.protocol.specs.World.{World}
use Rattle.protocol.specs.Refusals.{attempt}
use Rattle.shed_core.specs.Of.{ComesTo}

pub same_world :
    {S L : Type 0} {n n' a a' b b' c c' d d' : ℕ} {t t' : List StationRecord} {s s' : List S} {l l' : List L} {p p' q q' : List ℕ} →
    n ≡ n' → a ≡ a' → b ≡ b' → c ≡ c' → d ≡ d' → t ≡ t' → s ≡ s' → l ≡ l' → p ≡ p' → q ≡ q' →
    ◌≡◌ {A = World S L}
    (record { n = n; pool_len = a; book_len = b; frames = c; entries = d; stations = t; states = s; letters = l; pool = p; book = q })
    (record { n = n'; pool_len = a'; book_len = b'; frames = c'; entries = d'; stations = t'; states = s'; letters = l'; pool = p'; book = q' })
same_world e1 e2 e3 e4 e5 e6 e7 e8 e9 e10 = cc

pub accepted : {A S L : Type 0} (w b v : World S L) (a : A) (o : Option Refusal) → o ≡ None → v ≡ b → ComesTo (Ok a) v (attempt w o a b)
accepted w b v a o e f =
    let done : attempt w o a b ≡ (Ok a, b) = ap (λ x. attempt w x a b) e in
    record { answers = sym (ap (λ y. y.0) done); leaves = f ∙ sym (ap (λ y. y.1) done) }

pub refused : {A S L : Type 0} (w b : World S L) (a : A) (o : Option Refusal) (f : Refusal) (r : Result A Refusal) → o ≡ Some f → IsErrAnd r (λ y. y ≡ f) →
    ComesTo r w (attempt w o a b)
refused w b a o f (Ok x) e h = absurd h
refused w b a o f (Err y) e h =
    let done : attempt w o a b ≡ (Err f, w) = ap (λ x. attempt w x a b) e in
    record { answers = ap Err h ∙ sym (ap (λ z. z.0) done); leaves = sym (ap (λ z. z.1) done) }

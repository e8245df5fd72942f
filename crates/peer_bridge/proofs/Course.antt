-- One request of a list, and the next.
use Rattle.std.proofs.Common.{◌≡◌, ℕ, suc, ◌+◌, ◌<◌, ◌≤◌, List, [], ◌∷◌, length, get_or, drop, set, Result, sym, ap, ◌∙◌, add-one}
use Rattle.std.proofs.lemmas.List.{at_drop_more, at_drop_all}
use Rattle.rules.specs.Rule.{Behaviour}
use Rattle.lists.specs.Lists.{put}
use Rattle.protocol.specs.declared.refusal.Refusal.{Refusal}
use Rattle.protocol.specs.World.{World}
use Rattle.shed_core.specs.Of.{ComesTo}
use Rattle.peer_bridge.specs.declared.request.Request.{Request}
use Rattle.peer_bridge.specs.declared.request.Reply.{Reply}
use Rattle.peer_bridge.specs.Requests.{reply_of, made, left_by, replies_to}

module _ {S L : Type 0} (R : Behaviour S L) (values : List ℕ) where
  module _ (w v : World S L) (requests : List Request) (i : ℕ) (d : Request) (h : i < length requests)
      (x : Result ℕ Refusal) (came : ComesTo x v (made R values w (get_or requests i d))) where
    pub left_more : (all : World S L) → left_by R values w (drop i requests) ≡ all → left_by R values v (drop (i + 1) requests) ≡ all
    unfolding left_by
    left_more all e =
        let rest = drop (i + 1) requests in
        let more : left_by R values w (drop i requests) ≡ left_by R values (made R values w (get_or requests i d)).1 rest =
        at_drop_more (left_by R values w) requests i d h in
        ap (λ u. left_by R values u rest) came.leaves ∙ sym more ∙ e

    pub replies_more :
        (xs ys all : List Reply) → ys ≡ set xs i (reply_of x) → put xs i (replies_to R values w (drop i requests)) ≡ all →
        put ys (i + 1) (replies_to R values v (drop (i + 1) requests)) ≡ all
    unfolding replies_to
    replies_more xs ys all wrote e =
        let m = made R values w (get_or requests i d) in
        let rest = λ (u : World S L). replies_to R values u (drop (i + 1) requests) in
        let more : replies_to R values w (drop i requests) ≡ reply_of m.0 ∷ rest m.1 = at_drop_more (replies_to R values w) requests i d h in
        let first : put xs i (replies_to R values w (drop i requests)) ≡ put (set xs i (reply_of m.0)) (suc i) (rest m.1) = ap (put xs i) more in
        let now : ys ≡ set xs i (reply_of m.0) = wrote ∙ ap (λ y. set xs i (reply_of y)) came.answers in
        ap (λ j. put ys j (rest v)) (add-one i)
        ∙ (ap (λ y. put y (suc i) (rest v)) now ∙ ap (λ u. put (set xs i (reply_of m.0)) (suc i) (rest u)) came.leaves ∙ sym first ∙ e)

  -- a list is done
  module _ (w : World S L) (requests : List Request) (i : ℕ) (h : length requests ≤ i) where
    pub left_all : (all : World S L) → left_by R values w (drop i requests) ≡ all → w ≡ all
    unfolding left_by
    left_all all e = let done : left_by R values w (drop i requests) ≡ w = at_drop_all (left_by R values w) requests i h in sym done ∙ e

    pub replies_all : (xs all : List Reply) → put xs i (replies_to R values w (drop i requests)) ≡ all → xs ≡ all
    unfolding replies_to
    replies_all xs all e =
        let done : replies_to R values w (drop i requests) ≡ [] = at_drop_all (replies_to R values w) requests i h in
        sym (ap (put xs i) done) ∙ e

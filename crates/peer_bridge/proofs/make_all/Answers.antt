use Rattle.std.proofs.Common.{◌≡◌, set, replicate, sym, refl, ap, ◌∙◌}
use Rattle.std.proofs.lemmas.List.{set_past}
use Rattle.lists.specs.Lists.{put}
use Rattle.protocol.specs.World.{shut}
use Rattle.shed_core.specs.Of.{world}
use Rattle.shed_core.proofs.Worlds.{same_world}
use Rattle.peer_bridge.specs.declared.TheConstants.{STATES, LETTERS}
use Rattle.peer_bridge.specs.Requests.{reply_of, left_by, replies_to, course}
use Rattle.peer_bridge.proofs.Course.{left_more, replies_more, left_all, replies_all}
use Rattle.peer_bridge.proofs.make_all.Goals as goal
use Rattle.peer_bridge.proofs.make_all.Goals.{then-i-replies, else-i-replies}

pub loop-i-preserved : goal.loop-i-preserved
loop-i-preserved g c =
    let R = g.R.Rule.behaviour c.args.rule.now in
    let values = c.args.values.now in
    let l = c.loop-i in
    let w = world l.shed l.states l.letters l.pool l.book in
    let n = c.make-reply.new in
    let v = world n.shed n.states n.letters n.pool n.book in
    let x = c.make-reply.result in
    let wrote : c.if-i-replies.replies ≡ set l.replies l.i (reply_of x) = elim c.if-i-replies.branch [
      | then-i-replies b ↦ b.replies-is ∙ ap (set l.replies l.i) b.as_reply.ensures
      | else-i-replies b ↦ b.replies-is ∙ sym (set_past l.replies l.i (reply_of x) b.if-i-replies.false)
    ] in
    let came = c.make-reply.ensures in
    record {
      leaves = left_more R values w v c.args.requests.now l.i _ c.loop-i-test.true x came _ l.invariant.leaves;
      replies = replies_more R values w v c.args.requests.now l.i _ c.loop-i-test.true x came l.replies _ _ wrote l.invariant.replies;
    }

pub returns : goal.returns
unfolding course
returns g c =
    let R = g.R.Rule.behaviour c.args.rule.now in
    let a = c.args in
    let values = a.values.now in
    let l = c.loop-i in
    let w = world l.shed l.states l.letters l.pool l.book in
    let n = c.new-shed.ensures in
    let begun = world c.new-shed.result (replicate STATES c.first-state.result) (replicate LETTERS a.letter) a.pool.now a.book.now in
    let new = shut (replicate STATES (R.first 1 0 0)) (replicate LETTERS a.letter) a.pool.now a.book.now in
    let is_new : begun ≡ new =
    same_world n.shut n.no_pool n.no_book n.no_frames n.no_entries n.blanks (ap (replicate STATES) c.first-state.ensures) refl refl refl in
    let asked = a.requests.now in
    let leaves : w ≡ left_by R values new asked =
    left_all R values w asked l.i c.loop-i-test.false _ l.invariant.leaves ∙ ap (λ u. left_by R values u asked) is_new in
    let told : l.replies ≡ put a.replies.now 0 (replies_to R values new asked) =
    replies_all R values w asked l.i c.loop-i-test.false l.replies _ l.invariant.replies
    ∙ ap (λ u. put a.replies.now 0 (replies_to R values u asked)) is_new in
    let pool = ap (λ u. u.pool) leaves in
    let book = ap (λ u. u.book) leaves in
    cc (told, pool, book)

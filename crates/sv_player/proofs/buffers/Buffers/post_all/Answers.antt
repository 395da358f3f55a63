-- What is proved by hand of `Buffers::post_all`.
use Rattle.std.proofs.Common.{◌+◌, refl, sym, subst, ◌∙◌}
use Rattle.std.proofs.lemmas.List.Elements.{All-nil, All-more}
use Rattle.sv_wire.specs.Laws.{IsRequest}
use Rattle.sv_player.proofs.Posting.{one_more, ended_at, none_posted, kept_next, kept_part}
use Rattle.sv_player.proofs.buffers.Buffers.post_all.Goals as goal

pub loop-request-init : goal.loop-request-init
loop-request-init g c = record { posted = none_posted (g.E.End.told c.args.end.now) c.args.self.now.outbox; kept = λ fits. refl; are_messages = All-nil IsRequest; inbox = refl; same_end = refl; same = refl; calm = λ x. x }

pub returns-in-Failed-clause-kept : goal.returns-in-Failed-clause-kept
returns-in-Failed-clause-kept g c =
    kept_part _ _ c.args.self.now.outbox c.args.requests.now (c.loop-request.request-index + 1)
    (kept_next _ _ _ _ _ c.args.requests.now c.loop-request.request-index c.request-item.result c.loop-request-test.true (sym c.request-item.is) c.loop-request.invariant.posted
    c.loop-request.invariant.kept c.post.ensures.kept)

pub returns-in-Failed-clause-posts : goal.returns-in-Failed-clause-posts
returns-in-Failed-clause-posts g c =
    ended_at _ _ _ _ _ c.args.requests.now c.loop-request.request-index c.request-item.result c.loop-request-test.true (sym c.request-item.is) c.loop-request.invariant.posted c.in-Failed.ensures.posts

pub returns-in-Memory-clause-kept : goal.returns-in-Memory-clause-kept
returns-in-Memory-clause-kept g c =
    kept_part _ _ c.args.self.now.outbox c.args.requests.now (c.loop-request.request-index + 1)
    (kept_next _ _ _ _ _ c.args.requests.now c.loop-request.request-index c.request-item.result c.loop-request-test.true (sym c.request-item.is) c.loop-request.invariant.posted
    c.loop-request.invariant.kept c.post.ensures.kept)

pub returns-in-Memory-clause-posts : goal.returns-in-Memory-clause-posts
returns-in-Memory-clause-posts g c =
    ended_at _ _ _ _ _ c.args.requests.now c.loop-request.request-index c.request-item.result c.loop-request-test.true (sym c.request-item.is) c.loop-request.invariant.posted c.in-Memory.ensures.posts

pub loop-request-preserved : goal.loop-request-preserved
loop-request-preserved g c = record {
  posted = one_more _ _ _ _ _ _ c.args.requests.now c.loop-request.request-index c.request-item.result c.loop-request-test.true (sym c.request-item.is) c.loop-request.invariant.posted c.in-Whole.ensures.posts;
  kept = kept_next _ _ _ _ _ c.args.requests.now c.loop-request.request-index c.request-item.result c.loop-request-test.true (sym c.request-item.is) c.loop-request.invariant.posted
      c.loop-request.invariant.kept c.post.ensures.kept;
  are_messages =
      All-more IsRequest c.args.requests.now c.loop-request.request-index c.request-item.result c.loop-request-test.true c.loop-request.invariant.are_messages
      (subst IsRequest c.request-item.is c.post.ensures.is_message);
  inbox = c.post.ensures.inbox ∙ c.loop-request.invariant.inbox;
  same_end = c.post.ensures.same_end ∙ c.loop-request.invariant.same_end;
  same = c.in-Whole.ensures.cause ∙ c.loop-request.invariant.same;
  calm = λ was. (c.post.ensures.calm (c.loop-request.invariant.calm was)).1;
}

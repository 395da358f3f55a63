-- What is proved by hand of `Player::answer`.
use Rattle.std.proofs.Common.{Option, length, sym, subst}
use Rattle.std.specs.Prelude.{option_to_list}
use Rattle.sv_wire.specs.declared.message.Request.{Request}
use Rattle.sv_exchange.specs.Outgoing.{KeepsBack}
use Rattle.sv_player.specs.Carried.{request_frames, Posted}
use Rattle.sv_player.proofs.Posting.{none_posted}
use Rattle.sv_player.proofs.playing.Player.answer.Goals as goal

pub returns-in-None-clause-posted : goal.returns-in-None-clause-posted
returns-in-None-clause-posted g c =
    let told = g.E.End.told c.args.end.now in
    let waiting = c.args.buffers.now.outbox in
    subst (λ (o : Option Request). Posted told waiting (request_frames (option_to_list o)) told waiting) (sym c.in-None.is) (none_posted told waiting)

pub returns-in-Some-clause-kept : goal.returns-in-Some-clause-kept
returns-in-Some-clause-kept g c =
    subst (λ (o : Option Request). KeepsBack c.args.buffers.now.outbox (length (request_frames (option_to_list o))) (g.E.End.told c.args.end.now) (g.E.End.told c.post.new.end)) (sym c.in-Some.is)
    c.post.ensures.kept

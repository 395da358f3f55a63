-- What is proved by hand of `Outbox::put`.
use Rattle.std.proofs.Common.{◌≡◌, ◌+◌, length, is_ok, refl, ap, arith, rules}
use Rattle.sv_exchange.proofs.Posting.{frame_room, kept_with}
use Rattle.sv_exchange.proofs.outbox.Outbox.put.Goals as goal

pub invariant_of-self-in-Whole : goal.invariant_of-self-in-Whole
invariant_of-self-in-Whole g c =
    let before = c.make_room.new.bytes.items in
    let payload = c.deref.result.now in (
      omega (arith, c.put_frame.new.out.ok.0, ap length c.put_frame.ensures.items, frame_room (is_ok c.put_frame.result) before payload, c.in-Whole.ensures.room refl, c.deref.ensures.len, c.len.ensures),
      omega (arith, c.put_frame.ensures.capacity, c.in-Whole.ensures.capacity, c.self.invariant.1),
    )

pub returns-in-Whole-clause-kept : goal.returns-in-Whole-clause-kept
returns-in-Whole-clause-kept g c =
    let spelled : (c.encode_into.new.out.items ≡ g.M.Message.spelled c.args.message.now) = search rules in
    rw (← c.self.view_is) (kept_with c.self.inside.bytes.items (g.M.Message.spelled c.args.message.now) (4 + c.len.result) (g.E.End.told c.args.end.now) (g.E.End.told c.make_room.new.end)
    (omega (arith, c.len.ensures, ap length spelled)) c.make_room.ensures.kept)

pub returns-in-Failed-clause-kept : goal.returns-in-Failed-clause-kept
returns-in-Failed-clause-kept g c =
    let spelled : (c.encode_into.new.out.items ≡ g.M.Message.spelled c.args.message.now) = search rules in
    rw (← c.self.view_is) (kept_with c.self.inside.bytes.items (g.M.Message.spelled c.args.message.now) (4 + c.len.result) (g.E.End.told c.args.end.now) (g.E.End.told c.make_room.new.end)
    (omega (arith, c.len.ensures, ap length spelled)) c.make_room.ensures.kept)

pub returns-in-Memory-clause-kept : goal.returns-in-Memory-clause-kept
returns-in-Memory-clause-kept g c =
    let spelled : (c.encode_into.new.out.items ≡ g.M.Message.spelled c.args.message.now) = search rules in
    rw (← c.self.view_is) (kept_with c.self.inside.bytes.items (g.M.Message.spelled c.args.message.now) (4 + c.len.result) (g.E.End.told c.args.end.now) (g.E.End.told c.make_room.new.end)
    (omega (arith, c.len.ensures, ap length spelled)) c.make_room.ensures.kept)

-- The loop invariant of `Buffers::post_all`.
use Rattle.std.proofs.Common.{◌≡◌, length, take}
use Rattle.std.specs.Prelude.{All}
use Rattle.sv_wire.specs.Laws.{IsRequest}
use Rattle.sv_exchange.specs.Outgoing.{KeepsBack}
use Rattle.sv_player.specs.Carried.{request_frames, which_end, Posted}
use Rattle.sv_player.proofs.buffers.Buffers.post_all.Given as goal

abbrev pub invariant-loop-request : goal.invariant-loop-request
invariant-loop-request g l = record {
  posted : Posted (g.E.End.told l.fn.end) l.fn.self.outbox (request_frames (take l.request-index l.requests)) (g.E.End.told l.end) l.self.outbox;
  kept : KeepsBack l.fn.self.outbox (length (request_frames (take l.request-index l.requests))) (g.E.End.told l.fn.end) (g.E.End.told l.end);
  are_messages : All IsRequest (take l.request-index l.requests);
  inbox : l.self.inbox ≡ l.fn.self.inbox;
  same_end : which_end (g.E.End.told l.end) ≡ which_end (g.E.End.told l.fn.end);
  same : g.E.End.faults l.end ≡ g.E.End.faults l.fn.end;
  calm : g.E.End.calm l.fn.end → g.E.End.calm l.end;
}

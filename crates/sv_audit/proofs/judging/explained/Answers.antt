-- The positions of an explanation are accepted ones.
use Rattle.std.proofs.Common.{length, reverse, arith}
use Rattle.sv_journal.specs.History.{accepted, actions_of}
use Rattle.sv_audit.proofs.Explaining.{bounded}
use Rattle.sv_audit.proofs.judging.explained.Goals as goal

pub why_text-requires : goal.why_text-requires
why_text-requires c =
    let h = reverse c.args.played.now.journal.entries in
    let few = c.if-place-accepted_count.false in
    let count = c.accepted_count.ensures in
    bounded c.args.scenario.now.world.values (actions_of h) c.args.place.object.0 c.args.place.pos (length (accepted h)) c.in_ok-why.why.positions c.in_ok-why.why.value
    c.in_ok-why.ensures (omega arith)

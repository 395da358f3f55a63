-- It is durable, sent, and closed.
use Rattle.sv_host.proofs.Joined.{nobody_kept, nobody_same, nobody_then}
use Rattle.sv_host.proofs.Written.{broke_off, continues_kept, continues_same, continues_then, were_since, were_written}
use Rattle.sv_host.proofs.host.Host.send.Goals as goal

pub returns-in_err-make_durable-clause-goes : goal.returns-in_err-make_durable-clause-goes
returns-in_err-make_durable-clause-goes g c = continues_same c.make_durable.ensures.world

pub returns-in_err-make_durable-clause-past : goal.returns-in_err-make_durable-clause-past
returns-in_err-make_durable-clause-past g c are =
    were_since (continues_same c.make_durable.ensures.world) (were_written _ c.make_durable.ensures.served (c.make_durable.ensures.written _ are))

pub returns-in_err-gone-clause-goes : goal.returns-in_err-gone-clause-goes
returns-in_err-gone-clause-goes g c = continues_then (continues_same c.make_durable.ensures.world) (continues_kept c.send_durable.ensures.world)

pub returns-in_err-gone-clause-past : goal.returns-in_err-gone-clause-past
returns-in_err-gone-clause-past g c are =
    were_since (continues_then (continues_same c.make_durable.ensures.world) (continues_kept c.send_durable.ensures.world))
    (were_written _ c.send_durable.ensures.served (c.send_durable.ensures.written (c.make_durable.ensures.written _ are)))

pub returns-clause-goes : goal.returns-clause-goes
returns-clause-goes g c =
    continues_then (continues_same c.make_durable.ensures.world) (continues_then (continues_kept c.send_durable.ensures.world) c.depart_each.ensures.goes)

pub returns-clause-past : goal.returns-clause-past
returns-clause-past g c are =
    were_since (continues_then (continues_same c.make_durable.ensures.world) (continues_kept c.send_durable.ensures.world))
    (broke_off _ c.send_durable.ensures.served (c.send_durable.ensures.written (c.make_durable.ensures.written _ are)) c.depart_each.ensures.still c.depart_each.ensures.goes)

pub returns-in_err-make_durable-clause-nobody : goal.returns-in_err-make_durable-clause-nobody
returns-in_err-make_durable-clause-nobody g c = nobody_same c.make_durable.ensures.keys c.make_durable.ensures.world

pub returns-in_err-gone-clause-nobody : goal.returns-in_err-gone-clause-nobody
returns-in_err-gone-clause-nobody g c =
    nobody_then (nobody_same c.make_durable.ensures.keys c.make_durable.ensures.world) (nobody_kept c.send_durable.ensures.keys c.send_durable.ensures.world)

pub returns-clause-nobody : goal.returns-clause-nobody
returns-clause-nobody g c =
    nobody_then (nobody_same c.make_durable.ensures.keys c.make_durable.ensures.world)
    (nobody_then (nobody_kept c.send_durable.ensures.keys c.send_durable.ensures.world) c.depart_each.ensures.nobody)

-- What is proved by hand of `apply_relay`.
use Rattle.std.proofs.Common.{◌==◌, List, ap, ◌∙◌}
use Rattle.std.specs.Prelude.{if◌then◌else◌}
use Rattle.sv_wire.specs.declared.message.Done1.{Done1}
use Rattle.sv_client.specs.Traces.{settled_by, last_values}
use Rattle.sv_client.proofs.Applies.{relay_applied}
use Rattle.sv_client.proofs.applying.apply_relay.Goals as goal

pub returns-clause-applied : goal.returns-clause-applied
returns-clause-applied c = λ told all a l kind.
    let brought = c.in_ok-results.ensures.evaluated told all a l in
    let after = c.in_ok-settle_by.ensures.items ∙ ap (λ (ds : List Done1). if c.args.seq == 0 then c.args.pending.now.items else settled_by c.evaluate.new.versions.held (last_values ds) c.args.pending.now.items) c.as_slice.ensures in
    relay_applied told c.args.seq c.args.relay.now.commit all c.evaluate.new.versions.held kind c.args.relay.now.head.now c.args.relay.now.items.now c.in_ok-results.results c.args.pending.now.items c.settle_by.new.pending.items brought.2 brought.0 brought.1 after

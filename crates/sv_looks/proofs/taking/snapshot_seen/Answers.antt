-- The snapshot of what was seen.
use Rattle.std.proofs.Common.{◌≡◌, ℕ, suc, ◌+◌, List, map, None, sym, ap, ap₂, ◌∙◌, arith}
use Rattle.sv_world.specs.declared.world.ClientId.{ClientId}
use Rattle.sv_world.specs.declared.world.ObjectId.{ObjectId}
use Rattle.sv_world.specs.Sets.{object_numbered, numbers_of}
use Rattle.sv_wire.specs.declared.message.ObjectValue.{ObjectValue}
use Rattle.sv_client.specs.Traces.{held_of}
use Rattle.sv_looks.specs.declared.snapshot.Snapshot.{Snapshot}
use Rattle.sv_looks.specs.Snapshots.{read_all_below}
use Rattle.sv_looks.proofs.Numbered.{objects_back}
use Rattle.sv_looks.proofs.taking.snapshot_seen.Goals as goal

abbrev told : ClientId → ℕ → List ObjectValue → Snapshot
told client pos values = record { client = client; seq = None; pos = pos; values = values }

pub returns : goal.returns
returns c =
    let held = held_of c.args.client.now.events in
    let last = c.args.last in
    let objects = map object_numbered (numbers_of c.args.objects.now) in
    let place : last + 1 ≡ suc last = omega arith in
    ap₂ (λ (client : ClientId) (values : List ObjectValue). told client (last + 1) values) c.id.ensures
    (c.in_ok-values_below.ensures ∙ ap (λ (os : List ObjectId). read_all_below held (last + 1) os) (sym (objects_back c.args.objects.now)))
    ∙ ap (λ (pos : ℕ). told c.args.client.now.who.client pos (read_all_below held pos objects)) place

-- The one at which those below the session end, or none.
use Rattle.std.proofs.Common.{ltb, arith, rules}
use Rattle.std.proofs.lemmas.List.Sorted.{IsPartitionPoint-from_clause, IsPartitionedBy-ltb}
use Rattle.sv_core.specs.declared.seats.Seat.{Seat}
use Rattle.sv_living.proofs.Seats.{in-order, point-none}
use Rattle.sv_living.proofs.table.place_of.Goals as goal

pub returns-then-place-seats : goal.returns-then-place-seats
returns-then-place-seats c =
    let xs = c.args.seats.now in
    let s = c.args.session in
    let point = IsPartitionPoint-from_clause (λ (x : Seat). ltb x.session s) _ _ c.partition_point-place.ensures.partitioned (IsPartitionedBy-ltb (λ (x : Seat). x.session) xs s (in-order xs c.requires)) (λ a r q k. search rules) in
    point-none s xs c.partition_point-place.result (record { slot = 0; session = 0 }) c.requires point (λ low is. omega arith)

pub returns : goal.returns
returns c =
    let xs = c.args.seats.now in
    let s = c.args.session in
    let point = IsPartitionPoint-from_clause (λ (x : Seat). ltb x.session s) _ _ c.partition_point-place.ensures.partitioned (IsPartitionedBy-ltb (λ (x : Seat). x.session) xs s (in-order xs c.requires)) (λ a r q k. search rules) in
    point-none s xs c.partition_point-place.result (record { slot = 0; session = 0 }) c.requires point (λ low is. c.if-seats-place.false is)

-- The one at which those below the number end, or none.
use Rattle.std.proofs.Common.{ltb, arith, rules, None}
use Rattle.std.proofs.lemmas.List.Sorted.{IsPartitionPoint-from_clause, IsPartitionedBy-ltb}
use Rattle.sv_ports.specs.declared.numbered.NumberedPlace.{NumberedPlace}
use Rattle.sv_ports.proofs.Tables.{in-order, point-none}
use Rattle.sv_ports.proofs.numbered.find_place.Goals as goal

pub returns-then-place-places : goal.returns-then-place-places
returns-then-place-places t c =
    let xs = c.args.places.now in
    let n = c.args.number in
    let point = IsPartitionPoint-from_clause (λ (x : NumberedPlace _). ltb x.number n) _ _ c.partition_point-place.ensures.partitioned (IsPartitionedBy-ltb (λ (x : NumberedPlace _). x.number) xs n (in-order xs c.requires)) (λ a r q k. search rules) in
    point-none n xs c.partition_point-place.result (record { number = 0; item = None }) c.requires point (λ low is. omega arith)

pub returns : goal.returns
returns t c =
    let xs = c.args.places.now in
    let n = c.args.number in
    let point = IsPartitionPoint-from_clause (λ (x : NumberedPlace _). ltb x.number n) _ _ c.partition_point-place.ensures.partitioned (IsPartitionedBy-ltb (λ (x : NumberedPlace _). x.number) xs n (in-order xs c.requires)) (λ a r q k. search rules) in
    point-none n xs c.partition_point-place.result c.index-places-place.result c.requires point (λ low is. c.if-places-place.false is)

-- What the check leaves to prove of `noting_of`.
use Rattle.std.proofs.Common.{All, sym, ap, ◌∙◌, subst}
use Rattle.sv_wire.specs.declared.message.Done1.{Done1}
use Rattle.sv_queue.specs.Queue.{IsUncommitted}
use Rattle.sv_witness.specs.Kept.{counted_results}
use Rattle.sv_witness.proofs.KeptRows.{counted-uncommitted}
use Rattle.sv_witness.proofs.noting.noting_of.Goals as goal

pub copy_agreed-requires : goal.copy_agreed-requires
copy_agreed-requires c =
    let v = c.args.queue.now in
    let rows = c.args.reports.now in
    let k = c.args.asker.client in
    let is = c.as_slice.ensures.value ∙ c.in_ok-counted.ensures ∙ ap (λ n. counted_results n rows k c.args.results.now) c.commit.ensures in
    subst (All (λ (d : Done1). IsUncommitted v d.pos)) (sym is) (counted-uncommitted v rows k c.args.results.now c.requires)

-- The nodes pass where the body does.
use Rattle.std.proofs.Common.{ℕ, nat_lt, ap, ◌∙◌}
use Rattle.sv_world.specs.Faults.{has_slots}
use Rattle.sv_world.specs.Names.{set_passes, get_passes}
use Rattle.sv_world.specs.Trees.{body_passes}
use Rattle.sv_world.specs.declared.names.NameTest.TheVariants.{Slot}
use Rattle.sv_world.proofs.NodeTests.{body_pass}
use Rattle.sv_world.proofs.check.has_slots.Goals as goal

pub returns : goal.returns
unfolding has_slots
returns c =
    c.passes_in_nodes.ensures
    ∙ body_pass (set_passes (Slot c.len-reads.result)) (get_passes (Slot c.len-reads.result)) c.nodes.result.now c.args.action.now.body c.nodes.ensures
    ∙ ap (λ (n : ℕ). body_passes (λ slot _. nat_lt slot n) (λ slot _. nat_lt slot n) c.args.action.now.body) c.len-reads.ensures

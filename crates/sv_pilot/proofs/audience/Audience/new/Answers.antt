-- What is proved by hand of `Audience::new`.
use Rattle.std.proofs.Common.{List, sym, ap, subst, ◌∙◌}
use Rattle.sv_world.specs.declared.world.ObjectId.{ObjectId}
use Rattle.sv_pilot.specs.declared.audience.Seen.{Seen}
use Rattle.sv_pilot.specs.Calls.{IsAudience, all_unseen, objects_seen, calls_heard}
use Rattle.sv_pilot.proofs.Heard.{objects_unseen, audience_begins}
use Rattle.sv_pilot.proofs.audience.Audience.new.Goals as goal

pub invariant_of-result : goal.invariant_of-result
invariant_of-result g c =
    subst (λ (seen : List Seen). IsAudience seen (calls_heard c.new.result.items)) (sym c.in_ok-seen.ensures)
    (subst (λ calls. IsAudience (all_unseen c.args.objects.now) (calls_heard calls)) (sym c.new.ensures) (audience_begins c.args.objects.now c.requires))

pub returns : goal.returns
returns g c =
    ap (λ (seen : List Seen). record { interest = objects_seen seen; heard = calls_heard c.new.result.items }) c.in_ok-seen.ensures
    ∙ ap (λ (os : List ObjectId). record { interest = os; heard = calls_heard c.new.result.items }) (objects_unseen c.args.objects.now)
    ∙ ap (λ calls. record { interest = c.args.objects.now; heard = calls_heard calls }) c.new.ensures

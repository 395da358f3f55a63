-- What is proved by hand of `Peer::hear_web`.
use Rattle.std.proofs.Common.{refl, sym, ap, ◌∙◌}
use Rattle.sv_peer.specs.Webs.{handed_by}
use Rattle.sv_peer.proofs.Steps.{step_web}
use Rattle.sv_peer.proofs.peer.Peer.hear_web.Goals as goal

pub invariant_of-self-in_err-hear : goal.invariant_of-self-in_err-hear
invariant_of-self-in_err-hear g c =
    let peer = c.self.inside in
    let step = step_web peer.voice _ c.deref_mut.result.now c.hear.new.self peer.told peer.sent peer.output.items c.hear.new.output.items c.in-Web.is refl
    (λ bytes handed. handed ∙ ap handed_by (sym c.deref_mut.ensures.value)) c.self.invariant.says c.self.invariant.handed c.hear.ensures.handed in
    record { says = (step.0, step.1); handed = step.2 }

pub invariant_of-self-in-On : goal.invariant_of-self-in-On
invariant_of-self-in-On g c =
    let peer = c.self.inside in
    let step = step_web peer.voice _ c.deref_mut.result.now c.hear.new.self peer.told peer.sent peer.output.items c.hear.new.output.items c.in-Web.is refl
    (λ bytes handed. handed ∙ ap handed_by (sym c.deref_mut.ensures.value)) c.self.invariant.says c.self.invariant.handed c.hear.ensures.handed in
    record { says = (step.0, step.1); handed = step.2 }

pub invariant_of-self-in-Closed : goal.invariant_of-self-in-Closed
invariant_of-self-in-Closed g c =
    let peer = c.self.inside in
    let step = step_web peer.voice _ c.deref_mut.result.now c.hear.new.self peer.told peer.sent peer.output.items c.hear.new.output.items c.in-Web.is refl
    (λ bytes handed. handed ∙ ap handed_by (sym c.deref_mut.ensures.value)) c.self.invariant.says c.self.invariant.handed c.hear.ensures.handed in
    record { says = (step.0, step.1); handed = tt }

pub invariant_of-self-in-Upgraded : goal.invariant_of-self-in-Upgraded
invariant_of-self-in-Upgraded g c =
    let peer = c.self.inside in
    let step = step_web peer.voice _ c.deref_mut.result.now c.hear.new.self peer.told peer.sent peer.output.items c.hear.new.output.items c.in-Web.is refl
    (λ bytes handed. handed ∙ ap handed_by (sym c.deref_mut.ensures.value)) c.self.invariant.says c.self.invariant.handed c.hear.ensures.handed in
    record { says = (step.0, step.1); handed = step.2 }

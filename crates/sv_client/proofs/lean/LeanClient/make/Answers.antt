-- What is proved by hand of `LeanClient::make`.
use Rattle.std.proofs.Common.{◌≡◌, ℕ, suc, ◌+◌, [], ◌∷◌, ap, ◌∙◌, add-one}
use Rattle.sv_world.specs.declared.action.Action.{Action}
use Rattle.sv_wire.specs.declared.message.Request.TheVariants as requests
use Rattle.sv_client.specs.Traces.{makes}
use Rattle.sv_client.specs.Seen.{ClientView}
use Rattle.sv_client.proofs.Keeping.{asks_one}
use Rattle.sv_client.proofs.lean.LeanClient.make.Goals as goal

pub returns-clause-request : goal.returns-clause-request
returns-clause-request c =
    let t = c.args.self.now.events in
    let seq : c.self.inside.made + 1 ≡ suc (makes t) = ap (λ (n : ℕ). n + 1) (c.self.invariant.counts.made_are ∙ ap (λ (v : ClientView). makes v.events) c.self.view_is) ∙ add-one (makes t) in
    ap (λ (n : ℕ). requests.Submit n c.in_ok-sent.sent ∷ []) seq ∙ ap (λ (a : Action). requests.Submit (suc (makes t)) a ∷ []) c.in_ok-sent.ensures
    ∙ asks_one t (requests.Submit (suc (makes t)) c.args.action) c.requires.joined

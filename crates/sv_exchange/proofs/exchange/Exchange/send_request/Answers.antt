-- What is proved by hand of `Exchange::send_request`.
use Rattle.std.proofs.Common.{◌≡◌, [], ◌∷◌, ◌++◌, subst}
use Rattle.std.specs.Prelude.{OnOk, OnErr}
use Rattle.sv_exchange.specs.View.{ExchangeView}
use Rattle.sv_exchange.specs.Invariant.{model_of}
use Rattle.sv_exchange.proofs.Views.{with_link, with_buffers, buffers_kept, request_kept, request_seen, unsent_seen}
use Rattle.sv_exchange.proofs.exchange.Exchange.send_request.Goals as goal

pub invariant_of-self : goal.invariant_of-self
invariant_of-self c =
    request_kept c.send.result (with_buffers c.self.inside c.send.new.buffers) c.send.new.link c.args.request.now (buffers_kept c.self.inside c.send.new.buffers c.self.invariant) c.requires.message c.send.ensures.ok c.send.ensures.err

pub returns : goal.returns
returns c =
    let old = with_buffers c.self.inside c.send.new.buffers in
    let new = model_of (with_link old c.send.new.link) in
    record {
      ok = subst (λ (v : ExchangeView). OnOk c.send.result (new ≡ record v { requests = v.requests ++ c.args.request.now ∷ [] })) c.self.view_is
          (request_seen c.send.result old c.send.new.link c.args.request.now (buffers_kept c.self.inside c.send.new.buffers c.self.invariant) c.requires.message c.send.ensures.ok);
      err = subst (λ (v : ExchangeView). OnErr c.send.result (new ≡ v)) c.self.view_is (unsent_seen c.send.result old c.send.new.link c.send.ensures.err);
    }

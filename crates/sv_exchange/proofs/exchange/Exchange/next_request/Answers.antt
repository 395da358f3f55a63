-- What is proved by hand of `Exchange::next_request`.
use Rattle.std.proofs.Common.{◌≡◌, sym, subst}
use Rattle.std.specs.Prelude.{IfOk, OnErr}
use Rattle.sv_exchange.specs.View.{ExchangeView, TakesRequest}
use Rattle.sv_exchange.specs.Invariant.{model_of, CarriesReplies}
use Rattle.sv_exchange.proofs.Views.{server_read, request_taken, request_stays}
use Rattle.sv_exchange.proofs.exchange.Exchange.next_request.Goals as goal

pub invariant_of-self : goal.invariant_of-self
invariant_of-self c = record { requests = c.take.ensures.lane; replies = subst (CarriesReplies c.self.inside.client) (sym c.take.ensures.link.own) c.self.invariant.replies }

pub returns : goal.returns
returns c =
    let new = model_of (server_read c.self.inside c.take.new.link c.take.new.inbox) in
    record {
      taken = subst (λ (v : ExchangeView). IfOk c.take.result (λ answer. TakesRequest v new answer)) c.self.view_is
          (request_taken c.self.inside c.take.new.link c.take.new.inbox c.take.result c.take.ensures.link c.take.ensures.taken);
      message = c.take.ensures.message;
      err = subst (λ (v : ExchangeView). OnErr c.take.result (new ≡ v)) c.self.view_is (request_stays c.self.inside c.take.new.link c.take.new.inbox c.take.result c.take.ensures.link c.take.ensures.err);
    }

-- What is proved by hand of `Exchange::next_reply`.
use Rattle.std.proofs.Common.{◌≡◌, sym, subst}
use Rattle.std.specs.Prelude.{IfOk, OnErr}
use Rattle.sv_exchange.specs.View.{ExchangeView, TakesReply}
use Rattle.sv_exchange.specs.Invariant.{model_of, CarriesRequests}
use Rattle.sv_exchange.proofs.Views.{client_read, reply_taken, reply_stays}
use Rattle.sv_exchange.proofs.exchange.Exchange.next_reply.Goals as goal

pub invariant_of-self : goal.invariant_of-self
invariant_of-self c = record { requests = subst (CarriesRequests c.self.inside.server) (sym c.take.ensures.link.own) c.self.invariant.requests; replies = c.take.ensures.lane }

pub returns : goal.returns
returns c =
    let new = model_of (client_read c.self.inside c.take.new.link c.take.new.inbox) in
    record {
      taken = subst (λ (v : ExchangeView). IfOk c.take.result (λ answer. TakesReply v new answer)) c.self.view_is
          (reply_taken c.self.inside c.take.new.link c.take.new.inbox c.take.result c.take.ensures.link c.take.ensures.taken);
      message = c.take.ensures.message;
      err = subst (λ (v : ExchangeView). OnErr c.take.result (new ≡ v)) c.self.view_is (reply_stays c.self.inside c.take.new.link c.take.new.inbox c.take.result c.take.ensures.link c.take.ensures.err);
    }

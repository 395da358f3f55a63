-- What is proved by hand of `Exchange::stop`.
use Rattle.std.proofs.Common.{true, ap, ◌∙◌}
use Rattle.sv_exchange.specs.View.{ExchangeView}
use Rattle.sv_exchange.proofs.Views.{stopped_kept, stopped_view}
use Rattle.sv_exchange.proofs.exchange.Exchange.stop.Goals as goal

pub invariant_of-self : goal.invariant_of-self
invariant_of-self c = stopped_kept c.self.inside c.close.new.self c.self.invariant c.close.ensures

pub returns : goal.returns
returns c = stopped_view c.self.inside c.close.new.self c.close.ensures ∙ ap (λ (v : ExchangeView). record v { stopped = true }) c.self.view_is

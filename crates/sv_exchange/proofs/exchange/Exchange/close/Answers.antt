-- What is proved by hand of `Exchange::close`.
use Rattle.std.proofs.Common.{true, ap, ◌∙◌}
use Rattle.sv_exchange.specs.View.{ExchangeView}
use Rattle.sv_exchange.proofs.Views.{closed_kept, closed_view}
use Rattle.sv_exchange.proofs.exchange.Exchange.close.Goals as goal

pub invariant_of-self : goal.invariant_of-self
invariant_of-self c = closed_kept c.self.inside c.close.new.self c.self.invariant c.close.ensures

pub returns : goal.returns
returns c = closed_view c.self.inside c.close.new.self c.close.ensures ∙ ap (λ (v : ExchangeView). record v { closed = true }) c.self.view_is

-- Each step enters an End, or nothing.
use Rattle.sv_host.proofs.Ends.{end_stepped, limits_stay, no_end}
use Rattle.sv_host.proofs.serving.end_each.Goals as goal

pub loop-init : goal.loop-init
loop-init g c = record { added = no_end c.args.keeper.now.world; trusted = λ steward is. is }

pub end_session-requires : goal.end_session-requires
end_session-requires g c = record { limits = limits_stay c.loop.invariant.added c.requires.limits }

pub returns-in_err-end_session-clause-added : goal.returns-in_err-end_session-clause-added
returns-in_err-end_session-clause-added g c = end_stepped c.in-Some.session c.loop.invariant.added c.end_session.ensures.added

pub returns-in_err-end_session-clause-trusted : goal.returns-in_err-end_session-clause-trusted
returns-in_err-end_session-clause-trusted g c = λ steward is. c.end_session.ensures.trusted steward (c.loop.invariant.trusted steward is)

pub loop-preserved : goal.loop-preserved
loop-preserved g c = record {
  added = end_stepped c.in-Some.session c.loop.invariant.added c.end_session.ensures.added;
  trusted = λ steward is. c.end_session.ensures.trusted steward (c.loop.invariant.trusted steward is);
}

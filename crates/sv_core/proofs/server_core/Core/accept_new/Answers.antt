-- What the check leaves to prove of `Core::accept_new`.
use Rattle.std.proofs.Common.{sym, ap, ◌∙◌}
use Rattle.sv_world.specs.Faults.{first_fault_of_action}
use Rattle.sv_world.proofs.Good.{good_of_none}
use Rattle.sv_core.specs.Cores.{core_rules}
use Rattle.sv_core.specs.Decisions.{action_in}
use Rattle.sv_core.proofs.server_core.Core.accept_new.Goals as goal

pub accept-requires : goal.accept-requires
accept-requires g c =
    let same = sym (ap action_in c.in-Submit.is) in (
      c.requires.0,
      (
        c.requires.1.0,
        (
          c.requires.1.1.0,
          (
            c.requires.1.1.1.0,
            (
              same,
              (
                good_of_none (core_rules c.args.self.now).world.shape _ (ap (first_fault_of_action (core_rules c.args.self.now).world.shape) same ∙ c.requires.1.1.1.1.0),
                c.requires.1.1.1.1.1,
              ),
            ),
          ),
        ),
      ),
    )

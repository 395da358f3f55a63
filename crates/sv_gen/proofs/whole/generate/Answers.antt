-- The generated scenario is good.
use Rattle.sv_gen.proofs.Kept.{result_is_good}
use Rattle.sv_gen.proofs.whole.generate.Goals as goal

pub returns-clause-good : goal.returns-clause-good
returns-clause-good c = result_is_good c.args.n c.scenario.result c.requires.some c.requires.most c.scenario.ensures

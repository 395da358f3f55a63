-- How many cuts there can be.
use Rattle.std.proofs.Common.{◌≤◌, List, [], ◌∷◌, length, arith}
use Rattle.sv_scenario.specs.declared.scenario.Step.{Step}
use Rattle.sv_scenario.specs.declared.scenario.Step.TheVariants as steps
use Rattle.sv_scenario.specs.Sessions.{cuts_by, cuts_in}

one_cut : (step : Step) → cuts_by step ≤ 1
one_cut (steps.Act action) = omega arith
one_cut steps.Poll = omega arith
one_cut (steps.Observe objects) = omega arith
one_cut steps.Sync = omega arith
one_cut (steps.Show objects) = omega arith
one_cut steps.Cut = omega arith
one_cut steps.Quit = omega arith

pub cuts_in_le : (ss : List Step) → cuts_in ss ≤ length ss
cuts_in_le [] = omega arith
cuts_in_le (s ∷ ss) = omega (arith, one_cut s, cuts_in_le ss)

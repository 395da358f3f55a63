-- The rules of a good scenario keep the limits.
use Rattle.std.proofs.Common.{◌≤◌, ◌^◌, arith}
use Rattle.sv_journal.specs.Laws.{AreWithinLimits}
use Rattle.sv_scenario.specs.declared.scenario.Scenario.{Scenario}
use Rattle.sv_scenario.specs.Limits.{IsGoodScenario}
use Rattle.law_system.specs.Records.{rules_of}

pub limits_of : (scenario : Scenario) → IsGoodScenario scenario → AreWithinLimits (rules_of scenario)
limits_of scenario good =
    let w = good.world in
    record {
      some_attrs = w.shape.some_attrs;
      few_attrs = w.shape.few_attrs;
      objects = w.objects;
      attrs = w.attrs;
      bound = good.bound;
    }

pub objects_few : (scenario : Scenario) → IsGoodScenario scenario → scenario.world.shape.objects ≤ 2 ^ 16
objects_few scenario good = omega (arith, good.world.shape.few_objects)

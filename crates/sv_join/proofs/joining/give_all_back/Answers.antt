-- One end given back.
use Rattle.std.proofs.Common.{◌<◌, ◌++◌, [], ◌∷◌, length, sym, ap, subst, ◌∙◌, append_assoc, arith}
use Rattle.std.specs.List.{AllByRecursion}
use Rattle.sv_door.specs.Doors.{passage_of}
use Rattle.sv_join.specs.Joining.{passages_of}
use Rattle.sv_join.specs.declared.steady.Steady.{Steady}
use Rattle.sv_join.proofs.joining.give_all_back.Goals as goal

pub loop-steady-preserved : goal.loop-steady-preserved
loop-steady-preserved g c =
    let i = c.loop-steady.invariant in
    let E = g.D.E.End in
    let back = c.give_back.ensures in
    let rest = c.next.new.self.rest.items in
    let e = c.in-Some.ensures.steps.0 in
    let long = ap (λ l. length l) e in
    let here = passage_of (E.told c.in-Some.steady.end) (E.faults c.in-Some.steady.end) in
    let others = passages_of (λ (s : Steady g.row.D-E.Denot). E.told s.end) (λ (s : Steady g.row.D-E.Denot). E.faults s.end) in
    let owed = i.owed in
    let one = back.owed in
    record {
      own =
          subst (λ n. AllByRecursion (λ (s : Steady g.row.D-E.Denot). (E.told s.end).pair < n) rest) (sym back.made)
          (subst (AllByRecursion (λ (s : Steady g.row.D-E.Denot). (E.told s.end).pair < g.D.Door.made c.loop-steady.door)) e i.own).1;
      owed = omega (arith, owed, one, long);
      given =
          ap (λ l. l ++ others rest) back.given
          ∙ (append_assoc (g.D.Door.given c.loop-steady.door) (here ∷ []) (others rest)
          ∙ (ap (λ l. g.D.Door.given c.loop-steady.door ++ others l) (sym e) ∙ i.given));
      faults = back.faults ∙ i.faults;
    }

-- One end more.
use Rattle.std.proofs.Common.{rules, ◌+◌, slice_get, sym, ap, ◌∙◌}
use Rattle.sv_link.specs.Ends.{new_end}
use Rattle.sv_link.specs.declared.side.Side.TheVariants.{Client}
use Rattle.sv_join.specs.Joining.{IsNewEnd}
use Rattle.law_system.proofs.Places.{each_push}
use Rattle.sv_join.specs.declared.steady.Steady.{Steady}
use Rattle.sv_join.proofs.joining.connect_all.Goals as goal

pub loop-preserved : goal.loop-preserved
loop-preserved g c =
    let i = c.loop.invariant in
    let E = g.D.E.End in
    let sure = g.D.Door.sure c.args.door.now c.args.port in
    let first = g.D.Door.made c.args.door.now in
    let made = c.in-End.ensures.made in
    let there = i.made ∙ ap (λ n. first + n) (sym i.count) in
    record {
      count = search rules;
      new = λ k x e.
          each_push (λ j (s : Steady g.row.D-E.Denot). IsNewEnd E.told E.faults E.calm sure (first + j) s.end) c.loop.ends.items (record { end = c.in-End.end }) i.new
          (record { is = (made.1 ∙ ap (λ n. new_end n Client) there, made.2); calm_is = λ s. c.in-End.ensures.certain (i.sure s) })
          k x (sym (ap (λ l. slice_get l k) c.push_reserved.ensures.items) ∙ e);
      made = search rules;
      owed = search rules;
      given = search rules;
      faults = search rules;
      sure = λ s. c.in-End.ensures.stays_sure c.args.port (i.sure s);
      room = search rules;
    }

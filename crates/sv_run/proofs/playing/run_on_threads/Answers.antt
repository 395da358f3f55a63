-- What a run on threads leaves, from what its play leaves.
use Rattle.std.proofs.Common.{rules, Bool, ap, ◌∙◌}
use Rattle.std.specs.List.{flat_map}
use Rattle.sv_lock.specs.Passes.{PassView}
use Rattle.sv_journal.specs.declared.entry.Entry.{Entry}
use Rattle.sv_journal.specs.Answer.{Rules}
use Rattle.sv_player.specs.Played.{lines_told}
use Rattle.sv_threads.specs.Moved.{moved}
use Rattle.sv_threads.proofs.Unused.{none_made, memory_leaves}
use Rattle.sv_run.specs.declared.playing.Threaded.{Threaded}
use Rattle.sv_run.proofs.Threads.{threaded_is}
use Rattle.sv_run.proofs.playing.run_on_threads.Goals as goal

pub play_all-requires-clause-watch : goal.play_all-requires-clause-watch
play_all-requires-clause-watch g c = λ κs met. c.watcher.ensures.fits c.args.scenario.now.world.shape c.new-watch.ensures

pub returns-clause-threaded : goal.returns-clause-threaded
returns-clause-threaded g c =
    threaded_is c.args.scenario.now c.args.form (moved (g.N.Net.settled c.args.net.now) (g.N.Net.settled c.play_all.new.net) (g.C.Crew.ran c.args.crew.now) (g.C.Crew.ran c.play_all.new.crew)) _
    c.close.result.journal.entries c.play_all.new.keeper.seen c.in_ok-traces.field-0.traces c.in_ok-traces.ensures.run c.close.ensures.seen c.in_ok-played.ensures.entries
    (search rules) c.close.result.rules
    (c.close.ensures.base ∙ c.in_ok-traces.ensures.keeper.base ∙ ap (λ (v : PassView Rules Entry). v.base) c.in_ok-lock.ensures.keeper)
    c.in_ok-played.ensures.shape c.in_ok-played.ensures.commit c.in_ok-played.ensures.committed
    (c.in_ok-traces.ensures.lines ∙ ap (λ (b : Bool). flat_map (lines_told b) c.in_ok-traces.field-0.traces) c.watcher.ensures.watched)

pub returns-in_err-callback-clause-pairs : goal.returns-in_err-callback-clause-pairs
returns-in_err-callback-clause-pairs g c = memory_leaves Threaded c.from_residual.result _ _ c.from_residual.ensures.1 (none_made _)

pub returns-in_err-sequencer-clause-pairs : goal.returns-in_err-sequencer-clause-pairs
returns-in_err-sequencer-clause-pairs g c = memory_leaves Threaded c.from_residual-in_err-sequencer.result _ _ c.from_residual-in_err-sequencer.ensures.1 (none_made _)

pub returns-in_err-lock-clause-pairs : goal.returns-in_err-lock-clause-pairs
returns-in_err-lock-clause-pairs g c = memory_leaves Threaded c.from_residual-in_err-lock.result _ _ c.from_residual-in_err-lock.ensures.1 (none_made _)

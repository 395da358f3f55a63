-- What the check leaves to prove of `Queue::source`.
use Rattle.std.proofs.Common.{ℕ, ◌-◌, ◌<◌, ◌≤◌, [], List, length, get_or, sym, ◌∙◌, ap, subst, arith}
use Rattle.std.proofs.lemmas.List.{get_or_read}
use Rattle.sv_world.specs.Control.{action_at, last_writer}
use Rattle.sv_world.specs.Sets.{read_set}
use Rattle.sv_queue.specs.Invariant.{uncommitted}
use Rattle.sv_queue.specs.Marks.{all_queued}
use Rattle.sv_queue.specs.Queue.{QueueView, queue_actions, last_position}
use Rattle.sv_queue.proofs.SourceLists.{few_at, source_at, sources_below, uncommitted-late, uncommitted-early}
use Rattle.sv_queue.proofs.queue.Queue.source.Goals as goal

pub get-source-requires : goal.get-source-requires
get-source-requires g c =
    let a = c.self.inside in
    let commit = ap (λ (v : QueueView). v.commit) c.self.view_is in
    let last = ap (λ (v : QueueView). last_position v) c.self.view_is in
    let slot : c.args.place < length (action_at (queue_actions c.args.self.now) c.args.pos).reads = c.requires.place in
    let high : c.args.pos ≤ last_position c.args.self.now = c.requires.pos.1 in
    few_at a.shape a.commit (all_queued a.entries.items) c.args.pos c.args.place c.self.invariant.agree.good (omega (arith, commit)) (omega (arith, last))
    (subst (λ (v : QueueView). c.args.place < length (action_at (queue_actions v) c.args.pos).reads) (sym c.self.view_is) slot)

pub returns-then-self-source-clause-writer : goal.returns-then-self-source-clause-writer
returns-then-self-source-clause-writer g c =
    let a = c.self.inside in
    let place = c.args.pos - a.commit - 1 in
    let commit = ap (λ (v : QueueView). v.commit) c.self.view_is in
    let last = ap (λ (v : QueueView). last_position v) c.self.view_is in
    let high : c.args.pos ≤ last_position c.args.self.now = c.requires.pos.1 in
    let slot = subst (λ (v : QueueView). c.args.place < length (action_at (queue_actions v) c.args.pos).reads) (sym c.self.view_is) c.requires.place in
    let row = get_or_read a.sources.items place _ (sources_below a.commit (all_queued a.entries.items) a.sources.items c.args.pos c.self.invariant.sources (omega (arith, commit)) (omega (arith, last))) c.index-sources.ensures [] in
    let is = c.get-source.ensures ∙ ap (λ (r : List ℕ). get_or r c.args.place 0) row in
    sym (uncommitted-late a.commit c.get-source.result c.if-self-source.true)
    ∙ ap (uncommitted a.commit) is
    ∙ source_at a.commit (all_queued a.entries.items) a.sources.items c.args.pos c.args.place c.self.invariant.sources (omega (arith, commit)) (omega (arith, last)) slot
    ∙ ap (λ (v : QueueView). last_writer (queue_actions v) (get_or (read_set (action_at (queue_actions v) c.args.pos)) c.args.place 0) c.args.pos) c.self.view_is

pub returns-else-self-source-clause-writer : goal.returns-else-self-source-clause-writer
returns-else-self-source-clause-writer g c =
    let a = c.self.inside in
    let place = c.args.pos - a.commit - 1 in
    let commit = ap (λ (v : QueueView). v.commit) c.self.view_is in
    let last = ap (λ (v : QueueView). last_position v) c.self.view_is in
    let high : c.args.pos ≤ last_position c.args.self.now = c.requires.pos.1 in
    let slot = subst (λ (v : QueueView). c.args.place < length (action_at (queue_actions v) c.args.pos).reads) (sym c.self.view_is) c.requires.place in
    let row = get_or_read a.sources.items place _ (sources_below a.commit (all_queued a.entries.items) a.sources.items c.args.pos c.self.invariant.sources (omega (arith, commit)) (omega (arith, last))) c.index-sources.ensures [] in
    let is = c.get-source.ensures ∙ ap (λ (r : List ℕ). get_or r c.args.place 0) row in
    sym (uncommitted-early a.commit c.get-source.result c.if-self-source.false)
    ∙ ap (uncommitted a.commit) is
    ∙ source_at a.commit (all_queued a.entries.items) a.sources.items c.args.pos c.args.place c.self.invariant.sources (omega (arith, commit)) (omega (arith, last)) slot
    ∙ ap (λ (v : QueueView). last_writer (queue_actions v) (get_or (read_set (action_at (queue_actions v) c.args.pos)) c.args.place 0) c.args.pos) c.self.view_is

-- What is proved by hand of `take_reply`.
use Rattle.std.proofs.Common.{◌≡◌, ℕ, List, length, refl, Option, Some, Ok, sym, ap, subst, ◌∙◌}
use Rattle.std.proofs.lemmas.Option.{slice_get_read}
use Rattle.sv_versions.specs.Held.{Store, AnswersAbove}
use Rattle.sv_pending.specs.Made.{PendingList}
use Rattle.sv_pending.specs.Pending.{PendingAction}
use Rattle.sv_client.specs.Traces.{pending_of, held_of}
use Rattle.sv_client.specs.Taking.{told_by}
use Rattle.sv_client.specs.declared.kinds.Awaited.{Awaited}
use Rattle.sv_client.specs.Kinds.{kind_of}
use Rattle.sv_client.specs.Evaluating.{IsApplied}
use Rattle.sv_client.proofs.Takes.{taken_is, answers_front}
use Rattle.sv_client.proofs.taken.take_reply.Goals as goal

pub returns-clause-ok : goal.returns-clause-ok
returns-clause-ok c = λ who t sessions made joined is fine.
    let reply = c.args.reply.now in
    let store = c.args.versions.now in
    let told = c.args.told.now in
    let stands : AnswersAbove told store.held (held_of t) = subst (λ (n : ℕ). AnswersAbove n store.held (held_of t)) (sym is.counts.commit_is) is.held.answers in
    let kind : Option Awaited = kind_of fine.request in
    let same : Some c.index.result.now ≡ kind = answers_front who t reply c.index.result.now c.args.awaited.now.items is.awaited
    (slice_get_read c.args.awaited.now.items (length c.args.awaited.now.items) 0 c.index.result.now refl c.requires.awaited c.index.ensures) fine in
    let raw = c.in_ok-done.ensures.applied (held_of t) stands in
    let one = subst (λ (k : Option Awaited). IsApplied told (held_of t) k reply c.args.pending.now.items (Ok c.in_ok-done.done) c.try_apply.new.versions.held c.try_apply.new.pending.items) same raw in
    let items : c.args.pending.now.items ≡ pending_of t = ap (λ (p : PendingList). p.items) is.actions in
    let applied = subst (λ (n : ℕ). IsApplied n (held_of t) kind reply (pending_of t) (Ok c.in_ok-done.done) c.try_apply.new.versions.held c.try_apply.new.pending.items) is.counts.commit_is
    (subst (λ (ps : List PendingAction). IsApplied told (held_of t) kind reply ps (Ok c.in_ok-done.done) c.try_apply.new.versions.held c.try_apply.new.pending.items) items one) in
    let pending_shape = c.in_ok-done.ensures.shape ∙ ap (λ (p : PendingList). p.shape) is.actions in
    let versions_shape = ap (λ (s : Store). s.shape) c.prune.ensures.kept ∙ c.in_ok-done.ensures.versions ∙ is.held.shape in
    let commit = c.told_by-commit.ensures ∙ ap (told_by reply) is.counts.commit_is in
    taken_is who t reply store c.args.pending.now c.args.awaited.now.items sessions made told joined is fine c.in_ok-done.done c.prune.new.self c.try_apply.new.pending c.await_after.new.awaited.items c.told_by-commit.result c.try_apply.new.versions.held applied pending_shape versions_shape c.prune.ensures.answers c.prune.ensures.few c.await_after.ensures commit

-- What is proved by hand of `LeanClient::take`.
use Rattle.std.proofs.Common.{ℕ, ◌-◌, ◌≤◌, List, ◌∷◌, sym, ap, subst, ◌∙◌}
use Rattle.std.specs.Prelude.{All}
use Rattle.std.proofs.lemmas.Result.{err_from_is_err_and}
use Rattle.sv_world.specs.declared.world.Shape.{Shape}
use Rattle.sv_versions.specs.Held.{AnswersAbove, count_up_to}
use Rattle.sv_client.specs.declared.trace.Event.{Event}
use Rattle.sv_wire.specs.declared.message.Reply.{Reply}
use Rattle.sv_client.specs.Traces.{held_of}
use Rattle.sv_client.specs.Taking.{told}
use Rattle.sv_client.specs.Seen.{ClientView}
use Rattle.sv_client.specs.Evaluating.{IsFitting, AsksWithin}
use Rattle.sv_client.specs.Invariant.{who_is, IsClientOf}
use Rattle.sv_client.specs.Answers.{IsFine, IsTaken, IsTakeFault, got_now}
use Rattle.sv_client.proofs.Keeping.{got_keeps}
use Rattle.sv_client.proofs.Looking.{fitting}
use Rattle.sv_client.proofs.Within.{awaited_within}
use Rattle.sv_client.proofs.Takes.{awaits_one}
use Rattle.sv_client.proofs.lean.LeanClient.take.Goals as goal

pub take_reply-requires-clause-fits : goal.take_reply-requires-clause-fits
take_reply-requires-clause-fits c =
    let who = who_is c.self.inside in
    let t = c.self.inside.past in
    let reply = c.args.reply.now in
    let fine : IsFine who t reply = subst (λ (v : ClientView). IsFine v.who v.events reply) (sym c.self.view_is) c.in_ok-look_at.ensures.ok in
    subst (λ (s : Shape). IsFitting s.objects c.self.inside.told reply) (sym c.self.invariant.held.shape)
    (subst (λ (n : ℕ). IsFitting c.self.inside.shape.objects n reply) (sym c.self.invariant.counts.commit_is) (fitting who t reply fine))

pub take_reply-requires-clause-awaited : goal.take_reply-requires-clause-awaited
take_reply-requires-clause-awaited c =
    let who = who_is c.self.inside in
    let t = c.self.inside.past in
    let reply = c.args.reply.now in
    let fine : IsFine who t reply = subst (λ (v : ClientView). IsFine v.who v.events reply) (sym c.self.view_is) c.in_ok-look_at.ensures.ok in
    awaits_one who t reply c.self.inside.versions c.self.inside.pending c.self.inside.awaited.items c.self.inside.sessions c.self.inside.made c.self.inside.told c.self.inside.joined c.self.invariant fine

pub take_reply-requires-clause-within : goal.take_reply-requires-clause-within
take_reply-requires-clause-within c =
    let who = who_is c.self.inside in
    let t = c.self.inside.past in
    subst (λ (s : Shape). All (AsksWithin s.objects) c.self.inside.awaited.items) (sym c.self.invariant.held.shape)
    (awaited_within who 0 t c.self.inside.awaited.items c.self.invariant.turn c.self.invariant.awaited.same)

pub invariant_of-self-2 : goal.invariant_of-self-2
invariant_of-self-2 c =
    let who = who_is c.self.inside in
    let t = c.self.inside.past in
    let reply = c.args.reply.now in
    let fine : IsFine who t reply = subst (λ (v : ClientView). IsFine v.who v.events reply) (sym c.self.view_is) c.in_ok-look_at.ensures.ok in
    let taken : IsTaken who t reply c.in_ok-done.done c.take_reply.new.versions c.take_reply.new.pending c.take_reply.new.awaited.items c.take_reply.new.told = c.in_ok-done.ensures.ok who t c.self.inside.sessions c.self.inside.made c.self.inside.joined c.self.invariant fine in
    let all = c.note.ensures ∙ ap (λ (r : Reply). got_now t r ∷ t) c.of.ensures in
    subst (λ (es : List Event). IsClientOf who es c.take_reply.new.versions c.take_reply.new.pending c.take_reply.new.awaited.items c.self.inside.sessions c.self.inside.made c.take_reply.new.told c.self.inside.joined) (sym all)
    (got_keeps who t reply c.self.inside.versions c.self.inside.pending c.self.inside.awaited.items c.take_reply.new.awaited.items c.self.inside.sessions c.self.inside.made c.self.inside.told c.take_reply.new.told c.self.inside.joined c.take_reply.new.versions c.take_reply.new.pending c.self.invariant taken.fine taken.held taken.actions taken.awaited taken.commit_is)

pub returns-clause-done : goal.returns-clause-done
returns-clause-done c =
    let who = who_is c.self.inside in
    let t = c.self.inside.past in
    let reply = c.args.reply.now in
    let fine : IsFine who t reply = subst (λ (v : ClientView). IsFine v.who v.events reply) (sym c.self.view_is) c.in_ok-look_at.ensures.ok in
    let taken : IsTaken who t reply c.in_ok-done.done c.take_reply.new.versions c.take_reply.new.pending c.take_reply.new.awaited.items c.take_reply.new.told = c.in_ok-done.ensures.ok who t c.self.inside.sessions c.self.inside.made c.self.inside.joined c.self.invariant fine in
    rw (← c.self.view_is) taken.asked

pub returns-clause-fine : goal.returns-clause-fine
returns-clause-fine c =
    let who = who_is c.self.inside in
    let t = c.self.inside.past in
    let reply = c.args.reply.now in
    let fine : IsFine who t reply = subst (λ (v : ClientView). IsFine v.who v.events reply) (sym c.self.view_is) c.in_ok-look_at.ensures.ok in
    let taken : IsTaken who t reply c.in_ok-done.done c.take_reply.new.versions c.take_reply.new.pending c.take_reply.new.awaited.items c.take_reply.new.told = c.in_ok-done.ensures.ok who t c.self.inside.sessions c.self.inside.made c.self.inside.joined c.self.invariant fine in
    rw (← c.self.view_is) taken.fine

pub returns-clause-got : goal.returns-clause-got
returns-clause-got c =
    let who = who_is c.self.inside in
    let t = c.self.inside.past in
    let reply = c.args.reply.now in
    let fine : IsFine who t reply = subst (λ (v : ClientView). IsFine v.who v.events reply) (sym c.self.view_is) c.in_ok-look_at.ensures.ok in
    let all = c.note.ensures ∙ ap (λ (r : Reply). got_now t r ∷ t) c.of.ensures in
    all ∙ ap (λ (v : ClientView). got_now v.events reply ∷ v.events) c.self.view_is

pub returns-clause-kept : goal.returns-clause-kept
returns-clause-kept c =
    let who = who_is c.self.inside in
    let t = c.self.inside.past in
    let reply = c.args.reply.now in
    let fine : IsFine who t reply = subst (λ (v : ClientView). IsFine v.who v.events reply) (sym c.self.view_is) c.in_ok-look_at.ensures.ok in
    let taken : IsTaken who t reply c.in_ok-done.done c.take_reply.new.versions c.take_reply.new.pending c.take_reply.new.awaited.items c.take_reply.new.told = c.in_ok-done.ensures.ok who t c.self.inside.sessions c.self.inside.made c.self.inside.joined c.self.invariant fine in
    let all = c.note.ensures ∙ ap (λ (r : Reply). got_now t r ∷ t) c.of.ensures in
    subst (λ (es : List Event). AnswersAbove (told es) c.take_reply.new.versions.held (held_of es)) (sym all) taken.held.answers

pub returns-clause-few : goal.returns-clause-few
returns-clause-few c =
    let who = who_is c.self.inside in
    let t = c.self.inside.past in
    let reply = c.args.reply.now in
    let fine : IsFine who t reply = subst (λ (v : ClientView). IsFine v.who v.events reply) (sym c.self.view_is) c.in_ok-look_at.ensures.ok in
    let taken : IsTaken who t reply c.in_ok-done.done c.take_reply.new.versions c.take_reply.new.pending c.take_reply.new.awaited.items c.take_reply.new.told = c.in_ok-done.ensures.ok who t c.self.inside.sessions c.self.inside.made c.self.inside.joined c.self.invariant fine in
    let all = c.note.ensures ∙ ap (λ (r : Reply). got_now t r ∷ t) c.of.ensures in
    subst (λ (es : List Event). (x : ℕ) → count_up_to c.take_reply.new.versions.held x (told es) ≤ 1) (sym all) taken.held.few

pub returns-in_err-done-clause-fault : goal.returns-in_err-done-clause-fault
returns-in_err-done-clause-fault c =
    let who = who_is c.self.inside in
    let t = c.self.inside.past in
    let reply = c.args.reply.now in
    let fine : IsFine who t reply = subst (λ (v : ClientView). IsFine v.who v.events reply) (sym c.self.view_is) c.in_ok-look_at.ensures.ok in
    let failed = err_from_is_err_and c.from_residual-in_err-done.result c.from_residual-in_err-done.ensures.1 in
    rw (failed.1, failed.2)
    (subst (λ (v : ClientView). IsTakeFault v.who v.events reply c.in_err-done.field-0.0) c.self.view_is
    (c.in_err-done.ensures.fault who t c.self.inside.sessions c.self.inside.made c.self.inside.joined c.self.invariant fine))

-- What is proved by hand of `LeanClient::look_at`.
use Rattle.std.proofs.Common.{◌≡◌, List, Some, sym, ap, subst, ◌∙◌}
use Rattle.sv_client.specs.declared.kinds.Awaited.{Awaited}
use Rattle.sv_client.specs.Seen.{ClientView}
use Rattle.sv_client.specs.Invariant.{who_is}
use Rattle.sv_client.specs.Answers.{IsFine}
use Rattle.std.proofs.Common.{slice_get, option_copied}
use Rattle.sv_client.specs.Taking.{first_fault_of_reply, BadItem}
use Rattle.sv_client.proofs.Looks.{item_by, fine_by}
use Rattle.sv_client.proofs.lean.LeanClient.look_at.Goals as goal

pub returns-then-is_unfit-clause-fault : goal.returns-then-is_unfit-clause-fault
returns-then-is_unfit-clause-fault c =
    let front = ap (λ (ks : List Awaited). slice_get ks 0) (sym c.deref.ensures.value) ∙ sym c.first.ensures.value ∙ ap option_copied c.in-Some.is in
    subst (λ (v : ClientView). first_fault_of_reply v.who v.events c.args.reply.now ≡ Some BadItem) c.self.view_is
    (item_by (who_is c.self.inside) (c.self.inside.past) c.self.inside.versions c.self.inside.pending c.self.inside.awaited.items c.self.inside.sessions c.self.inside.made c.self.inside.told c.self.inside.joined c.self.invariant c.args.reply.now c.in-Some.awaited.now front c.if-not-allows_kind.ensures c.if-is_out_of_order.ensures c.if-is_unfit.ensures)

pub returns-clause-ok : goal.returns-clause-ok
returns-clause-ok c =
    let front = ap (λ (ks : List Awaited). slice_get ks 0) (sym c.deref.ensures.value) ∙ sym c.first.ensures.value ∙ ap option_copied c.in-Some.is in
    subst (λ (v : ClientView). IsFine v.who v.events c.args.reply.now) c.self.view_is
    (fine_by (who_is c.self.inside) (c.self.inside.past) c.self.inside.versions c.self.inside.pending c.self.inside.awaited.items c.self.inside.sessions c.self.inside.made c.self.inside.told c.self.inside.joined c.self.invariant c.args.reply.now c.in-Some.awaited.now front c.if-not-allows_kind.ensures c.if-is_out_of_order.ensures c.if-is_unfit.ensures)

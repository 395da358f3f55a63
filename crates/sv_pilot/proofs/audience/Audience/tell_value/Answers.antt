-- What is proved by hand of `Audience::tell_value`.
use Rattle.std.proofs.Common.{◌≢◌, List, Some, sym, ap, subst, ◌∙◌, slice_set}
use Rattle.sv_world.specs.declared.world.ObjectId.{ObjectId}
use Rattle.sv_pilot.specs.declared.audience.Seen.{Seen}
use Rattle.sv_pilot.specs.declared.audience.Call.{Call}
use Rattle.sv_pilot.specs.Hearing.{Heard, last_heard}
use Rattle.sv_pilot.specs.Calls.{AudienceView, IsAudience, calls_heard}
use Rattle.sv_pilot.proofs.Heard.{calls_more, within_seen, object_here, audience_told, not_told, tells_news}
use Rattle.sv_pilot.proofs.audience.Audience.tell_value.Goals as goal

pub invariant_of-self-2 : goal.invariant_of-self-2
invariant_of-self-2 g c =
    let seen = c.self.inside.seen.items in
    let cs = c.self.inside.calls.items in
    let within = within_seen seen (calls_heard cs) c.args.self.now c.args.at c.self.view_is c.requires in
    let s : Seen = record { object = c.index_mut.result.now.object; value = Some c.in_ok-copy.copy } in
    let call : Call = record { object = c.index-2.result.now.object; value = c.of.result } in
    subst (λ calls. IsAudience (slice_set seen c.args.at s) (calls_heard calls)) (sym c.and-self-inside.ensures)
    (subst (λ (heard : List Heard). IsAudience (slice_set seen c.args.at s) heard) (sym (calls_more cs (call, _)))
    (audience_told seen (calls_heard cs) c.args.at s (record { object = call.object; value = call.value.value }) c.index_mut.result.now c.index-2.result.now within (ap (λ (x : Seen). x.object) c.index_mut.ensures.value)
    (ap (λ (x : Seen). x.object) c.index-2.ensures) (ap Some (c.in_ok-copy.ensures ∙ sym c.of.ensures)) c.self.invariant))

pub returns-clause-ok : goal.returns-clause-ok
returns-clause-ok g c = λ object is.
    let seen = c.self.inside.seen.items in
    let cs = c.self.inside.calls.items in
    let at = c.args.at in
    let a = c.args.self.now in
    let value = c.args.value.now in
    let within = within_seen seen (calls_heard cs) a at c.self.view_is c.requires in
    let here = object_here seen (calls_heard cs) a at c.index-2.result.now object c.self.view_is within c.index-2.ensures is in
    let there = object_here seen (calls_heard cs) a at c.index.result.now object c.self.view_is within c.index.ensures is in
    let another = not_told seen (calls_heard cs) at c.index.result.now value c.self.invariant within c.index.ensures c.if-is_same.ensures in
    tells_news seen cs c.and-self-inside.result.items (record { object = c.index-2.result.now.object; value = c.of.result }, _) at (record { object = c.index_mut.result.now.object; value = Some c.in_ok-copy.copy })
    c.index_mut.result.now a object value c.self.view_is c.and-self-inside.ensures (ap (λ (x : Seen). x.object) c.index_mut.ensures.value) here c.of.ensures
    (subst (λ (b : AudienceView). last_heard b.heard object.0 ≢ Some value) c.self.view_is (subst (λ (o : ObjectId). last_heard (calls_heard cs) o.0 ≢ Some value) there another))

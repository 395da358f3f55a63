-- One task more is that of the next session or client.
use Rattle.std.proofs.Common.{[], ◌∷◌, ◌++◌, sym, ap, ◌∙◌, append_assoc, append-nil, rules}
use Rattle.std.proofs.lemmas.List.{nil_from_length}
use Rattle.sv_threads.specs.Tasks.{services_of, parts_of}
use Rattle.sv_threads.proofs.Opened.{services_more, services_same, parts_more, parts_same}
use Rattle.sv_threads.proofs.opening.make_tasks.Goals as goal

pub loop-service-preserved : goal.loop-service-preserved
loop-service-preserved g c =
    let i = c.loop-service.invariant in
    let ts = c.loop-service.tasks.items in
    let x = c.in-Some.service in
    let rest = c.next.new.self.rest.items in
    record {
      services =
          ap (λ l. services_of l ++ rest) c.push_reserved.ensures.items
          ∙ (ap (λ l. l ++ rest) (services_more ts x)
          ∙ (append_assoc (services_of ts) (x ∷ []) rest ∙ (ap (λ l. services_of ts ++ l) (sym c.in-Some.ensures.steps.0) ∙ i.services)));
      parts = ap parts_of c.push_reserved.ensures.items ∙ (parts_same ts x ∙ i.parts);
      room = search rules;
    }

pub loop-part-init : goal.loop-part-init
loop-part-init g c =
    let i = c.loop-service.invariant in
    let none = nil_from_length c.loop-service.service-iterator.rest.items (sym c.loop-service.service-iterator.rest.ok.0 ∙ c.in-None.ensures.steps.0) in
    record {
      services = sym (append-nil (services_of c.loop-service.tasks.items)) ∙ (ap (λ l. services_of c.loop-service.tasks.items ++ l) (sym none) ∙ i.services);
      parts = ap (λ l. l ++ c.into_iter-part-iterator.result.rest.items) i.parts ∙ search rules;
      room = search rules;
    }

pub loop-part-preserved : goal.loop-part-preserved
loop-part-preserved g c =
    let i = c.loop-part.invariant in
    let ts = c.loop-part.tasks.items in
    let x = c.in-Some-part.part in
    let rest = c.next-in-loop-part.new.self.rest.items in
    record {
      services = ap services_of c.push_reserved-in-loop-part.ensures.items ∙ (services_same ts x ∙ i.services);
      parts =
          ap (λ l. parts_of l ++ rest) c.push_reserved-in-loop-part.ensures.items
          ∙ (ap (λ l. l ++ rest) (parts_more ts x)
          ∙ (append_assoc (parts_of ts) (x ∷ []) rest ∙ (ap (λ l. parts_of ts ++ l) (sym c.in-Some-part.ensures.steps.0) ∙ i.parts)));
      room = search rules;
    }

pub returns-clause-parts : goal.returns-clause-parts
returns-clause-parts g c =
    let none = nil_from_length c.loop-part.part-iterator.rest.items (sym c.loop-part.part-iterator.rest.ok.0 ∙ c.in-None-part.ensures.steps.0) in
    sym (append-nil (parts_of c.loop-part.tasks.items)) ∙ (ap (λ l. parts_of c.loop-part.tasks.items ++ l) (sym none) ∙ c.loop-part.invariant.parts)

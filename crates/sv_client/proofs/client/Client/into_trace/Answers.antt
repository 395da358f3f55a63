-- What is proved by hand of `Client::into_trace`.
use Rattle.std.proofs.Common.{◌≡◌, List, length, map, reverse, sym, ap, subst, ◌∙◌}
use Rattle.std.specs.Prelude.{All}
use Rattle.std.proofs.lemmas.List.{length-map, reverse-reverse}
use Rattle.sv_client.specs.declared.trace.Event.{Event}
use Rattle.sv_client.specs.declared.trace.Trace.{Trace}
use Rattle.sv_client.specs.Proper.{AreProper, Proper}
use Rattle.sv_client.specs.Seen.{ClientView, NamesBelow, raised, trace_from}
use Rattle.sv_client.proofs.Backwards.{all_back, map_back, written_back}
use Rattle.sv_client.proofs.Sessions.{proper_turn}
use Rattle.sv_client.proofs.Shifts.{up_proper, names_below}
use Rattle.sv_client.proofs.client.Client.into_trace.Goals as goal

pub raise_events-requires-clause-names : goal.raise_events-requires-clause-names
raise_events-requires-clause-names c =
    let es = c.self.inside.events.items in
    let v : ClientView = c.self.inside.lean in
    let is = c.self.invariant in
    let proper : AreProper v.who 0 v.events = proper_turn v.who 0 v.events c.in_turn.ensures.turn is.few_sessions is.few_made in
    subst (All (NamesBelow 64)) (sym c.deref_mut.ensures.value) (all_back (NamesBelow 64) es (subst (All (NamesBelow 64)) (sym is.events) (names_below v.who v.events proper)))

pub returns-clause-trace : goal.returns-clause-trace
returns-clause-trace c =
    let f = raised c.args.first in
    let es = c.self.inside.events.items in
    let v : ClientView = c.self.inside.lean in
    let new = c.raise_events.new.events in
    let same : new ≡ map f es = c.raise_events.ensures ∙ ap (map f) c.deref_mut.ensures.value in
    let long : length new ≡ length es = ap (λ (xs : List Event). length xs) same ∙ length-map es f in
    let size : c.self.inside.events.len ≡ length es = sym c.deref_mut.ensures.len ∙ ap (λ (xs : List Event). length xs) c.deref_mut.ensures.value in
    let events = c.from_vec.ensures ∙ written_back c.self.inside.events.len new es long size ∙ same ∙ map_back f es ∙ ap (λ (ts : List Event). reverse (map f ts)) c.self.invariant.events in
    (λ i. record { client = c.id.ensures i; interest = c.into_interest.ensures i; first = c.args.first; events = events i }) ∙ ap (trace_from c.args.first) c.self.view_is

pub returns-clause-proper : goal.returns-clause-proper
returns-clause-proper c =
    let f = raised c.args.first in
    let es = c.self.inside.events.items in
    let v : ClientView = c.self.inside.lean in
    let is = c.self.invariant in
    let proper : AreProper v.who 0 v.events = proper_turn v.who 0 v.events c.in_turn.ensures.turn is.few_sessions is.few_made in
    let new = c.raise_events.new.events in
    let same : new ≡ map f es = c.raise_events.ensures ∙ ap (map f) c.deref_mut.ensures.value in
    let long : length new ≡ length es = ap (λ (xs : List Event). length xs) same ∙ length-map es f in
    let size : c.self.inside.events.len ≡ length es = sym c.deref_mut.ensures.len ∙ ap (λ (xs : List Event). length xs) c.deref_mut.ensures.value in
    let events = c.from_vec.ensures ∙ written_back c.self.inside.events.len new es long size ∙ same ∙ map_back f es ∙ ap (λ (ts : List Event). reverse (map f ts)) is.events in
    let whole : Trace = trace_from c.args.first v in
    let good : Proper v.who.shape whole = record {
      who = is.identity;
      events = subst (AreProper v.who c.args.first) (sym (reverse-reverse (map f v.events))) (up_proper c.args.first v.who v.events proper);
    } in
    let trace : Trace = record { client = c.id.result; interest = c.into_interest.result; first = c.args.first; events = c.from_vec.result } in
    subst (λ (w : ClientView). Proper w.who.shape trace) c.self.view_is
    (subst (Proper v.who.shape) (sym (λ i. record { client = c.id.ensures i; interest = c.into_interest.ensures i; first = c.args.first; events = events i })) good)

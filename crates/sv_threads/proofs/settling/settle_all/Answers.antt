-- One pair more was settled.
use Rattle.std.proofs.Common.{rules, ◌≡◌, true, [], ◌∷◌, ◌++◌, refl, sym, ap, subst, ◌∙◌, append_assoc}
use Rattle.std.specs.List.{AllZip}
use Rattle.std.specs.Vec.Iter.{into_iter_items}
use Rattle.std.proofs.lemmas.List.{nil_from_length}
use Rattle.sv_threads.specs.RunRemains.{transcripts_of}
use Rattle.sv_threads.specs.Pairs.{pairing}
use Rattle.sv_threads.specs.Settling.{ArePair}
use Rattle.sv_threads.proofs.Settled.{SettledSoFar, none_settled, one_matched, one_failed, all_settled}
use Rattle.sv_threads.proofs.settling.settle_all.Goals as goal

pub loop-server-init : goal.loop-server-init
loop-server-init g c =
    let told = g.N.E.End.told in
    let calm = g.N.E.End.calm in
    let servers = c.args.servers.items in
    let clients = c.args.clients.items in
    let quiet = g.N.Net.calm c.args.net.now in
    let old = pairing (g.N.Net.settled c.args.net.now) (g.N.Net.unmatched c.args.net.now) (g.N.Net.made c.args.net.now) (g.N.Net.owed c.args.net.now) in
    let same : c.into_iter-server-iterator.result.rest.items ≡ servers = search rules in
    let also : into_iter_items c.into_iter-clients.result ≡ clients = search rules in
    record {
      pairs = search rules;
      owed = search rules;
      made = search rules;
      so_far =
          subst (λ xs. SettledSoFar told calm quiet servers clients xs (into_iter_items c.into_iter-clients.result) true old old) (sym same)
          (subst (λ xs. SettledSoFar told calm quiet servers clients servers xs true old old) (sym also) (none_settled told calm quiet servers clients old));
      settled = search rules;
      agree = search rules;
      cause = search rules;
      calm = search rules;
      calms = search rules;
      others = search rules;
      found = search rules;
    }

pub loop-server-preserved-in-Matched : goal.loop-server-preserved-in-Matched
loop-server-preserved-in-Matched g c =
    let i = c.loop-server.invariant in
    let told = g.N.E.End.told in
    let faults = g.N.E.End.faults in
    let calm = g.N.E.End.calm in
    let servers = c.args.servers.items in
    let clients = c.args.clients.items in
    let quiet = g.N.Net.calm c.args.net.now in
    let old = pairing (g.N.Net.settled c.args.net.now) (g.N.Net.unmatched c.args.net.now) (g.N.Net.made c.args.net.now) (g.N.Net.owed c.args.net.now) in
    let mid = pairing (g.N.Net.settled c.loop-server.net) (g.N.Net.unmatched c.loop-server.net) (g.N.Net.made c.loop-server.net) (g.N.Net.owed c.loop-server.net) in
    let new = pairing (g.N.Net.settled c.settle.new.self) (g.N.Net.unmatched c.settle.new.self) (g.N.Net.made c.settle.new.self) (g.N.Net.owed c.settle.new.self) in
    let ss = c.next.new.self.rest.items in
    let zs = into_iter_items c.next-in-loop-server.new.self in
    let matched = c.loop-server.matched in
    let done = c.in-Matched.ensures in
    let was =
    subst (λ xs. SettledSoFar told calm quiet servers clients xs (c.in-Some-next.client ∷ zs) matched old mid) c.in-Some.ensures.steps.0
    (subst (λ xs. SettledSoFar told calm quiet servers clients c.loop-server.server-iterator.rest.items xs matched old mid) c.in-Some-next.ensures.items i.so_far) in
    let all = g.N.Net.settled c.args.net.now ++ transcripts_of told faults servers clients in
    let before =
    subst (λ xs. matched ≡ true → g.N.Net.settled c.loop-server.net ++ transcripts_of told faults xs (c.in-Some-next.client ∷ zs) ≡ all) c.in-Some.ensures.steps.0
    (subst (λ xs. matched ≡ true → g.N.Net.settled c.loop-server.net ++ transcripts_of told faults c.loop-server.server-iterator.rest.items xs ≡ all) c.in-Some-next.ensures.items i.settled) in
    record {
      pairs = search rules;
      owed = search rules;
      made = search rules;
      so_far = one_matched told calm quiet servers clients c.in-Some.server c.in-Some-next.client ss zs matched old mid new _ was done.settles.added done.unmatched done.made done.owed;
      settled = λ e.
          ap (λ l. l ++ transcripts_of told faults ss zs) done.settles.added
          ∙ (append_assoc (g.N.Net.settled c.loop-server.net) (_ ∷ []) (transcripts_of told faults ss zs) ∙ before e);
      agree = search rules;
      cause = search rules;
      calm = search rules;
      calms = search rules;
      others = search rules;
      found = search rules;
    }

pub loop-server-preserved : goal.loop-server-preserved
loop-server-preserved g c =
    let i = c.loop-server.invariant in
    let told = g.N.E.End.told in
    let calm = g.N.E.End.calm in
    let servers = c.args.servers.items in
    let clients = c.args.clients.items in
    let quiet = g.N.Net.calm c.args.net.now in
    let old = pairing (g.N.Net.settled c.args.net.now) (g.N.Net.unmatched c.args.net.now) (g.N.Net.made c.args.net.now) (g.N.Net.owed c.args.net.now) in
    let mid = pairing (g.N.Net.settled c.loop-server.net) (g.N.Net.unmatched c.loop-server.net) (g.N.Net.made c.loop-server.net) (g.N.Net.owed c.loop-server.net) in
    let new = pairing (g.N.Net.settled c.settle.new.self) (g.N.Net.unmatched c.settle.new.self) (g.N.Net.made c.settle.new.self) (g.N.Net.owed c.settle.new.self) in
    let ss = c.next.new.self.rest.items in
    let zs = into_iter_items c.next-in-loop-server.new.self in
    let matched = c.loop-server.matched in
    let done = c.in-Failed.ensures in
    let was =
    subst (λ xs. SettledSoFar told calm quiet servers clients xs (c.in-Some-next.client ∷ zs) matched old mid) c.in-Some.ensures.steps.0
    (subst (λ xs. SettledSoFar told calm quiet servers clients c.loop-server.server-iterator.rest.items xs matched old mid) c.in-Some-next.ensures.items i.so_far) in
    let pairs =
    subst (λ xs. AllZip (ArePair told (g.N.Net.made c.args.net.now)) xs (c.in-Some-next.client ∷ zs)) c.in-Some.ensures.steps.0
    (subst (λ xs. AllZip (ArePair told (g.N.Net.made c.args.net.now)) c.loop-server.server-iterator.rest.items xs) c.in-Some-next.ensures.items i.pairs) in
    record {
      pairs = search rules;
      owed = search rules;
      made = search rules;
      so_far =
          one_failed told calm quiet servers clients c.in-Some.server c.in-Some-next.client ss zs matched old mid new _ was done.settles done.unmatched done.made done.owed refl refl pairs.0
          (λ q. done.certain (i.calm q));
      settled = search rules;
      agree = search rules;
      cause = search rules;
      calm = search rules;
      calms = search rules;
      others = search rules;
      found = search rules;
    }

pub returns-clause-each : goal.returns-clause-each
returns-clause-each g c =
    let none = nil_from_length c.loop-server.server-iterator.rest.items (sym c.loop-server.server-iterator.rest.ok.0 ∙ c.in-None.ensures.steps.0) in
    let told = g.N.E.End.told in
    let calm = g.N.E.End.calm in
    let servers = c.args.servers.items in
    let clients = c.args.clients.items in
    let quiet = g.N.Net.calm c.args.net.now in
    let old = pairing (g.N.Net.settled c.args.net.now) (g.N.Net.unmatched c.args.net.now) (g.N.Net.made c.args.net.now) (g.N.Net.owed c.args.net.now) in
    let new = pairing (g.N.Net.settled c.loop-server.net) (g.N.Net.unmatched c.loop-server.net) (g.N.Net.made c.loop-server.net) (g.N.Net.owed c.loop-server.net) in
    let zs = into_iter_items c.loop-server.clients in
    all_settled told calm quiet servers clients zs c.loop-server.matched old new
    (subst (λ xs. SettledSoFar told calm quiet servers clients xs zs c.loop-server.matched old new) none c.loop-server.invariant.so_far)
